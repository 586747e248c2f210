mod Equal
pub mod PlacesItems
pub mod PlacesWholes
pub mod OneText
pub mod SpansValues
pub mod SpansItems
pub mod Stops
pub mod Found
pub mod Beginnings
pub mod Values
pub mod Literals
pub mod Bads
pub mod Pairs
pub mod Wholes
pub mod Exact
pub mod StayBad
