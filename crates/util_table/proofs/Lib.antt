mod Words
mod FirstPlaces
mod Adding
mod Lines
mod Looking
pub mod RuleAsText
