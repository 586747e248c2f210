pub mod Options
pub mod Cut
pub mod Views
pub mod Placed
pub mod Grouped
pub mod Law
