pub mod Outcome
pub mod Order
pub mod Units
pub mod Elements
pub use Rattle.machine_read.specs.Machine
