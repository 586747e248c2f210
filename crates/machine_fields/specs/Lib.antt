pub mod Parts
pub mod Members
pub mod Fields
pub mod FieldAsks
pub mod Slots
pub use Rattle.machine_forms.specs.Asks
pub use Rattle.machine_forms.specs.Decls
pub use Rattle.machine_forms.specs.Places
pub use Rattle.machine_forms.specs.Receivers
pub use Rattle.machine_places.specs.Places as PartPlaces
