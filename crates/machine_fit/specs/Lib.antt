pub mod Fits
pub mod Types
pub mod Unfitness
pub use Rattle.machine_forms.specs.Answer
pub use Rattle.machine_forms.specs.Asks
pub use Rattle.machine_callables.specs.Callables
pub use Rattle.machine_forms.specs.Convert
pub use Rattle.machine_fields.specs.FieldAsks
pub use Rattle.machine_fields.specs.Fields
pub use Rattle.machine_forms.specs.Forms
pub use Rattle.machine_forms.specs.Machine
pub use Rattle.machine_fields.specs.Members
pub use Rattle.machine_fields.specs.Parts
pub use Rattle.machine_forms.specs.Receivers
pub use Rattle.machine_forms.specs.MachineStepsNames as Names
pub use Rattle.machine_forms.specs.Names as MachineFormsNames
pub use Rattle.machine_forms.specs.Places
pub use Rattle.machine_forms.specs.Reading
pub use Rattle.machine_forms.specs.Refusals
pub use Rattle.machine_forms.specs.Setting
pub use Rattle.machine_forms.specs.Units
