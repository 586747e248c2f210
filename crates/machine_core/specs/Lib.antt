pub mod Types
pub use Rattle.machine_steps.specs.Asked
pub use Rattle.machine_steps.specs.Attributes
pub use Rattle.machine_steps.specs.Building
pub use Rattle.machine_execute.specs.Elements
pub use Rattle.machine_execute.specs.Outcome
pub use Rattle.machine_fit.specs.Answer
pub use Rattle.machine_fit.specs.Asks
pub use Rattle.machine_steps.specs.Below
pub use Rattle.machine_fit.specs.Callables
pub use Rattle.machine_steps.specs.Convert
pub use Rattle.machine_fit.specs.Fits
pub use Rattle.machine_fit.specs.Forms
pub use Rattle.machine_steps.specs.Names as ItemNames
pub use Rattle.machine_execute.specs.Machine
pub use Rattle.machine_steps.specs.Slots
pub use Rattle.machine_fit.specs.MachineFormsNames as Names
pub use Rattle.machine_fit.specs.Places
pub use Rattle.machine_steps.specs.Progress
pub use Rattle.machine_steps.specs.Reading
pub use Rattle.machine_steps.specs.Reads
pub use Rattle.machine_steps.specs.Receivers
pub use Rattle.machine_fit.specs.Refusals
pub use Rattle.machine_steps.specs.Setting
pub use Rattle.machine_steps.specs.State
pub use Rattle.machine_steps.specs.Statements
pub use Rattle.machine_fit.specs.Types as PlaceTypes
pub use Rattle.machine_fit.specs.Unfitness
pub use Rattle.machine_fit.specs.Units
pub use Rattle.machine_host.specs as host
pub use Rattle.machine_host.proofs.Fitting as FittingLemmas
pub use Rattle.machine_host.proofs.Values as ValueLemmas
pub use Rattle.machine_rows.specs as rows
pub use Rattle.machine_steps.specs.Calls
pub use Rattle.machine_steps.specs.Outer
pub use Rattle.machine_steps.specs.Parts
pub use Rattle.machine_steps.specs.Shapes
pub use Rattle.machine_steps.specs.Variants
pub use Rattle.machine_std.specs.Functions as StdFunctions
pub use Rattle.machine_std.specs.StdLaws
pub use Rattle.machine_std.specs.StdSays
