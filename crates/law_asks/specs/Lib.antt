pub mod Asked
pub mod Claims
pub use Rattle.law_fits.specs.Claims as LawFitsClaims
pub use Rattle.law_fits.specs.Reads
pub use Rattle.law_fits.specs.Sound
pub use Rattle.law_fits.specs.Unfitness
pub use Rattle.law_machine.specs.Compiles
pub use Rattle.machine_forms.specs.Names
pub use Rattle.machine_forms.specs.Places
pub use Rattle.machine_forms.specs.Refusals
pub use Rattle.machine_forms.specs.Units
pub use Rattle.machine_forms.specs.declared.refusals.Refusals as MachineFormsRefusals
