mod Faults
mod Layers
pub use Rattle.machine_steps.proofs.Building
pub use Rattle.machine_steps.proofs.Slots
pub use Rattle.machine_steps.proofs.Statements
