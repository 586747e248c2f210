-- The types of errors, for definitions over them.
pub use Rattle.error_fault.specs.declared.fault.Fault.{Fault}
pub use Rattle.error_fault.specs.declared.kind.FaultKind.{FaultKind}
pub use Rattle.error_fault.specs.declared.kind.FaultKind.TheVariants as fault_kind
