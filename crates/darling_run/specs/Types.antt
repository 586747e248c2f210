-- The types of a run, for definitions over them.
pub use Rattle.node_core.specs.declared.derive.DeriveInput.{DeriveInput}
pub use Rattle.error_fault.specs.declared.fault.Fault.{Fault}
pub use Rattle.codegen_program.specs.declared.program.Derive.{Derive}
pub use Rattle.codegen_program.specs.declared.program.Derive.TheVariants as derive
pub use Rattle.codegen_program.specs.declared.program.Program.{Program}
pub use Rattle.codegen_core.specs.declared.form.Form.{Form}
pub use Rattle.codegen_core.specs.declared.form.Form.TheVariants as form
pub use Rattle.run_source.specs.Rejected.{Rejected}
pub use Rattle.run_source.specs.RunError.{RunError}
pub use Rattle.run_source.specs.RunError.TheVariants as run_error
pub use Rattle.run_source.specs.declared.report.Report.{Report}
