use Rattle.std.proofs.Common.{◌≡◌, flat_map, take}
use Rattle.error_core.specs.CompileErrors.{compile_error}
use Rattle.error_core.proofs.compile_errors.into_compile_error.Given as goal

abbrev pub invariant-loop-fault : goal.invariant-loop-fault
invariant-loop-fault l = l.trees ≡ flat_map (λ fault. compile_error fault.0 fault.1) (take l.fault-index l.fault-items)
