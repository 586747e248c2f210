use Rattle.std.proofs.Common.{◌≡◌, drop}
use Rattle.machine_read.specs.Machine as spec
use Rattle.machine_execute.proofs.unit.stmts_named.Given as goal

abbrev pub invariant-loop-func : goal.invariant-loop-func
invariant-loop-func l = spec.stmts_named (spec.is_func l.name) (drop l.func-index l.funcs) ≡ spec.stmts_named (spec.is_func l.name) l.funcs
