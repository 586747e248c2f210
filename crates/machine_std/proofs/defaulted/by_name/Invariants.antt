use Rattle.std.proofs.Common.{◌≡◌, ◌++◌, drop, map}
use Rattle.machine_std.specs.Defaulted.{names_default}
use Rattle.machine_std.proofs.defaulted.by_name.Given as goal

abbrev pub invariant-loop-decl : goal.invariant-loop-decl
invariant-loop-decl l = l.by_name ++ map (names_default l.decls) (drop l.decl-index l.decls) ≡ map (names_default l.decls) l.decls
