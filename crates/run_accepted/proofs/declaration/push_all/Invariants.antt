use Rattle.std.proofs.Common.{◌≡◌, ◌++◌, drop}
use Rattle.run_accepted.specs.Unbuilt.{unbuilt}
use Rattle.run_accepted.proofs.declaration.push_all.Given as goal

abbrev pub invariant-loop-decl : goal.invariant-loop-decl
invariant-loop-decl l = l.spans ++ unbuilt (drop l.decl-index l.decls) ≡ l.initial.spans ++ unbuilt l.decls
