use Rattle.std.proofs.Common.{◌≡◌, ◌++◌, drop, map}
use Rattle.run_accepted.specs.Attributes.{without_attributes}
use Rattle.run_accepted.proofs.program.bare.Given as goal

abbrev pub invariant-loop-decl : goal.invariant-loop-decl
invariant-loop-decl l = l.bare ++ map without_attributes (drop l.decl-index l.decls) ≡ map without_attributes l.decls
