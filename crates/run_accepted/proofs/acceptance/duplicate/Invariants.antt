use Rattle.std.proofs.Common.{◌≡◌, ◌++◌, drop, flat_map}
use Rattle.run_accepted.specs.Accepted.{derives_named_again}
use Rattle.run_accepted.proofs.acceptance.duplicate.Given as goal

abbrev pub invariant-loop-decl : goal.invariant-loop-decl
invariant-loop-decl l = l.spans ++ flat_map derives_named_again (drop l.decl-index l.decls) ≡ flat_map derives_named_again l.decls
