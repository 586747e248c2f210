use Rattle.std.proofs.Common.{◌≡◌, ◌++◌, drop, flat_map}
use Rattle.run_accepted.specs.Unbuilt.{derive_places}
use Rattle.run_accepted.proofs.declaration.push_derives.Given as goal

abbrev pub invariant-loop-it : goal.invariant-loop-it
invariant-loop-it l = l.spans ++ flat_map derive_places (drop l.it-index l.derives) ≡ l.initial.spans ++ flat_map derive_places l.derives
