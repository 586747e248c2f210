use Rattle.std.proofs.Common.{◌≡◌, ◌++◌, drop, flat_map}
use Rattle.run_accepted.specs.Forms.{derived_forms}
use Rattle.run_accepted.proofs.forms.push_derived.Given as goal

abbrev pub invariant-loop-it : goal.invariant-loop-it
invariant-loop-it l =
    l.places ++ flat_map (derived_forms l.table l.decl) (drop l.it-index l.derives)
    ≡ l.initial.places ++ flat_map (derived_forms l.table l.decl) l.derives
