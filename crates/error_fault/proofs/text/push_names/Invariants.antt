use Rattle.std.proofs.Common.{◌≡◌, ◌++◌, codes, flat_map}
use Rattle.error_fault.specs.FaultText.{quoted}
use Rattle.error_fault.proofs.text.push_names.Given as goal

abbrev pub invariant-loop-name : goal.invariant-loop-name
invariant-loop-name l =
    l.out ++ flat_map (λ name. codes ", " ++ quoted name) l.name-iterator
    ≡ l.initial.out ++ flat_map (λ name. codes ", " ++ quoted name) l.initial.name-iterator
