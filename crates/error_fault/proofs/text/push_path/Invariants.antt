use Rattle.std.proofs.Common.{◌≡◌, ◌++◌, codes, flat_map, take}
use Rattle.error_fault.proofs.text.push_path.Given as goal

abbrev pub invariant-loop-name : goal.invariant-loop-name
invariant-loop-name l =
    l.out ≡ l.initial.out ++ flat_map (λ part. codes "/" ++ part) (take l.name-index l.inner)
