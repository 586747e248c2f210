use Rattle.std.proofs.Common.{◌≡◌, ◌≤◌, length, fold}
use Rattle.std.specs.BTreeSet.{insert_key}
use Rattle.std.specs.Cmp.Lexicographic.{slice_cmp}
use Rattle.std.specs.Ordering.{nat_cmp}
use Rattle.error_fault.specs.Kind.{with_names}
use Rattle.error_fault.proofs.names.add_names_up_to.Given as goal

abbrev pub invariant-loop-name : goal.invariant-loop-name
invariant-loop-name l =
    (fold (insert_key (slice_cmp nat_cmp)) l.names.keys l.name-iterator ≡ (with_names l.initial.names l.more.keys).keys) ×
    (length l.names.keys ≤ l.most)
