use Rattle.std.proofs.Common.{◌≡◌, ◌≤◌, length, take, fold}
use Rattle.std.specs.BTreeSet.{insert_key}
use Rattle.std.specs.Cmp.Lexicographic.{slice_cmp}
use Rattle.std.specs.Ordering.{nat_cmp}
use Rattle.error_fault.proofs.alts.Alts.up_to.Given as goal

abbrev pub invariant-loop-more : goal.invariant-loop-more
invariant-loop-more l =
    (l.names.keys
    ≡ fold (λ keys more. fold (insert_key (slice_cmp nat_cmp)) keys more.keys) l.initial.names.keys (take l.more-index l.more-items)) ×
    (length l.names.keys ≤ l.most)
