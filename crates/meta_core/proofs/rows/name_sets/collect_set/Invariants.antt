use Rattle.std.proofs.Common.{◌≡◌, List, [], ◌++◌, drop}
use Rattle.std.specs.HashSet.{contains, get}
use Rattle.std.specs.Option.{option_or}
use Rattle.error_core.specs.ErrorView.{held}
use Rattle.meta_reads.specs.KnownKeys.{Knows}
use Rattle.meta_core.specs.Sets.{kept_name, set_faults}
use Rattle.meta_core.proofs.rows.name_sets.collect_set.Given as goal

abbrev pub invariant-loop-item : goal.invariant-loop-item
invariant-loop-item g l =
    let eq = g.T.PartialEq.eq in
    let read = g.T.Name.of_item in
    let faults = set_faults eq (λ name. g.T.KeyFromPath.text (g.T.KeyFromPath.seen name)) g.T.Spanned.span_of read in
    ((name : _) → kept_name eq read l.items name ≡ option_or (get eq l.names name) (kept_name eq read (drop l.item-index l.items) name)) ×
    ((before : List _) × Knows eq (λ name. name) (contains eq l.names) before ×
    (held l.initial.errors ++ faults [] l.items ≡ held l.errors ++ faults before (drop l.item-index l.items)))
