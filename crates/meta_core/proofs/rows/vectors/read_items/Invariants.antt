use Rattle.std.proofs.Common.{◌≡◌, map, drop}
use Rattle.meta_nested.specs.Dispatch.{from_nested_meta}
use Rattle.error_core.specs.Each.{behind, each}
use Rattle.meta_core.proofs.rows.vectors.read_items.Given as goal

abbrev pub invariant-loop-item : goal.invariant-loop-item
invariant-loop-item g l =
    each (from_nested_meta g.T.FromMeta.cells) l.items
    ≡ behind (map g.T.FromMeta.seen l.values.items) (each (from_nested_meta g.T.FromMeta.cells) (drop l.item-index l.items))
