use Rattle.std.proofs.Common.{◌≡◌, map, drop}
use Rattle.meta_nested.specs.Dispatch.{from_expr}
use Rattle.error_core.specs.Each.{behind, each}
use Rattle.meta_core.proofs.rows.vectors.read_elements.Given as goal

abbrev pub invariant-loop-element : goal.invariant-loop-element
invariant-loop-element g l =
    each (from_expr g.T.FromMeta.cells) l.elements
    ≡ behind (map g.T.FromMeta.seen l.values.items) (each (from_expr g.T.FromMeta.cells) (drop l.element-index l.elements))
