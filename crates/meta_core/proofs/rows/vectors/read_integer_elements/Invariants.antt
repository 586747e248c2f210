use Rattle.std.proofs.Common.{◌≡◌, map, drop}
use Rattle.error_core.specs.Each.{behind, each}
use Rattle.meta_core.specs.Lists.{integer_element}
use Rattle.meta_core.proofs.rows.vectors.read_integer_elements.Given as goal

abbrev pub invariant-loop-element : goal.invariant-loop-element
invariant-loop-element g l =
    each (integer_element g.T.FromMeta.cells) l.elements
    ≡ behind (map g.T.FromMeta.seen l.values.items) (each (integer_element g.T.FromMeta.cells) (drop l.element-index l.elements))
