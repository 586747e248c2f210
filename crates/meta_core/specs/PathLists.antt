-- Lists of paths: their row, and the paths that two have in common.
use Rattle.std.specs.Prelude.{List, [], Some, codes}
use Rattle.std.specs.List.{filter, list_any}
use Rattle.node_core.specs.declared.attr.Meta.TheVariants as meta
use Rattle.node_expr.specs.declared.path.Path.{Path}
use Rattle.error_fault.specs.Fault.{at_span}
use Rattle.error_fault.specs.Outcome.{Outcome, Value, Faults}
use Rattle.error_fault.specs.declared.kind.FaultKind.TheVariants.{UnexpectedType}
use Rattle.meta_nested.specs.Nodes.{nested_span}
use Rattle.meta_nested.specs.declared.nested.NestedMeta.{NestedMeta}
use Rattle.meta_nested.specs.declared.nested.NestedMeta.TheVariants as nested
use Rattle.meta_nested.specs.Cells.{Cells, no_cells}
use Rattle.meta_reads.specs.Keys.{path_same}
use Rattle.error_core.specs.Each.{each}

-- the path that an item is; another item is a fault at its place
abbrev pub path_word : NestedMeta → Outcome Path
path_word (nested.Meta (meta.Path path)) = Value path
path_word item = Faults (at_span (UnexpectedType (codes "non-word")) (nested_span item)) []

-- the items of a list
abbrev pub path_list_cells : Cells (List Path)
path_list_cells = record no_cells { list = λ items. Some (each path_word items) }

-- the paths that are among the others, in their order and number
abbrev pub common : List Path → List Path → List Path
common paths others = filter (λ path. list_any (λ other. path_same other path) others) paths
