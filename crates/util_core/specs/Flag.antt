-- Flags: a word that is there or not.
use Rattle.std.specs.Prelude.{Option, Some, None, codes}
use Rattle.tok_types.specs.declared.span.Span.{Span}
use Rattle.node_core.specs.declared.attr.Meta.{Meta}
use Rattle.node_core.specs.declared.attr.Meta.TheVariants as meta
use Rattle.node_span.specs.Spanned.{path_span}
use Rattle.error_fault.specs.Outcome.{Outcome, Value, bind, refused}
use Rattle.error_fault.specs.declared.kind.FaultKind.TheVariants.{UnexpectedFormat}
use Rattle.meta_core.specs.Cells.{Cells, no_cells}
use Rattle.meta_core.specs.Dispatch.{from_meta}
use Rattle.meta_core.specs.Rows.{unit_cells}

-- a word is there; another meta has the faults that it has at `()`, and an empty list is no format of a flag
abbrev pub flag_of : Meta → Outcome (Option Span)
flag_of (meta.Path path) = Value (Some (path_span path))
flag_of it = bind (from_meta unit_cells it) (λ done. refused (UnexpectedFormat (codes "list")))

-- a meta, and no item, which is an absent flag
abbrev pub flag_cells : Cells (Option Span)
flag_cells = record no_cells { meta = λ it. Some (flag_of it); none = Some None }
