-- What a type answers to a call, whichever it is.
use Rattle.std.specs.Prelude.{unwrap_or, codes}
use Rattle.error_fault.specs.Outcome.{Outcome, refused}
use Rattle.error_fault.specs.declared.kind.FaultKind.TheVariants.{UnexpectedFormat}
use Rattle.meta_nested.specs.Cells.{Cells, cell_at}
use Rattle.meta_nested.specs.Dispatch as read
use Rattle.meta_nested.specs.declared.call.Call.{Call}
use Rattle.meta_nested.specs.declared.call.Call.TheVariants as call

-- no item at all is no format of a type that has no value for it
abbrev pub answer : {A : Type 0} → Cells A → Call → Outcome A
answer cells call.Word = read.from_word cells
answer cells (call.List items) = read.from_list cells items.now
answer cells (call.String text span) = read.from_text cells text.now span
answer cells (call.Char c) = read.from_char cells c
answer cells (call.Bool b) = read.from_bool cells b
answer cells (call.Value it) = read.from_value cells it.now
answer cells (call.Expr it) = read.from_expr cells it.now
answer cells (call.InvalidExpr it) = read.from_invalid_expr cells it.now
answer cells (call.Meta it) = read.from_meta cells it.now
answer cells (call.NestedMeta it) = read.from_nested_meta cells it.now
answer cells call.Absent = unwrap_or (cell_at cells call.Absent) (refused (UnexpectedFormat (codes "nothing")))
