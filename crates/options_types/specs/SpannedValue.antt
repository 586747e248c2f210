-- A value and where it stands.
use Rattle.std.specs.Prelude.{Result, Ok, Err}
use Rattle.tok_types.specs.declared.span.Span.{Span}
use Rattle.error_fault.specs.Outcome.{Outcome, on_value, with_span}
use Rattle.error_core.specs.declared.fail.Fail.{Fail}
use Rattle.util_core.specs.Cells.{Cells}
use Rattle.util_core.specs.Pairs.{value_and_span_cells}
use Rattle.util_core.specs.Shown.{shown_cells}
use Rattle.options_types.specs.declared.spanned_value.SpannedValue.{SpannedValue}

-- the value at this place
abbrev pub placed : {A : Type 0} → Span → A → SpannedValue A
placed span value = record { value = value; span = span }

-- what is seen of it: what is seen of the value, at its place
abbrev pub seen_spanned : {X A : Type 0} → (X → A) → SpannedValue X → SpannedValue A
seen_spanned seen it = placed it.span (seen it.value)

-- what the type reads, at the place of its value
abbrev pub spanned_cells : {A : Type 0} → Cells A → Cells (SpannedValue A)
spanned_cells cells = shown_cells (λ it. placed it.1 it.0) (value_and_span_cells cells)

-- what the type reads from a node, at the node's place, where a single fault without a place stands too
abbrev pub spanned_meaning : {N A : Type 0} → (N → Span) → (N → Outcome A) → N → Outcome (SpannedValue A)
spanned_meaning span_of read node = on_value (placed (span_of node)) (with_span (span_of node) (read node))

-- an answer whose value stands at this place
abbrev pub placed_answer : {X : Type 0} → Result X Fail → Span → Result (SpannedValue X) Fail
placed_answer (Ok value) span = Ok (placed span value)
placed_answer (Err fail) span = Err fail
