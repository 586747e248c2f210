-- What a type reads, beside its place or the meta that it was read from.
use Rattle.std.specs.Prelude.{Some}
use Rattle.tok_types.specs.declared.span.Span.{Span}
use Rattle.node_core.specs.declared.attr.Meta.{Meta}
use Rattle.node_core.specs.declared.attr.Meta.TheVariants as meta
use Rattle.node_span.specs.Spanned.{expr_span, lit_span, path_span, stream_span}
use Rattle.error_fault.specs.Outcome.{on_value}
use Rattle.meta_core.specs.Cells.{Cells, no_cells}
use Rattle.meta_core.specs.Dispatch.{from_expr, from_meta, from_nested_meta, from_value}
use Rattle.meta_core.specs.NestedNodes.{nested_span}

-- what is seen of a value and what stands beside it
abbrev pub seen_pair : {X A B : Type 0} → (X → A) → X × B → A × B
seen_pair seen pair = (seen pair.0, pair.1)

-- where the value of a meta stands: the word, the tokens of the list, or what is behind the `=`
abbrev pub value_span : Meta → Span
value_span (meta.Path path) = path_span path
value_span (meta.«List» list) = stream_span list.tokens
value_span (meta.NameValue pair) = expr_span pair.value

module _ {A : Type 0} (cells : Cells A) where
  -- what the type reads, and the place of its value; an item that is no meta stands as a whole
  abbrev pub value_and_span_cells : Cells (A × Span)
  value_and_span_cells =
      record no_cells {
        value = λ it. Some (on_value (λ read. (read, lit_span it)) (from_value cells it));
        expr = λ it. Some (on_value (λ read. (read, expr_span it)) (from_expr cells it));
        meta = λ it. Some (on_value (λ read. (read, value_span it)) (from_meta cells it));
        nested_meta = λ it. Some (on_value (λ read. (read, nested_span it)) (from_nested_meta cells it));
      }

  -- every meta that the type reads, and the meta
  abbrev pub value_and_meta_cells : Cells (A × Meta)
  value_and_meta_cells = record no_cells { meta = λ it. Some (on_value (λ read. (read, it)) (from_meta cells it)) }
