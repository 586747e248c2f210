-- A value with what it was read from.
use Rattle.node_core.specs.declared.attr.Meta.{Meta}
use Rattle.error_fault.specs.Outcome.{Outcome, on_value}
use Rattle.util_core.specs.Cells.{Cells}
use Rattle.util_core.specs.Pairs.{value_and_meta_cells}
use Rattle.util_core.specs.Shown.{shown_cells}
use Rattle.options_types.specs.declared.with_original.WithOriginal.{WithOriginal}

-- the value that was read from this
abbrev pub with_original : {O A : Type 0} → O → A → WithOriginal A O
with_original original parsed = record { parsed = parsed; original = original }

-- what is seen of it: what is seen of the value
abbrev pub seen_original : {X A O : Type 0} → (X → A) → WithOriginal X O → WithOriginal A O
seen_original seen it = with_original it.original (seen it.parsed)

-- every meta that the type reads, and the meta
abbrev pub original_cells : {A : Type 0} → Cells A → Cells (WithOriginal A Meta)
original_cells cells = shown_cells (λ it. with_original it.1 it.0) (value_and_meta_cells cells)

-- what the type reads from a node, and the node
abbrev pub original_meaning : {N A : Type 0} → (N → Outcome A) → N → Outcome (WithOriginal A N)
original_meaning read node = on_value (with_original node) (read node)
