-- A row answers as its outermost layer does.
use Rattle.std.proofs.Common.{◌≡◌, ◌∙◌, Option, Result, ap, subst, sym}
use Rattle.error_core.specs.declared.fail.Fail.{Fail}
use Rattle.meta_nested.specs.Cells.{Cells, AnswersCell, cell_at}
use Rattle.meta_nested.specs.declared.call.Call.{Call}
use Rattle.machine_value.specs.declared.value.Value.{Value as Datum}
use Rattle.machine_rows.specs.declared.row.Row.{Row}
use Rattle.machine_steps.specs.Convert.{Earlier, host_cells}
use Rattle.machine_steps.specs.Setting.{Setting}
use Rattle.machine_read.specs.declared.layer.Layer.{Layer}
use Rattle.machine_read.specs.Layers.{IsLayerOf, layer_reads}
use Rattle.machine_read.specs.Scopes.{cells_of}

module _ (setting : Setting) (earlier : Earlier) where
  -- the cells of a layer
  abbrev reads : Layer → Cells Datum
  reads = layer_reads earlier (host_cells setting) (cells_of setting earlier)

  pub by_layer : (row : Row) (found : Layer) → IsLayerOf row found
      → (layer : Layer) → found ≡ layer → (answer : Result (Option Datum) Fail) (call : Call)
      → AnswersCell (λ it. it) answer (cell_at (reads layer) call)
      → AnswersCell (λ it. it) answer (cell_at (cells_of setting earlier row) call)
  by_layer row found is_layer layer is answer call =
      subst (λ (cells : Cells Datum). AnswersCell (λ it. it) answer (cell_at cells call))
      (ap reads (sym is) ∙ is_layer earlier (host_cells setting))
