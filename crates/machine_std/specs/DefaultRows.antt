-- The default of a row, one level of it. These are lemmas, which the laws of the host stand on.
use Rattle.std.proofs.Common.{◌≡◌, ◌∙◌, ℕ, suc, List, Option, None, ap, sym}
use Rattle.tok_types.specs.declared.ident.Ident.{Ident}
use Rattle.node_expr.specs.declared.ty.«Type».{«Type» as Type'}
use Rattle.machine_rows.specs.Heads.{head_of}
use Rattle.machine_rows.specs.Rows.{around, row_at, row_by}
use Rattle.machine_rows.specs.declared.head.Head.{Head}
use Rattle.machine_rows.specs.declared.head.Head.TheVariants as head
use Rattle.machine_rows.specs.declared.leaf.Leaf.{Leaf}
use Rattle.machine_rows.specs.declared.row.Row.{Row}
use Rattle.machine_rows.specs.declared.row.Row.TheFolds.{fold-roll-Row}
use Rattle.machine_rows.specs.declared.row.Row.TheOpen.{Row-F}
use Rattle.machine_rows.specs.declared.row.Row.TheVariants as row
use Rattle.machine_rows.specs.declared.wrapper.Wrapper.{Wrapper}
use Rattle.machine_rows.specs.declared.wrapper.Wrapper.TheVariants as wrapper
use Rattle.machine_value.specs.declared.value.Value.{Value}
use Rattle.machine_cells.specs.Defaults.{layer_default, leaf_default, row_default}
use Rattle.machine_std.specs.Defaults.{none_of_host}
use Rattle.machine_std.specs.Rests.{around_layer, head_default}

module _ (declared : ℕ → Option Value) where
  abbrev pub default : Row → Option Value
  default = row_default declared none_of_host

  abbrev pub step : Row-F (Option Value) → Option Value
  step = layer_default declared none_of_host

  pub default-Unit : default row.Unit ≡ step Row-F.Unit
  default-Unit = ap default (sym row.rolls-Unit) ∙ fold-roll-Row (Option Value) step Row-F.Unit

  pub default-Leaf : (it : Leaf) → default (row.Leaf it) ≡ leaf_default it
  default-Leaf it = ap default (sym (row.rolls-Leaf it)) ∙ fold-roll-Row (Option Value) step (Row-F.Leaf it)

  pub default-Declared : (number : ℕ) → default (row.Declared number) ≡ declared number
  default-Declared number = ap default (sym (row.rolls-Declared number)) ∙ fold-roll-Row (Option Value) step (Row-F.Declared number)

  pub default-Host : (ty : Type') → default (row.Host ty) ≡ None
  default-Host ty = ap default (sym (row.rolls-Host ty)) ∙ fold-roll-Row (Option Value) step (Row-F.Host ty)

  pub default-around : (it : Wrapper) (inner : Row) → default (around it inner) ≡ step (around_layer it (default inner))
  default-around wrapper.Option inner = ap default (sym (row.rolls-Option inner)) ∙ fold-roll-Row (Option Value) step (Row-F.Option inner)
  default-around wrapper.Box inner = ap default (sym (row.rolls-Box inner)) ∙ fold-roll-Row (Option Value) step (Row-F.Box inner)
  default-around wrapper.Result inner = ap default (sym (row.rolls-Result inner)) ∙ fold-roll-Row (Option Value) step (Row-F.Result inner)
  default-around wrapper.ResultMeta inner = ap default (sym (row.rolls-ResultMeta inner)) ∙ fold-roll-Row (Option Value) step (Row-F.ResultMeta inner)
  default-around wrapper.Override inner = ap default (sym (row.rolls-Override inner)) ∙ fold-roll-Row (Option Value) step (Row-F.Override inner)
  default-around wrapper.SpannedValue inner = ap default (sym (row.rolls-SpannedValue inner)) ∙ fold-roll-Row (Option Value) step (Row-F.SpannedValue inner)
  default-around wrapper.WithOriginal inner = ap default (sym (row.rolls-WithOriginal inner)) ∙ fold-roll-Row (Option Value) step (Row-F.WithOriginal inner)
  default-around (wrapper.HashMap key) inner = ap default (sym (row.rolls-HashMap key inner)) ∙ fold-roll-Row (Option Value) step (Row-F.HashMap key inner)
  default-around (wrapper.BTreeMap key) inner = ap default (sym (row.rolls-BTreeMap key inner)) ∙ fold-roll-Row (Option Value) step (Row-F.BTreeMap key inner)
  default-around wrapper.Vec inner = ap default (sym (row.rolls-Vec inner)) ∙ fold-roll-Row (Option Value) step (Row-F.Vec inner)

  pub default-by : (read : Type' → Row) (ty : Type') (it : Head Type') → default (row_by read ty it) ≡ head_default declared (λ inner. default (read inner)) ty it
  default-by read ty head.Unit = default-Unit
  default-by read ty (head.Leaf it) = default-Leaf it
  default-by read ty (head.Around it inner) = default-around it (read inner)
  default-by read ty (head.Declared number) = default-Declared number
  default-by read ty head.Host = default-Host ty

  -- at a level
  pub default-at : (decls : List Ident) (level : ℕ) (ty : Type') → default (row_at decls (suc level) ty) ≡ head_default declared (λ inner. default (row_at decls level inner)) ty (head_of decls ty)
  default-at decls level ty = default-by (row_at decls level) ty (head_of decls ty)
