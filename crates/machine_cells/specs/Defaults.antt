-- The default of a type, by its row.
use Rattle.std.specs.Prelude.{ℕ, false, [], Option, Some, None, option_map}
use Rattle.tok_types.specs.declared.span.Span.TheVariants.{CallSite}
use Rattle.node_expr.specs.declared.ty.«Type».{«Type» as Type'}
use Rattle.util_core.specs.declared.over_ride.Override.TheVariants.{Inherit}
use Rattle.machine_rows.specs.declared.leaf.Leaf.{Leaf}
use Rattle.machine_rows.specs.declared.leaf.Leaf.TheVariants as leaf
use Rattle.machine_rows.specs.declared.row.Row.{Row}
use Rattle.machine_rows.specs.declared.row.Row.TheFolds.{fold-Row}
use Rattle.machine_rows.specs.declared.row.Row.TheOpen.{Row-F}
use Rattle.machine_value.specs.declared.value.Value.{Value as Datum}
use Rattle.machine_value.specs.declared.value.Value.TheVariants as value
use Rattle.machine_cells.specs.Values.{given, ignored, natural, spanned}

-- the defaults of the table
abbrev pub leaf_default : Leaf → Option Datum
leaf_default leaf.Bool = Some (value.Bool false)
leaf_default leaf.Char = Some (value.Char 0)
leaf_default leaf.String = Some (value.Text [])
leaf_default leaf.PathBuf = Some (value.Text [])
leaf_default (leaf.Integer it) = Some (natural 0)
leaf_default leaf.Flag = Some (value.Opt None)
leaf_default (leaf.Vec it) = Some (value.List [])
leaf_default (leaf.HashSet it) = Some (value.List [])
leaf_default leaf.PathList = Some (value.List [])
leaf_default (leaf.Punctuated it) = Some (value.List [])
leaf_default leaf.Ignored = Some ignored
leaf_default _ = None

-- the defaults of declarations by their numbers, and those of the host's types
module _ (declared : ℕ → Option Datum) (host : Type' → Option Datum) where
  -- a row whose type inside has this default
  abbrev pub layer_default : Row-F (Option Datum) → Option Datum
  layer_default Row-F.Unit = Some value.Unit
  layer_default (Row-F.Leaf it) = leaf_default it
  layer_default (Row-F.Option inner) = Some (value.Opt None)
  layer_default (Row-F.Box inner) = inner
  layer_default (Row-F.Result inner) = None
  layer_default (Row-F.ResultMeta inner) = None
  layer_default (Row-F.Override inner) = Some (given Inherit)
  layer_default (Row-F.SpannedValue inner) = option_map (λ it. spanned it CallSite) inner
  layer_default (Row-F.WithOriginal inner) = None
  layer_default (Row-F.HashMap key inner) = Some (value.Map [])
  layer_default (Row-F.BTreeMap key inner) = Some (value.Map [])
  layer_default (Row-F.Vec inner) = Some (value.List [])
  layer_default (Row-F.Declared number) = declared number
  layer_default (Row-F.Host type) = host type

  -- the default of a row, where it has one
  abbrev pub row_default : Row → Option Datum
  row_default = fold-Row (Option Datum) layer_default
