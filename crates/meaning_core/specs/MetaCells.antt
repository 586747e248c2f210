-- What a declaration reads under `FromMeta`: its cells.
use Rattle.std.specs.Prelude.{[], map, Option, Some, None}
use Rattle.node_expr.specs.declared.expr.Expr.{Expr}
use Rattle.node_core.specs.declared.style.Style.TheVariants as style
use Rattle.error_fault.specs.Outcome.{Outcome, Value, on_value, value_of}
use Rattle.meta_entries.specs.declared.entry.Entry.TheVariants as entry
use Rattle.machine_value.specs.declared.value.Value.{Value as Datum}
use Rattle.machine_value.specs.declared.value.Value.TheVariants as value
use Rattle.machine_steps.specs.Building.{alone}
use Rattle.machine_steps.specs.Calls.{none_said}
use Rattle.codegen_program.specs.declared.callable.Callable.{Callable}
use Rattle.machine_steps.specs.Cells.{Cells, no_cells}
use Rattle.machine_steps.specs.Convert.{Earlier, cells}
use Rattle.machine_steps.specs.Dispatch.{from_meta}
use Rattle.machine_steps.specs.Seen.{ExprSeen, NothingSeen}
use Rattle.machine_steps.specs.Setting.{Setting, answer, ask, without_places}
use Rattle.machine_steps.specs.Use.TheVariants as use_at
use Rattle.meaning_core.specs.Meaning.{struct_meaning}
use Rattle.meaning_core.specs.Receivers.{Bare, ByFields, EnumOf, MetaBody, MetaDecl, OfCallable, OfVariant, StructOf, Whole, Word, struct_decl}
use Rattle.meaning_core.specs.Variants.{text_meaning, variants_meaning}

module _ (setting : Setting) (earlier : Earlier) (it : MetaDecl) where
  -- what is read by the form of the declaration; of a struct read as its one member is, a whole meta alone
  abbrev pub own_cells : MetaBody → Cells Datum
  own_cells (StructOf Bare) = record no_cells { word = Some (Value (value.Struct it.name style.Unit [])) }
  own_cells (StructOf (Whole member type)) =
      record no_cells { meta = λ item. Some (on_value (alone it.name member) (from_meta (cells setting earlier type) item)) }
  own_cells (StructOf (ByFields body)) =
      record no_cells { list = λ items. Some (struct_meaning setting earlier (struct_decl it body) (map entry.Item items)) }
  own_cells (EnumOf variants) =
      record no_cells {
        list = λ items. Some (variants_meaning setting earlier it.name variants items);
        string = λ text span. Some (text_meaning setting earlier it.name variants text);
      }

  -- what a callable gives stands in the place of the cell
  abbrev pub word_cell : Option Word → Option (Outcome Datum) → Option (Outcome Datum)
  word_cell None own = own
  word_cell (Some (OfVariant ident)) own = Some (Value (value.Variant it.name ident style.Unit []))
  word_cell (Some (OfCallable callable)) own = Some (ask setting callable use_at.FromWord it.type NothingSeen)

  -- faults of it count as no value
  abbrev pub none_cell : Option Callable → Option Datum → Option Datum
  none_cell None own = own
  none_cell (Some callable) own = value_of (none_said (answer setting (Some (without_places callable)) use_at.FromNone it.type NothingSeen))

  abbrev pub expr_cell : Option Callable → (Expr → Option (Outcome Datum)) → Expr → Option (Outcome Datum)
  expr_cell None own expr = own expr
  expr_cell (Some callable) own expr = Some (ask setting callable use_at.FromExpr it.type (ExprSeen expr))

  abbrev pub overriding : Cells Datum → Cells Datum
  overriding own = record own { word = word_cell it.word own.word; none = none_cell it.none own.none; expr = expr_cell it.expr own.expr }

  -- the cells of the declaration
  abbrev pub meta_cells : Cells Datum
  meta_cells = overriding (own_cells it.body)
