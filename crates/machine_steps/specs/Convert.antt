-- Conversions: how an item, a list of items and nothing are read at a type.
use Rattle.std.specs.Prelude.{ℕ, List, Option, Some, None, unwrap_or, slice_get, cond}
use Rattle.node_core.specs.declared.derive.DeriveInput.{DeriveInput}
use Rattle.node_expr.specs.declared.ty.«Type».{«Type» as Type'}
use Rattle.error_fault.specs.Outcome.{Outcome}
use Rattle.law_spans.specs.Erased.{erased_type}
use Rattle.meta_nested.specs.declared.nested.NestedMeta.{NestedMeta}
use Rattle.meta_nested.specs.Cells.{Cells, no_cells}
use Rattle.machine_host.specs.Dispatch.{by_nested_meta, from_list, from_none}
use Rattle.machine_cells.specs.Defaults.{row_default}
use Rattle.machine_cells.specs.RowCells.{row_cells}
use Rattle.machine_host.specs.HostSays.{erased_decls}
use Rattle.machine_host.specs.Made.{named_type}
use Rattle.machine_host.specs.Seen.{MetaItem, ListItem, BadItem}
use Rattle.machine_rows.specs.Rows.{element_of}
use Rattle.machine_host.specs.Decls.{decl_names}
use Rattle.machine_value.specs.Members.{no_value}
use Rattle.machine_value.specs.declared.value.Value.{Value as Datum}
pub use Rattle.machine_steps.specs.Reads.{Earlier}
use Rattle.machine_steps.specs.Setting.{Setting, outcome_of, row}

module _ (setting : Setting) where
  -- a type of the host reads what the host says
  abbrev pub host_cells : Type' → Cells Datum
  host_cells type =
      record no_cells {
        meta = λ it. Some (outcome_of (setting.host.convert (erased_type type) (MetaItem it)));
        list = λ items. Some (outcome_of (setting.host.convert (erased_type type) (ListItem items)));
        invalid_expr = λ it. Some (outcome_of (setting.host.convert (erased_type type) (BadItem it)));
        none = setting.host.none_of (erased_type type);
      }

  -- the type of one value of a list that is read item by item
  abbrev pub element : Type' → Type'
  element type = unwrap_or (element_of (decl_names setting.decls) type) type

  -- the default of a type of the host, where it has one
  abbrev pub default_said : Type' → Option Datum
  default_said type =
      cond (setting.host.has_default (erased_decls setting.decls) (erased_type type)) (Some (setting.host.default_of (erased_decls setting.decls) (erased_type type))) None

  abbrev pub decl_default : Option DeriveInput → Option Datum
  decl_default None = None
  decl_default (Some decl) = default_said (named_type decl.ident.text)

  -- the default of a declaration, where it has one
  abbrev pub declared_default : ℕ → Option Datum
  declared_default number = decl_default (slice_get setting.decls number)

  -- the default of a type
  abbrev pub default : Type' → Datum
  default type = unwrap_or (row_default declared_default default_said (row setting type)) no_value

  module _ (earlier : Earlier) where
    -- the cells of a type
    abbrev pub cells : Type' → Cells Datum
    cells type = row_cells earlier host_cells (row setting type)

    -- an item: a meta and a bad value by their calls, a literal by its own
    abbrev pub convert : Type' → NestedMeta → Outcome Datum
    convert type item = by_nested_meta (cells type) item

    abbrev pub list : Type' → List NestedMeta → Outcome Datum
    list type items = from_list (cells type) items

    abbrev pub none : Type' → Option Datum
    none type = from_none (cells type)
