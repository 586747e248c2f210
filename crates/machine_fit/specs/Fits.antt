-- Which types fit their places.
use Rattle.std.specs.Prelude.{ℕ, Bool, true, false, ◌&&◌, ◌||◌, not, if◌then◌else◌, nat_lt, List, Option, Some, None, is_some}
use Rattle.std.specs.List.{list_any}
use Rattle.node_expr.specs.declared.ty.«Type».{«Type» as Type'}
use Rattle.law_spans.specs.Erased.{erased_type}
use Rattle.codegen_program.specs.declared.program.Derive.{Derive}
use Rattle.codegen_program.specs.declared.program.Program.{Program}
use Rattle.codegen_program.specs.declared.program.«Unit».{«Unit» as Unit'}
use Rattle.machine_rows.specs.Rows.{element_of, row_of}
use Rattle.machine_rows.specs.declared.row.Row.{Row}
use Rattle.machine_rows.specs.declared.row.Row.TheFolds.{fold-Row}
use Rattle.machine_rows.specs.declared.row.Row.TheOpen.{Row-F}
use Rattle.machine_places.specs.Places.{fits_outer}
use Rattle.machine_places.specs.Rows.{outer_row_of}
use Rattle.machine_places.specs.declared.place.OuterPlace.{OuterPlace}
use Rattle.machine_forms.specs.Defaults.{row_default}
use Rattle.machine_forms.specs.Decls.{decl_names}
use Rattle.machine_forms.specs.HostSays.{HostSays}
use Rattle.machine_forms.specs.Convert.{declared_default, default_said}
use Rattle.machine_forms.specs.Machine.{setting_of}
use Rattle.machine_forms.specs.Units.{is_item, is_of, same_derive}

-- the row that a type is
abbrev pub row_in : Program → Type' → Row
row_in program type = row_of (decl_names program.decls) type

-- a unit of the derive reads elements as the declaration of the number
abbrev pub is_read_by : List Unit' → Derive → ℕ → Bool
is_read_by units derive number = list_any (λ unit. is_of number unit && same_derive unit.derive derive) units

-- the same of a declaration that stands before that of the number `here`
abbrev pub reads_before : List Unit' → ℕ → Derive → ℕ → Bool
reads_before units here derive number = nat_lt number here && is_read_by units derive number

-- the place, in the declaration of the number `here`, takes the type
abbrev pub is_taken : Program → ℕ → OuterPlace → Type' → Bool
is_taken program here at type = fits_outer (reads_before program.units here) at (outer_row_of (decl_names program.decls) type)

module _ (host : HostSays) (program : Program) where
  -- The types of the declaration of the number `here` may name declarations before it. Where items are read at the type
  -- itself, those must be ones that items are read as.
  module _ (here : ℕ) (reads : Bool) where
    abbrev pub may_name : ℕ → Bool
    may_name number = nat_lt number here && (not reads || is_item program number)

    -- a row whose type inside fits, or not; a list of values is none but as the type of a whole field
    abbrev pub layer_fits : Row-F Bool → Bool
    layer_fits Row-F.Unit = true
    layer_fits (Row-F.Leaf it) = true
    layer_fits (Row-F.Option inner) = inner
    layer_fits (Row-F.Box inner) = inner
    layer_fits (Row-F.Result inner) = inner
    layer_fits (Row-F.ResultMeta inner) = inner
    layer_fits (Row-F.Override inner) = inner
    layer_fits (Row-F.SpannedValue inner) = inner
    layer_fits (Row-F.WithOriginal inner) = inner
    layer_fits (Row-F.HashMap key inner) = inner
    layer_fits (Row-F.BTreeMap key inner) = inner
    layer_fits (Row-F.Vec inner) = false
    layer_fits (Row-F.Declared number) = may_name number
    layer_fits (Row-F.Host type) = host.knows (erased_type type)

    abbrev pub row_fits : Row → Bool
    row_fits = fold-Row Bool layer_fits

    -- the type of one value
    abbrev pub type_fits : Type' → Bool
    type_fits type = row_fits (row_in program type)

    abbrev pub element_fits : Option Type' → Bool
    element_fits None = false
    element_fits (Some element) = type_fits element

    -- the type of a field, which may take a list of values
    abbrev pub field_fits : Bool → Type' → Bool
    field_fits many type = if many then element_fits (element_of (decl_names program.decls) type) else type_fits type

  -- The type of a field that takes the part of an element that stands at the place. Where a function converts the part, each type
  -- may stand there too that is read of no items.
  abbrev pub part_fits : ℕ → OuterPlace → Bool → Type' → Bool
  part_fits here at with type = is_taken program here at type || (with && type_fits here false type)

  -- the type has a default
  abbrev pub row_has_default : Row → Bool
  row_has_default it = is_some (row_default (declared_default (setting_of host program)) (default_said (setting_of host program)) it)

  abbrev pub has_default : Type' → Bool
  has_default type = row_has_default (row_in program type)
