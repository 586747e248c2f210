-- Types that don't fit their places.
use Rattle.std.specs.Prelude.{ℕ, ◌+◌, Bool, true, false, ◌&&◌, ◌||◌, not, List, [], ◌++◌, flat_map, get_or, Option, Some, None, slice_get}
use Rattle.std.specs.List.{list_any, list_all}
use Rattle.tok_types.specs.declared.span.Span.{Span}
use Rattle.node_expr.specs.declared.ty.«Type».{«Type» as Type'}
use Rattle.node_span.specs.Spanned.{path_span, type_span}
use Rattle.node_core.specs.declared.data.Field.{Field}
use Rattle.node_core.specs.declared.data.Variant.{Variant}
use Rattle.node_core.specs.declared.data.«Data».{«Data»}
use Rattle.node_core.specs.declared.data.«Data».TheVariants as body
use Rattle.node_core.specs.declared.derive.DeriveInput.{DeriveInput}
use Rattle.law_spans.specs.Erased.{erased_path}
use Rattle.codegen_program.specs.declared.arm.PostfixTransform.{PostfixTransform}
use Rattle.codegen_program.specs.declared.program.Program.{Program}
use Rattle.codegen_program.specs.declared.program.«Unit».{«Unit» as Unit'}
use Rattle.node_core.specs.Bodies.{field_list}
use Rattle.machine_forms.specs.HostSays.{HostSays}
use Rattle.machine_callables.specs.Callables.{decl_type}
use Rattle.machine_forms.specs.Asks.{Ask, Read, SlotAsks, is_whole_default}
use Rattle.machine_forms.specs.Places.{places_from, refused_if, refused_unless}
use Rattle.machine_fields.specs.FieldAsks.{FieldAsks, readings}
use Rattle.machine_fields.specs.declared.fields.FieldsAt.{FieldsAt}
use Rattle.machine_fields.specs.declared.fields.FieldsAt.TheVariants as fields_at
use Rattle.machine_fields.specs.declared.members.MemberAt.{MemberAt}
use Rattle.machine_fields.specs.declared.members.MemberAt.TheVariants as member_at
use Rattle.machine_fit.specs.Fits.{field_fits, has_default, part_fits, type_fits}
use Rattle.machine_forms.specs.Units.{asks_of, units_of}

module _ (host : HostSays) (program : Program) where
  -- the type of a slot fits what a unit asks of it
  abbrev pub fits_asks : ℕ → ℕ → Type' → SlotAsks → Bool
  fits_asks here slot type asks =
      field_fits host program here (asks.read slot) (asks.many slot) type && (not (asks.default slot) || has_default host program type)

  -- the type of a field of a struct fits what a unit asks of it
  abbrev pub fits_member : ℕ → Type' → SlotAsks → Option MemberAt → Bool
  fits_member here type asks (Some (member_at.Slot slot)) = fits_asks here slot type asks
  fits_member here type asks (Some (member_at.Part at with)) = part_fits host program here at with type
  fits_member here type asks None = type_fits host program here false type

  -- the type of the field of this number among those that are read there fits
  abbrev pub fits_at : ℕ → ℕ → Type' → FieldAsks → FieldsAt → Bool
  fits_at here number type asks (fields_at.Slots first) = fits_asks here (first + number) type asks.slots
  fits_at here number type asks fields_at.Members = fits_member here type asks.slots (slice_get asks.members number)
  fits_at here number type asks fields_at.Alone = type_fits host program here true type
  fits_at here number type asks fields_at.Nowhere = type_fits host program here false type

  -- The fields of a struct, or of the variant of the number, by what a unit asks of them.
  abbrev pub fits_unit : ℕ → ℕ → ℕ → Type' → FieldAsks → Bool
  fits_unit here variant number type asks = fits_at here number type asks (get_or asks.places variant fields_at.Nowhere)

  abbrev pub unfit_field : ℕ → List FieldAsks → ℕ → ℕ → Field → List Span
  unfit_field here asks variant number field = refused_unless (list_all (fits_unit here variant number field.ty) asks) (type_span field.ty)

  abbrev pub unfit_fields : ℕ → List FieldAsks → ℕ → List Field → List Span
  unfit_fields here asks variant fields = places_from (unfit_field here asks variant) 0 fields

  abbrev pub unfit_variant : ℕ → List FieldAsks → ℕ → Variant → List Span
  unfit_variant here asks number variant = unfit_fields here asks number (field_list variant.fields)

  abbrev pub unfit_members : ℕ → List FieldAsks → «Data» → List Span
  unfit_members here asks (body.Struct it) = unfit_fields here asks 0 (field_list it.fields)
  unfit_members here asks (body.Enum it) = places_from (unfit_variant here asks) 0 it.variants
  unfit_members here asks (body.Union it) = unfit_fields here asks 0 it.fields.named

  -- the type that a transform takes, at the transform's path
  abbrev pub unfit_taken : ℕ → PostfixTransform → Option Type' → List Span
  unfit_taken here post None = []
  unfit_taken here post (Some type) = refused_unless (type_fits host program here true type) (path_span post.function)

  abbrev pub unfit_post : ℕ → Option PostfixTransform → List Span
  unfit_post here None = []
  unfit_post here (Some post) = unfit_taken here post (host.takes (erased_path post.function))

  abbrev pub unfit_ask : ℕ → Ask → List Span
  unfit_ask here (Read arm) = unfit_post here arm.post
  unfit_ask here _ = []

  -- the default of the whole receiver is asked for, and its type has none
  abbrev pub lacks_default : DeriveInput → List Ask → Bool
  lacks_default decl asks = list_any is_whole_default asks && not (has_default host program (decl_type decl))

  -- in a declaration and its units: its identifier, its fields' types, what its transforms take
  abbrev pub unknown_types_in : List Unit' → ℕ → DeriveInput → List Span
  unknown_types_in units number decl =
      refused_if (lacks_default decl (asks_of units)) decl.ident.span
      ++ unfit_members number (readings decl.body units) decl.body
      ++ flat_map (unfit_ask number) (asks_of units)

  abbrev pub unknown_types : List Span
  unknown_types = places_from (λ number decl. unknown_types_in (units_of program.units number) number decl) 0 program.decls
