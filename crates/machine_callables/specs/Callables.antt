-- Functions that the host doesn't offer.
use Rattle.std.specs.Prelude.{Bool, ◌&&◌, not, cond, if◌then◌else◌, List, [], ◌++◌, flat_map, Option, Some, None, is_some, option_map, slice_get, unwrap_or}
use Rattle.std.specs.List.{list_any}
use Rattle.tok_types.specs.Ident.{ident_text}
use Rattle.tok_types.specs.declared.span.Span.{Span}
use Rattle.node_expr.specs.declared.ty.«Type».{«Type» as Type'}
use Rattle.node_span.specs.Spanned.{expr_span, path_span}
use Rattle.node_core.specs.Bodies.{fields_in}
use Rattle.node_core.specs.declared.data.Field.{Field}
use Rattle.node_core.specs.declared.data.Variant.{Variant}
use Rattle.node_core.specs.declared.data.«Data».{«Data»}
use Rattle.node_core.specs.declared.derive.DeriveInput.{DeriveInput}
use Rattle.law_spans.specs.Erased.{erased_path}
use Rattle.codegen_program.specs.declared.callable.Callable.{Callable}
use Rattle.codegen_program.specs.declared.arm.Arm.{Arm}
use Rattle.codegen_program.specs.declared.arm.PostfixTransform.{PostfixTransform}
use Rattle.codegen_program.specs.declared.forwarded.Forwarded.{Forwarded}
use Rattle.codegen_program.specs.declared.forwarded.Magic.{Magic}
use Rattle.codegen_program.specs.declared.forwarded.Magic.TheVariants as magic
use Rattle.codegen_program.specs.declared.init.DefaultSource.TheVariants as sources
use Rattle.codegen_program.specs.declared.init.Init.{Init}
use Rattle.codegen_program.specs.declared.program.Derive.{Derive}
use Rattle.codegen_program.specs.declared.program.Derive.TheVariants as derive
use Rattle.codegen_program.specs.declared.program.FuncName.{FuncName}
use Rattle.codegen_program.specs.declared.program.FuncName.TheVariants as func
use Rattle.codegen_program.specs.declared.program.Program.{Program}
use Rattle.codegen_program.specs.declared.program.«Unit».{«Unit» as Unit'}
use Rattle.machine_forms.specs.HostSays.{HostSays, erased_decls, erased_place}
use Rattle.machine_forms.specs.Use.{Use}
use Rattle.machine_forms.specs.Use.TheVariants as use_at
use Rattle.machine_forms.specs.Made.{named_type}
use Rattle.machine_forms.specs.Calls.{word_variant}
use Rattle.machine_forms.specs.Convert.{element}
use Rattle.machine_forms.specs.Machine.{setting_of}
use Rattle.machine_forms.specs.Receivers.{type_among, variants_of}
use Rattle.machine_forms.specs.Reading.{transform_use}
use Rattle.machine_forms.specs.Setting.{called, without_places}
use Rattle.machine_forms.specs.Asks.{Ask, Read, Whole, Part, Member, Transform, Called, is_from_ident, unit_asks}
use Rattle.machine_fields.specs.Fields.{slot_fields}
use Rattle.machine_forms.specs.Forms.{fallback_call}
use Rattle.machine_forms.specs.Places.{places_from, refused_if, refused_unless}
use Rattle.machine_forms.specs.Units.{asks_of, units_of}

-- the type that a declaration is
abbrev pub decl_type : DeriveInput → Type'
decl_type decl = named_type decl.ident.text

-- what the callable of a part is asked for; the parts of other names have none
abbrev pub part_use : Derive → Magic → Option Use
part_use derive.FromField magic.Ident = Some use_at.OptionalIdent
part_use _ magic.Ident = Some use_at.Ident
part_use _ magic.Attrs = Some use_at.Attrs
part_use _ magic.Generics = Some use_at.Generics
part_use _ magic.Body = Some use_at.Body
part_use _ magic.Fields = Some use_at.Fields
part_use _ _ = None

module _ (host : HostSays) (program : Program) where
  -- the host offers the function where it is asked for the type
  abbrev pub offers : Option Callable → Use → Type' → Bool
  offers callable at type = host.offers (erased_decls program.decls) (option_map without_places callable) (erased_place (record { at = at; ty = type }))

  abbrev pub unoffered : Use → Type' → Option Callable → List Span
  unoffered at type None = []
  unoffered at type (Some callable) = refused_unless (offers (Some callable) at type) (expr_span callable.call)

  -- the type that the function takes, or none
  abbrev pub taken : PostfixTransform → Option Type'
  taken post = host.takes (erased_path post.function)

  -- what is called on a value of the type
  abbrev pub unoffered_post : Type' → PostfixTransform → List Span
  unoffered_post type post = refused_unless (offers (Some (called post.function)) (transform_use post) type) (path_span post.function)

  -- that of a field, which takes a value of a type that the host names
  abbrev pub unknown_post : Type' → Option PostfixTransform → List Span
  unknown_post type None = []
  unknown_post type (Some post) =
      refused_unless (is_some (taken post) && offers (Some (called post.function)) (transform_use post) type) (path_span post.function)

  -- the type that items are read at
  abbrev pub converted : Option PostfixTransform → Type' → Type'
  converted None type = type
  converted (Some post) type = unwrap_or (taken post) type

  -- the functions of an arm, whose slot gets values of the type
  abbrev pub unoffered_arm : Arm → Type' → List Span
  unoffered_arm arm type = unoffered use_at.With (converted arm.post type) arm.with ++ unknown_post type arm.post

  -- the type of one value of a field
  abbrev pub value_type : Bool → Type' → Type'
  value_type many type = if many then element (setting_of host program) type else type

  abbrev pub unoffered_read : Arm → Option Field → List Span
  unoffered_read arm None = []
  unoffered_read arm (Some field) = unoffered_arm arm (value_type arm.many field.ty)

  abbrev pub unoffered_member : Init → Option Field → List Span
  unoffered_member init None = []
  unoffered_member init (Some field) = unoffered use_at.Default field.ty (fallback_call init.fallback)

  -- a callable that makes a value of the type of a field, of what is handed to it there
  abbrev pub unoffered_by : Option Use → Option Type' → Option Callable → List Span
  unoffered_by None type callable = []
  unoffered_by (Some at) None callable = []
  unoffered_by (Some at) (Some type) callable = unoffered at type callable

  -- what converts a part of the element, for the field that takes it
  abbrev pub unoffered_part : Derive → List Field → Forwarded → List Span
  unoffered_part derive declared it = unoffered_by (part_use derive it.what) (type_among declared (ident_text it.member)) it.with

  -- a callable in the place of a function; the closure of a variant is none
  abbrev pub unoffered_call : Type' → List Variant → Callable → FuncName → List Span
  unoffered_call type variants callable func.FromWord = cond (is_some (word_variant callable variants)) [] (unoffered use_at.FromWord type (Some callable))
  unoffered_call type variants callable func.FromNone = unoffered use_at.FromNone type (Some callable)
  unoffered_call type variants callable func.FromExpr = unoffered use_at.FromExpr type (Some callable)
  unoffered_call type variants callable _ = []

  -- what a unit of the derive asks whose receiver is this type and is so declared, and whose slots have these fields
  abbrev pub unoffered_ask : Derive → Type' → «Data» → List Field → Ask → List Span
  unoffered_ask derive type declared fields (Read arm) = unoffered_read arm (slice_get fields arm.slot)
  unoffered_ask derive type declared fields (Whole (sources.Explicit callable)) = unoffered use_at.Default type (Some callable)
  unoffered_ask derive type declared fields (Part it) = unoffered_part derive (fields_in declared) it
  unoffered_ask derive type declared fields (Member init) = unoffered_member init (slice_get fields init.slot)
  unoffered_ask derive type declared fields (Transform post) = unoffered_post type post
  unoffered_ask derive type declared fields (Called callable at) = unoffered_call type (variants_of declared) callable at
  unoffered_ask derive type declared fields _ = []

  -- what a unit of the derive asks that asks all this
  abbrev pub unoffered_asks : Derive → DeriveInput → List Ask → List Span
  unoffered_asks derive decl asks = flat_map (unoffered_ask derive (decl_type decl) decl.body (slot_fields asks decl.body)) asks

  abbrev pub unoffered_unit : DeriveInput → Unit' → List Span
  unoffered_unit decl unit = unoffered_asks unit.derive decl (unit_asks unit)

  -- an identifier is asked for the receiver, and makes none
  abbrev pub lacks_ident : DeriveInput → List Ask → Bool
  lacks_ident decl asks = list_any is_from_ident asks && not (offers None use_at.FromIdent (decl_type decl))

  -- in a declaration and its units: its identifier, its functions
  abbrev pub unknown_callables_in : List Unit' → DeriveInput → List Span
  unknown_callables_in units decl =
      refused_if (lacks_ident decl (asks_of units)) decl.ident.span
      ++ flat_map (unoffered_unit decl) units

  abbrev pub unknown_callables : List Span
  unknown_callables = places_from (λ number decl. unknown_callables_in (units_of program.units number) decl) 0 program.decls
