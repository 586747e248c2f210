-- Forms that no run supports: generics, and names that generated code has for itself.
use Rattle.std.specs.Prelude.{Bool, List, [], ◌∷◌, ◌++◌, Option, Some, None, flat_map, codes}
use Rattle.std.specs.List.{list_any}
use Rattle.std.specs.Str.{bytes_eq}
use Rattle.base_core.specs.declared.text.Text.{Text}
use Rattle.tok_types.specs.declared.ident.Ident.{Ident}
use Rattle.node_core.specs.declared.data.Field.{Field}
use Rattle.node_core.specs.declared.data.Variant.{Variant}
use Rattle.node_core.specs.declared.data.«Data».{«Data»}
use Rattle.node_core.specs.declared.data.«Data».TheVariants as body
use Rattle.node_core.specs.declared.derive.DeriveInput.{DeriveInput}
use Rattle.codegen_program.specs.declared.arm.PostfixTransform.{PostfixTransform}
use Rattle.codegen_program.specs.declared.init.DefaultSource.TheVariants as sources
use Rattle.codegen_program.specs.declared.init.Fallback.{Fallback}
use Rattle.codegen_program.specs.declared.init.Fallback.TheVariants as fallbacks
use Rattle.codegen_program.specs.declared.program.Program.{Program}
use Rattle.codegen_program.specs.declared.program.«Unit».{«Unit» as Unit'}
use Rattle.codegen_program.specs.declared.callable.Callable.{Callable}
use Rattle.node_core.specs.Bodies.{field_list}
use Rattle.codegen_core.specs.Forms.{form_if, generated_call, generated_path, is_generic}
use Rattle.codegen_core.specs.declared.form.Unsupported.{Unsupported}
use Rattle.codegen_core.specs.declared.form.Form.TheVariants as form
use Rattle.machine_forms.specs.Asks.{Ask, Read, Whole, Part, Member, Transform, Called}
use Rattle.machine_forms.specs.Places.{places_from}
use Rattle.machine_forms.specs.Units.{units_of, asks_of}

-- the names that generated code has for itself
unfoldable pub generated : List Text
generated =
    codes "__errors" ∷ codes "__items" ∷ codes "__item" ∷ codes "__flatten" ∷ codes "__fwd_attrs" ∷ codes "__attr"
    ∷ codes "__default" ∷ codes "__di" ∷ codes "__field" ∷ codes "__variant" ∷ codes "__type_param" ∷ codes "__data"
    ∷ codes "__err" ∷ codes "__path" ∷ codes "__name" ∷ codes "__other" ∷ codes "__inner" ∷ codes "__len" ∷ codes "__val"
    ∷ codes "__value" ∷ codes "__type_fallback" ∷ codes "__outer" ∷ codes "__nested" ∷ codes "__validate_body"
    ∷ codes "__body" ∷ codes "_darling" ∷ []

abbrev pub is_generated : Text → Bool
is_generated text = list_any (λ name. bytes_eq name text) generated

-- a field of such a name
abbrev pub generated_name : Option Ident → List Unsupported
generated_name None = []
generated_name (Some ident) = form_if (is_generated ident.text) form.GeneratedName ident

abbrev pub generated_field : Field → List Unsupported
generated_field field = generated_name field.ident

abbrev pub generated_variant : Variant → List Unsupported
generated_variant variant = flat_map generated_field (field_list variant.fields)

abbrev pub generated_members : «Data» → List Unsupported
generated_members (body.Struct it) = flat_map generated_field (field_list it.fields)
generated_members (body.Enum it) = flat_map generated_variant it.variants
generated_members (body.Union it) = flat_map generated_field it.fields.named

-- a path that begins with the name by which generated code calls `darling`
abbrev pub generated_callable : Option Callable → List Unsupported
generated_callable None = []
generated_callable (Some callable) = generated_call callable.call

abbrev pub generated_post : Option PostfixTransform → List Unsupported
generated_post None = []
generated_post (Some post) = generated_path post.function

-- the function of a fallback
abbrev pub fallback_call : Option Fallback → Option Callable
fallback_call (Some (fallbacks.Explicit callable)) = Some callable
fallback_call _ = None

abbrev pub generated_ask : Ask → List Unsupported
generated_ask (Read arm) = generated_callable arm.with ++ generated_post arm.post
generated_ask (Whole (sources.Explicit callable)) = generated_callable (Some callable)
generated_ask (Part it) = generated_callable it.with
generated_ask (Member init) = generated_callable (fallback_call init.fallback)
generated_ask (Transform post) = generated_path post.function
generated_ask (Called callable at) = generated_callable (Some callable)
generated_ask _ = []

-- what a declaration shows itself: at its identifier, and its fields
abbrev pub declared_forms : DeriveInput → List Unsupported
declared_forms decl = form_if (is_generic decl.generics) form.Generics decl.ident ++ generated_members decl.body

-- in a declaration and its units: what it shows itself, and functions
abbrev pub unsupported_in : List Unit' → DeriveInput → List Unsupported
unsupported_in units decl = declared_forms decl ++ flat_map generated_ask (asks_of units)

abbrev pub unsupported : Program → List Unsupported
unsupported program = places_from (λ number decl. unsupported_in (units_of program.units number) decl) 0 program.decls
