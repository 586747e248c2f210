-- Declarations without attributes repeat the same names.
use Rattle.std.proofs.Common.{◌≡◌, ◌∙◌, ◌||◌, ℕ, Bool, false, List, ◌++◌, map, take, ap, ap₂, refl}
use mathlib.Core.List.{map-map}
use Rattle.tok_types.specs.declared.ident.Ident.{Ident}
use Rattle.node_core.specs.declared.data.Field.{Field}
use Rattle.node_core.specs.declared.data.Fields.{Fields}
use Rattle.node_core.specs.declared.data.Fields.TheVariants as fields
use Rattle.node_core.specs.declared.data.Variant.{Variant}
use Rattle.node_core.specs.declared.data.«Data».{«Data»}
use Rattle.node_core.specs.declared.data.«Data».TheVariants as body
use Rattle.node_core.specs.declared.derive.DeriveInput.{DeriveInput}
use Rattle.codegen_program.specs.declared.program.«Unit».{«Unit» as Unit'}
use Rattle.machine_host.specs.Decls.{decl_names}
use Rattle.node_core.specs.Bodies.{field_list}
use Rattle.machine_forms.specs.Names.{field_names, has_name, names_in, repeated, repeated_field, repeated_fields, repeated_members, repeated_names, repeated_variants, variant_names}
use Rattle.machine_forms.specs.Places.{refused_if}
use Rattle.machine_forms.specs.Units.{has_twins}
use Rattle.machine_forms.proofs.Steps.{places_from-same}
use Rattle.run_accepted.specs.Attributes.{body_without, field_without, fields_without, variant_without, without_attributes}
use Rattle.run_accepted.proofs.ListLemmas.{filter_map-map}
use Rattle.run_accepted.proofs.PlaceLemmas.{places_from-changed}

same_fields : (its : List Field) → repeated_fields (map field_without its) ≡ repeated_fields its
same_fields =
    places_from-changed field_without (λ before field. repeated_field (has_name (field_names before)) field.ident)
    (λ before field. ap (λ names. repeated_field (has_name names) field.ident) (filter_map-map (λ (it : Field). it.ident) field_without before))

list_of-without : (it : Fields) → field_list (fields_without it) ≡ map field_without (field_list it)
list_of-without (fields.Named it) = refl
list_of-without (fields.Unnamed it) = refl
list_of-without fields.Unit = refl

same_body : (it : Fields) → repeated_fields (field_list (fields_without it)) ≡ repeated_fields (field_list it)
same_body it = ap repeated_fields (list_of-without it) ∙ same_fields (field_list it)

same_variants : (its : List Variant) → repeated_variants (map variant_without its) ≡ repeated_variants its
same_variants =
    places_from-changed variant_without
    (λ before variant. repeated (has_name (variant_names before)) variant.ident ++ repeated_fields (field_list variant.fields))
    (λ before variant.
    ap₂ (λ names places. repeated (has_name names) variant.ident ++ places) (map-map (λ (it : Variant). it.ident) variant_without before)
    (same_body variant.fields))

same_members : (it : «Data») → repeated_members (body_without it) ≡ repeated_members it
same_members (body.Struct it) = same_body it.fields
same_members (body.Enum it) = same_variants it.variants
same_members (body.Union it) = same_fields it.fields.named

-- names that stand twice stand twice in declarations without attributes, and no others do
pub same_names : (decls : List DeriveInput) → repeated_names (map without_attributes decls) ≡ repeated_names decls
same_names =
    places_from-changed without_attributes
    (λ before decl. refused_if (false || has_name (decl_names before) decl.ident.text) decl.ident.span ++ repeated_members decl.body)
    (λ before decl.
    ap₂ (λ (names : List Ident) places. refused_if (has_name names decl.ident.text) decl.ident.span ++ places)
    (map-map (λ (it : DeriveInput). it.ident) without_attributes before)
    (same_members decl.body))

-- where no declaration derives a trait twice, only names are repeated
pub only_names : (units : ℕ → List Unit') (decls : List DeriveInput) → ((number : ℕ) → has_twins (units number) ≡ false) → names_in units decls ≡ repeated_names decls
only_names units decls single =
    places_from-same
    (λ number decl. refused_if (has_twins (units number) || has_name (decl_names (take number decls)) decl.ident.text) decl.ident.span ++ repeated_members decl.body)
    (λ number decl. refused_if (has_name (decl_names (take number decls)) decl.ident.text) decl.ident.span ++ repeated_members decl.body)
    0 decls
    (λ number decl lt.
    ap (λ (twins : Bool). refused_if (twins || has_name (decl_names (take number decls)) decl.ident.text) decl.ident.span ++ repeated_members decl.body)
    (single number))
