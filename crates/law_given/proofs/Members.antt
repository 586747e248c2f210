-- Options without faults leave a declaration its fields, in order, with their identifiers and types.
use Rattle.std.proofs.Common.{◌≡◌, ◌∙◌, List, [], ◌∷◌, ◌++◌, flat_map, map, Some, refl, ap, ap₂}
use Rattle.std.specs.List.{AllZip}
use Rattle.std.proofs.lemmas.List.{map-append}
use mathlib.Core.List.{append-eq-nil_iff}
use Rattle.tok_types.specs.declared.ident.Ident.{Ident}
use Rattle.node_core.specs.declared.data.Field.{Field}
use Rattle.node_core.specs.declared.data.«Data».{«Data» as NodeData}
use Rattle.node_core.specs.declared.data.«Data».TheVariants as node
use Rattle.error_fault.specs.Outcome.{Value, faults_of, on_value, settle, value_of}
use Rattle.error_fault.specs.declared.fault.Fault.{Fault}
use Rattle.body_core.specs.declared.ast.data.«Data».{«Data»}
use Rattle.body_core.specs.declared.ast.data.«Data».TheVariants as container
use Rattle.codegen_core.specs.Compiled.{fields_of as left_fields, struct_fields}
use Rattle.codegen_core.specs.declared.field.Field.{Field as Left}
use Rattle.codegen_core.specs.declared.trait_impl.TraitImpl.{TraitImpl}
use Rattle.codegen_core.specs.declared.variant.Variant.{Variant}
use Rattle.law_options.specs.Body.{Body, field_meaning, field_start, inherited, start_body, with_fields}
use Rattle.law_options.specs.Core.{Core}
use Rattle.law_options.specs.Entries.{items, option_entries}
use Rattle.law_options.specs.FieldOptions.{of_field, of_field_faults}
use Rattle.law_options.specs.InputField.{InputField}
use Rattle.law_options.specs.Meant.{fields_in}
use Rattle.law_options.specs.Members.{body_fields}
use Rattle.law_options.specs.Rows.{list_of}
use Rattle.law_options.specs.Stages.{field_faults, good_fields}
use Rattle.law_options.specs.Values.{Rules}
use Rattle.law_options.specs.Walk.{all_faults}
use Rattle.run_accepted.specs.MemberViews as views
use Rattle.run_accepted.specs.MemberViews.{IsBody, IsImpl}
use Rattle.law_given.specs.Owned.{Member, member_of}
use Rattle.law_given.proofs.Slots.{left_member}

-- ---- fields

-- the identifier and the type that options have of a field
abbrev option_member : InputField → Member
option_member it = (it.ident, it.ty)

made_alone : {A B : Type 0} (make : A → B) (faults : List Fault) (it : A) → faults_of (on_value make (settle faults (Value it))) ≡ []
    → list_of (value_of (on_value make (settle faults (Value it)))) ≡ make it ∷ []
made_alone make [] it none = refl
made_alone make (fault ∷ more) it none = cc

module _ (rules : Rules) (core : Core) where
  one_member : (field : Field) → field_faults rules core field ≡ []
      → map option_member (list_of (value_of (field_meaning rules (Some core) field))) ≡ member_of field ∷ []
  unfolding field_meaning
  one_member field none =
      let start = field_start field in
      let entries = option_entries field.attrs in
      let faults = all_faults of_field of_field_faults start [] entries in
      ap (map option_member) (made_alone (inherited rules (Some core)) faults (of_field start (items entries)) none)

  -- the fields that a container keeps, where none has a fault
  good_members : (its : List Field) → flat_map (field_faults rules core) its ≡ [] → map option_member (good_fields rules core its) ≡ map member_of its
  good_members [] none = refl
  good_members (field ∷ its) none =
      let both = (append-eq-nil_iff {p = field_faults rules core field} {q = flat_map (field_faults rules core) its}).0 none in
      map-append option_member (list_of (value_of (field_meaning rules (Some core) field))) (good_fields rules core its)
      ∙ ap₂ ◌++◌ (one_member field both.0) (good_members its both.1)

  -- those are all fields of its body
  kept : (it : NodeData) → fields_in (with_fields (start_body it) (good_fields rules core (body_fields it))) ≡ good_fields rules core (body_fields it)
  kept (node.Struct it) = refl
  kept (node.Enum it) = refl
  kept (node.Union it) = refl

  members_kept : (it : NodeData) → flat_map (field_faults rules core) (body_fields it) ≡ []
      → map option_member (fields_in (with_fields (start_body it) (good_fields rules core (body_fields it)))) ≡ map member_of (body_fields it)
  members_kept it none = ap (map option_member) (kept it) ∙ good_members (body_fields it) none

-- what is compiled from fields has their identifiers and types
left_members : (lefts : List Left) (its : List InputField) → AllZip views.IsField lefts its → map left_member lefts ≡ map option_member its
left_members [] [] zip = refl
left_members [] (it ∷ its) zip = absurd zip
left_members (left ∷ lefts) [] zip = absurd zip
left_members (left ∷ lefts) (it ∷ its) zip = ap₂ ◌∷◌ (λ k. (zip.0.ident k, zip.0.ty k)) (left_members lefts its zip.1)

body_members : (ty : Ident) (left : «Data» Variant Left) (it : Body) → IsBody ty left it → map left_member (struct_fields left) ≡ map option_member (fields_in it)
body_members ty (container.Struct left) (container.Struct it) is = left_members left.fields it.fields is.1
body_members ty (container.Struct left) (container.Enum variants) is = absurd is
body_members ty (container.Enum lefts) (container.Struct it) is = absurd is
body_members ty (container.Enum lefts) (container.Enum variants) is = refl

-- what is compiled from a struct has those of all its fields, where none has a fault
pub struct_members : (rules : Rules) (core : Core) (it : NodeData) (left : TraitImpl) (whole : Core) → IsImpl left whole
    → whole.body ≡ with_fields (start_body it) (good_fields rules core (body_fields it)) → flat_map (field_faults rules core) (body_fields it) ≡ []
    → map left_member (left_fields left) ≡ map member_of (body_fields it)
struct_members rules core it left whole is same none =
    body_members whole.ident left.body whole.body is.members ∙ ap (λ body. map option_member (fields_in body)) same ∙ members_kept rules core it none
