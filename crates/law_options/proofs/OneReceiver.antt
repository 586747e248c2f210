-- Two receivers of the same options compile to the same statements: those of fields, of variants, and of all of it.
use Rattle.std.proofs.Common.{◌≡◌, ◌∙◌, ℕ, suc, ◌+◌, Bool, true, false, ◌||◌, List, [], ◌∷◌, ◌++◌, length, Option, Some, None, option_map, refl, sym, ap, ap₂, subst₂}
use Rattle.std.specs.Prelude.{option_and_then, if◌then◌else◌}
use Rattle.std.specs.List.{AllZip, cons_option, list_any}
use Rattle.base_core.specs.declared.text.Text.{Text}
use Rattle.tok_types.specs.Ident.{ident_text}
use Rattle.tok_types.specs.declared.ident.Ident.{Ident}
use Rattle.node_core.specs.declared.style.Style.{Style}
use Rattle.node_core.specs.declared.style.Style.TheVariants as style
use Rattle.body_core.specs.declared.ast.data.«Data».{«Data»}
use Rattle.body_core.specs.declared.ast.data.«Data».TheVariants as body
use Rattle.codegen_program.specs.declared.forward.Forward.{Forward}
use Rattle.codegen_program.specs.declared.forwarded.Forwarded.{Forwarded}
use Rattle.codegen_core.specs.Compiled.{build, closing_with, fields_of, for_items, list_stmts, struct_fields}
use Rattle.codegen_core.specs.Defaults.{fallback, source}
use Rattle.codegen_core.specs.Fields.{arm, at_slots, check, check_without, checks_from, core_loop_from, declaration, declarations_from, fallback_of, flatten, flattens, init, inits_from, name_of, named_arm, names}
use Rattle.codegen_core.specs.Variants.{form_by, member_name, own_form, own_unit_form, proxy_of, read_name, slotted, slotted_by, sole, transparent_field, unit_arm, unit_arms, unit_form_by, variant_arm, variant_arms, variant_names, variant_stmts}
use Rattle.codegen_program.specs.declared.variant.UnitForm.TheVariants as units
use Rattle.codegen_program.specs.declared.variant.VariantForm.TheVariants as forms
use Rattle.codegen_core.specs.declared.default_expression.DefaultExpression.{DefaultExpression as Shown}
use Rattle.codegen_core.specs.declared.default_expression.DefaultExpression.TheVariants as shown
use Rattle.codegen_core.specs.declared.field.Field.{Field}
use Rattle.codegen_core.specs.declared.trait_impl.TraitImpl.{TraitImpl}
use Rattle.codegen_core.specs.declared.variant.Variant.{Variant}
use Rattle.codegen_outer.specs.CompiledOuter.{over_attributes}
use Rattle.run_accepted.specs.DefaultExpression.{DefaultExpression}
use Rattle.run_accepted.specs.DefaultExpression.TheVariants as defaults
use Rattle.run_accepted.specs.Core.{Core}
use Rattle.run_accepted.specs.InputField.{InputField}
use Rattle.run_accepted.specs.InputVariant.{InputVariant}
use Rattle.run_accepted.specs.Body.{Body}
use Rattle.run_accepted.specs.MemberViews.{AreDefaults, IsBody, IsField, IsImpl, IsVariant}

-- ---- a field

-- two defaults of the same option: a field falls back to the same, and a receiver's default comes from the same
same_default : (ident : Ident) (one : Option Shown) (it : Option DefaultExpression) (other : Option Shown) → AreDefaults ident one it → AreDefaults ident other it
    → (option_map fallback one ≡ option_map fallback other) × (option_and_then source one ≡ option_and_then source other)
same_default ident None None None are also = (refl, refl)
same_default ident (Some (shown.Inherit one)) (Some defaults.Inherit) (Some (shown.Inherit other)) are also = (cc, refl)
same_default ident (Some (shown.Explicit one)) (Some (defaults.Explicit it)) (Some (shown.Explicit other)) are also = (cc, cc)
same_default ident (Some (shown.Trait one)) (Some (defaults.Trait it)) (Some (shown.Trait other)) are also = (refl, refl)
same_default ident one it other are also = absurd (assumption)

pub record HaveSameOptions (one other : Field) : Type 0 where
  pub it : InputField
  pub are : IsField one it
  pub also : IsField other it

-- two fields of the same options give the same
module _ (one other : Field) (have : HaveSameOptions one other) where
  same_name : name_of one ≡ name_of other
  same_name = cc

  same_fallback : fallback_of one ≡ fallback_of other
  same_fallback = (same_default have.it.ident one.default_expression have.it.default other.default_expression have.are.default have.also.default).0

  module _ (slot : ℕ) where
    same_declaration : declaration slot one ≡ declaration slot other
    same_declaration = cc

    same_named_arm : (name : Option Text) → named_arm slot one name ≡ named_arm slot other name
    same_named_arm None = refl
    same_named_arm (Some name) = cc

    same_arm : arm slot one ≡ arm slot other
    same_arm = same_named_arm (name_of one) ∙ ap (named_arm slot other) same_name

    same_check_without : (left right : Option Shown) → option_map fallback left ≡ option_map fallback right
        → check_without left slot one ≡ check_without right slot other
    same_check_without None None same = cc
    same_check_without (Some left) (Some right) same = refl
    same_check_without left right same = cc

    same_check : check slot one ≡ check slot other
    same_check = cc (same_check_without one.default_expression other.default_expression same_fallback)

    same_init : init slot one ∷ [] ≡ init slot other ∷ []
    same_init = cc same_fallback

-- ---- all fields

-- fields of the same list of options have the same options, place by place
pub both_have : (its : List InputField) (ones others : List Field) → AllZip IsField ones its → AllZip IsField others its
    → AllZip HaveSameOptions ones others
both_have [] [] [] are also = tt
both_have (it ∷ its) (one ∷ ones) (other ∷ others) are also =
    (record { it = it; are = are.0; also = also.0 }, both_have its ones others are.1 also.1)
both_have its ones others are also = absurd (assumption)

bodies_have : (ty : Ident) (one : «Data» Variant Field) (it : Body) (other : «Data» Variant Field) → IsBody ty one it → IsBody ty other it
    → AllZip HaveSameOptions (struct_fields one) (struct_fields other)
bodies_have ty (body.Struct one) (body.Struct it) (body.Struct other) are also = both_have it.fields one.fields other.fields are.1 also.1
bodies_have ty (body.Enum ones) (body.Enum its) (body.Enum others) are also = tt
bodies_have ty one it other are also = absurd (assumption)

-- what two fields of the same options give, all fields give
module _ {A : Type 0} (give : ℕ → Field → List A) (same : (one other : Field) → HaveSameOptions one other → (slot : ℕ) → give slot one ≡ give slot other) where
  same_slots : (slot : ℕ) (ones others : List Field) → AllZip HaveSameOptions ones others → at_slots give slot ones ≡ at_slots give slot others
  same_slots slot [] [] have = refl
  same_slots slot (one ∷ ones) (other ∷ others) have =
      ap₂ (λ given more. given ++ more) (same one other have.0 slot) (same_slots (slot + 1) ones others have.1)
  same_slots slot ones others have = absurd have

same_names : (ones others : List Field) → AllZip HaveSameOptions ones others → names ones ≡ names others
same_names [] [] have = refl
same_names (one ∷ ones) (other ∷ others) have = ap₂ cons_option (same_name one other have.0) (same_names ones others have.1)
same_names ones others have = absurd have

same_any : (ones others : List Field) → AllZip HaveSameOptions ones others → list_any (λ field. field.flatten) ones ≡ list_any (λ field. field.flatten) others
same_any [] [] have = refl
same_any (one ∷ ones) (other ∷ others) have = ap₂ (λ first more. first || more) (have.0.are.flatten ∙ sym have.0.also.flatten) (same_any ones others have.1)
same_any ones others have = absurd have

-- all fields compile to the same
module _ (ones others : List Field) (have : AllZip HaveSameOptions ones others) where
  pub same_declarations : (slot : ℕ) → declarations_from slot ones ≡ declarations_from slot others
  same_declarations slot = same_slots declaration same_declaration slot ones others have

  same_core_loop : (slot : ℕ) (allow_unknown_fields : Bool) → core_loop_from slot allow_unknown_fields ones ≡ core_loop_from slot allow_unknown_fields others
  same_core_loop slot allow_unknown_fields =
      cc (same_slots arm same_arm slot ones others have, same_any ones others have, same_names ones others have)

  same_flattens : flattens ones ≡ flattens others
  same_flattens =
      ap (λ siblings. at_slots (flatten siblings) 0 ones) (same_names ones others have)
      ∙ same_slots (flatten (names others)) (λ one other both slot. cc) 0 ones others have

  same_checks : (slot : ℕ) → checks_from slot ones ≡ checks_from slot others
  same_checks slot = same_slots check same_check slot ones others have

  same_inits : (slot : ℕ) → inits_from slot ones ≡ inits_from slot others
  same_inits slot = same_slots (λ slot field. init slot field ∷ []) same_init slot ones others have

same_length : (ones others : List Field) → AllZip HaveSameOptions ones others → length ones ≡ length others
same_length [] [] have = refl
same_length (one ∷ ones) (other ∷ others) have = ap (λ count. suc count) (same_length ones others have.1)
same_length ones others have = absurd have

-- ---- the field as which a struct or a variant is read

-- there are two of the same options, or there is none
abbrev pub SameProxy : Option Field → Option Field → Type 0
SameProxy None None = Unit {0}
SameProxy (Some one) (Some other) = HaveSameOptions one other
SameProxy _ _ = ⊥

same_sole : (ones others : List Field) → AllZip HaveSameOptions ones others → SameProxy (sole ones) (sole others)
same_sole [] [] have = tt
same_sole (one ∷ []) (other ∷ []) have = have.0
same_sole (one ∷ another ∷ ones) (other ∷ next ∷ others) have = tt
same_sole ones others have = absurd (assumption)

pub same_proxy : (transparent : Bool) (it : Style) (ones others : List Field) → AllZip HaveSameOptions ones others
    → SameProxy (transparent_field transparent it ones) (transparent_field transparent it others)
same_proxy transparent style.Tuple ones others have = same_sole ones others have
same_proxy true style.Struct ones others have = same_sole ones others have
same_proxy false style.Struct ones others have = tt
same_proxy transparent style.Unit ones others have = tt

pub same_member : (it : Style) (one other : Field) → HaveSameOptions one other → member_name it one ≡ member_name it other
same_member style.Tuple one other have = refl
same_member style.Struct one other have = ap ident_text (have.are.ident ∙ sym have.also.ident)
same_member style.Unit one other have = ap ident_text (have.are.ident ∙ sym have.also.ident)

-- ---- a variant

pub record HaveSameVariant (one other : Variant) : Type 0 where
  ty : Ident
  it : InputVariant
  are : IsVariant ty one it
  also : IsVariant ty other it

-- two variants of the same options give the same
module _ (one other : Variant) (have : HaveSameVariant one other) where
  members_have : AllZip HaveSameOptions one.body.fields other.body.fields
  members_have = both_have have.it.body.fields one.body.fields other.body.fields have.are.fields have.also.fields

  same_style : one.body.style ≡ other.body.style
  same_style = have.are.style ∙ sym have.also.style

  proxies : SameProxy (proxy_of one) (proxy_of other)
  proxies =
      let P : Style → Bool → Type 0 = λ it transparent. SameProxy (proxy_of one) (transparent_field transparent it other.body.fields) in
      subst₂ P same_style (have.are.transparent ∙ sym have.also.transparent)
      (same_proxy one.transparent one.body.style one.body.fields other.body.fields members_have)

  same_stmts : (slot : ℕ) → variant_stmts slot one ≡ variant_stmts slot other
  same_stmts slot =
      let ones = one.body.fields in
      let others = other.body.fields in
      let declarations = same_declarations ones others members_have slot in
      let loop = same_core_loop ones others members_have slot one.allow_unknown_fields in
      let checks = same_checks ones others members_have slot in
      let inits = same_inits ones others members_have slot in
      cc (declarations, loop, checks, inits)

  same_own : (it : Style) (slot : ℕ) → own_form it slot one ≡ own_form it slot other
  same_own style.Tuple slot = ap forms.Struct (same_stmts slot)
  same_own style.Struct slot = ap forms.Struct (same_stmts slot)
  same_own style.Unit slot = refl

  same_form : (left right : Option Field) → SameProxy left right → (slot : ℕ) → form_by left slot one ≡ form_by right slot other
  same_form None None same slot = same_own one.body.style slot ∙ ap (λ it. own_form it slot other) same_style
  same_form (Some left) (Some right) same slot =
      ap₂ forms.Transparent (same_member one.body.style left right same ∙ ap (λ it. member_name it right) same_style) (same.are.ty ∙ sym same.also.ty)
  same_form left right same slot = absurd (assumption)

  same_unit_form : (left right : Option Field) → SameProxy left right → unit_form_by left one.body.style ≡ unit_form_by right other.body.style
  same_unit_form None None same = ap own_unit_form same_style
  same_unit_form (Some left) (Some right) same =
      ap₂ units.Transparent (same_member one.body.style left right same ∙ ap (λ it. member_name it right) same_style) (same.are.ty ∙ sym same.also.ty)
  same_unit_form left right same = absurd (assumption)

  same_data_arm : (slot : ℕ) → variant_arm slot one ≡ variant_arm slot other
  same_data_arm slot = cc (same_form (proxy_of one) (proxy_of other) proxies slot)

  same_unit_arm : unit_arm one ≡ unit_arm other
  same_unit_arm = cc (same_unit_form (proxy_of one) (proxy_of other) proxies)

  same_read_name : read_name one ≡ read_name other
  same_read_name = cc

  count_by : (skip : Bool) (left right : Option Field) → SameProxy left right
      → length (if skip then [] else slotted_by left one.body.fields) ≡ length (if skip then [] else slotted_by right other.body.fields)
  count_by true left right same = refl
  count_by false None None same = same_length one.body.fields other.body.fields members_have
  count_by false (Some left) (Some right) same = refl
  count_by false left right same = absurd (assumption)

  same_count : length (slotted one) ≡ length (slotted other)
  same_count =
      count_by one.skip (proxy_of one) (proxy_of other) proxies
      ∙ ap (λ skip. length (if skip then [] else slotted_by (proxy_of other) other.body.fields)) (have.are.skip ∙ sym have.also.skip)

-- ---- all variants

pub variants_have : (ty : Ident) (its : List InputVariant) (ones others : List Variant) → AllZip (IsVariant ty) ones its → AllZip (IsVariant ty) others its
    → AllZip HaveSameVariant ones others
variants_have ty [] [] [] are also = tt
variants_have ty (it ∷ its) (one ∷ ones) (other ∷ others) are also =
    (record { ty = ty; it = it; are = are.0; also = also.0 }, variants_have ty its ones others are.1 also.1)
variants_have ty its ones others are also = absurd (assumption)

pub same_data_arms : (slot : ℕ) (ones others : List Variant) → AllZip HaveSameVariant ones others → variant_arms slot ones ≡ variant_arms slot others
same_data_arms slot [] [] have = refl
same_data_arms slot (one ∷ ones) (other ∷ others) have =
    ap₂ ◌++◌ (same_data_arm one other have.0 slot)
    (ap (λ count. variant_arms (slot + count) ones) (same_count one other have.0) ∙ same_data_arms (slot + length (slotted other)) ones others have.1)
same_data_arms slot ones others have = absurd have

pub same_unit_arms : (ones others : List Variant) → AllZip HaveSameVariant ones others → unit_arms ones ≡ unit_arms others
same_unit_arms [] [] have = refl
same_unit_arms (one ∷ ones) (other ∷ others) have = ap₂ ◌++◌ (same_unit_arm one other have.0) (same_unit_arms ones others have.1)
same_unit_arms ones others have = absurd have

pub same_variant_names : (ones others : List Variant) → AllZip HaveSameVariant ones others → variant_names ones ≡ variant_names others
same_variant_names [] [] have = refl
same_variant_names (one ∷ ones) (other ∷ others) have = ap₂ cons_option (same_read_name one other have.0) (same_variant_names ones others have.1)
same_variant_names ones others have = absurd have

-- ---- a receiver

-- two receivers of the same options compile to the same statements
module _ (one other : TraitImpl) (it : Core) (are : IsImpl one it) (also : IsImpl other it) where
  pub fields_have : AllZip HaveSameOptions (fields_of one) (fields_of other)
  fields_have = bodies_have it.ident one.body it.body other.body are.members also.members

  same_for_items : for_items one ≡ for_items other
  same_for_items = cc (same_core_loop (fields_of one) (fields_of other) fields_have 0 one.allow_unknown_fields)

  pub same_build : build one ≡ build other
  same_build = cc (same_inits (fields_of one) (fields_of other) fields_have 0)

  pub same_closing : (parts : List Forwarded) (from_ident : Bool) → closing_with parts from_ident one ≡ closing_with parts from_ident other
  same_closing parts from_ident =
      let flattens = same_flattens (fields_of one) (fields_of other) fields_have in
      let checks = same_checks (fields_of one) (fields_of other) fields_have 0 in
      let inits = same_inits (fields_of one) (fields_of other) fields_have 0 in
      let default = same_default it.ident one.default it.default other.default are.default also.default in
      cc (flattens, checks, inits, default.1)

  pub same_list : list_stmts one ≡ list_stmts other
  same_list = cc (same_declarations (fields_of one) (fields_of other) fields_have 0, same_for_items, same_closing [] false)

  pub same_over_attributes : (paths : List Text) (keep : Forward) → over_attributes paths keep one ≡ over_attributes paths keep other
  same_over_attributes [] keep = refl
  same_over_attributes (path ∷ paths) keep = cc same_for_items
