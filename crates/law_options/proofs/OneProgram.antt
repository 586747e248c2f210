-- Two programs of the same declarations are equal, since a unit depends on no more than what its options fix.
use Rattle.std.proofs.Common.{◌≡◌, ◌∙◌, ℕ, List, [], ◌∷◌, Option, Some, None, refl, sym, ap₂}
use Rattle.std.specs.List.{AllZip}
use Rattle.std.specs.Option.{option_copied}
use Rattle.node_core.specs.declared.derive.DeriveInput.{DeriveInput}
use Rattle.node_core.specs.declared.style.Style.{Style}
use Rattle.node_core.specs.declared.style.Style.TheVariants as style
use Rattle.body_core.specs.declared.ast.data.«Data».{«Data»}
use Rattle.body_core.specs.declared.ast.data.«Data».TheVariants as body
use Rattle.codegen_program.specs.declared.program.Derive.{Derive}
use Rattle.codegen_program.specs.declared.program.Derive.TheVariants as derive
use Rattle.codegen_program.specs.declared.program.Program.{Program}
use Rattle.codegen_program.specs.declared.program.«Unit».{«Unit» as Unit'}
use Rattle.codegen_core.specs.Compiled.{call_funcs, funcs_by, funcs_in, list_funcs, meta_funcs, own_funcs}
use Rattle.codegen_core.specs.Variants.{transparent_field}
use Rattle.codegen_core.specs.declared.field.Field.{Field}
use Rattle.codegen_core.specs.declared.from_meta_impl.FromMetaImpl.{FromMetaImpl}
use Rattle.codegen_core.specs.declared.variant.Variant.{Variant}
use Rattle.codegen_outer.specs.Outer.{attributes_outer, field_outer, input_outer, type_param_outer, variant_outer}
use Rattle.options_core.specs.FromMetaOptions.{FromMetaOptions}
use Rattle.run_accepted.specs.Body.{Body}
use Rattle.run_accepted.specs.MemberViews.{IsBody}
use Rattle.options_core.specs.MetaViews.{IsMetaImpl}
use Rattle.run_accepted.specs.Values.{Rules}
use Rattle.options_core.specs.Readers.{attributes_reader}
use Rattle.options_core.specs.Stages.{options_of}
use Rattle.run_accepted.specs.Compiled.{IsUnit, IsUnitUnder}
use Rattle.run_accepted.specs.Pairs.{Pair, pairs_from}
use Rattle.law_options.specs.Claims.{ProgramIsOne}
use Rattle.law_options.proofs.OneReceiver.{SameProxy, both_have, same_build, same_data_arms, same_list, same_member, same_proxy, same_unit_arms, same_variant_names, variants_have}
use Rattle.law_options.proofs.OneElement.{same_attributes_outer, same_field_outer, same_input_outer, same_type_param_outer, same_unit, same_variant_outer}

-- ---- what reads items

-- two receivers of the same options of `FromMeta` compile to the same functions
module _ (one other : FromMetaImpl) (it : FromMetaOptions) (are : IsMetaImpl one it) (also : IsMetaImpl other it) where
  same_calls : call_funcs one ≡ call_funcs other
  same_calls =
      let word : one.from_word ≡ other.from_word = are.word ∙ sym also.word in
      let none : option_copied one.from_none ≡ option_copied other.from_none = are.none ∙ sym also.none in
      let expr : option_copied one.from_expr ≡ option_copied other.from_expr = are.expr ∙ sym also.expr in
      cc

  same_list_funcs : list_funcs one ≡ list_funcs other
  same_list_funcs = cc (same_calls, same_list one.base other.base it.base are.base also.base)

  same_own_funcs : (it : Style) → own_funcs it one ≡ own_funcs it other
  same_own_funcs style.Tuple = same_list_funcs
  same_own_funcs style.Struct = same_list_funcs
  same_own_funcs style.Unit = cc (same_build one.base other.base it.base are.base also.base)

  same_funcs_by : (left right : Option Field) → SameProxy left right → (it : Style) → funcs_by left it one ≡ funcs_by right it other
  same_funcs_by None None same style = same_own_funcs style
  same_funcs_by (Some left) (Some right) same style =
      let ident : one.base.ident.now ≡ other.base.ident.now = are.base.ident ∙ sym also.base.ident in
      let ty : left.ty.now ≡ right.ty.now = same.are.ty ∙ sym same.also.ty in
      cc (same_member style left right same)
  same_funcs_by left right same style = absurd (assumption)

  same_transparent : one.base.transparent ≡ other.base.transparent
  same_transparent = are.base.transparent ∙ sym also.base.transparent

  same_funcs_in : (left : «Data» Variant Field) (whole : Body) (right : «Data» Variant Field) → IsBody it.base.ident left whole → IsBody it.base.ident right whole
      → funcs_in one left ≡ funcs_in other right
  same_funcs_in (body.Struct left) (body.Struct whole) (body.Struct right) left_is right_is =
      let have = both_have whole.fields left.fields right.fields left_is.1 right_is.1 in
      let proxy = same_proxy one.base.transparent left.style left.fields right.fields have in
      same_funcs_by (transparent_field one.base.transparent left.style left.fields) (transparent_field one.base.transparent left.style right.fields) proxy left.style
      ∙ ap₂ (λ transparent style. funcs_by (transparent_field transparent style right.fields) style other) same_transparent (left_is.0 ∙ sym right_is.0)
  same_funcs_in (body.Enum lefts) (body.Enum whole) (body.Enum rights) left_is right_is =
      let have = variants_have it.base.ident whole lefts rights left_is right_is in
      cc (same_data_arms 0 lefts rights have, same_unit_arms lefts rights have, same_variant_names lefts rights have, same_calls)
  same_funcs_in left whole right left_is right_is = absurd (assumption)

  same_funcs : meta_funcs one ≡ meta_funcs other
  same_funcs = same_funcs_in one.base.body it.base.body other.base.body are.base.members also.base.members

-- ---- a program

-- two units of the same declaration and derive are equal
module _ (rules : Rules) where
  unit_is_one : (number : ℕ) (decl : DeriveInput) (derive : Derive) (one other : Unit') → IsUnitUnder rules number decl derive one
      → IsUnitUnder rules number decl derive other → one ≡ other
  unit_is_one number decl derive.FromMeta one other (left, are, one_is) (right, also, other_is) = cc (same_funcs left right _ are also)
  unit_is_one number decl derive.FromAttributes one other (left, are, one_is) (right, also, other_is) =
      let options = options_of (attributes_reader rules decl) decl in
      one_is ∙ same_unit (attributes_outer left) (attributes_outer right) (same_attributes_outer left right options are also) number ∙ sym other_is
  unit_is_one number decl derive.FromDeriveInput one other (left, are, one_is) (right, also, other_is) =
      one_is ∙ same_unit (input_outer left) (input_outer right) (same_input_outer left right _ are also) number ∙ sym other_is
  unit_is_one number decl derive.FromField one other (left, are, one_is) (right, also, other_is) =
      one_is ∙ same_unit (field_outer left) (field_outer right) (same_field_outer left right _ are also) number ∙ sym other_is
  unit_is_one number decl derive.FromTypeParam one other (left, are, one_is) (right, also, other_is) =
      one_is ∙ same_unit (type_param_outer left) (type_param_outer right) (same_type_param_outer left right _ are also) number ∙ sym other_is
  unit_is_one number decl derive.FromVariant one other (left, are, one_is) (right, also, other_is) =
      one_is ∙ same_unit (variant_outer left) (variant_outer right) (same_variant_outer left right _ are also) number ∙ sym other_is

  units_are_one : (pairs : List Pair) (ones others : List Unit') → AllZip (IsUnit rules) pairs ones → AllZip (IsUnit rules) pairs others → ones ≡ others
  units_are_one [] [] [] are also = refl
  units_are_one (it ∷ pairs) (one ∷ ones) (other ∷ others) are also =
      ap₂ ◌∷◌ (unit_is_one it.number it.decl it.derive one other are.0 also.0) (units_are_one pairs ones others are.1 also.1)
  units_are_one pairs ones others are also = absurd (assumption)

pub program_is_one : ProgramIsOne
program_is_one rules decls one other is also =
    let make : List DeriveInput → List Unit' → Program = λ decls units. record { decls = decls; units = units } in
    ap₂ make (is.bare ∙ sym also.bare) (units_are_one rules (pairs_from 0 decls) one.units other.units is.units also.units)
