-- A unit that options give is one that options without a fault leave.
use Rattle.std.proofs.Common.{◌≡◌, ◌∙◌, ℕ, Bool, true, false, ◌&&◌, List, [], ◌∷◌, Option, Some, None, option_map, refl, sym, ap, subst, inl, inr}
use Rattle.std.specs.List.{AllByRecursion, AllZip}
use Rattle.tok_types.specs.Ident.{ident_text}
use Rattle.node_core.specs.declared.derive.DeriveInput.{DeriveInput}
use Rattle.codegen_program.specs.declared.program.Derive.{Derive}
use Rattle.codegen_program.specs.declared.program.Derive.TheVariants as derive
use Rattle.codegen_program.specs.declared.program.«Unit».{«Unit» as Unit'}
use Rattle.node_core.specs.declared.style.Style.{Style}
use Rattle.node_core.specs.declared.style.Style.TheVariants as style
use Rattle.body_core.specs.declared.ast.data.«Data».{«Data»}
use Rattle.body_core.specs.declared.ast.data.«Data».TheVariants as body
use Rattle.codegen_core.specs.Compiled.{HasNamedFields, IsPlain, compiled_meta, fields_of, struct_fields}
use Rattle.codegen_core.specs.Variants.{transparent_field}
use Rattle.codegen_core.specs.Defaults.{fallback as falls}
use Rattle.codegen_core.specs.declared.default_expression.DefaultExpression.{DefaultExpression}
use Rattle.codegen_core.specs.declared.default_expression.DefaultExpression.TheVariants as defaults
use Rattle.codegen_core.specs.declared.field.Field.{Field}
use Rattle.codegen_core.specs.declared.trait_impl.TraitImpl.{TraitImpl}
use Rattle.codegen_core.specs.declared.variant.Variant.{Variant}
use Rattle.codegen_outer.specs.CompiledOuter.{compiled_derive_input}
use Rattle.law_options.specs.Values.{Rules}
use Rattle.run_accepted.specs.Compiled.{IsUnitUnder}
use Rattle.run_accepted.specs.Plain.{IsPlainDecl, IsPlainUnder}
use Rattle.run_accepted.proofs.PlainLemmas.{meta_is_listed}
use Rattle.run_accepted.proofs.UnitLemmas.{number_is}
use Rattle.law_machine.specs.Compiles.{IsDecl, IsField, meant_fallback}
use Rattle.law_machine.specs.Decl.{BodyDecl, Decl, FieldDecl, Shape, Single, Many, Flat, Default, ByType, ByCall, fallback_by, is_flat, is_many, skip_fallback}
use Rattle.law_machine.specs.Left.{IsLeft, IsLeftBody, IsLeftDefault, IsLeftField, IsLeftForm, IsLeftUnit, whole_default}
use Rattle.law_options.proofs.Declared.{decl_is, input_options_are, meta_own, meta_whole_is}
use Rattle.run_accepted.specs.Stages.{container_options, meta_reader, options_of}
use Rattle.law_options.proofs.Idents.{no_ident}
use Rattle.law_options.proofs.Parts.{is_bare}

-- ---- fields

-- a shape is one of three
one_shape : (shape : Shape) → (is_many shape && is_flat shape) ≡ false
one_shape Single = refl
one_shape Many = refl
one_shape Flat = refl

not_skipped : (skip : Bool) → None ≡ skip_fallback skip → skip ≡ false
not_skipped true is = cc
not_skipped false is = refl

module _ (left : Field) (field : FieldDecl) (member : ident_text left.ident.now ≡ field.member) (skip : left.skip ≡ field.skip) where
  -- where a field falls back to what the declaration says, its default is one that options leave
  default_is : (whole own : Option Default) (default : Option DefaultExpression)
      → option_map meant_fallback (option_map falls default) ≡ fallback_by field whole own → IsLeftDefault left whole default
  default_is whole (Some ByType) None is = absurd cc
  default_is whole (Some (ByCall call)) None is = absurd cc
  default_is (Some default) None None is = absurd cc
  default_is None None None is = skip ∙ not_skipped field.skip is
  default_is whole (Some ByType) (Some (defaults.Inherit ident)) is = absurd cc
  default_is whole (Some (ByCall call)) (Some (defaults.Inherit ident)) is = absurd cc
  default_is (Some default) None (Some (defaults.Inherit ident)) is = let same : ident_text ident.now ≡ field.member = cc in same ∙ sym member
  default_is None None (Some (defaults.Inherit ident)) is = absurd (no_member field.skip is)
    where
      no_member : (skipped : Bool) → option_map meant_fallback (option_map falls (Some (defaults.Inherit ident))) ≡ skip_fallback skipped → ⊥
      no_member true none = cc
      no_member false none = cc
  default_is whole own (Some (defaults.Explicit call)) is = tt
  default_is whole own (Some (defaults.Trait span)) is = tt

module _ (body : BodyDecl) where
  field_is : (left : Field) (field : FieldDecl) → IsField body left field → IsLeftField body.default left
  field_is left field is =
      record {
        one_shape = (λ k. is.many k && is.flat k) ∙ one_shape field.shape;
        default = default_is left field is.member is.skip body.default field.default left.default_expression is.fallback;
      }

  fields_are : (lefts : List Field) (fields : List FieldDecl) → AllZip (IsField body) lefts fields → AllByRecursion (IsLeftField body.default) lefts
  fields_are [] [] zip = tt
  fields_are [] (field ∷ fields) zip = absurd zip
  fields_are (left ∷ lefts) [] zip = absurd zip
  fields_are (left ∷ lefts) (field ∷ fields) zip = (field_is left field zip.0, fields_are lefts fields zip.1)

-- what options leave of a declaration that they mean is such as options without a fault leave
pub is_left : (left : TraitImpl) (decl : Decl) → IsDecl left decl → IsLeft left
is_left left decl is =
    subst (λ whole. AllByRecursion (IsLeftField whole) (fields_of left)) (sym is.default) (fields_are decl.body (fields_of left) decl.body.fields is.fields)

-- so is its body, where it is a struct that is read field by field
plain_is_left : (left : TraitImpl) (it : «Data» Variant Field) → left.body ≡ it → IsPlain left → IsLeft left → IsLeftBody left it
plain_is_left left (body.Struct it) same plain is =
    let styled : it.style ≡ style.Struct = let P : «Data» Variant Field → Type 0 = λ some. HasNamedFields some in subst P same plain.0 in
    let P : Bool → Type 0 = λ transparent. IsLeftForm (whole_default left) (transparent_field transparent it.style it.fields) it.style it.fields in
    let Q : Style → Type 0 = λ how. IsLeftForm (whole_default left) (transparent_field false how it.fields) how it.fields in
    let R : «Data» Variant Field → Type 0 = λ some. AllByRecursion (IsLeftField (whole_default left)) (struct_fields some) in
    subst P (sym plain.1) (subst Q (sym styled) (subst R same is))
plain_is_left left (body.Enum variants) same plain is =
    absurd (let P : «Data» Variant Field → Type 0 = λ some. HasNamedFields some in subst P same plain.0)

-- ---- units

module _ (rules : Rules) where
  pub unit_is_left : (number : ℕ) (decl : DeriveInput) (it : Derive) (unit : Unit') → IsPlainDecl decl → IsPlainUnder decl it
      → IsUnitUnder rules number decl it unit → IsLeftUnit unit
  unit_is_left number decl derive.FromMeta unit plain built (left, is, compiled) =
      let own = number_is rules number decl derive.FromMeta unit (left, is, compiled) in
      let listed = meta_is_listed rules decl left plain is in
      let options = options_of (meta_reader rules decl) decl in
      let kept = meta_whole_is rules (container_options (meta_reader rules decl) decl).base decl.body (meta_own rules decl) refl in
      inl (left, compiled ∙ ap (compiled_meta left) (sym own), plain_is_left left.base left.base.body refl listed.plain (is_left left.base _ (decl_is left.base options.base number [] is.base kept)))
  unit_is_left number decl derive.FromDeriveInput unit plain built (left, is, compiled) =
      let own = number_is rules number decl derive.FromDeriveInput unit (left, is, compiled) in
      let bare = is_bare rules decl built left is in
      let ident : left.outer.from_ident ≡ false = is.outer.from_ident ∙ no_ident rules decl built.built in
      let meant = input_options_are rules decl left number is bare ident in
      inr (left, compiled ∙ ap (compiled_derive_input left) (sym own), is_left left.outer.base _ meant.base, bare, ident)
  unit_is_left number decl derive.FromAttributes unit plain built is = absurd built
  unit_is_left number decl derive.FromField unit plain built is = absurd built
  unit_is_left number decl derive.FromTypeParam unit plain built is = absurd built
  unit_is_left number decl derive.FromVariant unit plain built is = absurd built
