-- What is compiled from the options of `FromMeta` is of the declaration that they mean, where they leave it so.
use Rattle.std.proofs.Common.{◌≡◌, ◌∙◌, ℕ, Bool, true, false, not, cond, List, [], ◌∷◌, map, Option, Some, None, option_map, refl, sym, ap, ap₂, subst}
use Rattle.std.specs.Prelude.{is_some}
use Rattle.std.specs.List.{AllByRecursion, AllZip}
use Rattle.base_core.specs.declared.text.Text.{Text}
use Rattle.tok_types.specs.Ident.{ident_text}
use Rattle.tok_types.specs.declared.ident.Ident.{Ident}
use Rattle.node_core.specs.declared.data.Variant.{Variant as Declared}
use Rattle.node_core.specs.declared.style.Style.{Style}
use Rattle.node_core.specs.declared.style.Style.TheVariants as style
use Rattle.body_core.specs.declared.ast.data.«Data».{«Data»}
use Rattle.body_core.specs.declared.ast.data.«Data».TheVariants as container
use Rattle.body_core.specs.declared.ast.fields.Fields.{Fields}
use Rattle.codegen_core.specs.Compiled.{HasNamedFields, IsListed}
use Rattle.codegen_core.specs.Variants as left_forms
use Rattle.codegen_core.specs.declared.field.Field.{Field}
use Rattle.codegen_core.specs.declared.from_meta_impl.FromMetaImpl.{FromMetaImpl}
use Rattle.codegen_core.specs.declared.variant.Variant.{Variant}
use Rattle.run_accepted.specs.Body.{Body, is_skipped_variant}
use Rattle.options_core.specs.FromMetaOptions.{FromMetaOptions}
use Rattle.run_accepted.specs.InputField.{InputField}
use Rattle.run_accepted.specs.InputVariant.{InputVariant}
use Rattle.run_accepted.specs.MemberViews as views
use Rattle.options_core.specs.MetaViews.{IsMetaImpl, from_word_of}
use Rattle.law_machine.specs.Receivers.{ByFields, MetaBody, MetaDecl, StructOf, listed as listed_decl}
use Rattle.law_machine.specs.Compiles.{HasNoCalls, IsCalled, IsMetaBody, IsMetaDecl, IsOwnForm, IsOwnStruct, IsStructForm, IsVariantDecl, IsVariantForm, meant_word, read_variants as left_variants}
use Rattle.law_options.specs.Meant.{fields_decl, fields_in, meant_body, meant_decl, meant_form, meant_meta, meant_variant, member_name, own_default, read_variants, sole, variant_fields, whole_field}
use Rattle.law_options.proofs.Declared.{all_are, decl_is}
use Rattle.law_options.proofs.Fields.{IsLeft}

-- ---- how options leave a declaration

-- the members that are read one by one have no fault and inherit from this default; no tuple of several is read
abbrev pub IsLeftForm : Style → List InputField → Option InputField → (List InputField → Type 0) → Type 0
IsLeftForm how fields (Some field) are = Unit {0}
IsLeftForm style.Unit fields None are = Unit {0}
IsLeftForm style.Struct fields None are = are fields
IsLeftForm style.Tuple fields None are = ⊥

abbrev pub IsLeftVariant : InputVariant → Type 0
IsLeftVariant it =
    IsLeftForm it.body.style it.body.fields (whole_field (is_some it.transparent.0) it.body.style it.body.fields) (AllByRecursion (IsLeft None))

-- a struct that is a word, or read as its one field is, has no callables
abbrev pub IsUncalled : FromMetaOptions → Style → Option InputField → Type 0
IsUncalled it how (Some field) = (from_word_of it ≡ None) × (it.from_none ≡ None) × (it.from_expr ≡ None)
IsUncalled it style.Unit None = (from_word_of it ≡ None) × (it.from_none ≡ None) × (it.from_expr ≡ None)
IsUncalled it style.Struct None = Unit {0}
IsUncalled it style.Tuple None = Unit {0}

-- what is written without members has none
abbrev pub IsEmptyUnit : Style → List InputField → Type 0
IsEmptyUnit style.Unit fields = fields ≡ []
IsEmptyUnit style.Struct fields = Unit {0}
IsEmptyUnit style.Tuple fields = Unit {0}

abbrev pub IsLeftBody : FromMetaOptions → Body → Type 0
IsLeftBody it (container.Struct fields) =
    IsLeftForm fields.style fields.fields (whole_field (is_some it.base.transparent.0) fields.style fields.fields) (AllByRecursion (IsLeft (own_default it.base.default)))
    × IsUncalled it fields.style (whole_field (is_some it.base.transparent.0) fields.style fields.fields)
    × IsEmptyUnit fields.style fields.fields
IsLeftBody it (container.Enum variants) = AllByRecursion IsLeftVariant (read_variants variants)

-- ---- the one member

abbrev AreSame : Option Field → Option InputField → Type 0
AreSame None None = Unit {0}
AreSame None (Some it) = ⊥
AreSame (Some left) None = ⊥
AreSame (Some left) (Some it) = views.IsField left it

sole_is : (lefts : List Field) (its : List InputField) → AllZip views.IsField lefts its → AreSame (left_forms.sole lefts) (sole its)
sole_is [] [] zip = tt
sole_is [] (it ∷ its) zip = absurd zip
sole_is (left ∷ lefts) [] zip = absurd zip
sole_is (left ∷ []) (it ∷ []) zip = zip.0
sole_is (left ∷ []) (it ∷ other ∷ more) zip = absurd zip.1
sole_is (left ∷ other ∷ more) (it ∷ []) zip = absurd zip.1
sole_is (left ∷ left' ∷ lefts) (it ∷ it' ∷ its) zip = tt

whole_is : (transparent : Bool) (how : Style) (lefts : List Field) (its : List InputField) → AllZip views.IsField lefts its
    → AreSame (left_forms.transparent_field transparent how lefts) (whole_field transparent how its)
whole_is transparent style.Tuple lefts its zip = sole_is lefts its zip
whole_is true style.Struct lefts its zip = sole_is lefts its zip
whole_is false style.Struct lefts its zip = tt
whole_is transparent style.Unit lefts its zip = tt

member_is : (how : Style) (left : Field) (it : InputField) → views.IsField left it → left_forms.member_name how left ≡ member_name how it
member_is style.Tuple left it is = refl
member_is style.Struct left it is = ap ident_text is.ident
member_is style.Unit left it is = ap ident_text is.ident

-- ---- variants

module _ (left : Variant) (it : InputVariant) (ty : Ident) (is : views.IsVariant ty left it) where
  own_form : (how : Style) → IsLeftForm how it.body.fields None (AllByRecursion (IsLeft None)) → IsOwnForm left how (meant_form how (variant_fields it) None)
  own_form style.Unit are = tt
  own_form style.Struct are =
      record { fields = all_are (variant_fields it) left.body.fields it.body.fields is.fields are; no_default = refl; allows_unknown = is.allow }
  own_form style.Tuple are = absurd are

  form_is : (how : Style) (p : Option Field) (q : Option InputField) → left.body.style ≡ how → AreSame p q → IsLeftForm how it.body.fields q (AllByRecursion (IsLeft None))
      → IsVariantForm left p (meant_form how (variant_fields it) q)
  form_is how None None same are kept = let P : Style → Type 0 = λ how'. IsOwnForm left how' (meant_form how (variant_fields it) None) in subst P (sym same) (own_form how kept)
  form_is how None (Some field) same are kept = absurd are
  form_is how (Some left_field) None same are kept = absurd are
  form_is how (Some left_field) (Some field) same are kept =
      (ap (λ how'. left_forms.member_name how' left_field) same ∙ member_is how left_field field are, are.ty)

  abbrev whole_by : Bool → Style → Option Field
  whole_by transparent how = left_forms.transparent_field transparent how left.body.fields

  variant_is : (enum : Text) → ident_text ty ≡ enum → IsLeftVariant it → IsVariantDecl enum left (meant_variant it)
  variant_is enum named kept =
      record {
        owner = ap ident_text is.ty_ident ∙ named;
        ident = ap ident_text is.ident;
        name = is.name;
        form =
            let how = it.body.style in
            let q = whole_field (is_some it.transparent.0) how it.body.fields in
            let P : Option Field → Type 0 = λ p. IsVariantForm left p (meant_form how (variant_fields it) q) in
            subst P (sym (ap₂ whole_by is.transparent is.style))
            (form_is how (whole_by (is_some it.transparent.0) how) q is.style (whole_is (is_some it.transparent.0) how left.body.fields it.body.fields is.fields) kept);
      }

variants_by : (skip : Bool) (enum : Text) (ty : Ident) (left : Variant) (it : InputVariant) (lefts : List Variant) (its : List InputVariant) → ident_text ty ≡ enum → views.IsVariant ty left it
    → (AllByRecursion IsLeftVariant (read_variants its) → AllZip (IsVariantDecl enum) (left_variants lefts) (map meant_variant (read_variants its)))
    → AllByRecursion IsLeftVariant (cond (not skip) (it ∷ read_variants its) (read_variants its))
    → AllZip (IsVariantDecl enum) (cond (not skip) (left ∷ left_variants lefts) (left_variants lefts)) (map meant_variant (cond (not skip) (it ∷ read_variants its) (read_variants its)))
variants_by true enum ty left it lefts its named is others are = others are
variants_by false enum ty left it lefts its named is others are = (variant_is left it ty is enum named are.0, others are.1)

variants_are : (enum : Text) (ty : Ident) (lefts : List Variant) (its : List InputVariant) → ident_text ty ≡ enum → AllZip (views.IsVariant ty) lefts its
    → AllByRecursion IsLeftVariant (read_variants its) → AllZip (IsVariantDecl enum) (left_variants lefts) (map meant_variant (read_variants its))
variants_are enum ty [] [] named zip are = tt
variants_are enum ty [] (it ∷ its) named zip are = absurd zip
variants_are enum ty (left ∷ lefts) [] named zip are = absurd zip
variants_are enum ty (left ∷ lefts) (it ∷ its) named zip are =
    let P : Bool → Type 0 = λ skip. AllZip (IsVariantDecl enum) (cond (not skip) (left ∷ left_variants lefts) (left_variants lefts)) (map meant_variant (read_variants (it ∷ its))) in
    subst P (sym zip.0.skip) (variants_by (is_skipped_variant it) enum ty left it lefts its named zip.0 (variants_are enum ty lefts its named zip.1) are)

-- ---- the declaration

module _ (left : FromMetaImpl) (it : FromMetaOptions) (is : IsMetaImpl left it) (number : ℕ) (variants : List Declared) where
  abbrev meant : MetaDecl
  meant = meant_meta number variants it

  called : IsCalled variants left meant
  called = record { word = ap (option_map (meant_word variants)) is.word; none = is.none; expr = is.expr }

  uncalled : (from_word_of it ≡ None) × (it.from_none ≡ None) × (it.from_expr ≡ None) → HasNoCalls meant
  uncalled none = record { word = ap (option_map (meant_word variants)) none.0; none = none.1; expr = none.2 }

  module _ (fields : Fields Field) (its : Fields InputField) (whole : it.base.body ≡ container.Struct its)
      (same : (fields.style ≡ its.style) × AllZip views.IsField fields.fields its.fields) where
    no_fields : (lefts : List Field) (those : List InputField) → AllZip views.IsField lefts those → those ≡ [] → lefts ≡ []
    no_fields [] those zip e = refl
    no_fields (first ∷ more) [] zip e = absurd zip
    no_fields (first ∷ more) (it ∷ its) zip e = cc

    own_is : (how : Style) → IsLeftForm how its.fields None (AllByRecursion (IsLeft (own_default it.base.default))) → IsUncalled it how None → IsEmptyUnit how its.fields
        → IsOwnStruct variants left fields meant how (meant_form how (fields_decl it.base) None)
    own_is style.Unit kept none empty = (no_fields fields.fields its.fields same.1 empty, uncalled none)
    own_is style.Struct kept none empty =
        let P : Body → Type 0 = λ b. AllByRecursion (IsLeft (own_default it.base.default)) (fields_in b) in
        (decl_is left.base it.base number [] is.base (subst P (sym whole) kept), called)
    own_is style.Tuple kept none empty = absurd kept

    struct_is : (how : Style) (p : Option Field) (q : Option InputField) → fields.style ≡ how → AreSame p q
        → IsLeftForm how its.fields q (AllByRecursion (IsLeft (own_default it.base.default))) → IsUncalled it how q → IsEmptyUnit how its.fields
        → IsStructForm variants left fields meant p (meant_form how (fields_decl it.base) q)
    struct_is how None None styled are kept none empty =
        let P : Style → Type 0 = λ how'. IsOwnStruct variants left fields meant how' (meant_form how (fields_decl it.base) None) in subst P (sym styled) (own_is how kept none empty)
    struct_is how None (Some field) styled are kept none empty = absurd are
    struct_is how (Some left_field) None styled are kept none empty = absurd are
    struct_is how (Some left_field) (Some field) styled are kept none empty =
        ((ap (λ how'. left_forms.member_name how' left_field) styled ∙ member_is how left_field field are, are.ty), uncalled none)

    abbrev left_whole : Bool → Style → Option Field
    left_whole transparent how = left_forms.transparent_field transparent how fields.fields

    struct_form_is : IsLeftBody it (container.Struct its)
        → IsStructForm variants left fields meant (left_whole left.base.transparent fields.style)
        (meant_form its.style (fields_decl it.base) (whole_field (is_some it.base.transparent.0) its.style its.fields))
    struct_form_is kept =
        let transparent = is_some it.base.transparent.0 in
        let q = whole_field transparent its.style its.fields in
        let P : Option Field → Type 0 = λ p. IsStructForm variants left fields meant p (meant_form its.style (fields_decl it.base) q) in
        subst P (sym (ap₂ left_whole is.base.transparent same.0))
        (struct_is its.style (left_whole transparent its.style) q same.0 (whole_is transparent its.style fields.fields its.fields same.1) kept.0 kept.1 kept.2)

  body_is : (b : «Data» Variant Field) (m : Body) → it.base.body ≡ m → views.IsBody it.base.ident b m → IsLeftBody it m → IsMetaBody variants left meant b (meant_body it.base m)
  body_is (container.Struct fields) (container.Struct its) whole same kept = struct_form_is fields its whole same kept
  body_is (container.Struct fields) (container.Enum its) whole same kept = absurd same
  body_is (container.Enum lefts) (container.Struct its) whole same kept = absurd same
  body_is (container.Enum lefts) (container.Enum its) whole same kept = (variants_are (ident_text it.base.ident) it.base.ident lefts its refl same kept, called)

  pub meta_decl_is : IsLeftBody it it.base.body → IsMetaDecl variants left meant
  meta_decl_is kept = record { name = ap ident_text is.base.ident; body = body_is left.base.body it.base.body refl is.base.members kept }

-- ---- a struct that is read field by field, and of which no callable is asked

module _ (left : FromMetaImpl) (it : FromMetaOptions) (is : IsMetaImpl left it) (listed : IsListed left) where
  plain_whole : (b : «Data» Variant Field) (m : Body) → views.IsBody it.base.ident b m → HasNamedFields b → meant_body it.base m ≡ StructOf (ByFields (fields_decl it.base))
  plain_whole (container.Struct fields) (container.Struct its) same named =
      let form : Bool → Style → MetaBody = λ transparent how. StructOf (meant_form how (fields_decl it.base) (whole_field transparent how its.fields)) in
      ap (λ transparent. form transparent its.style) (sym is.base.transparent ∙ listed.plain.1) ∙ ap (form false) (sym same.0 ∙ named)
  plain_whole (container.Struct fields) (container.Enum its) same named = absurd same
  plain_whole (container.Enum lefts) m same named = absurd named

  -- it is the declaration of its fields alone
  pub plain_meant : (number : ℕ) (variants : List Declared) → meant_meta number variants it ≡ listed_decl (meant_decl number [] it.base)
  plain_meant number variants =
      let whole = meant_meta number variants it in
      ap₂ (λ b w. let meant : MetaDecl = record whole { body = b; word = w } in meant)
      (plain_whole left.base.body it.base.body is.base.members listed.plain.0)
      (ap (option_map (meant_word variants)) (sym is.word ∙ listed.word))
      ∙ ap₂ (λ n e. let meant : MetaDecl = record (listed_decl (meant_decl number [] it.base)) { none = n; expr = e } in meant) (sym is.none ∙ listed.none) (sym is.expr ∙ listed.expr)
