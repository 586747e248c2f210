-- Options without a fault, which show no form without a program, leave a declaration so that what is compiled from it is meant.
use Rattle.std.proofs.Common.{◌≡◌, ◌∙◌, ℕ, suc, ◌==◌, ◌&&◌, ◌||◌, Bool, true, false, not, cond, List, [], ◌∷◌, ◌++◌, length, Option, Some, None, refl, sym, ap, ap₂, subst, arith, true≢false, ⊎_elim}
use Rattle.std.specs.Prelude.{flat_map, is_some}
use Rattle.std.specs.List.{AllByRecursion}
use Rattle.std.specs.Option.{option_or}
use Rattle.std.proofs.lemmas.Bool.Decides.{eqb_tells}
use Rattle.tok_types.specs.declared.ident.Ident.{Ident}
use Rattle.tok_types.specs.declared.span.Span.{Span}
use Rattle.node_core.specs.Bodies.{field_list, is_union}
use Rattle.node_core.specs.Style.{style_of}
use Rattle.node_core.specs.declared.data.Field.{Field}
use Rattle.node_core.specs.declared.data.Fields.{Fields as Members}
use Rattle.node_core.specs.declared.data.Fields.TheVariants as members
use Rattle.node_core.specs.declared.data.Variant.{Variant}
use Rattle.node_core.specs.declared.data.«Data».{«Data» as NodeData}
use Rattle.node_core.specs.declared.data.«Data».TheVariants as node
use Rattle.node_core.specs.declared.style.Style.{Style}
use Rattle.node_core.specs.declared.style.Style.TheVariants as style
use Rattle.error_core.specs.Each.{each}
use Rattle.error_fault.specs.Outcome.{Outcome, Value, Faults, bind, on_value, value_of}
use Rattle.error_fault.specs.declared.fault.Fault.{Fault}
use Rattle.body_core.specs.Data.{unplaced, with_members}
use Rattle.body_core.specs.declared.ast.data.«Data».TheVariants as container
use Rattle.body_core.specs.declared.ast.fields.Fields.{Fields}
use Rattle.codegen_core.specs.Forms.{form_if}
use Rattle.codegen_core.specs.declared.form.Form.{Form}
use Rattle.codegen_core.specs.declared.form.Form.TheVariants as form
use Rattle.codegen_program.specs.declared.callable.Callable.{Callable}
use Rattle.options_core.specs.MetaChecks.{call_faults, expr_faults, meta_checks, struct_faults, word_faults}
use Rattle.options_forms.specs.Forms.{body_forms, call_forms, container_forms, field_forms, generic_forms, has_fields, has_fields_by, is_bare_tuple, is_inherited, is_read_by_fields, is_read_tuple, is_whole, meta_forms, struct_forms, variant_field_forms, variant_forms}
use Rattle.run_accepted.specs.Body.{Body, body_checks, core_checks, field_meaning, flat_spans, flatten_faults, is_delegated, is_skipped_variant, is_unit, not_single, start_body, transparent_faults, union_faults, variant_inherited, variant_meaning, variant_members, variant_with, with_fields, with_variants}
use Rattle.run_accepted.specs.Core.{Core}
use Rattle.run_accepted.specs.DefaultExpression.{DefaultExpression}
use Rattle.run_accepted.specs.DefaultExpression.TheVariants as defaults
use Rattle.options_core.specs.FromMetaOptions.{FromMetaOptions}
use Rattle.run_accepted.specs.InputField.{InputField}
use Rattle.run_accepted.specs.InputVariant.{InputVariant}
use Rattle.run_accepted.specs.Members.{body_fields, variants_of as options_variants}
use Rattle.run_accepted.specs.Rows.{list_of}
use Rattle.run_accepted.specs.Stages.{container_options, core_with_body, good_fields, good_variants, meta_reader, options_of}
use Rattle.run_accepted.specs.Values.{Rules}
use Rattle.options_core.specs.MetaViews.{body_word, from_word_of}
use Rattle.law_machine.specs.Decl.{Default}
use Rattle.law_options.specs.Claims.{MetaOptionsAreMeant}
use Rattle.law_options.specs.Meant.{own_default, read_variants, whole_field}
use Rattle.law_options.proofs.Declared.{meta_own}
use Rattle.law_options.proofs.Faultless.{no_body_faults, no_union_faults}
use Rattle.law_options.proofs.Fields.{Falls, IsLeft, field_is, fields_are, is_skipped}
use Rattle.law_options.proofs.Metas.{IsEmptyUnit, IsLeftBody, IsLeftForm, IsLeftVariant, IsUncalled, meta_decl_is}
use Rattle.law_options.proofs.Owns.{IsOwnIfAny, all-append}
use Rattle.law_options.proofs.Shapes.{none-left, none-right}

-- ---- tests

-- two members are not one
not_one : (n : ℕ) → (suc (suc n) == 1) ≡ false
not_one n = ⊎_elim (λ q. let e : suc (suc n) ≡ 1 = q.1 in absurd (omega (arith, e))) (λ q. q.0) (eqb_tells (suc (suc n)) 1)

no_form : (test : Bool) (it : Form) (ident : Ident) → form_if test it ident ≡ [] → test ≡ false
no_form true it ident none = cc
no_form false it ident none = refl

no_callable : (whole : Bool) (callable : Option Callable) → (whole && is_some callable) ≡ false → whole ≡ true → callable ≡ None
no_callable true None none is = refl
no_callable true (Some callable) none is = cc
no_callable false callable none is = cc

no_word : (unit delegated : Bool) (callable : Option Callable) → word_faults unit delegated callable ≡ [] → (unit || delegated) ≡ true → callable ≡ None
no_word unit delegated None none is = refl
no_word true delegated (Some callable) none is = cc
no_word false true (Some callable) none is = cc
no_word false false (Some callable) none is = cc

no_expr : (delegated : Bool) (callable : Option Callable) → expr_faults delegated callable ≡ [] → delegated ≡ true → callable ≡ None
no_expr delegated None none is = refl
no_expr true (Some callable) none is = cc
no_expr false (Some callable) none is = cc

abbrev IsFault : List Fault → Type 0
IsFault [] = ⊥
IsFault (fault ∷ more) = Unit {0}

no_fault : (fault : Fault) (more : List Fault) → fault ∷ more ≡ [] → ⊥
no_fault fault more none = subst IsFault none tt

-- ---- structs

module _ (options : FromMetaOptions) (unworded : body_word options.base.body ≡ None) where
  abbrev AreKept : List InputField → Type 0
  AreKept fields = AllByRecursion (IsLeft (own_default options.base.default)) fields

  abbrev HasNone : Type 0
  HasNone = (from_word_of options ≡ None) × (options.from_none ≡ None) × (options.from_expr ≡ None)

  has_none : options.from_word ≡ None → options.from_none ≡ None → options.from_expr ≡ None → HasNone
  has_none word none expr = (ap (λ callable. option_or callable (body_word options.base.body)) word ∙ unworded, none, expr)

  -- no fault and no form speaks of the struct
  record IsClear (how : Style) (transparent : Option Span) (fields : List InputField) : Type 0 where
    word : word_faults (is_unit how) (is_delegated how (length fields) transparent) options.from_word ≡ []
    expr : expr_faults (is_delegated how (length fields) transparent) options.from_expr ≡ []
    alone : transparent_faults transparent (length fields) ≡ []
    bare : is_bare_tuple how (length fields) ≡ false
    no_none : ((is_unit how || is_delegated how (length fields) transparent) && is_some options.from_none) ≡ false
    no_unit_expr : (is_unit how && is_some options.from_expr) ≡ false

  delegated : (how : Style) (transparent : Option Span) (fields : List InputField) → IsClear how transparent fields → is_unit how ≡ false → is_delegated how (length fields) transparent ≡ true → HasNone
  delegated how transparent fields clear not is =
      let either : (is_unit how || is_delegated how (length fields) transparent) ≡ true = ap₂ (λ a b. a || b) not is in
      has_none
      (no_word (is_unit how) (is_delegated how (length fields) transparent) options.from_word clear.word either)
      (no_callable (is_unit how || is_delegated how (length fields) transparent) options.from_none clear.no_none either)
      (no_expr (is_delegated how (length fields) transparent) options.from_expr clear.expr is)

  abbrev IsKept : Style → Option Span → List InputField → Type 0
  IsKept how transparent fields =
      IsLeftForm how fields (whole_field (is_some transparent) how fields) AreKept × IsUncalled options how (whole_field (is_some transparent) how fields) × IsEmptyUnit how fields

  by_style : (how : Style) (transparent : Option Span) (fields : List InputField) → IsEmptyUnit how fields → AreKept fields → IsClear how transparent fields → IsKept how transparent fields
  by_style style.Unit transparent fields empty are clear = (
    tt,
    has_none (no_word true false options.from_word clear.word refl) (no_callable true options.from_none clear.no_none refl) (no_callable true options.from_expr clear.no_unit_expr refl),
    empty,
  )
  by_style style.Struct None fields empty are clear = (are, tt, tt)
  by_style style.Struct (Some span) [] empty are clear = absurd (no_fault (not_single span) [] clear.alone)
  by_style style.Struct (Some span) (field ∷ []) empty are clear = (tt, delegated style.Struct (Some span) (field ∷ []) clear refl refl, tt)
  by_style style.Struct (Some span) (field ∷ other ∷ more) empty are clear =
      absurd (no_fault (not_single span) [] (ap (λ b. cond b [] (not_single span ∷ [])) (sym (not_one (length more))) ∙ clear.alone))
  by_style style.Tuple transparent [] empty are clear = absurd (true≢false clear.bare)
  by_style style.Tuple transparent (field ∷ []) empty are clear = (tt, delegated style.Tuple transparent (field ∷ []) clear refl refl, tt)
  by_style style.Tuple transparent (field ∷ other ∷ more) empty are clear =
      absurd (true≢false (ap not (sym (not_one (length more))) ∙ clear.bare))

  struct_kept : (its : Fields InputField) → IsEmptyUnit its.style its.fields → AreKept its.fields
      → struct_faults options its ≡ [] → body_checks options.base.transparent.0 (container.Struct its) ≡ [] → struct_forms options its ≡ [] → IsLeftBody options (container.Struct its)
  struct_kept its empty are faults checks forms =
      let how = its.style in
      let count = length its.fields in
      let transparent = options.base.transparent.0 in
      let words = word_faults (is_unit how) (is_delegated how count transparent) options.from_word in
      let exprs = expr_faults (is_delegated how count transparent) options.from_expr in
      let ident = options.base.ident in
      let f1 = form_if (is_bare_tuple how count) form.Tuple ident in
      let f2 = generic_forms options.base in
      let f3 = form_if (is_whole options its && is_some options.base.post_transform) form.Transform ident in
      let f4 = form_if (is_whole options its && is_some options.from_none) form.FromNone ident in
      let f5 = form_if (is_unit how && is_some options.from_expr) form.FromExpr ident in
      let f6 = flat_map field_forms its.fields in
      let five = none-left ((((f1 ++ f2) ++ f3) ++ f4) ++ f5) f6 forms in
      let four = none-left (((f1 ++ f2) ++ f3) ++ f4) f5 five in
      by_style how transparent its.fields empty are
      (record {
        word = none-left words exprs faults;
        expr = none-right words exprs faults;
        alone = none-left (transparent_faults transparent count) (flatten_faults (flat_spans its.fields)) checks;
        bare = no_form (is_bare_tuple how count) form.Tuple ident (none-left f1 f2 (none-left (f1 ++ f2) f3 (none-left ((f1 ++ f2) ++ f3) f4 four)));
        no_none = no_form (is_whole options its && is_some options.from_none) form.FromNone ident (none-right ((f1 ++ f2) ++ f3) f4 four);
        no_unit_expr = no_form (is_unit how && is_some options.from_expr) form.FromExpr ident (none-right (((f1 ++ f2) ++ f3) ++ f4) f5 five);
      })

-- ---- variants

-- what is not inherited needs no container
falls_alone : (whole : Option Default) (skip : Bool) (it : Option DefaultExpression) → is_inherited it ≡ false → Falls whole skip it → Falls None skip it
falls_alone None skip it not is = is
falls_alone (Some whole) skip None not is = absurd is
falls_alone (Some whole) skip (Some defaults.Inherit) not is = absurd (true≢false not)
falls_alone (Some whole) skip (Some (defaults.Explicit callable)) not is = tt
falls_alone (Some whole) skip (Some (defaults.Trait span)) not is = tt

module _ (whole : Option Default) where
  fields_alone : (fields : List InputField) → AllByRecursion (IsLeft whole) fields → flat_map (variant_field_forms true) fields ≡ [] → AllByRecursion (IsLeft None) fields
  fields_alone [] are forms = tt
  fields_alone (field ∷ fields) are forms =
      let here = variant_field_forms true field in
      let later = flat_map (variant_field_forms true) fields in
      let shown = form_if (is_inherited field.default) form.InheritedDefault field.ident in
      let not = no_form (is_inherited field.default) form.InheritedDefault field.ident (none-right (field_forms field) shown (none-left here later forms)) in (
        record { one_shape = are.0.one_shape; default = falls_alone whole (is_skipped field.skip) field.default not are.0.default },
        fields_alone fields are.1 (none-right here later forms),
      )

  abbrev shown : List InputField → Bool → Type 0
  shown fields read = flat_map (variant_field_forms read) fields ≡ []

  -- the members of a variant that is read
  by_how : (it : InputVariant) (how : Style) (transparent : Option Span) (fields : List InputField) → it.transparent.0 ≡ transparent → it.body.fields ≡ fields
      → AllByRecursion (IsLeft whole) fields → is_bare_tuple how (length fields) ≡ false → shown fields (has_fields_by how it)
      → IsLeftForm how fields (whole_field (is_some transparent) how fields) (AllByRecursion (IsLeft None))
  by_how it style.Unit transparent fields said same are bare forms = tt
  by_how it style.Struct None fields said same are bare forms =
      fields_alone fields are (subst (shown fields) (ap (λ t. not (is_some t && length it.body.fields == 1)) said) forms)
  by_how it style.Struct (Some span) [] said same are bare forms = tt
  by_how it style.Struct (Some span) (field ∷ []) said same are bare forms = tt
  by_how it style.Struct (Some span) (field ∷ other ∷ more) said same are bare forms =
      fields_alone (field ∷ other ∷ more) are
      (subst (shown (field ∷ other ∷ more)) (ap₂ (λ t fs. not (is_some t && length fs == 1)) said same ∙ ap not (not_one (length more))) forms)
  by_how it style.Tuple transparent [] said same are bare forms = absurd (true≢false bare)
  by_how it style.Tuple transparent (field ∷ []) said same are bare forms = tt
  by_how it style.Tuple transparent (field ∷ other ∷ more) said same are bare forms =
      absurd (true≢false (ap not (sym (not_one (length more))) ∙ bare))

  variant_kept : (it : InputVariant) → is_skipped_variant it ≡ false → AllByRecursion (IsLeft whole) it.body.fields → variant_forms it ≡ [] → IsLeftVariant it
  variant_kept it read are forms =
      let how = it.body.style in
      let fields = it.body.fields in
      let tuple = form_if (is_read_tuple it) form.Tuple it.ident in
      let inner = flat_map (variant_field_forms (is_read_by_fields it)) fields in
      let bare : is_bare_tuple how (length fields) ≡ false =
      ap (λ b. not b && is_bare_tuple how (length fields)) (sym read) ∙ no_form (is_read_tuple it) form.Tuple it.ident (none-left tuple inner forms) in
      by_how it how it.transparent.0 fields refl refl are bare
      (ap (λ b. flat_map (variant_field_forms (not b && has_fields it)) fields) (sym read) ∙ none-right tuple inner forms)

  by_skip : (skip : Bool) (it : InputVariant) (its : List InputVariant) → is_skipped_variant it ≡ skip → AllByRecursion (IsLeft whole) it.body.fields → variant_forms it ≡ []
      → AllByRecursion IsLeftVariant (read_variants its) → AllByRecursion IsLeftVariant (cond (not skip) (it ∷ read_variants its) (read_variants its))
  by_skip true it its same are forms later = later
  by_skip false it its same are forms later = (variant_kept it same are forms, later)

  abbrev HasGood : InputVariant → Type 0
  HasGood it = AllByRecursion (IsLeft whole) it.body.fields

  variants_kept : (its : List InputVariant) → AllByRecursion HasGood its → flat_map variant_forms its ≡ [] → AllByRecursion IsLeftVariant (read_variants its)
  variants_kept [] are forms = tt
  variants_kept (it ∷ its) are forms =
      by_skip (is_skipped_variant it) it its refl are.0 (none-left (variant_forms it) (flat_map variant_forms its) forms)
      (variants_kept its are.1 (none-right (variant_forms it) (flat_map variant_forms its) forms))

-- ---- what a body leaves

module _ (rules : Rules) (core : Core) (own : IsOwnIfAny core.default) where
  abbrev parent : Option Default
  parent = own_default core.default

  abbrev AreLeft : List InputField → Type 0
  AreLeft fields = AllByRecursion (IsLeft parent) fields

  abbrev HasLeft : Outcome (List InputField) → Type 0
  HasLeft found = AllByRecursion AreLeft (list_of (value_of found))

  in_front : (first : Outcome InputField) (others : Outcome (List InputField)) → AllByRecursion (IsLeft parent) (list_of (value_of first)) → HasLeft others
      → HasLeft (bind first (λ it. on_value (λ more. it ∷ more) others))
  in_front (Faults fault more) others is are = tt
  in_front (Value it) (Faults fault more) is are = tt
  in_front (Value it) (Value fields) is are = ((is.0, are.0), tt)

  each_left : (fields : List Field) → HasLeft (each (field_meaning rules (Some core)) fields)
  each_left [] = (tt, tt)
  each_left (field ∷ fields) =
      in_front (field_meaning rules (Some core) field) (each (field_meaning rules (Some core)) fields) (field_is rules core own field) (each_left fields)

  abbrev HasGoodFields : InputVariant → Type 0
  HasGoodFields it = AllByRecursion (IsLeft parent) it.body.fields

  with_good : (set : InputVariant) (found : Outcome (List InputField)) → HasLeft found
      → AllByRecursion HasGoodFields (list_of (value_of (on_value (variant_with (variant_inherited rules (Some core) set)) found)))
  with_good set (Faults fault more) are = tt
  with_good set (Value fields) are = (are.0, tt)

  set_good : (set : Outcome InputVariant) (fields : List Field) → AllByRecursion HasGoodFields (list_of (value_of (bind set (variant_members rules (Some core) fields))))
  set_good (Faults fault more) fields = tt
  set_good (Value set) fields = with_good set (each (field_meaning rules (Some core)) fields) (each_left fields)

  variant_good : (variant : Variant) → AllByRecursion HasGoodFields (list_of (value_of (variant_meaning rules (Some core) variant)))
  unfolding variant_meaning
  variant_good variant = set_good _ (field_list variant.fields)

  variants_good : (variants : List Variant) → AllByRecursion HasGoodFields (good_variants rules core variants)
  variants_good [] = tt
  variants_good (variant ∷ variants) =
      all-append HasGoodFields (list_of (value_of (variant_meaning rules (Some core) variant))) (good_variants rules core variants) (variant_good variant) (variants_good variants)

  empty_unit : (it : Members) → IsEmptyUnit (style_of it) (good_fields rules core (field_list it))
  empty_unit (members.Named it) = tt
  empty_unit (members.Unnamed it) = tt
  empty_unit members.Unit = refl

-- ---- declarations

module _ (rules : Rules) (set : FromMetaOptions) (own : IsOwnIfAny set.base.default) where
  abbrev with_body : NodeData → FromMetaOptions
  with_body it = record set { base = core_with_body rules set.base it }

  -- what is checked of a body
  abbrev IsClearBody : FromMetaOptions → Body → Type 0
  IsClearBody options body = (body_checks options.base.transparent.0 body ≡ []) × (call_faults options body ≡ []) × (body_forms options body ≡ [])

  -- the body that a declaration leaves
  abbrev left_body : NodeData → Body
  left_body (node.Struct it) = with_fields (start_body (node.Struct it)) (good_fields rules set.base (field_list it.fields))
  left_body (node.Enum it) = with_variants (start_body (node.Enum it)) (good_variants rules set.base it.variants)
  left_body (node.Union it) = start_body (node.Union it)

  left_is : (it : NodeData) → set.base.body ≡ start_body it → (with_body it).base.body ≡ left_body it
  left_is (node.Struct it) same = ap (λ body. with_fields body (good_fields rules set.base (field_list it.fields))) same
  left_is (node.Enum it) same = ap (λ body. with_variants body (good_variants rules set.base it.variants)) same
  left_is (node.Union it) same = same

  body_kept : (it : NodeData) → set.base.body ≡ start_body it → union_faults (is_union it) ≡ [] → IsClearBody (with_body it) (left_body it) → IsLeftBody (with_body it) (left_body it)
  body_kept (node.Struct it) same union clear =
      let its : Fields InputField = with_members {A = InputField} (unplaced (style_of it.fields) []) (good_fields rules set.base (field_list it.fields)) in
      struct_kept (with_body (node.Struct it)) (ap body_word (left_is (node.Struct it) same)) its (empty_unit rules set.base own it.fields)
      (fields_are rules set.base own (field_list it.fields)) clear.1 clear.0 clear.2
  body_kept (node.Enum it) same union clear =
      let its = good_variants rules set.base it.variants in
      let options = with_body (node.Enum it) in
      let named = form_if (is_some options.base.post_transform) form.Transform options.base.ident in
      variants_kept (own_default set.base.default) its (variants_good rules set.base own it.variants)
      (none-right (generic_forms options.base ++ named) (flat_map variant_forms its) clear.2)
  body_kept (node.Union it) same union clear = absurd cc

  pub kept : (it : NodeData) → set.base.body ≡ start_body it → union_faults (is_union it) ≡ [] → meta_checks (with_body it) ≡ [] → meta_forms (with_body it) ≡ []
      → IsLeftBody (with_body it) (with_body it).base.body
  kept it same union checks forms =
      let options = with_body it in
      let body_is = left_is it same in
      let named = container_forms options.base ++ call_forms options.from_word ++ call_forms options.from_none ++ call_forms options.from_expr in
      let P : Body → Type 0 = λ body. IsClearBody options body in
      let clear : IsClearBody options options.base.body = (
        none-left (core_checks options.base) (call_faults options options.base.body) checks,
        none-right (core_checks options.base) (call_faults options options.base.body) checks,
        none-right named (body_forms options options.base.body) forms,
      ) in
      let Q : Body → Type 0 = λ body. IsLeftBody options body in
      subst Q (sym body_is) (body_kept it same union (subst P body_is clear))

pub meta_options_are : MetaOptionsAreMeant
meta_options_are rules input left number variants faults forms is =
    let reader = meta_reader rules input in
    let set = container_options reader input in
    let options = options_of reader input in
    let of_fields = flat_map (reader.field_faults set) (body_fields input.body) in
    let of_variants = flat_map (reader.variant_faults set) (options_variants input.body) in
    let checks : meta_checks options ≡ [] = none-right (of_fields ++ of_variants) (meta_checks options) (no_body_faults reader input faults) in
    meta_decl_is left options is number variants
    (kept rules set (meta_own rules input) input.body refl (no_union_faults reader input faults) checks forms)
