-- What options leave means a declaration, so a unit of it has an outcome.
use Rattle.std.proofs.Common.{◌≡◌, ◌∙◌, ℕ, ◌+◌, Bool, true, false, ◌&&◌, not, cond, List, [], ◌∷◌, ◌++◌, length, map, Option, Some, None, option_map, refl, ap, sym, subst, if◌then◌else◌}
use Rattle.std.specs.List.{AllByRecursion, AllZip}
use Rattle.std.specs.Option.{option_copied}
use Rattle.std.specs.Str.{bytes_eq}
use Rattle.base_core.specs.declared.text.Text.{Text}
use Rattle.tok_types.specs.Ident.{ident_text}
use Rattle.node_expr.specs.declared.ty.«Type».{«Type» as Type'}
use Rattle.node_make.specs.PathText.{path_text}
use Rattle.node_core.specs.declared.attr.Meta.{Meta}
use Rattle.node_core.specs.declared.attr.Meta.TheVariants as meta
use Rattle.node_core.specs.declared.style.Style.{Style}
use Rattle.node_core.specs.declared.style.Style.TheVariants as style
use Rattle.body_core.specs.declared.ast.data.«Data».{«Data»}
use Rattle.body_core.specs.declared.ast.data.«Data».TheVariants as body
use Rattle.meta_nested.specs.Dispatch.{items_of}
use Rattle.meta_nested.specs.declared.nested.NestedMeta.{NestedMeta}
use Rattle.meta_nested.specs.declared.nested.NestedMeta.TheVariants as nested
use Rattle.error_fault.specs.Outcome.{Outcome, Value, Faults}
use Rattle.machine_value.specs.declared.value.Value.{Value as Datum}
use Rattle.codegen_program.specs.declared.callable.Callable.{Callable}
use Rattle.codegen_program.specs.declared.program.Func.{Func}
use Rattle.codegen_program.specs.declared.program.FuncName.TheVariants as func
use Rattle.codegen_program.specs.declared.program.«Unit».{«Unit» as Unit'}
use Rattle.codegen_program.specs.declared.stmt.Stmt.{Stmt}
use Rattle.codegen_program.specs.declared.stmt.Stmt.TheVariants as stmt
use Rattle.codegen_program.specs.declared.variant.VariantArm.{VariantArm}
use Rattle.codegen_core.specs.Compiled.{call_func, call_funcs, compiled_meta, enum_funcs, fields_of, funcs_by, funcs_in, list_funcs, list_stmts, own_funcs, struct_fields, unit_funcs, whole_funcs}
use Rattle.codegen_core.specs.Defaults.{fallback as falls}
use Rattle.codegen_core.specs.Fields.{inits}
use Rattle.codegen_core.specs.Variants.{form_by, member_name, own_form, proxy_of, slotted, transparent_field, unit_arms, variant_arms, variant_form, variant_names, variant_stmts}
use Rattle.codegen_core.specs.declared.default_expression.DefaultExpression.{DefaultExpression}
use Rattle.codegen_core.specs.declared.default_expression.DefaultExpression.TheVariants as defaults
use Rattle.codegen_core.specs.declared.field.Field.{Field}
use Rattle.codegen_core.specs.declared.from_meta_impl.FromMetaImpl.{FromMetaImpl}
use Rattle.codegen_core.specs.declared.trait_impl.TraitImpl.{TraitImpl}
use Rattle.codegen_core.specs.declared.variant.Variant.{Variant}
use Rattle.codegen_outer.specs.Bare.{compiled_bare}
use Rattle.codegen_outer.specs.BareLaws.{bare_unit}
use Rattle.machine_steps.specs.Asked.{Asked, Items, OnElement, items_asked}
use Rattle.machine_steps.specs.Convert.{Earlier}
use Rattle.machine_execute.specs.Elements.{OnInput}
use Rattle.machine_execute.specs.Machine.{is_from_derive_input, run_func, unit_type}
use Rattle.machine_steps.specs.Names.{meta_name}
use Rattle.machine_steps.specs.Progress.{Progress, Going, no_aside, outcome, start}
use Rattle.machine_steps.specs.Reads.{Before, metas}
use Rattle.machine_steps.specs.Receivers.{Receiver, receiver_of}
use Rattle.machine_steps.specs.Setting.{Setting}
use Rattle.machine_steps.specs.Statements.{Doing, inside, run}
use Rattle.machine_steps.proofs.Statements as statement
use Rattle.machine_steps.proofs.Statements.{does_arm, does_form}
use Rattle.machine_steps.specs.Variants.{by_form, by_variant, on_list, variants}
use Rattle.meaning_core.specs.Decl.{BodyDecl, Default, OfContainer, fallback_by, is_flat, is_many, skip_fallback}
use Rattle.law_machine.specs.Claims.{HasOutcomes, InputsHaveOutcomes, MetaFuncsHaveOutcomes}
use Rattle.law_machine.specs.Compiles.{IsDecl, IsField, meant_fallback, read_variants}
use Rattle.law_machine.specs.Left.{IsLeft, IsLeftBody, IsLeftDefault, IsLeftField, IsLeftForm, IsLeftOwn, IsLeftVariant, meant_decl, meant_field, own_default, shape_of, whole_default}
use Rattle.law_machine.proofs.Units.{input_outcome, list_outcome}
use Rattle.law_machine.proofs.Variants.{all_is}

pub many_is : (many flat : Bool) → (many && flat) ≡ false → many ≡ is_many (shape_of many flat)
many_is true true is = cc
many_is false true is = refl
many_is true false is = refl
many_is false false is = refl

pub flat_is : (many flat : Bool) → flat ≡ is_flat (shape_of many flat)
flat_is many true = refl
flat_is true false = refl
flat_is false false = refl

fallback_is : (left : Field) (whole : Option Default) (own : Option DefaultExpression) → IsLeftDefault left whole own
    → option_map meant_fallback (option_map falls own) ≡ fallback_by (meant_field left) whole (own_default own)
fallback_is left (Some whole) None is = absurd is
fallback_is left None None is = ap skip_fallback (sym is)
fallback_is left (Some whole) (Some (defaults.Inherit ident)) is = ap (λ text. Some (OfContainer text)) is
fallback_is left None (Some (defaults.Inherit ident)) is = absurd is
fallback_is left whole (Some (defaults.Explicit call)) is = refl
fallback_is left whole (Some (defaults.Trait span)) is = refl

module _ (body : BodyDecl) where
  field_is : (left : Field) → IsLeftField body.default left → IsField body left (meant_field left)
  field_is left is =
      record {
        member = refl;
        name = refl;
        type = refl;
        many = many_is left.multiple left.flatten is.one_shape;
        flat = flat_is left.multiple left.flatten;
        skip = refl;
        with = refl;
        transform = refl;
        fallback = fallback_is left body.default left.default_expression is.default;
      }

  fields_are : (lefts : List Field) → AllByRecursion (IsLeftField body.default) lefts → AllZip (IsField body) lefts (map meant_field lefts)
  fields_are [] are = tt
  fields_are (left ∷ lefts) are = (field_is left are.0, fields_are lefts are.1)

decl_is : (type : Type') (attributes : List Text) (left : TraitImpl) → IsLeft left → IsDecl left (meant_decl type attributes left)
decl_is type attributes left is =
    record {
      name = refl;
      fields = fields_are (meant_decl type attributes left).body (fields_of left) is;
      default = refl;
      transform = refl;
      allows_unknown = refl;
    }

-- ---- the functions of `FromMeta`

-- the run has an outcome
abbrev HasFound : Progress → Type 0
HasFound progress = (found : Outcome Datum) × (outcome progress ≡ Some found)

module _ (setting : Setting) (before : Before) (receiver : Receiver) where
  abbrev earlier : Earlier
  earlier = metas before

  abbrev does_arms : List (VariantArm Stmt) → List (VariantArm Doing)
  does_arms arms = map (does_arm setting before receiver) arms

  -- the statements of a variant
  stmts_found : (slot : ℕ) (left : Variant) → AllByRecursion (IsLeftField None) left.body.fields → (items : List NestedMeta) → HasFound (run setting before receiver (variant_stmts slot left) (Items items))
  stmts_found slot left are items =
      let body : BodyDecl = record { fields = map meant_field left.body.fields; default = None; allows_unknown = left.allow_unknown_fields } in
      (_, all_is setting before receiver items body left slot left.body.fields body.fields refl (fields_are body left.body.fields are) refl)

  on_list_found : (slot : ℕ) (left : Variant) → AllByRecursion (IsLeftField None) left.body.fields → (o : Outcome (List NestedMeta))
      → HasFound (on_list o (λ items. run setting before receiver (variant_stmts slot left) (Items items)))
  on_list_found slot left are (Value items) = stmts_found slot left are items
  on_list_found slot left are (Faults fault more) = (_, refl)

  own_found : (names : List Text) (slot : ℕ) (left : Variant) (s : Style) → IsLeftOwn None s left.body.fields → (item : Meta)
      → HasFound (by_form setting earlier receiver.name inside names left.name_in_attr.now (ident_text left.variant_ident.now) (does_form setting before receiver (own_form s slot left)) item)
  own_found names slot left style.Unit is (meta.Path path) = (_, refl)
  own_found names slot left style.Unit is (meta.«List» list) = (_, refl)
  own_found names slot left style.Unit is (meta.NameValue pair) = (_, refl)
  own_found names slot left style.Struct is (meta.Path path) = (_, refl)
  own_found names slot left style.Struct is (meta.«List» list) = on_list_found slot left is (items_of list.tokens)
  own_found names slot left style.Struct is (meta.NameValue pair) = (_, refl)
  own_found names slot left style.Tuple is item = absurd is

  form_found : (names : List Text) (slot : ℕ) (left : Variant) (p : Option Field) → IsLeftForm None p left.body.style left.body.fields → (item : Meta)
      → HasFound (by_form setting earlier receiver.name inside names left.name_in_attr.now (ident_text left.variant_ident.now) (does_form setting before receiver (form_by p slot left)) item)
  form_found names slot left (Some field) is item = (_, refl)
  form_found names slot left None is item = own_found names slot left left.body.style is item

  abbrev AreFound : List Text → List (VariantArm Stmt) → Meta → Type 0
  AreFound names arms item = HasFound (by_variant setting earlier receiver.name inside names (does_arms arms) (meta_name item) item)

  one_found : (names : List Text) (slot : ℕ) (left : Variant) (arms : List (VariantArm Stmt)) (item : Meta) (b : Bool) → IsLeftVariant left → AreFound names arms item
      → HasFound (cond b
      (by_form setting earlier receiver.name inside names left.name_in_attr.now (ident_text left.variant_ident.now) (does_form setting before receiver (variant_form slot left)) item)
      (by_variant setting earlier receiver.name inside names (does_arms arms) (meta_name item) item))
  one_found names slot left arms item true is others = form_found names slot left (proxy_of left) is item
  one_found names slot left arms item false is others = others

  arms_by : (names : List Text) (b : Bool) (slot : ℕ) (left : Variant) (lefts : List Variant) (arms : List (VariantArm Stmt)) (item : Meta)
      → AllByRecursion IsLeftVariant (cond (not b) (left ∷ read_variants lefts) (read_variants lefts)) → (AllByRecursion IsLeftVariant (read_variants lefts) → AreFound names arms item)
      → AreFound names ((if b then [] else record { name = left.name_in_attr.now; ident = left.variant_ident.now; form = variant_form slot left } ∷ []) ++ arms) item
  arms_by names true slot left lefts arms item are others = others are
  arms_by names false slot left lefts arms item are others =
      one_found names slot left arms item (bytes_eq left.name_in_attr.now (meta_name item)) are.0 (others are.1)

  arms_found : (names : List Text) (slot : ℕ) (lefts : List Variant) (item : Meta) → AllByRecursion IsLeftVariant (read_variants lefts) → AreFound names (variant_arms slot lefts) item
  arms_found names slot [] item are = (_, refl)
  arms_found names slot (left ∷ lefts) item are =
      let next = slot + length (slotted left) in
      arms_by names left.skip slot left lefts (variant_arms next lefts) item are (λ are. arms_found names next lefts item are)

  variants_found : (names : List Text) (lefts : List Variant) (items : List NestedMeta) → AllByRecursion IsLeftVariant (read_variants lefts)
      → HasFound (variants setting earlier receiver.name inside names (does_arms (variant_arms 0 lefts)) items)
  variants_found names lefts [] are = (_, refl)
  variants_found names lefts (nested.Meta item ∷ []) are = arms_found names 0 lefts item are
  variants_found names lefts (nested.Lit item ∷ []) are = (_, refl)
  variants_found names lefts (nested.NameValueInvalidExpr item ∷ []) are = (_, refl)
  variants_found names lefts (item ∷ other ∷ more) are = (_, refl)

  -- ---- all functions

  abbrev Runs : Func → Type 0
  Runs func = (asked : Asked) → HasFound (run setting before receiver func.stmts asked)

  abbrev AllRun : List Func → Type 0
  AllRun funcs = AllByRecursion Runs funcs

  all_run : (xs ys : List Func) → AllRun xs → AllRun ys → AllRun (xs ++ ys)
  all_run [] ys are others = others
  all_run (x ∷ xs) ys are others = (are.0, all_run xs ys are.1 others)

  from_progress : (p q : Progress) → p ≡ q → HasFound q → HasFound p
  from_progress p q e has = (has.0, ap outcome e ∙ has.1)

  word_runs : (callable : Option Callable) → AllRun (call_func func.FromWord callable)
  word_runs None = tt
  word_runs (Some it) = (λ asked. (_, ap outcome (statement.call setting before receiver it func.FromWord asked (Going start no_aside))), tt)

  none_runs : (callable : Option Callable) → AllRun (call_func func.FromNone callable)
  none_runs None = tt
  none_runs (Some it) = (λ asked. (_, ap outcome (statement.call setting before receiver it func.FromNone asked (Going start no_aside))), tt)

  expr_runs : (callable : Option Callable) → AllRun (call_func func.FromExpr callable)
  expr_runs None = tt
  expr_runs (Some it) = (λ asked. (_, ap outcome (statement.call setting before receiver it func.FromExpr asked (Going start no_aside))), tt)

  module _ (left : FromMetaImpl) where
    calls_run : AllRun (call_funcs left)
    calls_run =
        all_run (call_func func.FromWord left.from_word ++ call_func func.FromNone (option_copied left.from_none)) (call_func func.FromExpr (option_copied left.from_expr))
        (all_run (call_func func.FromWord left.from_word) (call_func func.FromNone (option_copied left.from_none)) (word_runs left.from_word) (none_runs (option_copied left.from_none)))
        (expr_runs (option_copied left.from_expr))

    list_runs : IsLeft left.base → AllRun (list_funcs left)
    list_runs is =
        all_run (call_funcs left) (record { name = func.FromList; stmts = list_stmts left.base } ∷ []) calls_run
        (λ asked. (_, list_outcome setting before receiver left.base (meant_decl receiver.type [] left.base) asked (decl_is receiver.type [] left.base is)), tt)

    whole_runs : (style : Style) (field : Field) → AllRun (whole_funcs left.base style field)
    whole_runs style field =
        (λ asked. (_, ap outcome (statement.delegate setting before receiver left.base.ident.now (member_name style field) field.ty.now asked (Going start no_aside))), tt)

    unit_runs : fields_of left.base ≡ [] → AllRun (unit_funcs left.base)
    unit_runs none = (
      λ asked. (
        _,
        ap (λ fields. outcome (run setting before receiver (stmt.Build left.base.ident.now None [] (inits fields) ∷ []) asked)) none
            ∙ ap outcome (statement.build setting before receiver left.base.ident.now None [] [] asked (Going start no_aside)),
      ),
      tt,
    )

    own_runs : (s : Style) (fields : List Field) → fields_of left.base ≡ fields → IsLeftOwn (whole_default left.base) s fields → AllRun (own_funcs s left)
    own_runs style.Unit fields same is = unit_runs (same ∙ is)
    own_runs style.Struct fields same is = list_runs (let P : List Field → Type 0 = λ fields. AllByRecursion (IsLeftField (whole_default left.base)) fields in subst P (sym same) is)
    own_runs style.Tuple fields same is = absurd is

    struct_runs : (p : Option Field) (s : Style) (fields : List Field) → fields_of left.base ≡ fields → IsLeftForm (whole_default left.base) p s fields → AllRun (funcs_by p s left)
    struct_runs (Some field) s fields same is = whole_runs s field
    struct_runs None s fields same is = own_runs s fields same is

    enum_runs : (lefts : List Variant) → AllByRecursion IsLeftVariant (read_variants lefts) → AllRun (enum_funcs left lefts)
    enum_runs lefts are = (
      λ asked. from_progress _ _ (statement.variants setting before receiver (variant_arms 0 lefts) (variant_names lefts) asked (Going start no_aside)) (variants_found (variant_names lefts) lefts (items_asked asked) are),
      (
        λ asked. (_, ap outcome (statement.unit_names setting before receiver (unit_arms lefts) (variant_names lefts) asked (Going start no_aside))),
        calls_run,
      ),
    )

    pub meta_runs : (b : «Data» Variant Field) → left.base.body ≡ b → IsLeftBody left.base b → AllRun (funcs_in left b)
    meta_runs (body.Struct it) same is = struct_runs (transparent_field left.base.transparent it.style it.fields) it.style it.fields (ap struct_fields same) is
    meta_runs (body.Enum lefts) same is = enum_runs lefts is

pub meta_funcs_have_outcomes : MetaFuncsHaveOutcomes
meta_funcs_have_outcomes setting before unit (left, compiled, is) =
    let P : Unit' → Type 0 = λ unit. AllByRecursion (HasOutcomes setting before unit) unit.funcs in
    subst P (sym compiled) (meta_runs setting before (receiver_of setting (compiled_meta left unit.decl)) left left.base.body refl is)

pub inputs_have_outcomes : InputsHaveOutcomes
inputs_have_outcomes setting before unit input (left, compiled, is, bare, no_ident) =
    let names = map path_text left.outer.attr_names.now.0 in
    let decl = meant_decl (unit_type unit) names left.outer.base in (
      _,
      ap (λ u. run_func setting before is_from_derive_input u (OnElement (OnInput input))) (compiled ∙ bare_unit left unit.decl bare)
          ∙ input_outcome setting before (receiver_of setting (compiled_bare left unit.decl)) left decl input
          (record { base = decl_is (unit_type unit) names left.outer.base is; attributes = refl; bare = bare; no_ident = no_ident }),
    )
