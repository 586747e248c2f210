-- The functions of an enum give what its variants mean.
use Rattle.std.proofs.Common.{◌≡◌, ℕ, ◌+◌, Bool, true, false, not, cond, List, [], ◌∷◌, ◌++◌, length, map, Option, Some, None, refl, ap, ap₂, ◌∙◌, if◌then◌else◌}
use Rattle.std.specs.List.{AllZip, cons_option}
use Rattle.std.specs.Str.{bytes_eq}
use Rattle.base_core.specs.declared.text.Text.{Text}
use Rattle.tok_types.specs.Ident.{ident_text}
use Rattle.node_core.specs.declared.attr.Meta.{Meta}
use Rattle.node_core.specs.declared.attr.Meta.TheVariants as meta
use Rattle.node_core.specs.declared.style.Style.{Style}
use Rattle.node_core.specs.declared.style.Style.TheVariants as style
use Rattle.meta_nested.specs.Dispatch.{from_meta, items_of}
use Rattle.meta_nested.specs.Nodes.{nested_span}
use Rattle.meta_nested.specs.declared.nested.NestedMeta.{NestedMeta}
use Rattle.meta_nested.specs.declared.nested.NestedMeta.TheVariants as nested
use Rattle.error_fault.specs.Fault.{at_span}
use Rattle.error_fault.specs.Kind.{set_of}
use Rattle.error_fault.specs.Outcome.{Outcome, Value, Faults, bind, on_value, refused, under}
use Rattle.error_fault.specs.declared.kind.FaultKind.TheVariants.{UnknownField, UnknownValue}
use Rattle.machine_value.specs.declared.value.Value.{Value as Datum}
use Rattle.codegen_program.specs.declared.stmt.Stmt.{Stmt}
use Rattle.codegen_program.specs.declared.variant.UnitArm.{UnitArm}
use Rattle.codegen_program.specs.declared.variant.VariantArm.{VariantArm}
use Rattle.codegen_core.specs.Variants.{form_by, own_form, own_unit_form, proxy_of, slotted, unit_arms, unit_form, unit_form_by, variant_arms, variant_form, variant_names, variant_stmts}
use Rattle.codegen_core.specs.declared.field.Field.{Field}
use Rattle.codegen_core.specs.declared.variant.Variant.{Variant}
use Rattle.machine_steps.specs.Asked.{Items}
use Rattle.machine_steps.specs.Convert.{Earlier, cells, none}
use Rattle.machine_steps.specs.Names.{meta_name}
use Rattle.machine_steps.specs.Progress.{outcome}
use Rattle.machine_steps.specs.Reads.{Before, metas}
use Rattle.machine_steps.specs.Receivers.{Receiver}
use Rattle.machine_steps.specs.Setting.{Setting}
use Rattle.machine_steps.specs.Statements.{inside, run}
use Rattle.machine_steps.specs.Variants.{bare, by_form, by_unit_form, by_variant, of_none, on_list, one_item, unit_names, variants, wrapped}
use Rattle.meaning_core.specs.Decl.{BodyDecl}
use Rattle.meaning_core.specs.Receivers.{Bare, ByFields, Form, VariantDecl, Whole}
use Rattle.meaning_core.specs.Variants.{fields_meaning, form_meaning, item_meaning, named_meaning, none_meaning, text_form, text_meaning, text_named, variant_named, variant_names as meant_names, variants_meaning}
use Rattle.law_machine.specs.Compiles.{IsOwnForm, IsVariantBody, IsVariantDecl, IsVariantForm, read_variants}
use Rattle.machine_steps.proofs.Statements.{does_arm, does_form}
use Rattle.law_machine.proofs.Variants.{variant_is}

module _ (setting : Setting) (before : Before) (receiver : Receiver) (enum : Text) where
  abbrev earlier : Earlier
  earlier = metas before

  abbrev names_of : List Variant → List Text
  names_of lefts = variant_names lefts

  abbrev some : Outcome Datum → Option (Outcome Datum)
  some it = Some it

  -- ---- an item by the form of its variant

  module _ (names : List Text) where
    abbrev reads : Text → Text → VariantArm Stmt → Meta → Option (Outcome Datum)
    reads name variant arm item =
        outcome (by_form setting earlier enum inside names name variant (does_form setting before receiver arm.form) item)

    abbrev list_reads : ℕ → Variant → Outcome (List NestedMeta) → Option (Outcome Datum)
    list_reads slot left o = outcome (on_list o (λ items. run setting before receiver (variant_stmts slot left) (Items items)))

    list_is : (slot : ℕ) (left : Variant) (it : VariantDecl) (body : BodyDecl) (o : Outcome (List NestedMeta)) → IsVariantDecl enum left it → IsVariantBody left body
        → list_reads slot left o ≡ Some (bind o (fields_meaning setting earlier enum it body))
    list_is slot left it body (Value items) is is_body = variant_is setting before receiver items body left enum slot it is_body is.owner is.ident is.name
    list_is slot left it body (Faults fault more) is is_body = refl

    own_is : (slot : ℕ) (left : Variant) (it : VariantDecl) (item : Meta) → IsVariantDecl enum left it → (s : Style) (f : Form) → IsOwnForm left s f
        → outcome (by_form setting earlier enum inside names left.name_in_attr.now (ident_text left.variant_ident.now) (does_form setting before receiver (own_form s slot left)) item)
        ≡ Some (form_meaning setting earlier enum it f item)
    own_is slot left it (meta.Path path) is style.Unit Bare own = ap (λ i. some (Value (bare enum i))) is.ident
    own_is slot left it (meta.«List» list) is style.Unit Bare own = refl
    own_is slot left it (meta.NameValue pair) is style.Unit Bare own = refl
    own_is slot left it (meta.Path path) is style.Struct (ByFields body) own = refl
    own_is slot left it (meta.«List» list) is style.Struct (ByFields body) own = list_is slot left it body (items_of list.tokens) is own
    own_is slot left it (meta.NameValue pair) is style.Struct (ByFields body) own = refl
    own_is slot left it item is style.Unit (Whole member type) own = absurd own
    own_is slot left it item is style.Unit (ByFields body) own = absurd own
    own_is slot left it item is style.Struct Bare own = absurd own
    own_is slot left it item is style.Struct (Whole member type) own = absurd own
    own_is slot left it item is style.Tuple Bare own = absurd own
    own_is slot left it item is style.Tuple (Whole member type) own = absurd own
    own_is slot left it item is style.Tuple (ByFields body) own = absurd own

    form_is : (slot : ℕ) (left : Variant) (it : VariantDecl) (item : Meta) → IsVariantDecl enum left it → (p : Option Field) (f : Form) → IsVariantForm left p f
        → outcome (by_form setting earlier enum inside names left.name_in_attr.now (ident_text left.variant_ident.now) (does_form setting before receiver (form_by p slot left)) item)
        ≡ Some (form_meaning setting earlier enum it f item)
    form_is slot left it item is (Some field) (Whole member type) own =
        ap₂ (λ m t. some (on_value (wrapped enum (ident_text left.variant_ident.now) m) (under left.name_in_attr.now (from_meta (cells setting earlier t) item)))) own.0 own.1
        ∙ ap₂ (λ i n. some (on_value (wrapped enum i member) (under n (from_meta (cells setting earlier type) item)))) is.ident is.name
    form_is slot left it item is (Some field) Bare own = absurd own
    form_is slot left it item is (Some field) (ByFields body) own = absurd own
    form_is slot left it item is None f own = own_is slot left it item is left.body.style f own

    -- ---- the variant of a name

    module _ (all : List VariantDecl) (same : names ≡ meant_names all) (item : Meta) where
      abbrev arm_of : ℕ → Variant → VariantArm Stmt
      arm_of slot left = record { name = left.name_in_attr.now; ident = left.variant_ident.now; form = variant_form slot left }

      abbrev found : List (VariantArm Stmt) → Option (Outcome Datum)
      found arms = outcome (by_variant setting earlier enum inside names (map (does_arm setting before receiver) arms) (meta_name item) item)

      abbrev meant : List VariantDecl → Option (Outcome Datum)
      meant decls = Some (named_meaning setting earlier enum all item (variant_named decls (meta_name item)))

      one_arm : (slot : ℕ) (left : Variant) (it : VariantDecl) (arms : List (VariantArm Stmt)) (decls : List VariantDecl) → IsVariantDecl enum left it → found arms ≡ meant decls
          → found (arm_of slot left ∷ arms) ≡ meant (it ∷ decls)
      one_arm slot left it arms decls is others =
          let name = meta_name item in
          ap (λ n. outcome (cond (bytes_eq n name)
          (by_form setting earlier enum inside names left.name_in_attr.now (ident_text left.variant_ident.now) (does_form setting before receiver (variant_form slot left)) item)
          (by_variant setting earlier enum inside names (map (does_arm setting before receiver) arms) name item))) is.name
          ∙ elim (bytes_eq it.name name) as (λ b. outcome (cond b
          (by_form setting earlier enum inside names left.name_in_attr.now (ident_text left.variant_ident.now) (does_form setting before receiver (variant_form slot left)) item)
          (by_variant setting earlier enum inside names (map (does_arm setting before receiver) arms) name item))
          ≡ Some (named_meaning setting earlier enum all item (if b then Some it else variant_named decls name))) [
            | true ↦ form_is slot left it item is (proxy_of left) it.form is.form
            | false ↦ others
          ]

      arms_by : (b : Bool) (slot : ℕ) (left : Variant) (lefts : List Variant) (arms : List (VariantArm Stmt)) (decls : List VariantDecl)
          → AllZip (IsVariantDecl enum) (cond (not b) (left ∷ read_variants lefts) (read_variants lefts)) decls
          → ((decls : List VariantDecl) → AllZip (IsVariantDecl enum) (read_variants lefts) decls → found arms ≡ meant decls)
          → found ((if b then [] else arm_of slot left ∷ []) ++ arms) ≡ meant decls
      arms_by true slot left lefts arms decls zip others = others decls zip
      arms_by false slot left lefts arms [] zip others = absurd zip
      arms_by false slot left lefts arms (it ∷ decls) zip others = one_arm slot left it arms decls zip.0 (others decls zip.1)

      arms_are : (slot : ℕ) (lefts : List Variant) (decls : List VariantDecl) → AllZip (IsVariantDecl enum) (read_variants lefts) decls → found (variant_arms slot lefts) ≡ meant decls
      arms_are slot [] [] zip = ap (λ ns. some (Faults (at_span (UnknownField (meta_name item) (set_of ns)) (nested_span (nested.Meta item))) [])) same
      arms_are slot [] (it ∷ decls) zip = absurd zip
      arms_are slot (left ∷ lefts) decls zip =
          let next = slot + length (slotted left) in
          arms_by left.skip slot left lefts (variant_arms next lefts) decls zip (λ decls zip. arms_are next lefts decls zip)

    item_is : (lefts : List Variant) (decls : List VariantDecl) (item : NestedMeta) → names ≡ meant_names decls → AllZip (IsVariantDecl enum) (read_variants lefts) decls
        → outcome (one_item setting earlier enum inside names (map (does_arm setting before receiver) (variant_arms 0 lefts)) item) ≡ Some (item_meaning setting earlier enum decls item)
    item_is lefts decls (nested.Meta it) same zip = arms_are decls same it 0 lefts decls zip
    item_is lefts decls (nested.Lit it) same zip = refl
    item_is lefts decls (nested.NameValueInvalidExpr it) same zip = refl

    pub variants_are : (lefts : List Variant) (decls : List VariantDecl) (items : List NestedMeta) → names ≡ meant_names decls → AllZip (IsVariantDecl enum) (read_variants lefts) decls
        → outcome (variants setting earlier enum inside names (map (does_arm setting before receiver) (variant_arms 0 lefts)) items) ≡ Some (variants_meaning setting earlier enum decls items)
    variants_are lefts decls [] same zip = refl
    variants_are lefts decls (item ∷ []) same zip = item_is lefts decls item same zip
    variants_are lefts decls (item ∷ other ∷ more) same zip = refl

  -- ---- the names

  names_by : (b : Bool) (left : Variant) (lefts : List Variant) (decls : List VariantDecl) → AllZip (IsVariantDecl enum) (cond (not b) (left ∷ read_variants lefts) (read_variants lefts)) decls
      → ((decls : List VariantDecl) → AllZip (IsVariantDecl enum) (read_variants lefts) decls → variant_names lefts ≡ meant_names decls)
      → cons_option (if b then None else Some left.name_in_attr.now) (variant_names lefts) ≡ meant_names decls
  names_by true left lefts decls zip others = others decls zip
  names_by false left lefts [] zip others = absurd zip
  names_by false left lefts (it ∷ decls) zip others = ap₂ (λ n ns. n ∷ ns) zip.0.name (others decls zip.1)

  pub names_are : (lefts : List Variant) (decls : List VariantDecl) → AllZip (IsVariantDecl enum) (read_variants lefts) decls → variant_names lefts ≡ meant_names decls
  names_are [] [] zip = refl
  names_are [] (it ∷ decls) zip = absurd zip
  names_are (left ∷ lefts) decls zip = names_by left.skip left lefts decls zip (λ decls zip. names_are lefts decls zip)

  -- ---- a text by the form of the variant that it names

  none_is : (it : VariantDecl) (member : Text) (found : Option Datum) → of_none setting earlier enum it.ident member found ≡ none_meaning setting earlier enum it member found
  none_is it member (Some inner) = refl
  none_is it member None = refl

  own_unit_is : (left : Variant) (it : VariantDecl) → IsVariantDecl enum left it → (s : Style) (f : Form) → IsOwnForm left s f
      → by_unit_form setting earlier enum (ident_text left.variant_ident.now) (own_unit_form s) ≡ text_form setting earlier enum it f
  own_unit_is left it is style.Unit Bare own = ap (λ i. Value (bare enum i)) is.ident
  own_unit_is left it is style.Struct (ByFields body) own = refl
  own_unit_is left it is style.Unit (Whole member type) own = absurd own
  own_unit_is left it is style.Unit (ByFields body) own = absurd own
  own_unit_is left it is style.Struct Bare own = absurd own
  own_unit_is left it is style.Struct (Whole member type) own = absurd own
  own_unit_is left it is style.Tuple Bare own = absurd own
  own_unit_is left it is style.Tuple (Whole member type) own = absurd own
  own_unit_is left it is style.Tuple (ByFields body) own = absurd own

  unit_form_is : (left : Variant) (it : VariantDecl) → IsVariantDecl enum left it → (p : Option Field) (f : Form) → IsVariantForm left p f
      → by_unit_form setting earlier enum (ident_text left.variant_ident.now) (unit_form_by p left.body.style) ≡ text_form setting earlier enum it f
  unit_form_is left it is (Some field) (Whole member type) own =
      ap₂ (λ m t. of_none setting earlier enum (ident_text left.variant_ident.now) m (none setting earlier t)) own.0 own.1
      ∙ ap (λ i. of_none setting earlier enum i member (none setting earlier type)) is.ident
      ∙ none_is it member (none setting earlier type)
  unit_form_is left it is (Some field) Bare own = absurd own
  unit_form_is left it is (Some field) (ByFields body) own = absurd own
  unit_form_is left it is None f own = own_unit_is left it is left.body.style f own

  module _ (names : List Text) (all : List VariantDecl) (same : names ≡ meant_names all) (text : Text) where
    abbrev unit_arm_of : Variant → UnitArm
    unit_arm_of left = record { name = left.name_in_attr.now; ident = left.variant_ident.now; form = unit_form left }

    abbrev named : List UnitArm → Outcome Datum
    named arms = unit_names setting earlier enum names arms text

    abbrev meant_text : List VariantDecl → Outcome Datum
    meant_text decls = text_named setting earlier enum all text (variant_named decls text)

    one_unit : (left : Variant) (it : VariantDecl) (arms : List UnitArm) (decls : List VariantDecl) → IsVariantDecl enum left it → named arms ≡ meant_text decls
        → named (unit_arm_of left ∷ arms) ≡ meant_text (it ∷ decls)
    one_unit left it arms decls is others =
        ap (λ n. cond (bytes_eq n text) (by_unit_form setting earlier enum (ident_text left.variant_ident.now) (unit_form left)) (named arms)) is.name
        ∙ elim (bytes_eq it.name text) as (λ b. cond b (by_unit_form setting earlier enum (ident_text left.variant_ident.now) (unit_form left)) (named arms)
        ≡ text_named setting earlier enum all text (if b then Some it else variant_named decls text)) [
          | true ↦ unit_form_is left it is (proxy_of left) it.form is.form
          | false ↦ others
        ]

    units_by : (b : Bool) (left : Variant) (lefts : List Variant) (decls : List VariantDecl)
        → AllZip (IsVariantDecl enum) (cond (not b) (left ∷ read_variants lefts) (read_variants lefts)) decls
        → ((decls : List VariantDecl) → AllZip (IsVariantDecl enum) (read_variants lefts) decls → named (unit_arms lefts) ≡ meant_text decls)
        → named ((if b then [] else unit_arm_of left ∷ []) ++ unit_arms lefts) ≡ meant_text decls
    units_by true left lefts decls zip others = others decls zip
    units_by false left lefts [] zip others = absurd zip
    units_by false left lefts (it ∷ decls) zip others = one_unit left it (unit_arms lefts) decls zip.0 (others decls zip.1)

    units_are : (lefts : List Variant) (decls : List VariantDecl) → AllZip (IsVariantDecl enum) (read_variants lefts) decls → named (unit_arms lefts) ≡ meant_text decls
    units_are [] [] zip = ap (λ ns. let r : Outcome Datum = refused (UnknownValue text (set_of ns)) in r) same
    units_are [] (it ∷ decls) zip = absurd zip
    units_are (left ∷ lefts) decls zip = units_by left.skip left lefts decls zip (λ decls zip. units_are lefts decls zip)

  pub texts_are : (lefts : List Variant) (decls : List VariantDecl) (text : Text) → AllZip (IsVariantDecl enum) (read_variants lefts) decls
      → unit_names setting earlier enum (variant_names lefts) (unit_arms lefts) text ≡ text_meaning setting earlier enum decls text
  texts_are lefts decls text zip = units_are (variant_names lefts) decls (names_are lefts decls zip) text lefts decls zip
