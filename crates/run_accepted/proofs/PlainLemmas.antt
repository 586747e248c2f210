-- The options of a plain declaration, and what they compile to.
use Rattle.std.proofs.Common.{◌≡◌, ◌∙◌, ℕ, Bool, true, false, cond, List, [], ◌∷◌, ◌++◌, map, codes, Option, Some, None, refl, sym, ap, subst, inl, inr}
use Rattle.std.specs.Prelude.{◌||◌, ◌⊎◌, is_some}
use Rattle.std.specs.List.{All, AllByRecursion}
use Rattle.std.proofs.lemmas.List.Elements.{All-from_recursion, recursion_from_All}
use Rattle.std.specs.Option.{option_copied, option_or}
use Rattle.std.specs.Str.{bytes_eq}
use Rattle.base_core.specs.declared.text.Text.{Text}
use Rattle.tok_types.specs.declared.ident.Ident.{Ident}
use Rattle.tok_types.specs.declared.span.Span.{Span}
use Rattle.error_fault.specs.Outcome.{Outcome, value_of}
use Rattle.node_core.specs.Meta.{path_of_meta}
use Rattle.node_core.specs.declared.attr.Meta.{Meta}
use Rattle.node_core.specs.declared.data.«Data».{«Data»}
use Rattle.node_core.specs.declared.data.«Data».TheVariants as node
use Rattle.node_core.specs.declared.data.Fields.{Fields}
use Rattle.node_core.specs.declared.data.Fields.TheVariants as fields
use Rattle.node_core.specs.declared.derive.DeriveInput.{DeriveInput}
use Rattle.node_core.specs.declared.style.Style.{Style}
use Rattle.node_core.specs.declared.style.Style.TheVariants as style
use Rattle.node_core.specs.Style.{style_of}
use Rattle.options_rows.specs.Entries.{items, option_entries}
use Rattle.options_rows.specs.Members.{body_fields}
use Rattle.options_rows.specs.Rows.{OptionRow, first_of, list_of, name_in, values}
use Rattle.options_rows.specs.Values.{Rules, present_of, word_of}
use Rattle.options_core.specs.Body.{Body, core_with, start_body, with_fields}
use Rattle.options_core.specs.MemberViews.{IsBody, IsImpl}
use Rattle.options_core.specs.MetaViews.{IsMetaImpl, body_word}
use Rattle.options_core.specs.Core.{Core}
use Rattle.body_core.specs.declared.ast.data.«Data».{«Data» as Data'}
use Rattle.body_core.specs.declared.ast.data.«Data».TheVariants as container
use Rattle.codegen_program.specs.declared.callable.Callable.{Callable}
use Rattle.codegen_program.specs.Traits.{is_input}
use Rattle.codegen_program.specs.declared.program.Derive.{Derive}
use Rattle.codegen_program.specs.declared.program.Derive.TheVariants as derives
use Rattle.codegen_program.specs.declared.program.Func.{Func}
use Rattle.codegen_program.specs.declared.program.FuncName.TheVariants as func
use Rattle.codegen_program.specs.declared.program.«Unit».{«Unit» as Unit'}
use Rattle.codegen_core.specs.Compiled.{HasNamedFields, IsListed, IsPlain, call_func, compiled_list, compiled_meta, funcs_by, funcs_in, list_funcs, list_stmts, unit_with}
use Rattle.codegen_core.specs.Variants.{transparent_field}
use Rattle.codegen_core.specs.declared.from_meta_impl.FromMetaImpl.{FromMetaImpl}
use Rattle.codegen_core.specs.declared.field.Field.{Field}
use Rattle.codegen_core.specs.declared.trait_impl.TraitImpl.{TraitImpl}
use Rattle.codegen_core.specs.declared.variant.Variant.{Variant}
use Rattle.options_core.specs.MetaOptions.{from_expr, from_none, from_word, meta_core_item, meta_core_items, meta_name_of, meta_named, meta_table, same_meta}
use Rattle.options_core.specs.ContainerOptions.{core_item, core_items, fdi_named, fdi_table, outer_item, outer_items, outer_table}
use Rattle.options_core.specs.CoreOptions.{core_name_of, core_table, same_core, transparent}
use Rattle.options_core.specs.MetaName.{MetaName}
use Rattle.options_core.specs.Stages.{container_options, core_with_body, good_fields, meta_reader, options_of}
use Rattle.options_core.specs.Readers.{fdi_reader}
use Rattle.options_core.specs.InputField.{InputField}
use Rattle.run_accepted.specs.Derives.{derives_of}
use Rattle.run_accepted.specs.declared.derives.Derived.{Derived}
use Rattle.run_accepted.specs.Plain.{IsPlainDecl, IsPlainInput, IsPlainUnder, is_other_word}
use Rattle.run_accepted.specs.Unbuilt.{are_named, derive_places, derives_input, has_named_fields, input_places, is_unbuilt_word}
use Rattle.run_accepted.proofs.BuiltLemmas.{all_compiled, each-weaker, input_built, named, no_words}

-- the options are those of a struct with braces
abbrev pub HasBraces : Body → Type 0
HasBraces (container.Struct it) = it.style ≡ style.Struct
HasBraces (container.Enum variants) = ⊥

-- which is not read as its one field is
pub record IsPlainCore (core : Core) : Type 0 where
  pub braces : HasBraces core.body
  pub alone : core.transparent.0 ≡ None

-- braces

struct_braces : (it : Fields) → are_named it ≡ true → style_of it ≡ style.Struct
struct_braces (fields.Named it) is = refl
struct_braces (fields.Unnamed it) is = cc
struct_braces fields.Unit is = cc

has_braces : (body : «Data») (members : List InputField) → has_named_fields body ≡ true → HasBraces (with_fields (start_body body) members)
has_braces (node.Struct it) members is = struct_braces it.fields is
has_braces (node.Enum it) members is = cc
has_braces (node.Union it) members is = cc

-- `transparent`

cond-row : {N : Type 0} (P : N → Type 0) (test : Bool) (x y : N) → (test ≡ false) ⊎ P x → P y → P (cond test x y)
cond-row P false x y at_x at_y = at_y
cond-row P true x y (inl not) at_y = absurd cc
cond-row P true x y (inr at_x) at_y = at_x

-- the fact holds of each name whose word this may be
abbrev EachRow : {S N : Type 0} → (N → Type 0) → Text → List (OptionRow S N) → Type 0
EachRow P word [] = Unit {0}
EachRow P word (row ∷ rows) = ((bytes_eq word row.word ≡ false) ⊎ P row.name) × EachRow P word rows

name_is : {S N : Type 0} (P : N → Type 0) (rows : List (OptionRow S N)) (other : N) (word : Text) → EachRow P word rows → P other
    → P (name_in rows other word)
name_is P [] other word are is = is
name_is P (row ∷ rows) other word are is =
    cond-row P (bytes_eq word row.word) row.name (name_in rows other word) are.0 (name_is P rows other word are.1 is)

none-behind : (a b : Bool) → (a || b) ≡ false → a ≡ false
none-behind true b is = cc
none-behind false b is = refl

-- another word is not `transparent`
other_name : (word : Text) → bytes_eq word (codes "transparent") ≡ false → same_core transparent.name (core_name_of word) ≡ false
other_name word is =
    name_is (λ name. same_core transparent.name name ≡ false) (core_table []) _ word
    (inr refl, (inr refl, (inr refl, (inr refl, (inr refl, (inr refl, (inl is, (inr refl, tt))))))))
    refl

-- each item is of another word
abbrev AreOther : List Meta → Type 0
AreOther items = AllByRecursion (λ item. bytes_eq (word_of (path_of_meta item)) (codes "transparent") ≡ false) items

-- no item is of an option by which metas are read otherwise than field by field
abbrev ArePlain : List Meta → Type 0
ArePlain items = AllByRecursion (λ item. is_other_word (word_of (path_of_meta item)) ≡ false) items

-- where no later item sets `transparent`, one of another word sets it no more
none_more : (word : Text) (item : Meta) (later : List Span) → bytes_eq word (codes "transparent") ≡ false → later ≡ []
    → cond (same_core transparent.name (core_name_of word)) (list_of (value_of (present_of item))) [] ++ later ≡ []
none_more word item later is none =
    let P : Bool → Type 0 = λ test. cond test (list_of (value_of (present_of item))) [] ++ later ≡ [] in
    subst P (sym (other_name word is)) none

input_sets_none : (items : List Meta) → AreOther items
    → values (same_core transparent.name) present_of (core_items (outer_items (map fdi_named items))) ≡ []
input_sets_none [] are = refl
input_sets_none (item ∷ items) are =
    let word = word_of (path_of_meta item) in
    let later = input_sets_none items are.1 in
    name_is (λ name. values (same_core transparent.name) present_of (core_items (outer_item name item ++ outer_items (map fdi_named items))) ≡ [])
    fdi_table _ word (inr later, tt)
    (name_is (λ name. values (same_core transparent.name) present_of (core_item name item ++ core_items (outer_items (map fdi_named items))) ≡ [])
    outer_table _ word (inr later, (inr later, (inr later, tt)))
    (none_more word item _ are.0 later))

-- no word of either list is `transparent`
first_word : (item : Meta) (rest : Bool) → (bytes_eq (word_of (path_of_meta item)) (codes "transparent") || rest) ≡ false
    → bytes_eq (word_of (path_of_meta item)) (codes "transparent") ≡ false
first_word item rest is = none-behind (bytes_eq (word_of (path_of_meta item)) (codes "transparent")) rest is

pub input_is_plain : (rules : Rules) (decl : DeriveInput) → input_places decl ≡ [] → IsPlainCore (options_of (fdi_reader rules decl) decl).base.container
input_is_plain rules decl built =
    record {
      braces = has_braces decl.body _ (named decl built);
      alone =
          let its = items (option_entries decl.attrs) in
          ap (first_of None)
          (input_sets_none its (each-weaker (λ item. is_unbuilt_word (word_of (path_of_meta item)) ≡ false)
          (λ item. bytes_eq (word_of (path_of_meta item)) (codes "transparent") ≡ false) (λ item. first_word item _) its (no_words decl built)));
    }

meta_sets_none : (items : List Meta) → AreOther items
    → values (same_core transparent.name) present_of (meta_core_items (map meta_named items)) ≡ []
meta_sets_none [] are = refl
meta_sets_none (item ∷ items) are =
    let word = word_of (path_of_meta item) in
    let later = meta_sets_none items are.1 in
    name_is (λ name. values (same_core transparent.name) present_of (meta_core_item name item ++ meta_core_items (map meta_named items)) ≡ [])
    meta_table _ word (inr later, (inr later, (inr later, (inr later, tt))))
    (none_more word item _ are.0 later)

-- ---- the options of `FromMeta`

plain_words : (decl : DeriveInput) → IsPlainDecl decl → ArePlain (items (option_entries decl.attrs))
plain_words decl plain = recursion_from_All (λ item. is_other_word (word_of (path_of_meta item)) ≡ false) (items (option_entries decl.attrs)) plain.words

module _ (rules : Rules) where
  -- a struct with braces keeps its fields
  pub struct_core : (core : Core) (it : «Data») → has_named_fields it ≡ true → core_with_body rules core it ≡ core_with core (good_fields rules core (body_fields it))
  struct_core core (node.Struct it) is = refl
  struct_core core (node.Enum it) is = cc
  struct_core core (node.Union it) is = cc

  pub meta_core_is : (decl : DeriveInput) → IsPlainDecl decl
      → (options_of (meta_reader rules decl) decl).base
      ≡ core_with (container_options (meta_reader rules decl) decl).base
      (good_fields rules (container_options (meta_reader rules decl) decl).base (body_fields decl.body))
  meta_core_is decl plain = struct_core (container_options (meta_reader rules decl) decl).base decl.body plain.braces

  meta_is_plain : (decl : DeriveInput) → IsPlainDecl decl → IsPlainCore (options_of (meta_reader rules decl) decl).base
  meta_is_plain decl plain =
      subst IsPlainCore (sym (meta_core_is decl plain))
      (record {
        braces = has_braces decl.body _ plain.braces;
        alone =
            let its = items (option_entries decl.attrs) in
            ap (first_of None)
            (meta_sets_none its (each-weaker (λ item. is_other_word (word_of (path_of_meta item)) ≡ false)
            (λ item. bytes_eq (word_of (path_of_meta item)) (codes "transparent") ≡ false) (λ item. first_word item _) its (plain_words decl plain)));
      })

-- ---- what is called

none-rest : (a b : Bool) → (a || b) ≡ false → b ≡ false
none-rest true b is = cc
none-rest false b is = is

-- such a word is of no option that names a callable
record CallsNothing (word : Text) : Type 0 where
  word_option : same_meta from_word.name (meta_name_of word) ≡ false
  none_option : same_meta from_none.name (meta_name_of word) ≡ false
  expr_option : same_meta from_expr.name (meta_name_of word) ≡ false

calls_nothing : (word : Text) → is_other_word word ≡ false → CallsNothing word
calls_nothing word is =
    let at_word = none-rest (bytes_eq word (codes "transparent")) _ is in
    let at_none = none-rest (bytes_eq word (codes "from_word")) _ at_word in
    let at_expr = none-rest (bytes_eq word (codes "from_none")) _ at_none in
    record {
      word_option =
          name_is (λ name. same_meta from_word.name name ≡ false) meta_table _ word
          (inl (none-behind (bytes_eq word (codes "from_word")) _ at_word), (inr refl, (inr refl, (inr refl, tt))))
          refl;
      none_option =
          name_is (λ name. same_meta from_none.name name ≡ false) meta_table _ word
          (inr refl, (inl (none-behind (bytes_eq word (codes "from_none")) _ at_none), (inr refl, (inr refl, tt))))
          refl;
      expr_option =
          name_is (λ name. same_meta from_expr.name name ≡ false) meta_table _ word
          (inr refl, (inr refl, (inl (none-behind (bytes_eq word (codes "from_expr")) _ at_expr), (inr refl, tt))))
          refl;
    }

module _ {A : Type 0} (name : MetaName) (read : Meta → Outcome A)
    (other : (word : Text) → is_other_word word ≡ false → same_meta name (meta_name_of word) ≡ false) where
  option_unset : (items : List Meta) → ArePlain items → values (same_meta name) read (map meta_named items) ≡ []
  option_unset [] are = refl
  option_unset (item ∷ items) are =
      ap (λ test. cond test (list_of (value_of (read item))) [] ++ values (same_meta name) read (map meta_named items)) (other (word_of (path_of_meta item)) are.0)
      ∙ option_unset items are.1

-- a struct has no word
no_word : (it : «Data») (members : List InputField) → body_word (with_fields (start_body it) members) ≡ None
no_word (node.Struct it) members = refl
no_word (node.Enum it) members = refl
no_word (node.Union it) members = refl

-- what is compiled from such options

has_named : (ty : Ident) (left : Data' Variant Field) (it : Body) → IsBody ty left it → HasBraces it → HasNamedFields left
has_named ty (container.Struct left) (container.Struct it) same is = same.0 ∙ is
has_named ty (container.Struct left) (container.Enum variants) same is = absurd same
has_named ty (container.Enum variants) (container.Struct it) same is = absurd same
has_named ty (container.Enum variants) (container.Enum others) same is = absurd is

pub left_is_plain : (left : TraitImpl) (core : Core) → IsImpl left core → IsPlainCore core → IsPlain left
left_is_plain left core same plain = (has_named core.ident left.body core.body same.members plain.braces, same.transparent ∙ ap is_some plain.alone)

-- ---- the unit of `FromMeta`

pub meta_is_listed : (rules : Rules) (decl : DeriveInput) (left : FromMetaImpl) → IsPlainDecl decl → IsMetaImpl left (options_of (meta_reader rules decl) decl)
    → IsListed left
meta_is_listed rules decl left plain is =
    let its = items (option_entries decl.attrs) in
    let are = plain_words decl plain in
    let options = options_of (meta_reader rules decl) decl in
    let unset : options.from_word ≡ None =
    ap (first_of None) (option_unset from_word.name from_word.read (λ word not. (calls_nothing word not).word_option) its are) in
    let worded : body_word options.base.body ≡ None =
    ap (λ (core : Core). body_word core.body) (meta_core_is rules decl plain) ∙ no_word decl.body _ in
    record {
      plain = left_is_plain left.base options.base is.base (meta_is_plain rules decl plain);
      word = is.word ∙ ap (λ set. option_or set (body_word options.base.body)) unset ∙ worded;
      none = is.none ∙ ap (first_of None) (option_unset from_none.name from_none.read (λ word not. (calls_nothing word not).none_option) its are);
      expr = is.expr ∙ ap (first_of None) (option_unset from_expr.name from_expr.read (λ word not. (calls_nothing word not).expr_option) its are);
    }

no_calls : (word absent expr : Option Callable) → word ≡ None → absent ≡ None → expr ≡ None
    → call_func func.FromWord word ++ call_func func.FromNone absent ++ call_func func.FromExpr expr ≡ []
no_calls None None None no_word no_absent no_expr = refl
no_calls None None (Some it) no_word no_absent no_expr = cc
no_calls None (Some it) expr no_word no_absent no_expr = cc
no_calls (Some it) absent expr no_word no_absent no_expr = cc

by_fields : (left : FromMetaImpl) (transparent : Bool) (it : Style) (fields : List Field) → it ≡ style.Struct → transparent ≡ false
    → funcs_by (transparent_field transparent it fields) it left ≡ list_funcs left
by_fields left false style.Struct fields is not = refl
by_fields left true style.Struct fields is not = cc
by_fields left transparent style.Tuple fields is not = cc
by_fields left transparent style.Unit fields is not = cc

listed_funcs : (left : FromMetaImpl) (it : Data' Variant Field) → HasNamedFields it → left.base.transparent ≡ false
    → funcs_in left it ≡ list_funcs left
listed_funcs left (container.Struct it) named not = by_fields left left.base.transparent it.style it.fields named not
listed_funcs left (container.Enum variants) named not = absurd named

-- it is read field by field, and no callable is asked
pub listed_unit : (left : FromMetaImpl) (number : ℕ) → IsListed left → compiled_meta left number ≡ compiled_list left number
listed_unit left number is =
    let make : List Func → Unit' = unit_with number derives.FromMeta left.base left.derive_syn_parse in
    ap make
    (listed_funcs left left.base.body is.plain.0 is.plain.1
    ∙ ap (λ calls. calls ++ record { name = func.FromList; stmts = list_stmts left.base } ∷ []) (no_calls left.from_word (option_copied left.from_none) (option_copied left.from_expr) is.word is.none is.expr))

-- ---- derives

or-second : (a b : Bool) → b ≡ true → (a || b) ≡ true
or-second true b is = refl
or-second false b is = is

-- a derive of which units are made, one of those among which `FromDeriveInput` may be
one_plain : (decl : DeriveInput) (it : Derive) (span : Span) (rest : Bool) → derive_places (record { derive = it; span = span }) ≡ []
    → ((is_input it || rest) ≡ true → IsPlainInput decl) → IsPlainUnder decl it
one_plain decl derives.FromMeta span rest none is = tt
one_plain decl derives.FromAttributes span rest none is = cc
one_plain decl derives.FromDeriveInput span rest none is = is refl
one_plain decl derives.FromField span rest none is = cc
one_plain decl derives.FromTypeParam span rest none is = cc
one_plain decl derives.FromVariant span rest none is = cc

all_plain : (decl : DeriveInput) (its : List Derived) → AllByRecursion (λ it. derive_places it ≡ []) its → (derives_input its ≡ true → IsPlainInput decl)
    → AllByRecursion (λ it. IsPlainUnder decl it.derive) its
all_plain decl [] none is = tt
all_plain decl (it ∷ its) none is = (
  one_plain decl it.derive it.span (derives_input its) none.0 is,
  all_plain decl its none.1 (λ later. is (or-second (is_input it.derive) (derives_input its) later)),
)

module _ (decl : DeriveInput) (plain : IsPlainDecl decl) where
  pub plain_input : derives_input (derives_of decl.attrs) ≡ true → IsPlainInput decl
  plain_input derived = record { built = input_built decl plain.built derived; own = plain.own derived }

  -- it can be run under each of its derives
  pub plain_under : All (λ it. IsPlainUnder decl it.derive) (derives_of decl.attrs)
  plain_under =
      All-from_recursion (λ it. IsPlainUnder decl it.derive) (derives_of decl.attrs)
      (all_plain decl (derives_of decl.attrs) (all_compiled decl plain.built) plain_input)
