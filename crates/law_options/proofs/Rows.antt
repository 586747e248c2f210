-- The rows of the parts that are taken: where options have no fault, each is that of the one field which takes it.
use Rattle.std.proofs.Common.{◌≡◌, ◌∙◌, Bool, true, false, cond, List, [], ◌∷◌, ◌++◌, map, Option, Some, None, codes, refl, sym, ap, subst}
use Rattle.std.specs.Prelude.{option_map, unwrap_or}
use Rattle.std.specs.List.{AllByRecursion}
use Rattle.std.specs.Str.{bytes_eq}
use Rattle.std.proofs.lemmas.Option.{none-some}
use Rattle.std.proofs.lemmas.Slice.Eq.{bytes_eq-Decides}
use Rattle.base_core.specs.declared.text.Text.{Text}
use Rattle.tok_types.specs.Ident.{ident_text}
use Rattle.tok_types.specs.declared.ident.Ident.{Ident}
use Rattle.node_core.specs.declared.data.Field.{Field}
use Rattle.error_fault.specs.Outcome.{Outcome, Value, Faults, on_value, settle, value_of}
use Rattle.error_fault.specs.declared.fault.Fault.{Fault}
use Rattle.codegen_program.specs.MagicFields.{magic_at, magic_named, magic_of}
use Rattle.codegen_program.specs.declared.forwarded.Forwarded.{Forwarded}
use Rattle.codegen_program.specs.declared.forwarded.Magic.{Magic}
use Rattle.codegen_program.specs.declared.forwarded.Magic.TheVariants as magic
use Rattle.codegen_program.specs.declared.program.Derive.TheVariants as derive
use Rattle.codegen_outer.specs.Parts.{field_part, ident_part, taken_by}
use Rattle.machine_steps.specs.Building.{part_named}
use Rattle.options_types.specs.declared.forwarded_field.ForwardedField.{ForwardedField}
use Rattle.options_rows.specs.Forwarded.{forwarded_as, forwarded_meaning, forwarded_start, of_forwarded, of_forwarded_faults}
use Rattle.options_core.specs.Parts.{forwarded_in, given_in, is_part, part_fields, part_said, parts_said}
use Rattle.run_accepted.specs.Entries.{items, option_entries}
use Rattle.run_accepted.specs.Rows.{last_of, list_of}
use Rattle.run_accepted.specs.Walk.{all_faults}
use Rattle.law_machine.specs.ElementDecls.{rows_that}
use Rattle.law_options.proofs.Owns.{all-append}
use Rattle.law_options.proofs.Taken.{IsPart, names, part_is, word_of_part}

-- ---- names of rows

-- the field's name is this, where there is one
abbrev pub HasWord : Text → Option ForwardedField → Type 0
HasWord word None = Unit {0}
HasWord word (Some row) = ident_text row.ident ≡ word

abbrev pub IsWord : Text → Option Ident → Type 0
IsWord word None = Unit {0}
IsWord word (Some ident) = ident_text ident ≡ word

last_is : {A : Type 0} (P : A → Type 0) (set : A) (its : List A) → P set → AllByRecursion P its → P (last_of set its)
last_is P set [] is are = is
last_is P set (it ∷ its) is are = last_is P it its are.0 are.1

-- what options leave without a fault is what stands behind their items
settled_is : (faults : List Fault) (set row : ForwardedField) → settle faults (Value set) ≡ Value row → set ≡ row
settled_is [] set row is = ap (λ it. unwrap_or (value_of it) set) is
settled_is (fault ∷ more) set row is = absurd (none-some row (ap value_of is))

said_ident : (field : Field) (ident : Option Ident) (word : Text) → IsWord word ident
    → AllByRecursion (HasWord word) (list_of (value_of (on_value Some (forwarded_as field ident))))
said_ident field None word is = tt
said_ident field (Some ident) word is = by_outcome (forwarded_as field (Some ident)) refl
  where
    by_outcome : (it : Outcome ForwardedField) → forwarded_as field (Some ident) ≡ it → AllByRecursion (HasWord word) (list_of (value_of (on_value Some it)))
    by_outcome (Faults fault more) same = tt
    by_outcome (Value row) same =
        let start = forwarded_start ident field.ty in
        let entries = option_entries field.attrs in
        let own = settled_is (all_faults of_forwarded of_forwarded_faults start [] entries) (of_forwarded start (items entries)) row same in
        (ap (λ (it : ForwardedField). ident_text it.ident) (sym own) ∙ is, tt)

module _ (what : Magic) where
  word_is : (field : Field) → is_part what (magic_of derive.FromDeriveInput field) ≡ true → IsWord (word_of_part what) field.ident
  word_is field is =
      let named = names what field.ident (part_is what (magic_of derive.FromDeriveInput field) is) in
      subst (IsWord (word_of_part what)) (sym named.is) named.written

  abbrev taking : List Field → List Field
  taking fields = part_fields derive.FromDeriveInput what fields

  rows_by : (field : Field) (fields : List Field) (test : Bool) → is_part what (magic_of derive.FromDeriveInput field) ≡ test
      → AllByRecursion (HasWord (word_of_part what)) (parts_said (taking fields))
      → AllByRecursion (HasWord (word_of_part what)) (parts_said (cond test (field ∷ taking fields) (taking fields)))
  unfolding forwarded_meaning
  rows_by field fields false is rest = rest
  rows_by field fields true is rest =
      all-append (HasWord (word_of_part what)) (list_of (value_of (part_said field))) (parts_said (taking fields))
      (said_ident field field.ident (word_of_part what) (word_is field is)) rest

  rows_named : (fields : List Field) → AllByRecursion (HasWord (word_of_part what)) (parts_said (taking fields))
  rows_named [] = tt
  rows_named (field ∷ fields) = rows_by field fields (is_part what (magic_of derive.FromDeriveInput field)) refl (rows_named fields)

  idents_by : (field : Field) (fields : List Field) (test : Bool) → is_part what (magic_of derive.FromDeriveInput field) ≡ test
      → AllByRecursion (IsWord (word_of_part what)) (map (λ (it : Field). it.ident) (taking fields))
      → AllByRecursion (IsWord (word_of_part what)) (map (λ (it : Field). it.ident) (cond test (field ∷ taking fields) (taking fields)))
  idents_by field fields false is rest = rest
  idents_by field fields true is rest = (word_is field is, rest)

  idents_named : (fields : List Field) → AllByRecursion (IsWord (word_of_part what)) (map (λ (it : Field). it.ident) (taking fields))
  idents_named [] = tt
  idents_named (field ∷ fields) = idents_by field fields (is_part what (magic_of derive.FromDeriveInput field)) refl (idents_named fields)

  -- what options say of a part is said of a field of its name
  pub forwarded_named : (fields : List Field) → HasWord (word_of_part what) (forwarded_in derive.FromDeriveInput what None fields)
  forwarded_named fields = last_is (HasWord (word_of_part what)) None _ tt (rows_named fields)

  pub given_named : (fields : List Field) → IsWord (word_of_part what) (given_in derive.FromDeriveInput what None fields)
  given_named fields = last_is (IsWord (word_of_part what)) None _ tt (idents_named fields)

-- ---- the rows

-- the rows of these fields
abbrev pub rows_of : (ident attrs generics content : Option ForwardedField) → Option Ident → List Forwarded
rows_of ident attrs generics content vis =
    field_part magic.Ident ident
    ++ (ident_part magic.Vis vis
    ++ (field_part magic.Attrs attrs ++ (field_part magic.Generics generics ++ (field_part magic.Body content ++ []))))

-- a row of another word is passed
module _ (name word : Text) (other : bytes_eq word name ≡ false) (what : Magic) (rest : List Forwarded) where
  field_passed : (it : Option ForwardedField) → HasWord word it → part_named (field_part what it ++ rest) name ≡ part_named rest name
  field_passed None is = refl
  field_passed (Some row) is = ap (λ test. cond test (Some what) (part_named rest name)) (ap (λ text. bytes_eq text name) is ∙ other)

  ident_passed : (it : Option Ident) → IsWord word it → part_named (ident_part what it ++ rest) name ≡ part_named rest name
  ident_passed None is = refl
  ident_passed (Some ident) is = ap (λ test. cond test (Some what) (part_named rest name)) (ap (λ text. bytes_eq text name) is ∙ other)

-- one of this word is found
module _ (name : Text) (what : Magic) (rest : List Forwarded) where
  field_found : (it : Option ForwardedField) (row : ForwardedField) → it ≡ Some row → ident_text row.ident ≡ name → part_named (field_part what it ++ rest) name ≡ Some what
  field_found None row same is = absurd (none-some row same)
  field_found (Some own) row same is =
      let equal : ident_text own.ident ≡ name = cc (same, is) in
      ap (λ test. cond test (Some what) (part_named rest name)) ((bytes_eq-Decides (ident_text own.ident) name).1 equal)

  ident_found : (it : Option Ident) (one : Ident) → it ≡ Some one → ident_text one ≡ name → part_named (ident_part what it ++ rest) name ≡ Some what
  ident_found None one same is = absurd (none-some one same)
  ident_found (Some own) one same is =
      let equal : ident_text own ≡ name = cc (same, is) in
      ap (λ test. cond test (Some what) (part_named rest name)) ((bytes_eq-Decides (ident_text own) name).1 equal)

-- a name that is none of the words
pub record IsOther (name : Text) : Type 0 where
  pub ident : bytes_eq (codes "ident") name ≡ false
  pub vis : bytes_eq (codes "vis") name ≡ false
  pub attrs : bytes_eq (codes "attrs") name ≡ false
  pub generics : bytes_eq (codes "generics") name ≡ false
  pub content : bytes_eq (codes "data") name ≡ false

-- the fields have the names of their parts
pub record AreNamed (ident attrs generics content : Option ForwardedField) (vis : Option Ident) : Type 0 where
  pub ident_is : HasWord (codes "ident") ident
  pub attrs_is : HasWord (codes "attrs") attrs
  pub generics_is : HasWord (codes "generics") generics
  pub content_is : HasWord (codes "data") content
  pub vis_is : IsWord (codes "vis") vis

module _ (ident attrs generics content : Option ForwardedField) (vis : Option Ident) (are : AreNamed ident attrs generics content vis) where
  abbrev from_content : List Forwarded
  from_content = field_part magic.Body content ++ []

  abbrev from_generics : List Forwarded
  from_generics = field_part magic.Generics generics ++ from_content

  abbrev from_attrs : List Forwarded
  from_attrs = field_part magic.Attrs attrs ++ from_generics

  abbrev from_vis : List Forwarded
  from_vis = ident_part magic.Vis vis ++ from_attrs

  abbrev rows : List Forwarded
  rows = rows_of ident attrs generics content vis

  pub none_found : (name : Text) → IsOther name → part_named rows name ≡ None
  none_found name other =
      field_passed name (codes "ident") other.ident magic.Ident from_vis ident are.ident_is
      ∙ ident_passed name (codes "vis") other.vis magic.Vis from_attrs vis are.vis_is
      ∙ field_passed name (codes "attrs") other.attrs magic.Attrs from_generics attrs are.attrs_is
      ∙ field_passed name (codes "generics") other.generics magic.Generics from_content generics are.generics_is
      ∙ field_passed name (codes "data") other.content magic.Body [] content are.content_is

  pub ident_row : (row : ForwardedField) → ident ≡ Some row → part_named rows (codes "ident") ≡ Some magic.Ident
  ident_row row is = field_found (codes "ident") magic.Ident from_vis ident row is (subst (HasWord (codes "ident")) is are.ident_is)

  pub vis_row : (one : Ident) → vis ≡ Some one → part_named rows (codes "vis") ≡ Some magic.Vis
  vis_row one is =
      field_passed (codes "vis") (codes "ident") refl magic.Ident from_vis ident are.ident_is
      ∙ ident_found (codes "vis") magic.Vis from_attrs vis one is (subst (IsWord (codes "vis")) is are.vis_is)

  pub attrs_row : (row : ForwardedField) → attrs ≡ Some row → part_named rows (codes "attrs") ≡ Some magic.Attrs
  attrs_row row is =
      field_passed (codes "attrs") (codes "ident") refl magic.Ident from_vis ident are.ident_is
      ∙ ident_passed (codes "attrs") (codes "vis") refl magic.Vis from_attrs vis are.vis_is
      ∙ field_found (codes "attrs") magic.Attrs from_generics attrs row is (subst (HasWord (codes "attrs")) is are.attrs_is)

  pub generics_row : (row : ForwardedField) → generics ≡ Some row → part_named rows (codes "generics") ≡ Some magic.Generics
  generics_row row is =
      field_passed (codes "generics") (codes "ident") refl magic.Ident from_vis ident are.ident_is
      ∙ ident_passed (codes "generics") (codes "vis") refl magic.Vis from_attrs vis are.vis_is
      ∙ field_passed (codes "generics") (codes "attrs") refl magic.Attrs from_generics attrs are.attrs_is
      ∙ field_found (codes "generics") magic.Generics from_content generics row is (subst (HasWord (codes "generics")) is are.generics_is)

  pub content_row : (row : ForwardedField) → content ≡ Some row → part_named rows (codes "data") ≡ Some magic.Body
  content_row row is =
      field_passed (codes "data") (codes "ident") refl magic.Ident from_vis ident are.ident_is
      ∙ ident_passed (codes "data") (codes "vis") refl magic.Vis from_attrs vis are.vis_is
      ∙ field_passed (codes "data") (codes "attrs") refl magic.Attrs from_generics attrs are.attrs_is
      ∙ field_passed (codes "data") (codes "generics") refl magic.Generics from_content generics are.generics_is
      ∙ field_found (codes "data") magic.Body [] content row is (subst (HasWord (codes "data")) is are.content_is)

-- ---- rows of one kind

-- a part as it stands
abbrev alone : Magic → Ident → Forwarded
alone what ident = record { member = ident; what = what; with = None; ty = None }

module _ (is_such : Magic → Bool) where
  pub field_that : (what : Magic) (rest : List Forwarded) (it : Option ForwardedField)
      → rows_that is_such (field_part what it ++ rest) ≡ cond (is_such what) (field_part what it) [] ++ rows_that is_such rest
  field_that what rest None = by_test (is_such what)
    where
      by_test : (test : Bool) → rows_that is_such rest ≡ cond test [] [] ++ rows_that is_such rest
      by_test true = refl
      by_test false = refl
  field_that what rest (Some row) = by_test (is_such what)
    where
      by_test : (test : Bool) → cond test (taken_by what row ∷ rows_that is_such rest) (rows_that is_such rest) ≡ cond test (taken_by what row ∷ []) [] ++ rows_that is_such rest
      by_test true = refl
      by_test false = refl

  pub ident_that : (what : Magic) (rest : List Forwarded) (it : Option Ident)
      → rows_that is_such (ident_part what it ++ rest) ≡ cond (is_such what) (ident_part what it) [] ++ rows_that is_such rest
  ident_that what rest None = by_test (is_such what)
    where
      by_test : (test : Bool) → rows_that is_such rest ≡ cond test [] [] ++ rows_that is_such rest
      by_test true = refl
      by_test false = refl
  ident_that what rest (Some ident) = by_test (is_such what)
    where
      by_test : (test : Bool) → cond test (alone what ident ∷ rows_that is_such rest) (rows_that is_such rest)
          ≡ cond test (alone what ident ∷ []) [] ++ rows_that is_such rest
      by_test true = refl
      by_test false = refl

  -- those of these fields whose parts are such, in order
  pub rows_such : (ident attrs generics content : Option ForwardedField) (vis : Option Ident)
      → rows_that is_such (rows_of ident attrs generics content vis)
      ≡ cond (is_such magic.Ident) (field_part magic.Ident ident) []
      ++ (cond (is_such magic.Vis) (ident_part magic.Vis vis) []
      ++ (cond (is_such magic.Attrs) (field_part magic.Attrs attrs) []
      ++ (cond (is_such magic.Generics) (field_part magic.Generics generics) [] ++ (cond (is_such magic.Body) (field_part magic.Body content) [] ++ []))))
  rows_such ident attrs generics content vis =
      field_that magic.Ident _ ident
      ∙ ap (λ more. cond (is_such magic.Ident) (field_part magic.Ident ident) [] ++ more)
      (ident_that magic.Vis _ vis
      ∙ ap (λ more. cond (is_such magic.Vis) (ident_part magic.Vis vis) [] ++ more)
      (field_that magic.Attrs _ attrs
      ∙ ap (λ more. cond (is_such magic.Attrs) (field_part magic.Attrs attrs) [] ++ more)
      (field_that magic.Generics _ generics
      ∙ ap (λ more. cond (is_such magic.Generics) (field_part magic.Generics generics) [] ++ more) (field_that magic.Body [] content))))

-- ---- a field that takes no part

flip : (one other : Text) → bytes_eq one other ≡ false → bytes_eq other one ≡ false
flip one other is = by_test (bytes_eq other one) refl
  where
    by_test : (test : Bool) → bytes_eq other one ≡ test → bytes_eq other one ≡ false
    by_test false same = same
    by_test true same =
        let equal : bytes_eq one other ≡ true = (bytes_eq-Decides one other).1 (sym ((bytes_eq-Decides other one).0 same)) in
        absurd (cc (is, equal))

none_is : (text : Text) (ident attrs vis generics content : Bool) → bytes_eq text (codes "ident") ≡ ident → bytes_eq text (codes "attrs") ≡ attrs
    → bytes_eq text (codes "vis") ≡ vis → bytes_eq text (codes "generics") ≡ generics → bytes_eq text (codes "data") ≡ content
    → cond ident (Some magic.Ident) (cond attrs (Some magic.Attrs) (cond vis (Some magic.Vis) (cond generics (Some magic.Generics) (cond content (Some magic.Body) None)))) ≡ None
    → IsOther text
none_is text true attrs vis generics content e1 e2 e3 e4 e5 is = absurd cc
none_is text false true vis generics content e1 e2 e3 e4 e5 is = absurd cc
none_is text false false true generics content e1 e2 e3 e4 e5 is = absurd cc
none_is text false false false true content e1 e2 e3 e4 e5 is = absurd cc
none_is text false false false false true e1 e2 e3 e4 e5 is = absurd cc
none_is text false false false false false e1 e2 e3 e4 e5 is =
    record {
      ident = flip text (codes "ident") e1;
      vis = flip text (codes "vis") e3;
      attrs = flip text (codes "attrs") e2;
      generics = flip text (codes "generics") e4;
      content = flip text (codes "data") e5;
    }

other_by : (ident : Ident) (raw : Bool) → ident.raw ≡ raw → magic_at derive.FromDeriveInput (Some ident) ≡ None → IsOther (cond raw (codes "r#") [] ++ ident.text)
other_by ident true raw is = record { ident = refl; vis = refl; attrs = refl; generics = refl; content = refl }
other_by ident false raw is =
    none_is ident.text _ _ _ _ _ refl refl refl refl refl
    (sym (ap (λ test. cond test None (magic_named derive.FromDeriveInput ident.text)) raw) ∙ is)

-- another name is the word of no part
pub no_word : (name : Text) → IsOther name → (what : Magic) → IsPart what → bytes_eq name (word_of_part what) ≡ false
no_word name other magic.Ident part = flip (codes "ident") name other.ident
no_word name other magic.Attrs part = flip (codes "attrs") name other.attrs
no_word name other magic.Vis part = flip (codes "vis") name other.vis
no_word name other magic.Generics part = flip (codes "generics") name other.generics
no_word name other magic.Body part = flip (codes "data") name other.content
no_word name other _ part = absurd (assumption)

pub other_name : (ident : Option Ident) → magic_at derive.FromDeriveInput ident ≡ None → IsOther (unwrap_or (option_map ident_text ident) [])
other_name None is = record { ident = refl; vis = refl; attrs = refl; generics = refl; content = refl }
other_name (Some ident) is = other_by ident ident.raw refl is
