-- The fields of an item's declaration that take a part of the item: each part has one, whose options say what converts it.
use Rattle.std.proofs.Common.{◌≡◌, ◌∙◌, ◌⊎◌, ℕ, Bool, true, false, cond, List, [], ◌∷◌, ◌++◌, Option, Some, None, codes, get_or, refl, sym, ap, ap₂, subst, ⊎_elim}
use Rattle.std.specs.List.{AllByRecursion}
use Rattle.std.specs.Str.{bytes_eq}
use Rattle.std.proofs.lemmas.Bool.Decides.{eqb_tells}
use Rattle.std.proofs.lemmas.Option.{none-some, same_Some}
use Rattle.std.proofs.lemmas.Slice.Eq.{bytes_eq-Decides}
use Rattle.base_core.specs.declared.text.Text.{Text}
use Rattle.tok_types.specs.Ident.{ident_text}
use Rattle.tok_types.specs.declared.ident.Ident.{Ident}
use Rattle.node_core.specs.declared.data.Field.{Field}
use Rattle.error_fault.specs.Outcome.{Value, faults_of, on_value, settle}
use Rattle.error_fault.specs.declared.fault.Fault.{Fault}
use Rattle.codegen_program.specs.MagicFields.{magic_at, magic_named, magic_of}
use Rattle.codegen_program.specs.declared.forwarded.Magic.{Magic}
use Rattle.codegen_program.specs.declared.forwarded.Magic.TheVariants as magic
use Rattle.codegen_program.specs.declared.program.Derive.TheVariants as derive
use Rattle.options_types.specs.declared.forwarded_field.ForwardedField.{ForwardedField}
use Rattle.options_rows.specs.Forwarded.{forwarded_as, forwarded_meaning, forwarded_start, of_forwarded, of_forwarded_faults}
use Rattle.options_core.specs.Parts.{is_part, magic_number, part_fields, part_said}
use Rattle.run_accepted.specs.Entries.{items, option_entries}
use Rattle.run_accepted.specs.Walk.{all_faults}
use Rattle.law_options.proofs.Repeats.{AreApart}

-- ---- names

-- the names by which the parts of an item are taken
abbrev pub word_of_part : Magic → Text
word_of_part magic.Ident = codes "ident"
word_of_part magic.Attrs = codes "attrs"
word_of_part magic.Vis = codes "vis"
word_of_part magic.Generics = codes "generics"
word_of_part magic.Body = codes "data"
word_of_part _ = []

-- the parts of an item
abbrev pub IsPart : Magic → Type 0
IsPart magic.Ident = Unit {0}
IsPart magic.Attrs = Unit {0}
IsPart magic.Vis = Unit {0}
IsPart magic.Generics = Unit {0}
IsPart magic.Body = Unit {0}
IsPart _ = ⊥

-- the part of a word
found_by_word : (what : Magic) → IsPart what → magic_named derive.FromDeriveInput (word_of_part what) ≡ Some what
found_by_word magic.Ident part = refl
found_by_word magic.Attrs part = refl
found_by_word magic.Vis part = refl
found_by_word magic.Generics part = refl
found_by_word magic.Body part = refl
found_by_word _ part = absurd (assumption)

-- two parts have two words
pub words_differ : (what other : Magic) → IsPart what → IsPart other → (what ≡ other → ⊥) → bytes_eq (word_of_part what) (word_of_part other) ≡ false
words_differ what other part also differ = by_test (bytes_eq (word_of_part what) (word_of_part other)) refl
  where
    by_test : (test : Bool) → bytes_eq (word_of_part what) (word_of_part other) ≡ test → bytes_eq (word_of_part what) (word_of_part other) ≡ false
    by_test false is = is
    by_test true is =
        let same = (bytes_eq-Decides (word_of_part what) (word_of_part other)).0 is in
        absurd (differ (same_Some what other (sym (found_by_word what part) ∙ ap (magic_named derive.FromDeriveInput) same ∙ found_by_word other also)))

-- the identifier is the name of the part
pub record Names (what : Magic) (ident : Option Ident) : Type 0 where
  pub part : IsPart what
  pub one : Ident
  pub is : ident ≡ Some one
  pub text : one.text ≡ word_of_part what
  pub written : ident_text one ≡ word_of_part what

-- the part is that of the word that the text is
is_word : (text : Text) (found what : Magic) → IsPart found → bytes_eq text (word_of_part found) ≡ true → Some found ≡ Some what
    → IsPart what × (text ≡ word_of_part what)
is_word text found what part is same =
    let here = same_Some found what same in
    (subst IsPart here part, (bytes_eq-Decides text (word_of_part found)).0 is ∙ ap word_of_part here)

-- the first of the words that the text is
chain_is : (text : Text) (what : Magic) (ident attrs vis generics content : Bool) → bytes_eq text (codes "ident") ≡ ident → bytes_eq text (codes "attrs") ≡ attrs
    → bytes_eq text (codes "vis") ≡ vis → bytes_eq text (codes "generics") ≡ generics → bytes_eq text (codes "data") ≡ content
    → cond ident (Some magic.Ident) (cond attrs (Some magic.Attrs) (cond vis (Some magic.Vis) (cond generics (Some magic.Generics) (cond content (Some magic.Body) None)))) ≡ Some what
    → IsPart what × (text ≡ word_of_part what)
chain_is text what true attrs vis generics content e1 e2 e3 e4 e5 is = is_word text magic.Ident what tt e1 is
chain_is text what false true vis generics content e1 e2 e3 e4 e5 is = is_word text magic.Attrs what tt e2 is
chain_is text what false false true generics content e1 e2 e3 e4 e5 is = is_word text magic.Vis what tt e3 is
chain_is text what false false false true content e1 e2 e3 e4 e5 is = is_word text magic.Generics what tt e4 is
chain_is text what false false false false true e1 e2 e3 e4 e5 is = is_word text magic.Body what tt e5 is
chain_is text what false false false false false e1 e2 e3 e4 e5 is = absurd (none-some what is)

names_by : (what : Magic) (ident : Ident) (raw : Bool) → ident.raw ≡ raw → magic_at derive.FromDeriveInput (Some ident) ≡ Some what → Names what (Some ident)
names_by what ident true raw is =
    absurd (none-some what (sym (ap (λ test. cond test None (magic_named derive.FromDeriveInput ident.text)) raw) ∙ is))
names_by what ident false raw is =
    let found = sym (ap (λ test. cond test None (magic_named derive.FromDeriveInput ident.text)) raw) ∙ is in
    let (part, text) = chain_is ident.text what _ _ _ _ _ refl refl refl refl refl found in
    record { part = part; one = ident; is = refl; text = text; written = ap (λ test. cond test (codes "r#") [] ++ ident.text) raw ∙ text }

pub names : (what : Magic) (ident : Option Ident) → magic_at derive.FromDeriveInput ident ≡ Some what → Names what ident
names what None is = absurd (none-some what is)
names what (Some ident) is = names_by what ident ident.raw refl is

-- ---- one field for each part

-- the parts in the order of their numbers
abbrev all_parts : List Magic
all_parts =
    magic.Ident
    ∷ magic.Attrs
    ∷ magic.Vis
    ∷ magic.Generics
    ∷ magic.Body
    ∷ magic.Ty
    ∷ magic.Discriminant
    ∷ magic.Fields
    ∷ magic.Bounds
    ∷ magic.Default
    ∷ []

abbrev numbered : ℕ → Magic
numbered number = get_or all_parts number magic.Ident

by_number : (what : Magic) → numbered (magic_number what) ≡ what
by_number magic.Ident = refl
by_number magic.Attrs = refl
by_number magic.Vis = refl
by_number magic.Generics = refl
by_number magic.Body = refl
by_number magic.Ty = refl
by_number magic.Discriminant = refl
by_number magic.Fields = refl
by_number magic.Bounds = refl
by_number magic.Default = refl

-- a test finds the part itself, and no other
pub part_is : (what : Magic) (it : Option Magic) → is_part what it ≡ true → it ≡ Some what
part_is what None is = absurd cc
part_is what (Some other) is =
    ⊎_elim (λ same. ap Some (sym (by_number other) ∙ ap numbered (sym same.1) ∙ by_number what)) (λ differ. absurd (cc (is, differ.0)))
    (eqb_tells (magic_number what) (magic_number other))

pub itself : (what : Magic) → is_part what (Some what) ≡ true
itself what = ⊎_elim (λ same. same.0) (λ differ. absurd (differ.1 refl)) (eqb_tells (magic_number what) (magic_number what))

-- the fields don't take one part
abbrev pub TakeOthers : Field → Field → Type 0
TakeOthers field later =
    (what : Magic) → magic_of derive.FromDeriveInput field ≡ Some what → magic_of derive.FromDeriveInput later ≡ Some what → ⊥

-- two fields of other names don't
pub take_others : (field later : Field) → AreApart field later → TakeOthers field later
take_others field later apart what takes also =
    let first = names what field.ident takes in
    let second = names what later.ident also in
    let tells : bytes_eq first.one.text second.one.text ≡ true = (bytes_eq-Decides first.one.text second.one.text).1 (first.text ∙ sym second.text) in
    cc (apart first.one second.one first.is second.is, tells)

pub not_taken : (what : Magic) (it : Option Magic) → (it ≡ Some what → ⊥) → is_part what it ≡ false
not_taken what it not = by_test (is_part what it) refl
  where
    by_test : (test : Bool) → is_part what it ≡ test → is_part what it ≡ false
    by_test true is = absurd (not (part_is what it is))
    by_test false is = is

pub none_pass : (what : Magic) (fields : List Field) → AllByRecursion (λ field. is_part what (magic_of derive.FromDeriveInput field) ≡ false) fields
    → part_fields derive.FromDeriveInput what fields ≡ []
none_pass what [] none = refl
none_pass what (field ∷ fields) none = ap₂ (λ test rest. cond test (field ∷ rest) rest) none.0 (none_pass what fields none.1)

-- ---- what a field says

settled_none : (faults : List Fault) (set : ForwardedField) → faults_of (settle faults (Value set)) ≡ [] → settle faults (Value set) ≡ Value set
settled_none [] set none = refl
settled_none (fault ∷ more) set none = absurd cc

-- what the options of a field say that takes a part: its own name and type
pub record Says (field : Field) : Type 0 where
  pub row : ForwardedField
  pub said : part_said field ≡ Value (Some row)
  pub ident : field.ident ≡ Some row.ident
  pub ty : row.ty ≡ field.ty

said_as : (field : Field) (ident : Option Ident) (one : Ident) → ident ≡ Some one → faults_of (forwarded_as field ident) ≡ []
    → (row : ForwardedField) × (forwarded_as field ident ≡ Value row) × (ident ≡ Some row.ident) × (row.ty ≡ field.ty)
said_as field None one is none = absurd (none-some one is)
said_as field (Some ident) one is none =
    let start = forwarded_start ident field.ty in
    let entries = option_entries field.attrs in
    let set = of_forwarded start (items entries) in
    (set, settled_none (all_faults of_forwarded of_forwarded_faults start [] entries) set none, refl, refl)

pub says : (what : Magic) (field : Field) → magic_of derive.FromDeriveInput field ≡ Some what → faults_of (forwarded_meaning field) ≡ [] → Says field
unfolding forwarded_meaning
says what field takes none =
    let named = names what field.ident takes in
    let (row, is, ident, ty) = said_as field field.ident named.one named.is none in
    record { row = row; said = ap (on_value Some) is; ident = ident; ty = ty }
