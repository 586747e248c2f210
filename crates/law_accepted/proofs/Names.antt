-- Names of declarations and of their fields, where no name stands twice.
use Rattle.std.proofs.Common.{◌≡◌, ◌∙◌, ◌<◌, ◌+◌, ℕ, zero, suc, true, false, List, [], ◌∷◌, map, take, slice_get, Option, Some, None, option_map, unwrap_or, IsSomeAnd, refl, sym, ap, arith}
use Rattle.std.specs.List.{AllByRecursion}
use Rattle.std.specs.Str.{bytes_eq}
use Rattle.std.proofs.lemmas.List.{take-map}
use Rattle.std.proofs.lemmas.Option.{none-some, same_Some, slice_get-map}
use Rattle.std.proofs.lemmas.Slice.Eq.{bytes_eq-Decides}
use Rattle.base_core.specs.declared.text.Text.{Text}
use Rattle.tok_types.specs.Ident.{IsToken, ident_text}
use Rattle.tok_types.specs.declared.ident.Ident.{Ident}
use Rattle.node_core.specs.declared.data.Field.{Field}
use Rattle.node_core.specs.declared.derive.DeriveInput.{DeriveInput}
use Rattle.machine_rows.specs.Paths.{same_ident}
use Rattle.machine_rows.specs.Rows.{row_of}
use Rattle.machine_rows.specs.declared.row.Row.TheVariants as row
use Rattle.meaning_core.specs.Decls.{decl_names, member_name}
use Rattle.meaning_core.specs.Made.{name_of, named_type}
use Rattle.law_asks.specs.Names.{field_names, has_name, repeated_field, repeated_fields, repeated_members, repeated_names}
use Rattle.law_asks.specs.Places.{refused_if}
use Rattle.run_accepted.specs.Attributes.{without_attributes}
use Rattle.run_source.specs.Members.{body_fields}
use Rattle.run_accepted.specs.Unbuilt.{has_named_fields}
use Rattle.run_accepted.specs.Accepted.{duplicate}
use Rattle.run_accepted.proofs.NameLemmas.{same_names}
use Rattle.law_asks.specs.Sound.{AreNamed, Differ}
use Rattle.law_fields.specs.Fields.{IsTextField}
use Rattle.law_options.proofs.Repeats.{both_single, names_single, none_at, none_refused, not_named, of_struct}
use Rattle.law_accepted.proofs.Lists.{first_at, none_passes}
use Rattle.law_accepted.proofs.Rows.{named_row}
use Rattle.law_accepted.proofs.Texts.{written_apart}

module _ (decls : List DeriveInput) (single : repeated_names decls ≡ []) (number : ℕ) (decl : DeriveInput) (stands : slice_get decls number ≡ Some decl) where
  -- its members repeat no name
  pub members_single : repeated_members decl.body ≡ []
  members_single = (both_single decls single number decl stands).1

  -- its name is that of none before it
  not_before : has_name (take number (decl_names decls)) decl.ident.text ≡ false
  not_before =
      ap (λ (idents : List Ident). has_name idents decl.ident.text) (take-map (λ (it : DeriveInput). it.ident) number decls)
      ∙ none_refused (has_name (decl_names (take number decls)) decl.ident.text) decl.ident.span (both_single decls single number decl stands).0

  -- so the type of its name is this declaration
  row_is : row_of (decl_names decls) (named_type decl.ident.text) ≡ row.Declared number
  row_is =
      let text : Text = decl.ident.text in
      named_row (decl_names decls) text number
      (first_at (λ (other : Ident). same_ident other (name_of text)) (decl_names decls) number decl.ident
      (slice_get-map (λ (it : DeriveInput). it.ident) decls number ∙ ap (option_map (λ (it : DeriveInput). it.ident)) stands)
      ((bytes_eq-Decides text text).1 refl)
      not_before)

-- the name of each declaration is that declaration, where no name stands twice
pub names_are : (decls : List DeriveInput) → duplicate decls ≡ None → AreNamed (map without_attributes decls)
names_are decls single number decl stands =
    row_is (map without_attributes decls) (same_names decls ∙ names_single decls single) number decl stands

-- ---- fields

-- texts differ where each is another than one behind it
differ_by : (texts : List Text) → ((place later : ℕ) (one other : Text) → place < later → slice_get texts place ≡ Some one → slice_get texts later ≡ Some other → bytes_eq one other ≡ false)
    → Differ texts
differ_by [] apart = tt
differ_by (text ∷ texts) apart = (
  none_passes (bytes_eq text) texts (λ place other stands. apart zero (suc place) text other (omega arith) refl stands),
  differ_by texts (λ place later one other lt stands behind. apart (suc place) (suc later) one other (omega (arith, lt)) stands behind),
)

-- a field at a place, and its name
record IsNamedAt (its : List Field) (place : ℕ) (text : Text) : Type 0 where
  field : Field
  stands : slice_get its place ≡ Some field
  one : Ident
  is : field.ident ≡ Some one
  token : IsToken one
  written : ident_text one ≡ text

by_ident : (ident : Option Ident) → IsSomeAnd ident IsToken → (one : Ident) × (ident ≡ Some one) × IsToken one × (ident_text one ≡ unwrap_or (option_map ident_text ident) [])
by_ident None has = absurd has
by_ident (Some one) has = (one, refl, has, refl)

named_at : (its : List Field) (place : ℕ) (text : Text) → AllByRecursion IsTextField its → slice_get (map member_name its) place ≡ Some text → IsNamedAt its place text
named_at [] place text have stands = absurd (none-some text stands)
named_at (field ∷ its) zero text have stands =
    let (one, is, token, written) = by_ident field.ident have.0.0 in
    record { field = field; stands = refl; one = one; is = is; token = token; written = written ∙ same_Some (member_name field) text stands }
named_at (field ∷ its) (suc place) text have stands =
    let at = named_at its place text have.1 stands in
    record { field = at.field; stands = at.stands; one = at.one; is = at.is; token = at.token; written = at.written }

-- the names of fields differ as they are written, where no name stands twice
pub fields_differ : (its : List Field) → AllByRecursion IsTextField its → repeated_fields its ≡ [] → Differ (map member_name its)
fields_differ its have single =
    differ_by (map member_name its)
    (λ place later one other lt stands behind.
    let first = named_at its place one have stands in
    let second = named_at its later other have behind in
    let is : later ≡ 0 + later = omega arith in
    let none = none_at (λ number (field : Field). repeated_field (has_name (field_names (take number its))) field.ident) 0 its single later later second.field is second.stands in
    let known : refused_if (has_name (field_names (take later its)) second.one.text) second.one.span ≡ [] =
    ap (λ ident. repeated_field (has_name (field_names (take later its))) ident) (sym second.is) ∙ none in
    let apart = not_named second.one.text first.one its place later first.field lt first.stands first.is
    (none_refused (has_name (field_names (take later its)) second.one.text) second.one.span known) in
    ap (λ text. bytes_eq text other) (sym first.written)
    ∙ ap (bytes_eq (ident_text first.one)) (sym second.written)
    ∙ written_apart first.one second.one first.token second.token apart)

-- the names of a declaration's fields differ as they are written
pub members_differ : (decls : List DeriveInput) → duplicate decls ≡ None → (number : ℕ) (decl : DeriveInput) → slice_get decls number ≡ Some decl
    → has_named_fields decl.body ≡ true → AllByRecursion IsTextField (body_fields decl.body) → Differ (map member_name (body_fields decl.body))
members_differ decls single number decl stands is have =
    fields_differ (body_fields decl.body) have (of_struct decl.body is (members_single decls (names_single decls single) number decl stands))
