-- What a declaration has whose forms can all be run.
use Rattle.std.proofs.Common.{◌≡◌, Bool, true, false, cond, List, [], ◌∷◌, ◌++◌, flat_map, refl, ap, sym, ◌∙◌}
use Rattle.std.specs.List.{All, AllByRecursion}
use Rattle.std.proofs.lemmas.List.Elements.{All-from_recursion}
use Rattle.tok_types.specs.declared.span.Span.{Span}
use Rattle.node_core.specs.Meta.{path_of_meta}
use Rattle.node_core.specs.declared.derive.DeriveInput.{DeriveInput}
use Rattle.node_span.specs.Spanned.{meta_span}
use Rattle.options_rows.specs.Entries.{items, option_entries}
use Rattle.options_rows.specs.Values.{word_of}
use Rattle.options_rows.specs.Members.{body_fields}
use Rattle.run_accepted.specs.Derives.{derives_of}
use Rattle.run_accepted.specs.Unbuilt.{IsBuilt, body_places, derive_places, derives_input, field_places, has_named_fields, input_places, is_unbuilt_word, option_places, places_under, unbuilt, unbuilt_in}

none-left : {A : Type 0} (xs ys : List A) → xs ++ ys ≡ [] → xs ≡ []
none-left [] ys is = refl
none-left (x ∷ xs) ys is = cc

none-right : {A : Type 0} (xs ys : List A) → xs ++ ys ≡ [] → ys ≡ []
none-right [] ys is = is
none-right (x ∷ xs) ys is = cc

pub each-none : {A B : Type 0} (f : A → List B) (xs : List A) → flat_map f xs ≡ [] → AllByRecursion (λ x. f x ≡ []) xs
each-none f [] is = tt
each-none f (x ∷ xs) is = (none-left (f x) (flat_map f xs) is, each-none f xs (none-right (f x) (flat_map f xs) is))

pub each-weaker : {A : Type 0} (P Q : A → Type 0) → ((x : A) → P x → Q x) → (xs : List A) → AllByRecursion P xs → AllByRecursion Q xs
each-weaker P Q weaker [] are = tt
each-weaker P Q weaker (x ∷ xs) are = (weaker x are.0, each-weaker P Q weaker xs are.1)

-- a list of places is empty, where nothing is told
pub told-not : (test : Bool) (span : Span) → cond test (span ∷ []) [] ≡ [] → test ≡ false
told-not true span is = cc
told-not false span is = refl

told-unless : (test : Bool) (span : Span) → cond test [] (span ∷ []) ≡ [] → test ≡ true
told-unless true span is = refl
told-unless false span is = cc

-- nothing is told of these
pub all_built : (decls : List DeriveInput) → unbuilt decls ≡ [] → All IsBuilt decls
all_built decls is = All-from_recursion IsBuilt decls (each-none unbuilt_in decls is)

-- ---- derives

module _ (decl : DeriveInput) (built : IsBuilt decl) where
  abbrev of_derives : List Span
  of_derives = flat_map derive_places (derives_of decl.attrs)

  abbrev of_input : List Span
  of_input = places_under (derives_of decl.attrs) decl

  -- none of its derives is one of which no unit is made
  pub all_compiled : AllByRecursion (λ it. derive_places it ≡ []) (derives_of decl.attrs)
  all_compiled = each-none derive_places (derives_of decl.attrs) (none-left of_derives of_input built)

  -- items of a text can be read as it, where `FromDeriveInput` is derived
  pub input_built : derives_input (derives_of decl.attrs) ≡ true → input_places decl ≡ []
  input_built is = ap (λ test. cond test (input_places decl) []) (sym is) ∙ none-right of_derives of_input built

-- ---- items of a text

module _ (decl : DeriveInput) (built : input_places decl ≡ []) where
  abbrev of_options : List Span
  of_options = flat_map option_places (items (option_entries decl.attrs))

  first_two : body_places decl ++ of_options ≡ []
  first_two = none-left (body_places decl ++ of_options) (flat_map field_places (body_fields decl.body)) built

  -- it is a struct with braces
  pub named : has_named_fields decl.body ≡ true
  named = told-unless (has_named_fields decl.body) decl.ident.span (none-left (body_places decl) of_options first_two)

  -- no item is of an option that no unit has a part for
  pub no_words : AllByRecursion (λ item. is_unbuilt_word (word_of (path_of_meta item)) ≡ false) (items (option_entries decl.attrs))
  no_words =
      each-weaker (λ item. option_places item ≡ []) (λ item. is_unbuilt_word (word_of (path_of_meta item)) ≡ false)
      (λ item. told-not (is_unbuilt_word (word_of (path_of_meta item))) (meta_span item)) (items (option_entries decl.attrs))
      (each-none option_places (items (option_entries decl.attrs)) (none-right (body_places decl) of_options first_two))

  -- no field has the name of a part that no run reads
  pub no_part_names : AllByRecursion (λ field. field_places field ≡ []) (body_fields decl.body)
  no_part_names =
      each-none field_places (body_fields decl.body)
      (none-right (body_places decl ++ of_options) (flat_map field_places (body_fields decl.body)) built)
