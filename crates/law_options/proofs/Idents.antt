-- A declaration that items of a text can be read as asks for no receiver that is made from an identifier, and names no shape.
use Rattle.std.proofs.Common.{◌≡◌, ◌∙◌, ◌||◌, Bool, true, false, cond, List, [], ◌∷◌, ◌++◌, map, Some, None, refl, ap}
use Rattle.std.specs.Prelude.{codes}
use Rattle.std.specs.List.{AllByRecursion}
use Rattle.std.specs.Str.{bytes_eq}
use Rattle.base_core.specs.declared.text.Text.{Text}
use Rattle.node_core.specs.Meta.{path_of_meta}
use Rattle.node_core.specs.declared.attr.Meta.{Meta}
use Rattle.node_core.specs.declared.derive.DeriveInput.{DeriveInput}
use Rattle.error_fault.specs.Outcome.{Outcome, Value, on_value, value_of}
use Rattle.run_accepted.specs.Entries.{items, option_entries}
use Rattle.run_accepted.specs.Rows.{last_of, list_of, Named, values}
use Rattle.run_accepted.specs.Values.{Rules, shapes_of, word_of}
use Rattle.run_accepted.specs.CoreOptions.{core_name_of}
use Rattle.options_core.specs.ContainerOptions.{fdi_named, outer_item, outer_items, outer_name_of, same_fdi, same_outer}
use Rattle.run_accepted.specs.CoreName.{CoreName}
use Rattle.options_core.specs.declared.names.FdiName.TheVariants as fdi
use Rattle.options_core.specs.declared.names.OuterName.{OuterName}
use Rattle.options_core.specs.declared.names.OuterName.TheVariants as outer
use Rattle.run_accepted.specs.Readers.{fdi_reader}
use Rattle.run_accepted.specs.Stages.{options_of}
use Rattle.run_accepted.specs.Unbuilt.{input_places, is_unbuilt_word}
use Rattle.run_accepted.proofs.BuiltLemmas.{no_words}

-- the option of the word is none that no run reads
abbrev IsRead : Meta → Type 0
IsRead item = is_unbuilt_word (word_of (path_of_meta item)) ≡ false

or-left : (a b : Bool) → (a || b) ≡ false → a ≡ false
or-left true b is = is
or-left false b is = refl

or-right : (a b : Bool) → (a || b) ≡ false → b ≡ false
or-right true b is = cc
or-right false b is = is

-- the third of the words that no run reads
no_ident_word : (word : Text) → is_unbuilt_word word ≡ false → bytes_eq word (codes "from_ident") ≡ false
no_ident_word word none =
    let behind_transparent = or-right (bytes_eq word (codes "transparent")) _ none in
    let behind_supports = or-right (bytes_eq word (codes "supports")) _ behind_transparent in
    or-left (bytes_eq word (codes "from_ident")) _ behind_supports

-- nor is it the second
no_shape_word : (word : Text) → is_unbuilt_word word ≡ false → bytes_eq word (codes "supports") ≡ false
no_shape_word word none = or-left (bytes_eq word (codes "supports")) _ (or-right (bytes_eq word (codes "transparent")) _ none)

other_name : (attributes forward ident : Bool) (name : CoreName) → ident ≡ false
    → same_outer outer.FromIdent (cond attributes outer.Attributes (cond forward outer.ForwardAttrs (cond ident outer.FromIdent (outer.Core name)))) ≡ false
other_name true forward ident name none = refl
other_name false true ident name none = refl
other_name false false true name none = cc
other_name false false false name none = refl

module _ {A : Type 0} (read : Meta → Outcome A) where
  put : (supports : Bool) (name : OuterName) (item : Meta) (rest : List (Named OuterName)) → same_outer outer.FromIdent name ≡ false
      → values (same_outer outer.FromIdent) read rest ≡ []
      → values (same_outer outer.FromIdent) read (outer_item (cond supports fdi.Supports (fdi.Outer name)) item ++ rest) ≡ []
  put true name item rest other none = none
  put false name item rest other none =
      ap (λ test. cond test (list_of (value_of (read item))) [] ++ values (same_outer outer.FromIdent) read rest) other ∙ none

  no_values : (items : List Meta) → AllByRecursion IsRead items → values (same_outer outer.FromIdent) read (outer_items (map fdi_named items)) ≡ []
  no_values [] are = refl
  no_values (item ∷ items) are =
      let word = word_of (path_of_meta item) in
      put (bytes_eq word (codes "supports")) (outer_name_of word) item (outer_items (map fdi_named items))
      (other_name (bytes_eq word (codes "attributes")) (bytes_eq word (codes "forward_attrs")) (bytes_eq word (codes "from_ident")) (core_name_of word) (no_ident_word word are.0))
      (no_values items are.1)

  no_shapes : (items : List Meta) → AllByRecursion IsRead items → values (same_fdi fdi.Supports) read (map fdi_named items) ≡ []
  no_shapes [] are = refl
  no_shapes (item ∷ items) are =
      let word = word_of (path_of_meta item) in
      let own = list_of (value_of (read item)) in
      let later = values (same_fdi fdi.Supports) read (map fdi_named items) in
      ap (λ supports. cond (same_fdi fdi.Supports (cond supports fdi.Supports (fdi.Outer (outer_name_of word)))) own [] ++ later) (no_shape_word word are.0)
      ∙ no_shapes items are.1

pub no_ident : (rules : Rules) (decl : DeriveInput) → input_places decl ≡ [] → (options_of (fdi_reader rules decl) decl).base.from_ident ≡ false
no_ident rules decl built = ap (last_of false) (no_values (λ item. Value true) (items (option_entries decl.attrs)) (no_words decl built))

pub no_supports : (rules : Rules) (decl : DeriveInput) → input_places decl ≡ [] → (options_of (fdi_reader rules decl) decl).supports ≡ None
no_supports rules decl built =
    ap (last_of None) (no_shapes (λ item. on_value Some (shapes_of item)) (items (option_entries decl.attrs)) (no_words decl built))
