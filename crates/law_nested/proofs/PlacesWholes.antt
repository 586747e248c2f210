-- A list of nested items stands where its tokens do.
use Rattle.std.proofs.Common.{◌≡◌, List, [], ◌∷◌, Option, Some, None, Result, Ok, Err, option_and_then, refl, ap, ◌∙◌}
use Rattle.std.specs.Result.{result_ok, result_map_both}
use Rattle.tok_types.specs.declared.span.Span.{Span}
use Rattle.tok_types.specs.declared.tree.TokenStream.{TokenStream, out-TokenStream}
use Rattle.tok_types.specs.declared.tree.TokenTree.{TokenTree}
use Rattle.meta_nested.specs.declared.item.Found.{Found}
use Rattle.meta_nested.specs.declared.item.Found.TheVariants as made
use Rattle.meta_nested.specs.declared.nested.NestedMeta.{NestedMeta}
use Rattle.meta_nested.specs.Nested.{among, found_of, nested_of}
use Rattle.law_places.specs.Stands.{ListOf, no_items, last_item, more_items}
use Rattle.law_places.proofs.Commas.{whole-listed}
use Rattle.law_nested.specs.Places.{NestedStands}
use Rattle.law_nested.proofs.PlacesItems.{FoundStands, item-reads}

found_of-listed : (tokens : TokenStream) (found : List Found) → found_of tokens ≡ Some found → ListOf FoundStands (out-TokenStream tokens).trees found
unfolding found_of
found_of-listed = whole-listed item-reads

-- an item, and those behind it
record Split (it : NestedMeta) (rest : Result (List NestedMeta) Span) (all : List NestedMeta) : Type 0 where
  items : List NestedMeta
  is : rest ≡ Ok items
  all_is : it ∷ items ≡ all

split : (it : NestedMeta) (rest : Result (List NestedMeta) Span) (all : List NestedMeta) → result_map_both (λ items. it ∷ items) (λ place. place) rest ≡ Ok all → Split it rest all
split it (Ok items) all e = let same : it ∷ items ≡ all = cc in record { items = items; is = refl; all_is = same }
split it (Err place) all e = absurd cc

among-listed : (trees : List TokenTree) (found : List Found) (all : List NestedMeta) → ListOf FoundStands trees found → among found ≡ Ok all → ListOf NestedStands trees all
among-listed trees found all no_items e = let same : [] ≡ all = cc in rw (← same) no_items
among-listed trees found all (last_item read (made.Item it) there) e =
    let parts = split it (Ok []) all e in
    let none : [] ≡ parts.items = let is = parts.is in cc in
    rw (← parts.all_is, ← none) (last_item read it there)
among-listed trees found all (last_item read (made.Attribute place) there) e = absurd cc
among-listed trees found all (more_items read comma rest (made.Item it) its there is behind) e =
    let parts = split it (among its) all e in
    rw (← parts.all_is) (more_items read comma rest it parts.items there is (among-listed rest its parts.items behind parts.is))
among-listed trees found all (more_items read comma rest (made.Attribute place) its there is behind) e = absurd cc

pub nested_of-listed : (tokens : TokenStream) (found : List NestedMeta) → nested_of tokens ≡ Some found → ListOf NestedStands (out-TokenStream tokens).trees found
unfolding nested_of
nested_of-listed tokens found e = go (found_of tokens) refl e
  where
    by : (items : List Found) (result : Result (List NestedMeta) Span) → among items ≡ result → result_ok result ≡ Some found → among items ≡ Ok found
    by items (Ok all) is e = let same : all ≡ found = cc in is ∙ ap Ok same
    by items (Err place) is e = absurd cc

    go : (items : Option (List Found)) → found_of tokens ≡ items → option_and_then (λ it. result_ok (among it)) items ≡ Some found → ListOf NestedStands (out-TokenStream tokens).trees found
    go None is e = absurd cc
    go (Some items) is e = among-listed (out-TokenStream tokens).trees items found (found_of-listed tokens items is) (by items (among items) refl e)
