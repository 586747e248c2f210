-- The law of printing for lists of nested items.
use Rattle.std.proofs.Common.{◌≡◌, false, List, [], ◌∷◌, ◌++◌, map, All, Option, Some, None, Result, Ok, Err, refl, ap, sym, subst, ◌∙◌, append-nil, option_and_then}
use Rattle.std.proofs.lemmas.List.Elements.{All-cons, All-nil}
use Rattle.std.proofs.lemmas.Option.{same_Some}
use Rattle.std.specs.Result.{result_ok, result_map_both}
use Rattle.tok_types.specs.declared.span.Span.{Span}
use Rattle.tok_types.specs.declared.span.Span.TheVariants.{CallSite}
use Rattle.tok_types.specs.declared.tree.TokenStream.{TokenStream, out-TokenStream}
use Rattle.syn_grammar.specs.Input.{is_end, items_after, start_of}
use Rattle.meta_nested.specs.declared.item.Found.{Found}
use Rattle.meta_nested.specs.declared.item.Found.TheVariants as found
use Rattle.meta_nested.specs.declared.nested.NestedMeta.{NestedMeta}
use Rattle.meta_nested.specs.Nested.{among, found_of, item, nested_of}
use Rattle.meta_nested.specs.Nodes.{nested_tokens}
use Rattle.print_core.specs.Marks.{comma, joined}
use Rattle.law_nested.specs.Erased.{erased_nested}
use Rattle.law_prefix.specs.ReadsByPrefix.{at}
use Rattle.tok_types.specs.Stream.{stream_of}
use Rattle.law_round_trip.specs.Printed.{separated}
use Rattle.law_round_trip.proofs.Lists.{AllFit, items-read}
use Rattle.law_round_trip.proofs.Wholes.{all-parts}
use Rattle.law_round_trip.proofs.Streams.{contents-stream}
use Rattle.law_nested.proofs.Found.{Fits, Good, erased_found, found_tokens}
use Rattle.law_nested.specs.StaysBad.{AllStayBad, StaysBadBefore}
use Rattle.law_nested.proofs.Pairs.{item-rule}
use Rattle.law_nested.proofs.Stops.{Ended, ended-comma, ended-nothing}

-- ---- lists without an attribute in the place of a value

pub among-items : (all : List Found) (items : List NestedMeta) → result_ok (among all) ≡ Some items → all ≡ map found.Item items
among-items [] items e = ap (map found.Item) (same_Some [] items e)
among-items (found.Item it ∷ more) items e = by (among more) refl (among-items more) e
  where
    by : (rest : Result (List NestedMeta) Span) → among more ≡ rest → ((rest : List NestedMeta) → result_ok (among more) ≡ Some rest → more ≡ map found.Item rest)
        → result_ok (result_map_both (λ items. it ∷ items) (λ place. place) rest) ≡ Some items → found.Item it ∷ more ≡ map found.Item items
    by (Ok rest) is later e = ap (λ more. found.Item it ∷ more) (later rest (rw is refl)) ∙ ap (map found.Item) (same_Some (it ∷ rest) items e)
    by (Err place) is later e = absurd cc
among-items (found.Attribute place ∷ more) items e = absurd cc

among-made : (items : List NestedMeta) → among (map found.Item items) ≡ Ok items
among-made [] = refl
among-made (it ∷ items) = rw (among-made items) refl

pub all-good : (items : List NestedMeta) → All Good (map found.Item items)
all-good [] = All-nil Good
all-good (it ∷ items) = All-cons Good (found.Item it) (map found.Item items) tt (all-good items)

pub print-items : (items : List NestedMeta) → map found_tokens (map found.Item items) ≡ map nested_tokens items
print-items [] = refl
print-items (it ∷ items) = ap (λ more. nested_tokens it ∷ more) (print-items items)

all-fit : (items : List NestedMeta) → AllStayBad items → AllFit found_tokens CallSite Fits (map found.Item items)
all-fit [] stay = tt
all-fit (it ∷ []) stay = tt
all-fit (it ∷ next ∷ more) stay = (subst (λ parts. StaysBadBefore it (comma CallSite ++ joined (comma CallSite) parts)) (sym (print-items (next ∷ more))) stay.0, all-fit (next ∷ more) stay.1)

-- what is the same as items but for places is a list of items
same-items : (all : List Found) (items : List NestedMeta) → map erased_found all ≡ map erased_found (map found.Item items) → (others : List NestedMeta) × (all ≡ map found.Item others) × (map erased_nested others ≡ map erased_nested items)
same-items [] [] e = ([], refl, refl)
same-items [] (it ∷ items) e = absurd cc
same-items (one ∷ all) [] e = absurd cc
same-items (found.Attribute place ∷ all) (it ∷ items) e = absurd cc
same-items (found.Item one ∷ all) (it ∷ items) e =
    let head : erased_nested one ≡ erased_nested it = cc in
    let tail : map erased_found all ≡ map erased_found (map found.Item items) = cc in
    let more = same-items all items tail in
    (one ∷ more.0, ap (λ all. found.Item one ∷ all) more.1, rw (head, more.2) refl)

-- ---- the law

-- what was found is found again of its printing
found-again : (tokens : TokenStream) (items : List NestedMeta) → found_of tokens ≡ Some (map found.Item items) → AllStayBad items
    → (again : List Found) × (found_of (stream_of (separated nested_tokens items)) ≡ Some again) × (map erased_found again ≡ map erased_found (map found.Item items))
unfolding found_of
found-again tokens items e stay =
    let parts = all-parts (items_after item [] (start_of (out-TokenStream tokens).trees)) (map found.Item items) e in
    let one = items-read erased_found found_tokens item item Good Fits (λ rest tail. is_end tail ≡ false) (λ rest tail. Ended tail) item-rule (λ rest tail f. f) (λ rest. ended-nothing) (λ rest tail span. ended-comma span tail) CallSite
    (start_of (out-TokenStream tokens).trees) (at [] parts.0) (map found.Item items) parts.1 (all-good items) (all-fit items stay) in
    let more = one.again [] CallSite refl in
    let reads = rw append-nil at more.is in
    (more.value, rw (contents-stream (separated nested_tokens items), ← print-items items, reads) refl, more.same)

pub nested-back : (tokens : TokenStream) (items : List NestedMeta) → nested_of tokens ≡ Some items → AllStayBad items
    → (again : List NestedMeta) × (nested_of (stream_of (separated nested_tokens items)) ≡ Some again) × (map erased_nested again ≡ map erased_nested items)
unfolding nested_of
nested-back tokens items e stay = by (found_of tokens) refl e
  where
    RoundTrips : Type 0
    RoundTrips = (again : List NestedMeta) × (nested_of (stream_of (separated nested_tokens items)) ≡ Some again) × (map erased_nested again ≡ map erased_nested items)

    made : (all : List Found) (others : List NestedMeta) → found_of (stream_of (separated nested_tokens items)) ≡ Some all → all ≡ map found.Item others → map erased_nested others ≡ map erased_nested items → RoundTrips
    made all others is same bare = (others, rw (is, same, among-made others) refl, bare)

    by : (all : Option (List Found)) → found_of tokens ≡ all → option_and_then (λ it. result_ok (among it)) all ≡ Some items → RoundTrips
    by None is e = absurd cc
    by (Some all) is e =
        let again = found-again tokens items (is ∙ ap Some (among-items all items e)) stay in
        let same = same-items again.0 items again.2 in
        made again.0 same.0 again.1 same.1 same.2

-- one item alone
pub one-back : (tokens : TokenStream) (it : NestedMeta) → nested_of tokens ≡ Some (it ∷ []) → (again : NestedMeta) × (nested_of (stream_of (nested_tokens it)) ≡ Some (again ∷ [])) × (erased_nested again ≡ erased_nested it)
one-back tokens it e =
    let back = nested-back tokens (it ∷ []) e tt in
    made back.0 (subst (λ trees. nested_of (stream_of trees) ≡ Some back.0) (append-nil (nested_tokens it)) back.1) back.2
  where
    made : (items : List NestedMeta) → nested_of (stream_of (nested_tokens it)) ≡ Some items → map erased_nested items ≡ map erased_nested (it ∷ []) → (again : NestedMeta) × (nested_of (stream_of (nested_tokens it)) ≡ Some (again ∷ [])) × (erased_nested again ≡ erased_nested it)
    made [] is same = absurd cc
    made (again ∷ []) is same = let bare : erased_nested again ≡ erased_nested it = cc in (again, is, bare)
    made (again ∷ next ∷ more) is same = absurd cc
