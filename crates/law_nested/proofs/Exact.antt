-- A list of nested items is read back only where each bad value stays bad before the items that are printed behind it.
use Rattle.std.proofs.Common.{◌≡◌, ℕ, zero, suc, Bool, true, false, if◌then◌else◌, List, [], ◌∷◌, ◌++◌, map, All, Option, Some, None, refl, ap, sym, subst, ◌∙◌, append_assoc, append-nil, option_and_then}
use Rattle.std.proofs.lemmas.List.{append_cancel_left}
use Rattle.std.proofs.lemmas.List.Elements.{All-append, All-cons, All-head, All-nil, All-tail}
use Rattle.std.proofs.lemmas.Option.{some_pair_parts}
use Rattle.std.specs.Result.{result_ok}
use Rattle.tok_types.specs.declared.span.Span.{Span}
use Rattle.tok_types.specs.declared.span.Span.TheVariants.{CallSite}
use Rattle.tok_types.specs.declared.tree.TokenStream.{TokenStream, out-TokenStream}
use Rattle.syn_grammar.specs.Input.{Input, Outcome, ◌>>=◌, after_eat, eat, is_end, items_after, items_from, pure, start_of}
use Rattle.syn_grammar.specs.Token.{is_comma}
use Rattle.meta_nested.specs.declared.item.Found.{Found}
use Rattle.meta_nested.specs.declared.item.Found.TheVariants as found
use Rattle.meta_nested.specs.declared.nested.NestedMeta.{NestedMeta}
use Rattle.meta_nested.specs.Nested.{among, found_of, item, nested_of}
use Rattle.meta_nested.specs.Nodes.{nested_tokens}
use Rattle.print_core.specs.Marks.{Trees, after as behind_each, comma, joined}
use Rattle.law_prefix.specs.ReadsByPrefix.{at}
use Rattle.tok_types.specs.Stream.{stream_of}
use Rattle.law_round_trip.specs.Printed.{separated}
use Rattle.law_round_trip.proofs.Lists.{AllFit, comma-length, items_from-behind}
use Rattle.law_round_trip.proofs.Marks.{is_comma-comma}
use Rattle.law_round_trip.proofs.Steps.{bind-at}
use Rattle.law_round_trip.proofs.Streams.{contents-stream}
use Rattle.law_round_trip.proofs.Takes.{skipped-over}
use Rattle.law_round_trip.proofs.Wholes.{all-parts}
use Rattle.law_nested.specs.Erased.{erased_nested}
use Rattle.law_nested.specs.StaysBad.{AllStayBad, StaysBadBefore}
use Rattle.law_nested.proofs.Found.{Fits, Good, erased_found, found_tokens}
use Rattle.law_nested.proofs.Literals.{ReadsItem}
use Rattle.law_nested.proofs.Pairs.{item-reads, item-rule}
use Rattle.law_nested.proofs.Stops.{Ended, ended-comma, ended-nothing}
use Rattle.law_nested.proofs.Wholes.{all-good, among-items, print-items}

-- ---- what was read

abbrev WasRead : Found → Type 0
WasRead it = (input : Input) × (after : Input) × (item input ≡ Some (it, after))

were-read : (count : ℕ) (found : List Found) (input after : Input) (items : List Found) → All WasRead found → items_from item count found input ≡ Some (items, after) → All WasRead items
unfolding items_from after_eat
were-read zero found input after items were e = by (is_end input.rest) e
  where
    by : (b : Bool) → ◌≡◌ {A = Outcome (List Found)} ((if b then pure found else (λ input. None)) input) (Some (items, after)) → All WasRead items
    by true e = subst (All WasRead) (some_pair_parts found items input after e).0 were
    by false e = absurd cc
were-read (suc count) found input after items were e = by (is_end input.rest) (λ it next pushed. were-read count (found ++ it ∷ []) next after items pushed) e
  where
    Later : Type 0
    Later = (it : Found) (next : Input) → All WasRead (found ++ it ∷ []) → items_from item count (found ++ it ∷ []) next ≡ Some (items, after) → All WasRead items

    goes : (b : Bool) (behind : Input) (it : Found) → All WasRead (found ++ it ∷ []) → Later → (if b then items_from item count (found ++ it ∷ []) else pure (found ++ it ∷ [])) behind ≡ Some (items, after) → All WasRead items
    goes true behind it pushed later e = later it behind pushed e
    goes false behind it pushed later e = subst (All WasRead) (some_pair_parts (found ++ it ∷ []) items behind after e).0 pushed

    by : (b : Bool) → Later → (if b then pure found else (item >>= (λ it. eat 1 is_comma >>= (λ more. if more then items_from item count (found ++ it ∷ []) else pure (found ++ it ∷ []))))) input ≡ Some (items, after) → All WasRead items
    by true later e = subst (All WasRead) (some_pair_parts found items input after e).0 were
    by false later e =
        let parts = bind-at (item input) (λ it. eat 1 is_comma >>= (λ more. if more then items_from item count (found ++ it ∷ []) else pure (found ++ it ∷ []))) items after e in
        let pushed = All-append WasRead found (parts.0 ∷ []) were (All-cons WasRead parts.0 [] (input, parts.1, parts.2) (All-nil WasRead)) in
        goes (is_comma parts.1.rest) (after_eat 1 (is_comma parts.1.rest) parts.1) parts.0 pushed later parts.3

-- the items that were read behind those that were found
read-behind : (count : ℕ) (found : List Found) (input after : Input) (items : List Found) → items_from item count found input ≡ Some (items, after) → (more : List Found) × (items ≡ found ++ more)
read-behind count found input after items e =
    let behind = items_from-behind erased_found found_tokens item item Good Fits (λ rest tail. is_end tail ≡ false) (λ rest tail. Ended tail) item-rule (λ rest tail f. f) (λ rest. ended-nothing) (λ rest tail span. ended-comma span tail) CallSite count found input after items e in
    (behind.more, behind.is)

-- ---- what is read back

-- what stands behind the same items is the same
head-same : (others : List Found) (it one : Found) (more again : List Found) → others ++ one ∷ again ≡ (others ++ it ∷ []) ++ more → it ≡ one
head-same others it one more again e =
    let lists = append_cancel_left others (one ∷ again) (it ∷ more) (e ∙ append_assoc others (it ∷ []) more) in
    let same : it ≡ one = cc in
    same

-- the item that is read is the next one of the list that is read
head-of : (b : Bool) (turns : ℕ) (others again : List Found) (it one : Found) (input after : Input) → (if b then items_from item turns (others ++ it ∷ []) else pure (others ++ it ∷ [])) input ≡ Some (others ++ one ∷ again, after) → it ≡ one
head-of true turns others again it one input after e =
    let behind = read-behind turns (others ++ it ∷ []) input after (others ++ one ∷ again) e in
    head-same others it one behind.0 again behind.1
head-of false turns others again it one input after e =
    head-same others it one [] again (sym (some_pair_parts (others ++ it ∷ []) (others ++ one ∷ again) input after e).0 ∙ sym (append-nil (others ++ it ∷ [])))

some-tokens : (tokens tail : Trees) → is_end (tokens ++ []) ≡ false → is_end (tokens ++ tail) ≡ false
some-tokens [] tail some = absurd cc
some-tokens (tree ∷ trees) tail some = refl

-- the first item of a list, and what is read behind its comma
one-step : (turns : ℕ) (others again : List Found) (one it : Found) (behind : Trees) (last : Span) (after : Input) → ReadsItem (found_tokens it) it
    → items_from item turns others (at (found_tokens it ++ (comma CallSite ++ behind)) last) ≡ Some (others ++ one ∷ again, after) → erased_found one ≡ erased_found it
    → Fits it (comma CallSite ++ behind) × ((fewer : ℕ) × (new : Span) × (items_from item fewer (others ++ one ∷ []) (at behind new) ≡ Some ((others ++ one ∷ []) ++ again, after)))
unfolding items_from after_eat
one-step zero others again one it behind last after law e bare =
    let none = rw (some-tokens (found_tokens it) (comma CallSite ++ behind) (law.reads.first [] (ended-nothing, law.ends))) at e in
    absurd cc
one-step (suc turns) others again one it behind last after law e bare = made parts.0 parts.1 parts.2 parts.3 (head-of (is_comma parts.1.rest) turns others again parts.0 one (after_eat 1 (is_comma parts.1.rest) parts.1) after parts.3)
  where
    tail : Trees
    tail = comma CallSite ++ behind

    goes-on : Found → Input → Outcome (List Found)
    goes-on it = eat 1 is_comma >>= (λ more. if more then items_from item turns (others ++ it ∷ []) else pure (others ++ it ∷ []))

    parts : (other : Found) × (between : Input) × (item (at (found_tokens it ++ tail) last) ≡ Some (other, between)) × (goes-on other between ≡ Some (others ++ one ∷ again, after))
    parts = bind-at (item (at (found_tokens it ++ tail) last)) goes-on (others ++ one ∷ again) after (rw (some-tokens (found_tokens it) tail (law.reads.first [] (ended-nothing, law.ends))) at e)

    made : (other : Found) (between : Input) → item (at (found_tokens it ++ tail) last) ≡ Some (other, between) → goes-on other between ≡ Some (others ++ one ∷ again, after) → other ≡ one
        → Fits it tail × ((fewer : ℕ) × (new : Span) × (items_from item fewer (others ++ one ∷ []) (at behind new) ≡ Some ((others ++ one ∷ []) ++ again, after)))
    made other between is next same =
        let read = is ∙ ap (λ other. Some (other, between)) same in
        let fits = law.only tail last one between (ended-comma CallSite behind) read bare in
        let more = law.reads.again tail last (ended-comma CallSite behind, fits) in
        let both = some_pair_parts one more.value between (at tail more.new) (sym read ∙ more.is) in
        let stands = skipped-over 1 (comma CallSite) behind more.new (comma-length CallSite) in
        let goes = ap (λ input. goes-on one input) (sym both.1) ∙ (ap (λ it. goes-on it between) (sym same) ∙ next) in
        let rest = rw (is_comma-comma behind CallSite, stands.1) at goes in
        (fits, (turns, stands.0, rest ∙ ap (λ items. Some (items, after)) (sym (append_assoc others (one ∷ []) again))))

-- each item of a list that is read back fits what is printed behind it
items-only : (items : List Found) → All WasRead items → All Good items → (turns : ℕ) (others again : List Found) (last : Span) (after : Input)
    → items_from item turns others (at (joined (comma CallSite) (map found_tokens items)) last) ≡ Some (others ++ again, after) → map erased_found again ≡ map erased_found items → AllFit found_tokens CallSite Fits items
items-only [] were good turns others again last after e same = tt
items-only (it ∷ []) were good turns others again last after e same = tt
items-only (it ∷ next ∷ more) were good turns others [] last after e same = absurd cc
items-only (it ∷ next ∷ more) were good turns others (one ∷ again) last after e same =
    let read = All-head WasRead it (next ∷ more) were in
    let law = item-reads read.0 read.1 it read.2 (All-head Good it (next ∷ more) good) in
    let bare : erased_found one ≡ erased_found it = cc in
    let rest : map erased_found again ≡ map erased_found (next ∷ more) = cc in
    let printed = ap (λ tokens. found_tokens it ++ tokens) (append_assoc (comma CallSite) (found_tokens next) (behind_each (comma CallSite) (map found_tokens more))) in
    let step = one-step turns others again one it (joined (comma CallSite) (map found_tokens (next ∷ more))) last after law (ap (λ tokens. items_from item turns others (at tokens last)) (sym printed) ∙ e) bare in
    (step.0, items-only (next ∷ more) (All-tail WasRead it (next ∷ more) were) (All-tail Good it (next ∷ more) good) step.1.0 (others ++ one ∷ []) again step.1.1 after step.1.2 rest)

-- ---- whole lists

all-stay : (items : List NestedMeta) → AllFit found_tokens CallSite Fits (map found.Item items) → AllStayBad items
all-stay [] fit = tt
all-stay (it ∷ []) fit = tt
all-stay (it ∷ next ∷ more) fit = (subst (λ parts. StaysBadBefore it (comma CallSite ++ joined (comma CallSite) parts)) (print-items (next ∷ more)) fit.0, all-stay (next ∷ more) fit.1)

bare-items : (items : List NestedMeta) → map erased_found (map found.Item items) ≡ map found.Item (map erased_nested items)
bare-items [] = refl
bare-items (it ∷ items) = ap (λ more. found.Item (erased_nested it) ∷ more) (bare-items items)

-- the items that a list is
found-items : (tokens : TokenStream) (items : List NestedMeta) → nested_of tokens ≡ Some items → (after : Input) × (items_after item [] (start_of (out-TokenStream tokens).trees) ≡ Some (map found.Item items, after))
unfolding nested_of found_of
found-items tokens items e = by (found_of tokens) refl e
  where
    by : (all : Option (List Found)) → found_of tokens ≡ all → option_and_then (λ it. result_ok (among it)) all ≡ Some items → (after : Input) × (items_after item [] (start_of (out-TokenStream tokens).trees) ≡ Some (map found.Item items, after))
    by None is e = absurd cc
    by (Some all) is e =
        let parts = all-parts (items_after item [] (start_of (out-TokenStream tokens).trees)) (map found.Item items) (is ∙ ap Some (among-items all items e)) in
        (at [] parts.0, parts.1)

-- what is read back stays bad
pub nested-only : (tokens : TokenStream) (items again : List NestedMeta) → nested_of tokens ≡ Some items → nested_of (stream_of (separated nested_tokens items)) ≡ Some again → map erased_nested again ≡ map erased_nested items → AllStayBad items
nested-only tokens items again e reads same =
    let source = found-items tokens items e in
    let back = found-items (stream_of (separated nested_tokens items)) again reads in
    all-stay items (made source.0 source.1 back.0 back.1)
  where
    made : (after : Input) → items_after item [] (start_of (out-TokenStream tokens).trees) ≡ Some (map found.Item items, after) → (end : Input) → items_after item [] (start_of (out-TokenStream (stream_of (separated nested_tokens items))).trees) ≡ Some (map found.Item again, end)
        → AllFit found_tokens CallSite Fits (map found.Item items)
    made after source end back =
        let were = were-read _ [] (start_of (out-TokenStream tokens).trees) after (map found.Item items) (All-nil WasRead) source in
        let printed = contents-stream (separated nested_tokens items) ∙ ap (joined (comma CallSite)) (sym (print-items items)) in
        let read = ap (λ trees. items_after item [] (start_of trees)) (sym printed) ∙ back in
        let bare = bare-items again ∙ (ap (map found.Item) same ∙ sym (bare-items items)) in
        items-only (map found.Item items) were (all-good items) _ [] (map found.Item again) CallSite end read bare
