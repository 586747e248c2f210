-- Places sorted by their names are an index.
use Rattle.std.proofs.Common.{Ordering, Less, Equal, Greater, ◌≡◌, ◌<◌, ◌+◌, ◌==◌, ℕ, zero, suc, false, List, [], ◌∷◌, ◌++◌, length, map, take, get_or, arith, refl, ap, sym, ◌∙◌, length-take}
use Rattle.std.specs.Borrow.{Bor}
use Rattle.std.specs.List.{All}
use Rattle.std.specs.List.Sorted.{IsPermutation, IsSorted}
use Rattle.std.specs.Ordering.{is_lt, is_gt, nat_cmp, ordering_then, ordering_reverse}
use Rattle.std.specs.Cmp.{IsTotalOrder}
use Rattle.std.specs.Cmp.Lexicographic.{slice_cmp, nat_list_cmp_total}
use Rattle.std.proofs.lemmas.Bool.{true≢false, eq-eqb}
use Rattle.std.proofs.lemmas.Cmp.{nat_cmp_total, on_total, then_total}
use Rattle.std.proofs.lemmas.List.{length-map, get_or-map, map-append, take_more}
use Rattle.std.proofs.lemmas.List.Folds.{list_any_at}
use Rattle.std.proofs.lemmas.List.Elements.{All-from_get_or, All-get_or, Contains-get_or}
use Rattle.std.proofs.lemmas.List.Sorted.{All-permutation, Contains-permutation, length_permutation, ranks_by, sorted_far}
use Rattle.base_core.specs.declared.text.Text.{Text}
use Rattle.base_index.specs.Index.{IsIndex, indexed, place_at, name_at}

abbrev pub Pair : Type 0
Pair = Bor (List ℕ) × ℕ

abbrev pub key : Pair → Text × ℕ
key pair = (pair.0.now, pair.1)

abbrev pub order : Text × ℕ → Text × ℕ → Ordering
order x y = ordering_then (slice_cmp nat_cmp x.0 y.0) (nat_cmp x.1 y.1)

total : IsTotalOrder order
total = then_total (on_total (λ t. t.0) nat_list_cmp_total) (on_total (λ t. t.1) nat_cmp_total)

length-indexed : (at : ℕ) (names : List Text) → length (indexed at names) ≡ length names
length-indexed at [] = refl
length-indexed at (name ∷ names) = ap suc (length-indexed (at + 1) names)

get_or-indexed : (at : ℕ) (names : List Text) (k : ℕ) (d : Text × ℕ) → k < length names → get_or (indexed at names) k d ≡ (get_or names k [], at + k)
get_or-indexed at [] k d h = absurd (omega (arith, h))
get_or-indexed at (name ∷ names) zero d h = ap (λ n. (name, n)) (let e : at ≡ at + 0 = omega arith in e)
get_or-indexed at (name ∷ names) (suc k) d h =
    get_or-indexed (at + 1) names k d (omega (arith, h)) ∙ ap (λ n. (get_or names k [], n)) (let e : (at + 1) + k ≡ at + suc k = omega arith in e)

indexed-push : (at : ℕ) (names : List Text) (name : Text) → indexed at (names ++ name ∷ []) ≡ indexed at names ++ (name, at + length names) ∷ []
indexed-push at [] name = ap (λ n. (name, n) ∷ []) (let e : at ≡ at + 0 = omega arith in e)
indexed-push at (first ∷ names) name =
    ap (λ l. (first, at) ∷ l) (indexed-push (at + 1) names name)
    ∙ ap (λ n. (first, at) ∷ (indexed (at + 1) names ++ (name, n) ∷ [])) (let e : (at + 1) + length names ≡ at + suc (length names) = omega arith in e)

-- one name more is put behind the pairs
pub paired_more : (old new : List Pair) (name : Bor (List ℕ)) (item : Text) (at i : ℕ) (names : List Text)
    → map key old ≡ indexed 0 (take i names) → at ≡ i → i < length names → item ≡ get_or names i item → name.now ≡ item → new ≡ old ++ (name, at) ∷ []
    → map key new ≡ indexed 0 (take (i + 1) names)
paired_more old new name item at i names so_far here within read told put =
    let all : take (i + 1) names ≡ take i names ++ item ∷ [] = take_more names i item within ∙ ap (λ x. take i names ++ x ∷ []) (sym read) in
    let long : 0 + length (take i names) ≡ i = omega (arith, length-take i names, within) in
    ap (map key) put
    ∙ map-append key old ((name, at) ∷ [])
    ∙ ap (λ l. l ++ (name.now, at) ∷ []) so_far
    ∙ ap (λ t. indexed 0 (take i names) ++ (t, at) ∷ []) told
    ∙ ap (λ n. indexed 0 (take i names) ++ (item, n) ∷ []) (here ∙ sym long)
    ∙ sym (indexed-push 0 (take i names) item)
    ∙ ap (indexed 0) (sym all)

turned : (o : Ordering) → is_lt o ≡ false → is_gt (ordering_reverse o) ≡ false
turned Less is = absurd (true≢false is)
turned Equal is = refl
turned Greater is = refl

module _ (names : List Text) (pairs sorted : List Pair) (d : Pair) (is : map key pairs ≡ indexed 0 names) (perm : IsPermutation pairs sorted) where
  abbrev Good : Pair → Type 0
  Good pair = (pair.1 < length names) × (pair.0.now ≡ get_or names pair.1 [])

  long_pairs : length pairs ≡ length names
  long_pairs = sym (length-map pairs key) ∙ ap length is ∙ length-indexed 0 names

  pair_at : (k : ℕ) → k < length names → key (get_or pairs k d) ≡ (get_or names k [], 0 + k)
  pair_at k h =
      let within : k < length pairs = omega (arith, h, long_pairs) in
      sym (get_or-map key pairs k d (key d) within) ∙ ap (λ l. get_or l k (key d)) is ∙ get_or-indexed 0 names k (key d) h

  good_pairs : All Good pairs
  good_pairs = All-from_get_or Good pairs d (λ k h.
      let within : k < length names = omega (arith, h, long_pairs) in
      let it = pair_at k within in
      let place : (get_or pairs k d).1 ≡ k = ap (λ t. t.1) it ∙ (let e : 0 + k ≡ k = omega arith in e) in
      (omega (arith, place, within), ap (λ t. t.0) it ∙ ap (λ n. get_or names n []) (sym place)))

  good : All Good sorted
  good = All-permutation Good pairs sorted perm good_pairs

  long : length sorted ≡ length names
  long = length_permutation pairs sorted perm ∙ long_pairs

  place_is : (i : ℕ) → i < length sorted → place_at (map (λ it. it.1) sorted) i ≡ (get_or sorted i d).1
  place_is i h = get_or-map (λ it. it.1) sorted i d 0 h

  name_is : (i : ℕ) → i < length sorted → name_at (map (λ it. it.1) sorted) names i ≡ (get_or sorted i d).0.now
  name_is i h = ap (λ n. get_or names n []) (place_is i h) ∙ sym (All-get_or Good sorted i d h good).1

  key_is : (i : ℕ) → i < length sorted → (name_at (map (λ it. it.1) sorted) names i, place_at (map (λ it. it.1) sorted) i) ≡ key (get_or sorted i d)
  key_is i h = ap (λ n. (n, place_at (map (λ it. it.1) sorted) i)) (name_is i h) ∙ ap (λ n. ((get_or sorted i d).0.now, n)) (place_is i h)

  index_of : IsSorted (λ x y. order (key x) (key y)) sorted → IsIndex (map (λ it. it.1) sorted) names
  index_of up =
      let count : length (map (λ it. it.1) sorted) ≡ length sorted = length-map sorted (λ it. it.1) in
      record {
        all = count ∙ long;
        below = λ i h.
            let within : i < length sorted = omega (arith, h, count) in
            rw (place_is i within) (All-get_or Good sorted i d within good).0;
        every = λ k h.
            let pair = get_or pairs k d in
            let place : pair.1 ≡ k = ap (λ t. t.1) (pair_at k h) ∙ (let e : 0 + k ≡ k = omega arith in e) in
            let it = Contains-permutation pairs sorted pair perm (Contains-get_or pairs k d (omega (arith, h, long_pairs))) in
            let here : place_at (map (λ p. p.1) sorted) it.0 ≡ k = get_or-map (λ p. p.1) sorted it.0 pair 0 it.1 ∙ ap (λ p. p.1) it.2 ∙ place in
            list_any_at (λ place. place == k) (map (λ p. p.1) sorted) it.0 0 (omega (arith, it.1, count)) (eq-eqb _ _ here);
        order = λ i j up_to h.
            let within : j < length sorted = omega (arith, h, count) in
            let first : i < length sorted = omega (arith, up_to, within) in
            let far = sorted_far (λ x y. is_lt (order (key x) (key y))) (ranks_by total key) sorted up i j d up_to within in
            let back : is_gt (order (key (get_or sorted i d)) (key (get_or sorted j d))) ≡ false =
            ap is_gt (total.antisymm (key (get_or sorted i d)) (key (get_or sorted j d))) ∙ turned (order (key (get_or sorted j d)) (key (get_or sorted i d))) far in
            ap (λ x. is_gt (order x (name_at (map (λ it. it.1) sorted) names j, place_at (map (λ it. it.1) sorted) j))) (key_is i first)
            ∙ ap (λ y. is_gt (order (key (get_or sorted i d)) y)) (key_is j within)
            ∙ back;
      }

pub sorted_index : (names : List Text) (pairs sorted : List Pair) (places : List ℕ) → map key pairs ≡ indexed 0 names → IsPermutation pairs sorted
    → IsSorted (λ x y. order (key x) (key y)) sorted → places ≡ map (λ it. it.1) sorted → IsIndex places names
sorted_index names pairs [] places is perm up made =
    let count : length names ≡ 0 = sym (length-indexed 0 names) ∙ sym (ap length is) ∙ length-map pairs key ∙ sym (length_permutation pairs [] perm) in
    let none : length places ≡ 0 = ap length made in
    record {
      all = none ∙ sym count;
      below = λ i h. absurd (omega (arith, h, none));
      every = λ k h. absurd (omega (arith, h, count));
      order = λ i j up_to h. absurd (omega (arith, h, none));
    }
sorted_index names pairs (d ∷ sorted) places is perm up made = rw made (index_of names pairs (d ∷ sorted) d is perm up)
