-- A search by halves: what it keeps, how many steps it takes, and what it finds.
use Rattle.std.proofs.Common.{Ordering, Less, Equal, Greater, ◌≡◌, ◌<◌, ◌≤◌, ◌+◌, ◌-◌, ◌*◌, ◌^◌, ℕ, zero, suc, Bool, true, false, cond, List, [], ◌∷◌, length, get_or, position, Some, None, arith, inl, inr, ⊎_elim, refl, ap, sym, ◌∙◌}
use Rattle.std.specs.Prelude.{◌⊎◌, ◌||◌, ◌==◌, nat_lt}
use Rattle.std.specs.List.{list_any, position_or_len}
use Rattle.std.specs.Ordering.{is_lt, is_gt, is_eq, nat_cmp, ordering_then}
use Rattle.std.specs.Cmp.Lexicographic.{slice_cmp, texts_ties, nat_list_cmp_total}
use Rattle.std.specs.Str.{bytes_eq}
use Rattle.std.proofs.Math.Nat.{pow-suc}
use Rattle.std.proofs.lemmas.Bool.{true≢false, eqb-true}
use Rattle.std.proofs.lemmas.Cmp.{tied_back, alike_right}
use Rattle.std.proofs.lemmas.List.Sums.{position_or_len_is}
use Rattle.base_core.specs.declared.text.Text.{Text}
use Rattle.base_index.specs.Index.{below_at, same_at, name_at, place_at, IsIndex}
use Rattle.base_index.specs.Count.{last, raised}

-- what the search keeps
pub record Searches (places : List ℕ) (names : List Text) (name : List ℕ) (low size steps old new : ℕ) : Type 0 where
  pub within : low + size ≤ length places
  pub before : (i : ℕ) → i < low → below_at places names name i ≡ true
  pub behind : (i : ℕ) → low + size ≤ i → i < length places → below_at places names name i ≡ false
  pub few : (d : ℕ) → length places < 2 ^ d → (steps ≤ d) × (size < 2 ^ (d - steps))
  pub falls : steps + size ≤ length places
  pub most : new ≤ old + steps
  pub grows : old ≤ new
  pub stays : old ≡ last → new ≡ last
  pub least : ((steps ≡ 0) × (size ≡ length places) × (new ≡ old)) ⊎ ((old + 1 ≤ new) ⊎ (new ≡ last))

pub least-more : (old now new : ℕ) → (now ≡ old) ⊎ ((old + 1 ≤ now) ⊎ (now ≡ last)) → new ≡ raised now → (old + 1 ≤ new) ⊎ (new ≡ last)
least-more old now new before is = grind (arith, before, is)

pub raised-up : (n : ℕ) → n ≤ raised n
raised-up n = grind arith

pub raised-most : (n : ℕ) → raised n ≤ n + 1
raised-most n = grind arith

pub raised-last : (n : ℕ) → n ≡ last → raised n ≡ last
raised-last n is = grind (arith, is)

pub was : {A B : Type 0} {C : Type 0} (now old : ℕ) → (A × B × (now ≡ old)) ⊎ C → (now ≡ old) ⊎ C
was now old either = ⊎_elim (λ first. inl first.2) (λ second. inr second) either

-- a step halves what is left
rest-more : (e size more : ℕ) → 1 ≤ size → size < 2 ^ e → more * 2 ≤ size → (1 ≤ e) × (more < 2 ^ (e - 1))
rest-more zero size more some much half = absurd (omega (arith, some, much))
rest-more (suc e) size more some much half =
    let is : suc e - 1 ≡ e = omega arith in
    let small : more < 2 ^ e = omega (arith, pow-suc 2 e, much, half) in
    (omega arith, rw is small)

pub few-more : (n size more steps : ℕ) → 1 ≤ size → more * 2 ≤ size → ((d : ℕ) → n < 2 ^ d → (steps ≤ d) × (size < 2 ^ (d - steps)))
    → (d : ℕ) → n < 2 ^ d → (steps + 1 ≤ d) × (more < 2 ^ (d - (steps + 1)))
few-more n size more steps some half few d much =
    let now = few d much in
    let then = rest-more (d - steps) size more some now.1 half in
    let is : d - (steps + 1) ≡ d - steps - 1 = omega arith in
    (omega (arith, now.0, then.0), rw is then.1)

less_is : (o : Ordering) → is_lt o ≡ true → o ≡ Less
less_is Less is = refl
less_is Equal is = absurd (true≢false (sym is))
less_is Greater is = absurd (true≢false (sym is))

equal_is : (o : Ordering) → is_eq o ≡ true → o ≡ Equal
equal_is Less is = absurd (true≢false (sym is))
equal_is Equal is = refl
equal_is Greater is = absurd (true≢false (sym is))

not_less : (low i : ℕ) → (i < low → ⊥) → low ≤ i
not_less low i never = grind (arith, never)

less_than : (k n : ℕ) → k < n → nat_lt k n ≡ true
less_than k n h = grind arith

less_not : (n : ℕ) → nat_lt n n ≡ false
less_not n = grind arith

not_above : (x y : ℕ) → is_gt (nat_cmp x y) ≡ false → x ≤ y
not_above x y is = grind (arith, is)

not_true : (b : Bool) → (b ≡ true → ⊥) → b ≡ false
not_true true never = absurd (never refl)
not_true false never = refl

up_to : (o p : Ordering) → is_gt (ordering_then o p) ≡ false → (o ≡ Less) ⊎ (o ≡ Equal)
up_to Less p is = inl refl
up_to Equal p is = inr refl
up_to Greater p is = absurd (true≢false is)

-- where one passes the test
passing_at : (p : ℕ → Bool) (xs : List ℕ) → list_any p xs ≡ true → (i : ℕ) × (i < length xs) × (p (get_or xs i 0) ≡ true)
passing_at p [] is = absurd (true≢false (sym is))
passing_at p (x ∷ xs) is = elim (p x) as (λ b. p x ≡ b → (b || list_any p xs) ≡ true → (i : ℕ) × (i < suc (length xs)) × (p (get_or (x ∷ xs) i 0) ≡ true)) [
  | true ↦ λ first _. (0, omega arith, first)
  | false ↦ λ _ more. let it = passing_at p xs more in (suc it.0, omega (arith, it.1), it.2)
] refl is

module _ (places : List ℕ) (names : List Text) (name : List ℕ) (index : IsIndex places names) where
  -- where a place stands in the order
  at_place : (k : ℕ) → k < length names → (i : ℕ) × (i < length places) × (place_at places i ≡ k)
  at_place k some = let it = passing_at (λ place. place == k) places (index.every k some) in (it.0, it.1, eqb-true _ _ it.2)

  -- what stands before a name that is below is below
  pub below-down : (i j : ℕ) → i ≤ j → j < length places → below_at places names name j ≡ true → below_at places names name i ≡ true
  below-down i j up in_range is =
      let R = slice_cmp nat_cmp in
      let o = nat_list_cmp_total in
      let ni = name_at places names i in
      let nj = name_at places names j in
      let second : R nj name ≡ Less = less_is (R nj name) is in
      let both : (R ni nj ≡ Less) ⊎ (R ni nj ≡ Equal) = up_to (R ni nj) (nat_cmp (place_at places i) (place_at places j)) (index.order i j up in_range) in
      let first : R ni name ≡ Less =
      ⊎_elim (λ less. o.trans ni nj name less second) (λ same. o.congr ni nj name same ∙ second) both in
      ap is_lt first

  pub below-up : (i j : ℕ) → i ≤ j → j < length places → below_at places names name i ≡ false → below_at places names name j ≡ false
  below-up i j up in_range is =
      not_true (below_at places names name j) (λ holds. true≢false (sym (below-down i j up in_range holds) ∙ is))

  -- a name that is met stands at or behind the first that is not below
  met : (low k i : ℕ) → ((n : ℕ) → n < low → below_at places names name n ≡ true) → place_at places i ≡ k
      → bytes_eq (get_or names k []) name ≡ true → (slice_cmp nat_cmp (name_at places names i) name ≡ Equal) × (low ≤ i)
  met low k i before at is =
      let R = slice_cmp nat_cmp in
      let same : R (name_at places names i) name ≡ Equal =
      equal_is (R (name_at places names i) name) (sym (texts_ties (name_at places names i) name) ∙ ap (λ n. bytes_eq (get_or names n []) name) at ∙ is) in
      let not_below : is_lt (R (name_at places names i) name) ≡ false = ap is_lt same in
      (same, not_less low i (λ lt. true≢false (sym (before i lt) ∙ not_below)))

  module _ (low : ℕ) (before : (n : ℕ) → n < low → below_at places names name n ≡ true) where
    earlier : low < length places → same_at places names name low ≡ true → (n : ℕ) → n < length names → n < place_at places low → bytes_eq (get_or names n []) name ≡ true → ⊥
    earlier in_range is n some less holds =
        let R = slice_cmp nat_cmp in
        let o = nat_list_cmp_total in
        let it = at_place n some in
        let both = met low n it.0 before it.2 holds in
        let here : R (name_at places names low) name ≡ Equal = equal_is (R (name_at places names low) name) (sym (texts_ties (name_at places names low) name) ∙ is) in
        let tie : R (name_at places names low) (name_at places names it.0) ≡ Equal =
        o.congr (name_at places names low) name (name_at places names it.0) here ∙ tied_back o (name_at places names it.0) name both.0 in
        let order = index.order low it.0 both.1 it.1 in
        let up : is_gt (nat_cmp (place_at places low) (place_at places it.0)) ≡ false =
        ap (λ c. is_gt (ordering_then c (nat_cmp (place_at places low) (place_at places it.0)))) (sym tie) ∙ order in
        omega (arith, not_above (place_at places low) (place_at places it.0) up, it.2, less)

    nowhere : ((i : ℕ) → low ≤ i → i < length places → below_at places names name i ≡ false) → (low < length places → same_at places names name low ≡ false)
        → (n : ℕ) → n < length names → bytes_eq (get_or names n []) name ≡ true → ⊥
    nowhere behind other n some holds =
        let R = slice_cmp nat_cmp in
        let o = nat_list_cmp_total in
        let it = at_place n some in
        let both = met low n it.0 before it.2 holds in
        let in_range : low < length places = omega (arith, both.1, it.1) in
        let nl = name_at places names low in
        let ni = name_at places names it.0 in
        let like : R nl ni ≡ R nl name = alike_right o ni name nl both.0 in
        let either : (R nl ni ≡ Less) ⊎ (R nl ni ≡ Equal) = up_to (R nl ni) (nat_cmp (place_at places low) (place_at places it.0)) (index.order low it.0 both.1 it.1) in
        ⊎_elim
        (λ less. true≢false (sym (ap is_lt (sym like ∙ less)) ∙ behind low (omega arith) in_range))
        (λ same. true≢false (sym (texts_ties nl name ∙ ap is_eq (sym like ∙ same)) ∙ other in_range))
        either

    -- the place there is the first of the name
    pub found : low < length places → same_at places names name low ≡ true → Some (place_at places low) ≡ position (λ other. bytes_eq other name) names
    found in_range is =
        let p : Text → Bool = λ other. bytes_eq other name in
        let k = place_at places low in
        let within : k < length names = index.below low in_range in
        let none : (n : ℕ) → n < k → p (get_or names n []) ≡ false = λ n less. not_true (p (get_or names n [])) (λ holds. earlier in_range is n (omega (arith, less, within)) less holds) in
        let first : position_or_len p names ≡ k = position_or_len_is p names k [] (omega (arith, within)) none (λ _. is) in
        sym (ap (λ n. cond (nat_lt n (length names)) (Some n) None) first ∙ ap (λ t. cond t (Some k) None) (less_than k (length names) within))

    -- where the name there is another one, none is the name
    pub missing : ((i : ℕ) → low ≤ i → i < length places → below_at places names name i ≡ false) → (low < length places → same_at places names name low ≡ false)
        → None ≡ position (λ other. bytes_eq other name) names
    missing behind other =
        let p : Text → Bool = λ it. bytes_eq it name in
        let none : (n : ℕ) → n < length names → p (get_or names n []) ≡ false = λ n some. not_true (p (get_or names n [])) (λ holds. nowhere behind other n some holds) in
        let first : position_or_len p names ≡ length names = position_or_len_is p names (length names) [] (omega arith) none (λ h. absurd (omega (arith, h))) in
        sym (ap (λ n. cond (nat_lt n (length names)) (Some n) None) first ∙ ap (λ t. cond t (Some (length names)) None) (less_not (length names)))
