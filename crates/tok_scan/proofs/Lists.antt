-- Runs of elements that pass a test, and the places of a list.
use Rattle.std.proofs.Common.{◌≡◌, ℕ, zero, suc, ◌+◌, ◌<◌, ◌≤◌, Bool, true, false, cond, eqb, List, [], ◌∷◌, ◌++◌, length, take, drop, get_or, refl, sym, ap, subst, arith, ⊎_elim, drop-cons, add-one}
use Rattle.std.proofs.lemmas.Bool.{and_parts, and_from, or_cases, eqb-true, false≢true}
use Rattle.std.specs.List.{list_all, list_any, prefix_len, AllByRecursion}
use Rattle.tok_scan.specs.Characters.{begins}

pub prefix_len-append_all : (p : ℕ → Bool) (xs ys : List ℕ) → list_all p xs ≡ true → prefix_len p (xs ++ ys) ≡ length xs + prefix_len p ys
prefix_len-append_all p [] ys h = omega arith
prefix_len-append_all p (x ∷ xs) ys h =
    let parts = and_parts (p x) (list_all p xs) h in
    let more = prefix_len-append_all p xs ys parts.1 in
    rw (parts.0) (omega (arith, more))

pub prefix_len-begins : (p : ℕ → Bool) (xs : List ℕ) → begins p xs ≡ false → prefix_len p xs ≡ 0
prefix_len-begins p [] h = refl
prefix_len-begins p (x ∷ xs) h = rw h refl

-- a run that goes on no further
pub prefix_len-run : (p : ℕ → Bool) (xs ys : List ℕ) → list_all p xs ≡ true → begins p ys ≡ false → prefix_len p (xs ++ ys) ≡ length xs
prefix_len-run p xs ys h k = omega (arith, prefix_len-append_all p xs ys h, prefix_len-begins p ys k)

pub list_all-take_prefix : (p : ℕ → Bool) (xs : List ℕ) → list_all p (take (prefix_len p xs) xs) ≡ true
list_all-take_prefix p [] = refl
list_all-take_prefix p (x ∷ xs) = elim (p x) as (λ b. p x ≡ b → list_all p (take (cond b (1 + prefix_len p xs) 0) (x ∷ xs)) ≡ true) [
  | true ↦ λ e. let n : 1 + prefix_len p xs ≡ suc (prefix_len p xs) = omega arith in rw n (and_from _ _ e (list_all-take_prefix p xs))
  | false ↦ λ e. refl
] refl

pub begins-drop_prefix : (p : ℕ → Bool) (xs : List ℕ) → begins p (drop (prefix_len p xs) xs) ≡ false
begins-drop_prefix p [] = refl
begins-drop_prefix p (x ∷ xs) = elim (p x) as (λ b. p x ≡ b → begins p (drop (cond b (1 + prefix_len p xs) 0) (x ∷ xs)) ≡ false) [
  | true ↦ λ e. let n : 1 + prefix_len p xs ≡ suc (prefix_len p xs) = omega arith in rw n (begins-drop_prefix p xs)
  | false ↦ λ e. e
] refl

-- a list that begins with what fails has no run
pub prefix_len-le_one : (p : ℕ → Bool) (x y : ℕ) (xs : List ℕ) → p y ≡ false → prefix_len p (x ∷ y ∷ xs) ≤ 1
prefix_len-le_one p x y xs h = elim (p x) as (λ b. cond b (1 + prefix_len p (y ∷ xs)) 0 ≤ 1) [
  | true ↦ omega (arith, prefix_len-begins p (y ∷ xs) h)
  | false ↦ omega arith
]

pub prefix_len-le_two : (p : ℕ → Bool) (x y z : ℕ) (xs : List ℕ) → p z ≡ false → prefix_len p (x ∷ y ∷ z ∷ xs) ≤ 2
prefix_len-le_two p x y z xs h = elim (p x) as (λ b. cond b (1 + prefix_len p (y ∷ z ∷ xs)) 0 ≤ 2) [
  | true ↦ omega (arith, prefix_len-le_one p y z xs h)
  | false ↦ omega arith
]

-- the front of a list that passes is no longer than the run
pub length-le-prefix_len : (p : ℕ → Bool) (xs ys : List ℕ) → list_all p xs ≡ true → length xs ≤ prefix_len p (xs ++ ys)
length-le-prefix_len p xs ys h = omega (arith, prefix_len-append_all p xs ys h)

pub get_or-append_length : (xs ys : List ℕ) → get_or (xs ++ ys) (length xs) 0 ≡ get_or ys 0 0
get_or-append_length [] ys = refl
get_or-append_length (x ∷ xs) ys = get_or-append_length xs ys

pub get_or-drop_first : (n : ℕ) (xs : List ℕ) → get_or (drop n xs) 0 0 ≡ get_or xs n 0
get_or-drop_first zero xs = refl
get_or-drop_first (suc n) [] = refl
get_or-drop_first (suc n) (x ∷ xs) = get_or-drop_first n xs

-- what all of a list have, one that is in the list has
pub any_has : (P : ℕ → Type 0) (c : ℕ) (xs : List ℕ) → AllByRecursion P xs → list_any (λ x. eqb c x) xs ≡ true → P c
any_has P c [] all h = absurd (false≢true h)
any_has P c (x ∷ xs) all h = ⊎_elim (λ e. subst P (sym (eqb-true c x e)) all.0) (λ e. any_has P c xs all.1 e) (or_cases (eqb c x) _ h)

pub drop-at : (xs : List ℕ) (i : ℕ) → i < length xs → drop i xs ≡ get_or xs i 0 ∷ drop (i + 1) xs
drop-at xs i h = rw (add-one) (drop-cons xs i 0 h)

-- a list that has an element at its front
pub drop-get : (xs : List ℕ) (c : ℕ) (n : ℕ) → eqb (get_or xs n 0) (suc c) ≡ true → drop n xs ≡ suc c ∷ drop (n + 1) xs
drop-get [] c zero h = let e : 0 ≡ suc c = eqb-true 0 (suc c) h in absurd (omega arith)
drop-get [] c (suc n) h = let e : 0 ≡ suc c = eqb-true 0 (suc c) h in absurd (omega arith)
drop-get (x ∷ xs) c zero h = ap (λ x. x ∷ xs) (eqb-true x (suc c) h)
drop-get (x ∷ xs) c (suc n) h = let e : suc n + 1 ≡ suc (n + 1) = omega arith in rw e (drop-get xs c n h)

pub drop-past : (i : ℕ) (xs : List ℕ) → length xs ≤ i → drop i xs ≡ []
drop-past zero [] h = refl
drop-past (suc i) [] h = refl
drop-past zero (x ∷ xs) h = absurd (omega arith)
drop-past (suc i) (x ∷ xs) h = drop-past i xs (omega arith)
