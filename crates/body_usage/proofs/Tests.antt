-- Tests of names, and whether a list has one that passes.
use Rattle.std.proofs.Common.{◌≡◌, ℕ, ◌+◌, ◌<◌, ◌∷◌, ◌++◌, ◌&&◌, ◌||◌, Bool, true, false, Bor, Contains, List, [], Some, ap, ap₂, cond, find, flat_map, get_or, is_some, length, map, refl, subst, sym, take, true≢false, unwrap_or, ⊎_elim, ◌∙◌, arith}
use Rattle.std.proofs.lemmas.Bool.{or_cases, or_left, or_right}
use Rattle.std.proofs.lemmas.Grind.{common_steps}
use Rattle.std.specs.List.{list_any}
use Rattle.std.proofs.lemmas.List.Elements.{Contains-append_left, Contains-append_right, Contains-push}
use Rattle.std.proofs.lemmas.List.Folds.{list_any_more}
use Rattle.body_usage.specs.Selected.{shown}

pub list_any-map : {A B : Type 0} (test : B → Bool) (f : A → B) (xs : List A) → list_any test (map f xs) ≡ list_any (λ x. test (f x)) xs
list_any-map test f [] = refl
list_any-map test f (x ∷ xs) = ap (λ b. test (f x) || b) (list_any-map test f xs)

pub list_any-within : {A : Type 0} (test other : A → Bool) → ((x : A) → test x ≡ true → other x ≡ true) → (xs : List A) → list_any test xs ≡ true → list_any other xs ≡ true
list_any-within test other within [] e = e
list_any-within test other within (x ∷ xs) e =
    ⊎_elim
    (λ here. or_left (other x) (list_any other xs) (within x here))
    (λ there. or_right (other x) (list_any other xs) (list_any-within test other within xs there))
    (or_cases (test x) (list_any test xs) e)

pub shown-more : {A : Type 0} (names : List (Bor (Bor A))) (name : Bor (Bor A)) → shown (map (λ it. it.now) (names ++ name ∷ [])) ≡ shown (map (λ it. it.now) names) ++ name.now.now ∷ []
shown-more [] name = refl
shown-more (first ∷ names) name = ap (λ rest. first.now.now ∷ rest) (shown-more names name)

-- one item more was met
pub any-more : {A B : Type 0} (test : B → Bool) (f : A → B) (xs : List A) (i : ℕ) (x : A) → i < length xs → x ≡ get_or xs i x → list_any test (map f (take (i + 1) xs)) ≡ (list_any test (map f (take i xs)) || test (f x))
any-more test f xs i x within is =
    list_any-map test f (take (i + 1) xs)
    ∙ list_any_more (λ y. test (f y)) xs i x within
    ∙ ap₂ (λ a b. a || b) (sym (list_any-map test f (take i xs))) (ap (λ y. test (f y)) (sym is))

pub flat_map-more : {A B : Type 0} (f : A → List B) (xs : List A) (i : ℕ) (x : A) → i < length xs → x ≡ get_or xs i x → flat_map f (take (i + 1) xs) ≡ flat_map f (take i xs) ++ f x
flat_map-more f xs i x within is = grind (arith, common_steps)

found-here : {A : Type 0} (test : A → Bool) (y : A) (ys : List A) (x : A) (b : Bool) → (find test ys ≡ Some x → Contains ys x) → cond b (Some y) (find test ys) ≡ Some x → Contains (y ∷ ys) x
found-here test y ys x true later e = subst (λ z. Contains (z ∷ ys) x) (sym (ap (λ o. unwrap_or o y) e)) (Contains-append_left (x ∷ []) ys x (Contains-push [] x))
found-here test y ys x false later e = Contains-append_right (y ∷ []) ys x (later e)

-- what a look-up finds is there
pub find-Contains : {A : Type 0} (test : A → Bool) (xs : List A) (x : A) → find test xs ≡ Some x → Contains xs x
find-Contains test [] x e = absurd (true≢false (sym (ap is_some e)))
find-Contains test (y ∷ ys) x e = found-here test y ys x (test y) (find-Contains test ys x) e

pub cond-or : (b o : Bool) → cond b true o ≡ (o || b)
cond-or true true = refl
cond-or true false = refl
cond-or false true = refl
cond-or false false = refl

pub or-nothing : (o x : Bool) → x ≡ false → o ≡ (o || x)
or-nothing true x e = refl
or-nothing false x e = sym e

-- two tests one after the other
pub or-both : (o has a b : Bool) → ((o || (has && a)) || (has && b)) ≡ (o || (has && (a || b)))
or-both true has a b = refl
or-both false true a b = refl
or-both false false a b = refl
