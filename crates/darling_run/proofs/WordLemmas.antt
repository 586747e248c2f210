-- One word among the words of a command.
use Rattle.std.proofs.Common.{◌≡◌, ◌≤◌, ◌<◌, ◌↔◌, List, [], ◌∷◌, length, map, get_or, sym, ap, ◌∙◌, arith}

-- a list of one item is that item
pub list_of_one : {A : Type 0} (xs : List A) (x : A) → 1 ≤ length xs → length xs < 2 → x ≡ get_or xs 0 x → xs ≡ x ∷ []
list_of_one [] x some few e = absurd (omega (arith, some))
list_of_one (y ∷ []) x some few e = ap (λ z. z ∷ []) (sym e)
list_of_one (y ∷ z ∷ xs) x some few e = absurd (omega (arith, few))

pub map-one : {A B : Type 0} (f : A → B) (xs : List A) (x : A) (y : B) (P : Type 0) → xs ≡ x ∷ []
    → P ↔ (f x ≡ y) → P ↔ (map f xs ≡ y ∷ [])
map-one f xs x y P e h =
    (λ p. ap (map f) e ∙ ap (λ z. z ∷ []) (h.0 p), λ q. let w : f x ∷ [] ≡ y ∷ [] = sym (ap (map f) e) ∙ q in h.1 cc)
