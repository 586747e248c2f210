-- The deepest of a list that grows at its end.
use Rattle.std.proofs.Common.{◌≡◌, ℕ, max, List, [], ◌∷◌, ◌++◌, map, arith}
use Rattle.syn_grammar.specs.Depth.{deepest}

pub deepest-append : (xs ys : List ℕ) → deepest (xs ++ ys) ≡ max (deepest xs) (deepest ys)
deepest-append [] ys = omega arith
deepest-append (x ∷ xs) ys = omega (arith, deepest-append xs ys)

pub deepest-map-push : {A : Type 0} (f : A → ℕ) (xs : List A) (x : A) → deepest (map f (xs ++ x ∷ [])) ≡ max (deepest (map f xs)) (f x)
deepest-map-push f [] x = omega arith
deepest-map-push f (y ∷ ys) x = omega (arith, deepest-map-push f ys x)

pub deepest-map-append : {A : Type 0} (f : A → ℕ) (xs ys : List A) → deepest (map f (xs ++ ys)) ≡ max (deepest (map f xs)) (deepest (map f ys))
deepest-map-append f [] ys = omega arith
deepest-map-append f (x ∷ xs) ys = omega (arith, deepest-map-append f xs ys)
