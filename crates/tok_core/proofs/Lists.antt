-- Lists that are changed from the front, one element at a time.
use Rattle.std.proofs.Common.{◌≡◌, ℕ, zero, suc, List, [], ◌∷◌, ◌++◌, take, drop, map, slice_get, slice_set, Some, ap}

pub slice_set-map_take : {X : Type 0} (f : X → X) (xs : List X) (i : ℕ) (hole x : X) → slice_get (map f (take i xs) ++ drop i xs) i ≡ Some x
    → slice_set (slice_set (map f (take i xs) ++ drop i xs) i hole) i (f x) ≡ map f (take (suc i) xs) ++ drop (suc i) xs
slice_set-map_take f [] zero hole x e = cc
slice_set-map_take f [] (suc i) hole x e = cc
slice_set-map_take f (y ∷ xs) zero hole x e = cc
slice_set-map_take f (y ∷ xs) (suc i) hole x e = ap (λ ys. f y ∷ ys) (slice_set-map_take f xs i hole x e)
