-- What a function answers that is called at each member of a list.
use Rattle.std.specs.Prelude.{◌≡◌, List, [], ◌∷◌}

-- calls at the members, one each and in order, give these answers, and leave the function as `last`
abbrev pub AnswersEach : {F A B : Type 0} → (F → A → B → F → Type 0) → F → List A → List B → F → Type 0
AnswersEach Call f [] [] last = f ≡ last
AnswersEach {F} Call f (x ∷ xs) (y ∷ ys) last = (next : F) × Call f x y next × AnswersEach Call next xs ys last
AnswersEach Call f _ _ last = ⊥
