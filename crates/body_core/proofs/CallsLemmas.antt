-- Calls of a function, one a member.
use Rattle.std.proofs.Common.{◌≡◌, List, [], ◌∷◌, ◌++◌, length, refl, subst, append_assoc, append-nil}
use Rattle.body_core.specs.Calls.{AnswersEach}

module _ {F A B : Type 0} (Call : F → A → B → F → Type 0) where
  -- a call at the first member, and calls at the others
  pub answers-first : (f next last : F) (left rest : List A) (x : A) (y : B) (more : List B)
      → left ≡ x ∷ rest → Call f x y next → AnswersEach Call next rest more last → AnswersEach Call f left (y ∷ more) last
  answers-first f next last left rest x y more is call calls = rw is (next, call, calls)

  -- an answer behind those that are there
  pub answers-behind : (f last : F) (xs : List A) (front : List B) (y : B) (more : List B)
      → AnswersEach Call f xs (front ++ y ∷ more) last → AnswersEach Call f xs ((front ++ y ∷ []) ++ more) last
  answers-behind f last xs front y more calls = rw (append_assoc front (y ∷ []) more) calls

  -- no member is left
  pub answers-none : (f last : F) (xs left : List A) (front : List B) → length left ≡ 0
      → ((more : List B) (end : F) → AnswersEach Call last left more end → AnswersEach Call f xs (front ++ more) end)
      → AnswersEach Call f xs front last
  answers-none f last xs [] front is calls = subst (λ ys. AnswersEach Call f xs ys last) (append-nil front) (calls [] last refl)
  answers-none f last xs (x ∷ left) front is calls = let never : ⊥ = cc (is) in absurd never
