-- The least number that has something.
use Rattle.std.proofs.Common.{◌≡◌, ℕ, zero, suc, ◌≤◌, ◌<◌, Option, Some, None, refl, arith, sym, ap, ◌∙◌, inl, inr}
use Rattle.std.proofs.lemmas.Bool.{cases_lt}
use Rattle.meta_nested.specs.Values.{least}

-- none has anything
pub least-none : {A : Type 0} (of : ℕ → Option A) (limit : ℕ) → ((m : ℕ) → m ≤ limit → of m ≡ None) → least of limit ≡ None
least-none of zero none = rw (none 0 (omega arith)) refl
least-none of (suc limit) none =
    let before = least-none of limit (λ m h. none m (omega arith)) in
    rw (before, none (suc limit) (omega arith)) refl

-- this one has something, and none below it
pub least-some : {A : Type 0} (of : ℕ → Option A) (limit n : ℕ) (found : A) → n ≤ limit → of n ≡ Some found → ((m : ℕ) → m < n → of m ≡ None) → least of limit ≡ Some (found, n)
least-some of zero zero found within is none = rw is refl
least-some of zero (suc n) found within is none = absurd (omega arith)
least-some {A} of (suc limit) n found within is none =
    elim (cases_lt limit n) [ inl above ↦ last (omega arith) | inr below ↦ rw (least-some of limit n found below is none) refl ]
  where
    last : n ≡ suc limit → least of (suc limit) ≡ Some (found, n)
    last same =
        let before = least-none of limit (λ m h. none m (omega arith)) in
        let here : of (suc limit) ≡ Some found = ap of (sym same) ∙ is in
        rw (before, here, same) refl
