-- Texts that grow at their end, and the text of the alternatives.
use Rattle.std.proofs.Common.{◌≡◌, ◌<◌, ℕ, List, ◌++◌, length, codes, refl, ap, ◌∙◌, Result, Ok, Err, OnOk, append_assoc}
use Rattle.std.proofs.lemmas.Bool.{lt-ltb}
use Rattle.std.specs.List.{join_by}
use Rattle.error_fault.specs.FaultText.{quoted, alternatives_text}

-- two pieces that were appended in turn are one
pub OnOk-append : {T E : Type 0} (r : Result T E) (old mid new xs ys : List ℕ) → mid ≡ old ++ xs
    → OnOk r (new ≡ mid ++ ys) → OnOk r (new ≡ old ++ (xs ++ ys))
OnOk-append (Ok x) old mid new xs ys first next = next ∙ ap (λ zs. zs ++ ys) first ∙ append_assoc old xs ys
OnOk-append (Err e) old mid new xs ys first next = tt

-- one to nine alternatives are named
pub alternatives_text-few : (names : List (List ℕ)) → 0 < length names → length names < 10
    → alternatives_text names ≡ codes ". Available values: " ++ join_by quoted (codes ", ") names
alternatives_text-few names some few = rw (lt-ltb 0 (length names) some, lt-ltb (length names) 10 few) refl
