-- What is read one by one, as far as a loop has come.
use Rattle.std.proofs.Common.{◌≡◌, ◌∙◌, ℕ, ◌+◌, ◌<◌, List, [], ◌∷◌, ◌++◌, length, get_or, drop, refl, sym, ap, append_assoc}
use Rattle.std.proofs.lemmas.List.{drop_more}
use Rattle.error_fault.specs.Outcome.{Outcome, Value, Faults, bind, on_value}
use Rattle.error_core.specs.Each.{behind, each}

module _ {X A : Type 0} (read : X → Outcome A) where
  behind-one : (front : List A) (it : A) (rest : Outcome (List A)) → behind front (on_value (λ more. it ∷ more) rest) ≡ behind (front ++ it ∷ []) rest
  behind-one front it (Value more) = ap Value (sym (append_assoc front (it ∷ []) more))
  behind-one front it (Faults fault others) = refl

  -- one turn of a loop that puts what a thing is read as behind what was read before
  pub each_next : (xs : List X) (i : ℕ) (x : X) (front new : List A) (it : A) → i < length xs → x ≡ get_or xs i x → read x ≡ Value it
      → new ≡ front ++ it ∷ [] → each read xs ≡ behind front (each read (drop i xs)) → each read xs ≡ behind new (each read (drop (i + 1) xs))
  each_next xs i x front new it lt is made pushed kept =
      let rest = drop (i + 1) xs in
      kept
      ∙ ap (λ tail. behind front (each read tail)) (drop_more xs i x lt ∙ ap (λ first. first ∷ rest) (sym is))
      ∙ ap (λ first. behind front (bind first (λ one. on_value (λ more. one ∷ more) (each read rest)))) made
      ∙ behind-one front it (each read rest)
      ∙ ap (λ all. behind all (each read rest)) (sym pushed)
