-- Steps of walks over things that have numbers, which add the places of each.
use Rattle.std.proofs.Common.{◌≡◌, ◌∙◌, ℕ, ◌+◌, ◌<◌, List, [], ◌∷◌, ◌++◌, length, get_or, drop, refl, ap, sym, append_assoc, arith}
use Rattle.std.proofs.lemmas.List.{drop_more}
use Rattle.machine_forms.specs.Places.{places_from}

module _ {A B : Type 0} where
  -- one thing more
  pub places-more : (places_of : ℕ → A → List B) (things : List A) (at : ℕ) (thing : A) → at < length things → thing ≡ get_or things at thing → (whole before after : List B)
      → whole ≡ before ++ places_from places_of at (drop at things) → after ≡ before ++ places_of at thing → whole ≡ after ++ places_from places_of (at + 1) (drop (at + 1) things)
  places-more places_of things at thing lt is whole before after held pushed =
      let rest = places_from places_of (at + 1) (drop (at + 1) things) in
      held
      ∙ ap (λ left. before ++ places_from places_of at left) (drop_more things at thing lt)
      ∙ ap (λ it. before ++ (places_of at it ++ rest)) (sym is)
      ∙ sym (append_assoc before (places_of at thing) rest)
      ∙ ap (λ it. it ++ rest) (sym pushed)

  -- the places of two functions that agree on the numbers
  pub places_from-same : (one other : ℕ → A → List B) (at : ℕ) (things : List A) → ((number : ℕ) (thing : A) → number < at + length things → one number thing ≡ other number thing)
      → places_from one at things ≡ places_from other at things
  places_from-same one other at [] same = refl
  places_from-same one other at (thing ∷ things) same =
      ap (λ here. here ++ places_from one (at + 1) things) (same at thing (omega arith))
      ∙ ap (λ rest. other at thing ++ rest) (places_from-same one other (at + 1) things (λ number it lt. same number it (omega (arith, lt))))
