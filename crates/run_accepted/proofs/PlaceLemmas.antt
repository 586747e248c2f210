-- Places of a text.
use Rattle.std.proofs.Common.{◌≡◌, ◌∙◌, ℕ, ◌+◌, Bool, true, false, cond, List, [], ◌∷◌, ◌++◌, map, take, Option, Some, None, refl, ap}
use Rattle.std.specs.Prelude.{nat_le}
use Rattle.std.proofs.lemmas.List.{take-map}
use Rattle.tok_types.specs.declared.span.Span.{Span}
use Rattle.machine_forms.specs.Places.{earliest_of, places_from, sooner, start_of}
use Rattle.machine_forms.proofs.Steps.{places_from-same}

module _ {A : Type 0} where
  chosen : (test : Bool) (one other : A) → cond test (Some one) (Some other) ≡ None → ⊥
  chosen true one other is = cc
  chosen false one other is = cc

  module _ (span_of : A → Span) where
    one_is : (one : A) (other : Option A) → sooner span_of (Some one) other ≡ None → ⊥
    one_is one None is = cc
    one_is one (Some other) is = chosen (nat_le (start_of (span_of one)) (start_of (span_of other))) one other is

    -- where none starts first, there is none
    pub none_first : (things : List A) → earliest_of span_of things ≡ None → things ≡ []
    none_first [] none = refl
    none_first (thing ∷ things) none = absurd (one_is thing (earliest_of span_of things) none)

module _ {A B C : Type 0} (make : A → B) where
  places_from-map : (places_of : ℕ → B → List C) (at : ℕ) (things : List A)
      → places_from places_of at (map make things) ≡ places_from (λ number thing. places_of number (make thing)) at things
  places_from-map places_of at [] = refl
  places_from-map places_of at (thing ∷ things) = ap (λ rest. places_of at (make thing) ++ rest) (places_from-map places_of (at + 1) things)

module _ {A B : Type 0} (change : A → A) (places_of : List A → A → List B) where
  -- the places of things that are changed, where a change of a thing and of those before it changes none of its places
  pub places_from-changed : ((before : List A) (thing : A) → places_of (map change before) (change thing) ≡ places_of before thing) → (things : List A)
      → places_from (λ number thing. places_of (take number (map change things)) thing) 0 (map change things)
      ≡ places_from (λ number thing. places_of (take number things) thing) 0 things
  places_from-changed same things =
      places_from-map change (λ number thing. places_of (take number (map change things)) thing) 0 things
      ∙ places_from-same (λ number thing. places_of (take number (map change things)) (change thing)) (λ number thing. places_of (take number things) thing)
      0 things
      (λ number thing lt. ap (λ before. places_of before (change thing)) (take-map change number things) ∙ same (take number things) thing)
