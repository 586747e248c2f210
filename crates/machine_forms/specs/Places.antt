-- Places of a text, and which of them starts first.
use Rattle.std.specs.Prelude.{◌+◌, ℕ, Bool, cond, nat_le, if◌then◌else◌, List, [], ◌∷◌, ◌++◌, Option, Some, None}
use Rattle.tok_types.specs.declared.span.Span.{Span}
use Rattle.tok_types.specs.declared.span.Span.TheVariants.{At, CallSite}

-- the byte where a span starts; what is of no text starts before all others
abbrev pub start_of : Span → ℕ
start_of CallSite = 0
start_of (At source start end) = start

-- of two things the one that starts first; the one, where both start at one byte
abbrev pub sooner : {A : Type 0} → (A → Span) → Option A → Option A → Option A
sooner span_of None other = other
sooner span_of (Some one) None = Some one
sooner span_of (Some one) (Some other) = if nat_le (start_of (span_of one)) (start_of (span_of other)) then Some one else Some other

-- the thing that starts first; of several that start at one byte, the one that is listed first
abbrev pub earliest_of : {A : Type 0} → (A → Span) → List A → Option A
earliest_of span_of [] = None
earliest_of span_of (thing ∷ things) = sooner span_of (Some thing) (earliest_of span_of things)

abbrev pub earliest : List Span → Option Span
earliest spans = earliest_of (λ span. span) spans

-- ---- lists of places

-- a place that is refused where a test holds
abbrev pub refused_if : {A : Type 0} → Bool → A → List A
refused_if test place = cond test (place ∷ []) []

abbrev pub refused_unless : {A : Type 0} → Bool → A → List A
refused_unless test place = cond test [] (place ∷ [])

-- the places of things that have numbers, which begin at this one
abbrev pub places_from : {A B : Type 0} → (ℕ → A → List B) → ℕ → List A → List B
places_from places_of number [] = []
places_from places_of number (thing ∷ things) = places_of number thing ++ places_from places_of (number + 1) things
