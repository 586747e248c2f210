-- What a write does to the bytes that a sink has taken, and how a run of writes went.
use Rattle.std.specs.Prelude.{◌≡◌, ℕ, ◌+◌, List, ◌++◌, drop, Bool, IsTrue, IsFalse, ⊤, Option, Some, None, unwrap_or}

-- The bytes taken grow by these, where the sink tells before and after. A sink that may fall silent
-- never begins to tell, and another never ceases to.
abbrev pub Takes : Bool → Option (List ℕ) → Option (List ℕ) → List ℕ → Type 0
Takes may_fall_silent (Some old) (Some new) bytes = new ≡ old ++ bytes
Takes may_fall_silent (Some old) None bytes = IsTrue may_fall_silent
Takes may_fall_silent None (Some new) bytes = IsFalse may_fall_silent
Takes may_fall_silent None None bytes = ⊤

-- Writes that each were handed all bytes not yet taken lead from one state to another, and take
-- this many of the bytes.
pub data Writes {S : Type 0} (gives : S → List ℕ → Option ℕ → S → Type 0) (bytes : List ℕ) : S → ℕ → S → Type 0 where
  none : (s : S) → Writes gives bytes s 0 s
  more : (s t u : S) (sent : ℕ) (count : Option ℕ) →
      Writes gives bytes s sent t → gives t (drop sent bytes) count u →
      Writes gives bytes s (sent + unwrap_or count 0) u
