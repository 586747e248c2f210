-- What a read does to the bytes that a source has left, and what a run of reads gave.
use Rattle.std.specs.Prelude.{◌≡◌, ℕ, suc, ◌≤◌, List, [], ◌++◌, take, ⊤, Option, Some, None, Result, Ok, Err, unwrap_or}

-- the bytes left are the same, where the source told before and after
abbrev pub IsUnread : Option (List ℕ) → Option (List ℕ) → Type 0
IsUnread (Some old) (Some new) = new ≡ old
IsUnread (Some old) None = ⊤
IsUnread None new = ⊤

-- the bytes left are an end of those before, where the source told before and after
abbrev pub LeavesEnd : Option (List ℕ) → Option (List ℕ) → Type 0
LeavesEnd (Some old) (Some new) = (given : List ℕ) × (old ≡ given ++ new)
LeavesEnd (Some old) None = ⊤
LeavesEnd None new = ⊤

-- the bytes that a read put into the buffer, or nothing where it failed
abbrev pub given_bytes : {E : Type 0} → Result ℕ E → List ℕ → Option (List ℕ)
given_bytes (Ok count) buf = Some (take count buf)
given_bytes (Err _) buf = None

-- this many reads lead from one state to another, and give these bytes in all
pub data Reads {S : Type 0} (gives : S → ℕ → Option (List ℕ) → S → Type 0) : S → ℕ → List ℕ → S → Type 0 where
  none : (s : S) → Reads gives s 0 [] s
  more : (s t u : S) (reads room : ℕ) (before : List ℕ) (piece : Option (List ℕ)) →
      Reads gives s reads before t → gives t room piece u →
      Reads gives s (suc reads) (before ++ unwrap_or piece []) u

-- at most this many reads lead from one state to another, and what they give in all meets a fact
abbrev pub SomeReads : {S : Type 0} → (S → ℕ → Option (List ℕ) → S → Type 0) → S → S → ℕ → (List ℕ → Type 0) → Type 0
SomeReads gives old new most P = (reads : ℕ) × (given : List ℕ) × (reads ≤ most) × Reads gives old reads given new × P given
