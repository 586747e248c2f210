-- Sources and sinks over memory, which give and take pieces and fail at chosen calls.
use Rattle.std.specs.Prelude.{◌≡◌, ℕ, ◌-◌, min, Bool, ◌||◌, ◌==◌, nat_le, if◌then◌else◌, List, [], ◌++◌, take, drop, length, Option, is_some, is_none, IfSome, unwrap_or}
use Rattle.std.specs.List.{list_any}
use Rattle.edge_core.specs.Faults.{next_count}

-- what clauses see of a `MemorySource`: the bytes left, the most for a call, the numbers of the
-- calls that fail, and how many calls came and failed
pub record MemoryInput : Type 0 where
  pub left : List ℕ
  pub piece : ℕ
  pub fails : List ℕ
  pub calls : ℕ
  pub faults : ℕ

-- what clauses see of a `MemorySink`: the bytes taken, the most for a call and in all, the numbers
-- of the calls that fail, and how many calls came and failed
pub record MemoryOutput : Type 0 where
  pub bytes : List ℕ
  pub piece : ℕ
  pub room : ℕ
  pub fails : List ℕ
  pub calls : ℕ
  pub faults : ℕ

-- the call of this number fails
abbrev pub is_failing : List ℕ → ℕ → Bool
is_failing fails number = list_any (λ fail. fail == number) fails

-- the count of faults after a call that did or did not succeed
abbrev pub faults_after : Bool → ℕ → ℕ
faults_after succeeded faults = if succeeded then faults else next_count faults

-- a read with this room gave these bytes, or failed
pub record ReadsMemory (old : MemoryInput) (room : ℕ) (given : Option (List ℕ)) (new : MemoryInput) : Type 0 where
  pub number : new.calls ≡ next_count old.calls
  pub fails : is_none given ≡ is_failing old.fails new.calls
  pub bytes : IfSome given (λ bytes. bytes ≡ take (min room old.piece) old.left)
  pub left : new.left ≡ drop (length (unwrap_or given [])) old.left
  pub faults : new.faults ≡ faults_after (is_some given) old.faults
  pub same : new ≡ record old { left = new.left; calls = new.calls; faults = new.faults }

-- a write that was handed these bytes took this many of them, or failed
pub record WritesMemory (old : MemoryOutput) (bytes : List ℕ) (count : Option ℕ) (new : MemoryOutput) : Type 0 where
  pub number : new.calls ≡ next_count old.calls
  pub fails : is_none count ≡ (nat_le old.room (length old.bytes) || is_failing old.fails new.calls)
  pub most : IfSome count (λ n. n ≡ min (min (length bytes) old.piece) (old.room - length old.bytes))
  pub taken : new.bytes ≡ old.bytes ++ take (unwrap_or count 0) bytes
  pub faults : new.faults ≡ faults_after (is_some count) old.faults
  pub same : new ≡ record old { bytes = new.bytes; calls = new.calls; faults = new.faults }
