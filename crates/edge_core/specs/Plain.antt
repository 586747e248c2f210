-- Sources and sinks over memory that never fail.
use Rattle.std.specs.Prelude.{◌≡◌, ℕ, ◌+◌, min, nat_le, if◌then◌else◌, List, ◌++◌, take, drop, length, Option, Some, None}
use Rattle.edge_core.specs.Faults.{last_count}

-- what clauses see of a `PlainSink`: the bytes kept, how many it keeps at most, and how many were
-- written
pub record PlainOutput : Type 0 where
  pub bytes : List ℕ
  pub room : ℕ
  pub written : ℕ

-- the bytes written, where all of them were kept
abbrev pub told_bytes : PlainOutput → Option (List ℕ)
told_bytes sink = if nat_le sink.written sink.room then Some sink.bytes else None

-- a read gave the bytes that there is room for
pub record ReadsPlain (old : List ℕ) (room : ℕ) (given : Option (List ℕ)) (new : List ℕ) : Type 0 where
  pub bytes : given ≡ Some (take room old)
  pub left : new ≡ drop room old

-- a write took all bytes, and kept those that there was room for
pub record WritesPlain (old : PlainOutput) (bytes : List ℕ) (count : Option ℕ) (new : PlainOutput) : Type 0 where
  pub all : count ≡ Some (length bytes)
  pub kept : new.bytes ≡ take old.room (old.bytes ++ bytes)
  pub written : new.written ≡ min (old.written + length bytes) last_count
  pub room : new.room ≡ old.room
