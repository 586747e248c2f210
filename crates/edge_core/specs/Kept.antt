-- Bytes that are kept in memory that was taken beforehand.
use Rattle.std.specs.Prelude.{ℕ, List}

-- the bytes kept, and how many are kept at most
pub record KeptBytes : Type 0 where
  pub bytes : List ℕ
  pub room : ℕ
