-- Runs of reads and of writes, one call longer.
use Rattle.std.proofs.Common.{◌≡◌, ℕ, suc, ◌+◌, ◌≤◌, List, [], ◌++◌, drop, Option, arith, ap, unwrap_or}
use Rattle.edge_core.specs.Source.{more as more_reads, SomeReads}
use Rattle.edge_core.specs.Sink.{Writes, more as more_writes}

module _ {S : Type 0} (gives : S → ℕ → Option (List ℕ) → S → Type 0) where
  -- one more read gives one more piece
  pub SomeReads-more : (old mid new : S) (most room : ℕ) (bytes : List ℕ) (piece : Option (List ℕ)) →
      SomeReads gives old mid most (λ given. given ≡ bytes) → gives mid room piece new →
      SomeReads gives old new (suc most) (λ given. given ≡ bytes ++ unwrap_or piece [])
  SomeReads-more old mid new most room bytes piece run step =
      let few : suc run.0 ≤ suc most = omega (arith, run.2) in
      (suc run.0, run.1 ++ unwrap_or piece [], few, more_reads old mid new run.0 room run.1 piece run.3 step, ap (λ given. given ++ unwrap_or piece []) run.4)

  -- a run within one bound is within a greater one
  pub SomeReads-weaken : (old new : S) (few most : ℕ) (P Q : List ℕ → Type 0) → few ≤ most →
      ((given : List ℕ) → P given → Q given) →
      SomeReads gives old new few P → SomeReads gives old new most Q
  SomeReads-weaken old new few most P Q le weaker run =
      let less : run.0 ≤ most = omega (arith, le, run.2) in
      (run.0, run.1, less, run.3, weaker run.1 run.4)

-- one more write, which was handed all bytes not yet taken
pub Writes-more : {S : Type 0} (gives : S → List ℕ → Option ℕ → S → Type 0) (old mid new : S) (sent : ℕ) (count : Option ℕ) (bytes piece : List ℕ) →
    piece ≡ drop sent bytes → Writes gives bytes old sent mid → gives mid piece count new →
    Writes gives bytes old (sent + unwrap_or count 0) new
Writes-more gives old mid new sent count bytes piece rest before step =
    more_writes old mid new sent count before (rw rest at step)
