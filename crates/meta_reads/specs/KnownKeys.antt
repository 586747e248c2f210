-- What the reader of a map knows of the keys so far.
use Rattle.std.specs.Prelude.{◌≡◌, Bool, List}
use Rattle.std.specs.declared.cmp.Ordering.{Ordering}
use Rattle.meta_reads.specs.Maps.{is_among}

-- the keys are ordered as what is seen of them
abbrev pub IsOrder : {K S : Type 0} → (K → K → Ordering) → (K → S) → (S → S → Ordering) → Type 0
IsOrder cmp see order = (a b : _) → cmp a b ≡ order (see a) (see b)

-- the keys that a set has are the keys before
abbrev pub Knows : {K S : Type 0} → (S → S → Bool) → (K → S) → (K → Bool) → List S → Type 0
Knows same see has before = (key : _) → has key ≡ is_among same before (see key)
