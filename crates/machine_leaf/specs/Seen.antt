-- What a value shows, and what contracts see of it.
use Rattle.std.specs.Prelude.{◌≡◌}
use Rattle.machine_value.specs.declared.value.Value.{Value as Datum}

-- what a value shows is what is seen of it, shown
abbrev pub ShowsSeen : {X A : Type 0} → (X → Datum) → (X → A) → (A → Datum) → Type 0
ShowsSeen shows seen show = (it : _) → shows it ≡ show (seen it)
