-- What an override ends as, where a `&mut` to its value is returned.
use mathlib.Core.Option as maybe
use Rattle.std.specs.Borrow.{follows_if, Fml, GName, RattleType, MutBor}
use Rattle.util_core.specs.contracts.over_ride.Override.{the_row}
use Rattle.util_core.specs.declared.over_ride.Override.{Override}
use Rattle.util_core.specs.declared.over_ride.Override.TheVariants.{Inherit, Explicit}

-- the name of the reference to the value, where one is given
abbrev pub place_name : {A : Type 0} → Override (MutBor A) → maybe.Option GName
place_name Inherit = maybe.none
place_name (Explicit r) = maybe.some r.ghost_name

-- the override ends with the value last written through the reference, or as it was
abbrev pub lends_explicit : (T : RattleType) → MutBor (Override T.Denot) → Override (MutBor T.Denot) → Fml
lends_explicit T it r = follows_if (the_row T) T it.ghost_name (place_name r) Explicit it.now
