-- What a look at a program answers: what it refuses, or that there is nothing.
use Rattle.std.specs.Prelude.{◌≡◌, Option, Some, None, Result, Ok, Err}
use Rattle.machine_forms.specs.declared.unfit.Unfit.{Unfit}
use Rattle.machine_forms.specs.declared.unfit.Unfit.TheVariants as unfit

-- what is refused is this; want of memory may come at any time
abbrev pub SaysErr : Unfit → Option Unfit → Type 0
SaysErr unfit.NoMemory refused = Unit {0}
SaysErr answer refused = refused ≡ Some answer

-- the answer is what is refused, or that nothing is
abbrev pub Says : Result (Unit {0}) Unfit → Option Unfit → Type 0
Says (Ok done) refused = refused ≡ None
Says (Err answer) refused = SaysErr answer refused
