-- What stood in a list stays in front of what is written behind it.
use Rattle.std.specs.Prelude.{◌≡◌, length, take}
use Rattle.print_core.specs.Marks.{Trees}

-- `trees` has `front` in front
abbrev pub BeginsWith : Trees → Trees → Type 0
BeginsWith trees front = take (length front) trees ≡ front

-- `old` stands in front of `new`: what the one begins with, the other begins with
abbrev pub IsFront : Trees → Trees → Type 0
IsFront old new = (front : Trees) → BeginsWith old front → BeginsWith new front
