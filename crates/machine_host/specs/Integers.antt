-- The ranges of the integer types.
use Rattle.std.specs.Prelude.{ℕ, ◌<◌, ◌≤◌, ◌^◌, Bool, true, false}
use Rattle.machine_rows.specs.declared.leaf.Integer.{Integer}
use Rattle.machine_rows.specs.declared.leaf.Integer.TheVariants as integer
use Rattle.machine_rows.specs.declared.leaf.Unsigned.{Unsigned}
use Rattle.machine_rows.specs.declared.leaf.Unsigned.TheVariants as unsigned
use Rattle.machine_host.specs.Forms.{Form, IsInt}

-- how many values of the type are not below zero
abbrev pub from_zero : Integer → ℕ
from_zero integer.I8 = 2 ^ 7
from_zero integer.I16 = 2 ^ 15
from_zero integer.I32 = 2 ^ 31
from_zero integer.I64 = 2 ^ 63
from_zero integer.I128 = 2 ^ 127
from_zero integer.Isize = 2 ^ 63
from_zero integer.U8 = 2 ^ 8
from_zero integer.U16 = 2 ^ 16
from_zero integer.U32 = 2 ^ 32
from_zero integer.U64 = 2 ^ 64
from_zero integer.U128 = 2 ^ 128
from_zero integer.Usize = 2 ^ 64

-- how many values of the type are below zero
abbrev pub below_zero : Integer → ℕ
below_zero integer.I8 = 2 ^ 7
below_zero integer.I16 = 2 ^ 15
below_zero integer.I32 = 2 ^ 31
below_zero integer.I64 = 2 ^ 63
below_zero integer.I128 = 2 ^ 127
below_zero integer.Isize = 2 ^ 63
below_zero integer.U8 = 0
below_zero integer.U16 = 0
below_zero integer.U32 = 0
below_zero integer.U64 = 0
below_zero integer.U128 = 0
below_zero integer.Usize = 0

-- the sign and the distance from zero are those of a value of the type; zero has no minus
abbrev pub InRange : Integer → Bool → ℕ → Type 0
InRange it false digits = digits < from_zero it
InRange it true digits = (0 < digits) × (digits ≤ below_zero it)

-- the same without zero
abbrev pub InRangeButZero : Integer → Bool → ℕ → Type 0
InRangeButZero it negative digits = (0 < digits) × InRange it negative digits

-- the type of integers that a list holds which is read as a whole
abbrev pub integer_of : Unsigned → Integer
integer_of unsigned.U8 = integer.U8
integer_of unsigned.U16 = integer.U16
integer_of unsigned.U32 = integer.U32
integer_of unsigned.U64 = integer.U64
integer_of unsigned.Usize = integer.Usize

-- an integer of the type
abbrev pub IsInteger : Integer → Form
IsInteger it = IsInt (InRange it)

-- an integer of the type, and not zero
abbrev pub IsNonZero : Integer → Form
IsNonZero it = IsInt (InRangeButZero it)
