-- The value of a literal.
use Rattle.std.specs.Prelude.{◌≡◌}
use Rattle.std.specs.Str.{encode_utf8_all}
use Rattle.tok_scan.specs.Characters.{Characters}
use Rattle.tok_lit.specs.Numbers.{IsFloat, IsInt}
use Rattle.tok_lit.specs.Quoted.{IsByte, IsByteStr, IsChar, IsStr}
use Rattle.tok_lit.specs.declared.value.Value.{Value}
use Rattle.tok_lit.specs.declared.value.Value.TheVariants as value

-- the text is a literal of this kind and value
abbrev pub IsValue : Characters → Value → Type 0
IsValue text (value.Str v) = (characters : Characters) × IsStr text characters × (v ≡ encode_utf8_all characters)
IsValue text (value.ByteStr v) = IsByteStr text v
IsValue text (value.Byte v) = IsByte text v
IsValue text (value.Char v) = IsChar text v
IsValue text (value.Int v) = IsInt text v
IsValue text value.Float = IsFloat text
