-- Where the bytes of a text stand.
use Rattle.std.specs.Prelude.{ℕ, List, string_bytes}
use Rattle.base_core.specs.declared.text.Place.{Place}
use Rattle.base_core.specs.declared.text.Place.TheVariants.{Short, Long}

-- the bytes that a place holds
abbrev pub place_bytes : Place → List ℕ
place_bytes (Short text) = text
place_bytes (Long string) = string_bytes string.value
