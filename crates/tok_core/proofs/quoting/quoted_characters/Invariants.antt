use Rattle.std.proofs.Common.{◌≡◌, ◌∷◌, take, flat_map}
use Rattle.std.specs.Str.{encode_utf8_all}
use Rattle.tok_core.specs.Quoted.{escaped}
use Rattle.tok_core.proofs.quoting.quoted_characters.Given as goal

abbrev pub invariant-loop-c : goal.invariant-loop-c
invariant-loop-c l = l.text ≡ encode_utf8_all (34 ∷ flat_map escaped (take l.c-index l.characters))
