-- The bytes of a text between quotes.
use Rattle.std.proofs.Common.{◌≡◌, ℕ, ◌+◌, ◌<◌, [], ◌∷◌, ◌++◌, length, take, get_or, flat_map, ap, ◌∙◌}
use Rattle.std.proofs.lemmas.Grind.{flat_map-append}
use Rattle.std.proofs.lemmas.List.{take_more, append-nil}
use Rattle.std.proofs.lemmas.Str.{encodes-append}
use Rattle.std.specs.Str.{encode_utf8_all}
use Rattle.tok_scan.specs.Characters.{Characters}
use Rattle.tok_core.specs.Quoted.{escaped, quoted}

-- a character more
pub escaped-take_more : (cs : Characters) (i d : ℕ) → i < length cs
    → encode_utf8_all (34 ∷ flat_map escaped (take (i + 1) cs)) ≡ encode_utf8_all (34 ∷ flat_map escaped (take i cs)) ++ encode_utf8_all (escaped (get_or cs i d))
escaped-take_more cs i d h =
    ap (λ t. encode_utf8_all (34 ∷ flat_map escaped t)) (take_more cs i d h)
    ∙ ap (λ t. encode_utf8_all (34 ∷ t))
    (flat_map-append escaped (take i cs) (get_or cs i d ∷ []) ∙ ap (λ t. flat_map escaped (take i cs) ++ t) (append-nil (escaped (get_or cs i d))))
    ∙ encodes-append (34 ∷ flat_map escaped (take i cs)) (escaped (get_or cs i d))

-- the last quote
pub encodes-quoted : (cs : Characters) → encode_utf8_all (quoted cs) ≡ encode_utf8_all (34 ∷ flat_map escaped cs) ++ encode_utf8_all (34 ∷ [])
encodes-quoted cs = encodes-append (34 ∷ flat_map escaped cs) (34 ∷ [])
