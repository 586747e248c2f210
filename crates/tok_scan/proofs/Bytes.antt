-- The bytes of characters.
use Rattle.std.proofs.Common.{◌≡◌, ℕ, ◌+◌, ◌*◌, ◌<◌, ◌≤◌, List, [], ◌∷◌, ◌++◌, length, take, drop, get_or, sym, ap, ◌∙◌, arith, length-append}
use Rattle.std.proofs.lemmas.List.{take-append-drop, take_more, append-nil}
use Rattle.std.proofs.lemmas.Str.{encodes-append, length-encode, len_utf8_bounds}
use Rattle.std.specs.Str.{encode_utf8_all}
use Rattle.std.specs.Char.{encode_utf8}

pub encode_utf8_all-take_more : (cs : List ℕ) (i d : ℕ) → i < length cs → encode_utf8_all (take (i + 1) cs) ≡ encode_utf8_all (take i cs) ++ encode_utf8 (get_or cs i d)
encode_utf8_all-take_more cs i d h =
    ap encode_utf8_all (take_more cs i d h)
    ∙ encodes-append (take i cs) (get_or cs i d ∷ [])
    ∙ ap (λ bytes. encode_utf8_all (take i cs) ++ bytes) (append-nil (encode_utf8 (get_or cs i d)))

pub length-encode_utf8_all-take_more : (cs : List ℕ) (i d : ℕ) → i < length cs → length (encode_utf8_all (take (i + 1) cs)) ≡ length (encode_utf8_all (take i cs)) + length (encode_utf8 (get_or cs i d))
length-encode_utf8_all-take_more cs i d h =
    ap length (encode_utf8_all-take_more cs i d h) ∙ length-append (encode_utf8_all (take i cs)) (encode_utf8 (get_or cs i d))

-- the bytes before a place and those from there on
pub length-encode_utf8_all-split : (cs : List ℕ) (i : ℕ) → length (encode_utf8_all (take i cs)) + length (encode_utf8_all (drop i cs)) ≡ length (encode_utf8_all cs)
length-encode_utf8_all-split cs i =
    sym (length-append (encode_utf8_all (take i cs)) (encode_utf8_all (drop i cs)))
    ∙ ap length (sym (encodes-append (take i cs) (drop i cs)))
    ∙ ap (λ r. length (encode_utf8_all r)) (take-append-drop i cs)

-- a character takes four bytes at most
pub length-encode_utf8_all-le : (cs : List ℕ) → length (encode_utf8_all cs) ≤ 4 * length cs
length-encode_utf8_all-le [] = omega arith
length-encode_utf8_all-le (c ∷ cs) =
    omega (arith, length-append (encode_utf8 c) (encode_utf8_all cs), length-encode c, (len_utf8_bounds c).1, length-encode_utf8_all-le cs)
