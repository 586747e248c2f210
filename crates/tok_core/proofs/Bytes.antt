-- The bytes of a piece, and those behind it.
use Rattle.std.proofs.Common.{◌<◌, get_or, ◌≡◌, ℕ, ◌+◌, ◌≤◌, List, [], ◌∷◌, ◌++◌, length, take, drop, refl, sym, ap, ◌∙◌, subst, arith, append_assoc, length-append}
use Rattle.std.proofs.Math.Seq.{take-append_seam, drop-append_seam}
use Rattle.std.proofs.lemmas.List.{get_or_past, take_all}
use Rattle.std.proofs.lemmas.Str.{IsCharBoundary-at_seam, IsUtf8-past_char, encodes-append, length-encode, len_utf8_bounds}
use Rattle.std.specs.Char.{encode_utf8}
use Rattle.std.specs.Str.{encode_utf8_all, IsAscii, IsCharBoundary, IsUtf8}
use Rattle.tok_scan.specs.Characters.{Characters}
use Rattle.tok_scan.specs.declared.kind.Kind.{Kind}
use Rattle.tok_scan.specs.declared.kind.Kind.TheVariants as kind
use Rattle.tok_core.specs.Nests.{AreBytes}
use Rattle.tok_core.specs.Spells.{kept}

-- what follows whole characters is text
pub IsUtf8-behind : (front : Characters) (bytes rest : List ℕ) → IsUtf8 bytes → bytes ≡ encode_utf8_all front ++ rest → IsUtf8 rest
IsUtf8-behind [] bytes rest u e = subst IsUtf8 e u
IsUtf8-behind (c ∷ front) bytes rest u e =
    let more = encode_utf8_all front ++ rest in
    IsUtf8-behind front more rest (IsUtf8-past_char bytes more c u (e ∙ append_assoc (encode_utf8 c) (encode_utf8_all front) rest)) refl

-- the bytes of two parts
pub bytes-split : (bytes : List ℕ) (text front after : Characters) → encode_utf8_all text ≡ bytes → text ≡ front ++ after → bytes ≡ encode_utf8_all front ++ encode_utf8_all after
bytes-split bytes text front after e s = sym e ∙ ap encode_utf8_all s ∙ encodes-append front after

-- the text can be cut behind the first
pub IsCharBoundary-behind : (n : ℕ) (bytes : List ℕ) (text front after : Characters) → IsUtf8 bytes → encode_utf8_all text ≡ bytes → text ≡ front ++ after
    → n ≡ length (encode_utf8_all front) → IsCharBoundary bytes n
IsCharBoundary-behind n bytes text front after u e s l =
    let split = bytes-split bytes text front after e s in
    subst (IsCharBoundary bytes) (sym l) (IsCharBoundary-at_seam bytes (encode_utf8_all front) (encode_utf8_all after) split (IsUtf8-behind front bytes (encode_utf8_all after) u split))

-- what is cut off there
pub bytes-front : (n : ℕ) (bytes cut : List ℕ) (text front after : Characters) → encode_utf8_all text ≡ bytes → text ≡ front ++ after
    → n ≡ length (encode_utf8_all front) → cut ≡ take n bytes → cut ≡ encode_utf8_all front
bytes-front n bytes cut text front after e s l c =
    c
    ∙ ap (λ n. take n bytes) l
    ∙ ap (take (length (encode_utf8_all front))) (bytes-split bytes text front after e s)
    ∙ take-append_seam (encode_utf8_all front) (encode_utf8_all after)

-- what is left there
pub bytes-after : (n : ℕ) (bytes left : List ℕ) (text front after : Characters) → encode_utf8_all text ≡ bytes → text ≡ front ++ after
    → n ≡ length (encode_utf8_all front) → left ≡ drop n bytes → encode_utf8_all after ≡ left
bytes-after n bytes left text front after e s l c =
    sym (
    c
    ∙ ap (λ n. drop n bytes) l
    ∙ ap (drop (length (encode_utf8_all front))) (bytes-split bytes text front after e s)
    ∙ drop-append_seam (encode_utf8_all front) (encode_utf8_all after)
    )

pub IsUtf8-after : (bytes left : List ℕ) (text front after : Characters) → IsUtf8 bytes → encode_utf8_all text ≡ bytes → text ≡ front ++ after
    → encode_utf8_all after ≡ left → IsUtf8 left
IsUtf8-after bytes left text front after u e s l =
    subst IsUtf8 l (IsUtf8-behind front bytes (encode_utf8_all after) u (bytes-split bytes text front after e s))

-- the bytes of a piece are those of what is kept of it, unless it documents
pub AreBytes-kept : (k : Kind) (bytes : List ℕ) (front after some : Characters) → bytes ≡ encode_utf8_all front → some ≡ kept k front after → AreBytes k bytes some
AreBytes-kept kind.Doc bytes front after some e s = tt
AreBytes-kept k bytes front after some e s = e ∙ ap encode_utf8_all (sym s)

-- each character takes one byte
abbrev pub IsPlain : Characters → Type 0
IsPlain text = length (encode_utf8_all text) ≡ length text

length-le-encode_utf8_all : (cs : Characters) → length cs ≤ length (encode_utf8_all cs)
length-le-encode_utf8_all [] = omega arith
length-le-encode_utf8_all (c ∷ cs) =
    omega (arith, length-append (encode_utf8 c) (encode_utf8_all cs), length-encode c, (len_utf8_bounds c).0, length-le-encode_utf8_all cs)

-- so it is with the parts of a plain text
pub IsPlain-parts : (text front after : Characters) → text ≡ front ++ after → IsPlain text → IsPlain front × IsPlain after
IsPlain-parts text front after s p =
    let sum : length front + length after ≡ length (encode_utf8_all front) + length (encode_utf8_all after) = omega (
      arith,
      p,
      ap length s,
      ap (λ r. length (encode_utf8_all r)) s,
      ap length (encodes-append front after),
      length-append (encode_utf8_all front) (encode_utf8_all after),
      length-append front after,
    ) in
    let a = length-le-encode_utf8_all front in
    let b = length-le-encode_utf8_all after in
    (omega arith, omega arith)

-- a text whose bytes up to its end are ASCII, and are all that was taken
pub IsAscii-plain : (text bytes : List ℕ) (i : ℕ) → bytes ≡ text → length bytes ≤ i → ((k : ℕ) → k < i → get_or bytes k 0 < 128) → IsAscii text
IsAscii-plain text bytes i e l h =
    let all : IsAscii bytes = λ k. grind (arith, get_or_past bytes k 0, h k) in
    subst IsAscii e all

pub take-plain : (text bytes made : List ℕ) (i : ℕ) → bytes ≡ text → length bytes ≤ i → made ≡ take i bytes → made ≡ text
take-plain text bytes made i e l m = m ∙ take_all i bytes l ∙ e
