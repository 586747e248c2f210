-- A text in which nothing has an escape is shown as it is.
use Rattle.std.proofs.Common.{◌≡◌, ◌<◌, ℕ, List, [], ◌∷◌, ◌==◌, Bool, true, false, flat_map, chars, encode_utf8, refl, ap, arith, sym, ◌∙◌}
use Rattle.std.proofs.Math.Utf8.{encodes}
use Rattle.std.proofs.lemmas.Bool.{both_ways, eqb-true, or_parts}
use Rattle.std.proofs.lemmas.List.Folds.{list_any-append}
use Rattle.std.proofs.lemmas.Str.{encode_ascii, encodes-chars}
use Rattle.std.specs.List.{list_any}
use Rattle.std.specs.Str.{IsUtf8}
use Rattle.tok_types.specs.Ascii.{backslash, carriage_return, line_feed}
use Rattle.error_fault.specs.FaultText.{escaped_char, has_escape, escaped}

abbrev is_plain : List ℕ → Type 0
is_plain bytes = list_any has_escape bytes ≡ false

-- a character that has an escape is one byte, which has it too
plain-differs : (c escape : ℕ) → is_plain (encode_utf8 c) → escape < 128 → has_escape escape ≡ true → (c == escape) ≡ false
plain-differs c escape plain ascii escapes = by (c == escape) refl
  where
    escaped-byte : list_any has_escape (encode_utf8 escape) ≡ true
    escaped-byte = rw (encode_ascii escape ascii, escapes) refl

    by : (same : Bool) → (c == escape) ≡ same → (c == escape) ≡ false
    by false is = is
    by true is = absurd (both_ways _ plain (ap (λ c. list_any has_escape (encode_utf8 c)) (eqb-true c escape is) ∙ escaped-byte))

escaped_char-plain : (c : ℕ) → is_plain (encode_utf8 c) → escaped_char c ≡ encode_utf8 c
escaped_char-plain c plain =
    let differs = plain-differs c in
    rw (differs backslash plain (omega arith) refl, differs line_feed plain (omega arith) refl, differs carriage_return plain (omega arith) refl, differs 9 plain (omega arith) refl, differs 0 plain (omega arith) refl) refl

escaped_chars-plain : (cs : List ℕ) → is_plain (encodes cs) → flat_map escaped_char cs ≡ encodes cs
escaped_chars-plain [] plain = refl
escaped_chars-plain (c ∷ cs) plain =
    let each = or_parts (list_any has_escape (encode_utf8 c)) (list_any has_escape (encodes cs)) (sym (list_any-append has_escape (encode_utf8 c) (encodes cs)) ∙ plain) in
    rw (escaped_char-plain c each.0, escaped_chars-plain cs each.1) refl

pub escaped-plain : (text : List ℕ) → IsUtf8 text → list_any has_escape text ≡ false → escaped text ≡ text
escaped-plain text utf8 plain =
    let same : encodes (chars text) ≡ text = encodes-chars text utf8 in
    escaped_chars-plain (chars text) (ap (list_any has_escape) same ∙ plain) ∙ same
