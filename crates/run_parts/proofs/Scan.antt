-- A scan of a text for its first divider, a line at a time.
use Rattle.std.proofs.Common.{◌≡◌, ℕ, suc, ◌+◌, lit<, ◌<◌, true, false, eqb, ◌⊎◌, inl, inr, Some, None, List, [], ◌∷◌, ◌++◌, length, get_or, take, drop, slice_range, refl, sym, ap, ◌∙◌, subst, arith}
use Rattle.std.specs.List.{All}
use Rattle.std.specs.Str.{IsUtf8, IsCharBoundary, NoCharPasses}
use Rattle.std.specs.Str.Pattern.{FindsChar, EndsAtFirstMatch}
use Rattle.std.proofs.lemmas.Bool.{eqb-true, false_from_ne_true}
use Rattle.std.proofs.lemmas.List.{append-nil, append_assoc, length-append, length-drop, nil_from_length}
use Rattle.std.proofs.lemmas.List.Elements.{All-nil, All-push}
use Rattle.std.proofs.lemmas.Str.{IsCharBoundary-start, IsCharBoundary-end, IsCharBoundary-after_ascii}
use Rattle.std.proofs.Math.Nat.{sub-zero}
use Rattle.std.proofs.Math.Seq.{take-suc, take-append_seam, drop-append_seam, get_or-append_seam}
use Rattle.std.proofs.lemmas.Str.Pattern.{NoCharPasses-char, drop_at_char}
use Rattle.run_parts.specs.Parts.{line_feed, EndsLine, IsDividerBefore, IsDividedAt, HasDivider, lines_of, is_divider}
use Rattle.run_parts.proofs.Lines.{LacksLineFeed, lines_of-append, lines_of-push, lines_of_last}
use Rattle.run_parts.proofs.Division.{LacksDivider, not_HasDivider, is_divider_cases, bare_divider_has_no_end}

-- the line ends with its one line feed, or it has none and ends the text
abbrev pub IsLineBefore : List ℕ → List ℕ → Type 0
IsLineBefore line rest = ((front : List ℕ) × LacksLineFeed front × (line ≡ front ++ line_feed ∷ [])) ⊎ (LacksLineFeed line × (0 < length line) × (rest ≡ []))

LacksLineFeed-from_bytes : (bs : List ℕ) → ((i : ℕ) → i < length bs → get_or bs i 0 ≡ line_feed → ⊥) → LacksLineFeed bs
LacksLineFeed-from_bytes [] h = tt
LacksLineFeed-from_bytes (b ∷ bs) h = (
  false_from_ne_true (eqb b line_feed) (λ e. h 0 (omega arith) (eqb-true b line_feed e)),
  LacksLineFeed-from_bytes bs (λ i l e. h (suc i) (omega arith) e),
)

LacksLineFeed-from_chars : (bs : List ℕ) → NoCharPasses (λ d. eqb d line_feed) bs → LacksLineFeed bs
LacksLineFeed-from_chars bs h = LacksLineFeed-from_bytes bs (λ i l e. NoCharPasses-char line_feed bs i h (lit< tt) l e)

-- what `split_inclusive` gives is a line
pub IsLineBefore-from_match : (text line rest : List ℕ) → text ≡ line ++ rest → EndsAtFirstMatch (FindsChar line_feed) text line → IsLineBefore line rest
IsLineBefore-from_match text line rest e (None, lacks, (same, some)) =
    let nothing : length rest ≡ 0 = omega (arith, ap length e, ap length same, length-append line rest) in
    inr (LacksLineFeed-from_chars line (rw same lacks), omega (arith, ap length same), nil_from_length rest nothing)
IsLineBefore-from_match text line rest e (Some (i, j), (lacks, at), ends) =
    let last : j ≡ suc i = omega (arith, at.ends) in
    let inside : i < length text = omega (arith, ap length (drop_at_char line_feed text i j at (lit< tt)), length-drop i text) in
    let through : take j text ≡ take i text ++ line_feed ∷ [] =
    ap (λ k. take k text) last ∙ (take-suc text i 0 inside ∙ ap (λ b. take i text ++ b ∷ []) (at.byte (lit< tt))) in
    inl (take i text, LacksLineFeed-from_chars (take i text) lacks, ends (omega arith) ∙ through)

pub lines_of_line : (line rest : List ℕ) → IsLineBefore line rest → lines_of line ≡ line ∷ []
lines_of_line line rest (inl (front, lacks, e)) = rw e (lines_of-push front lacks)
lines_of_line [] rest (inr (lacks, some, nothing)) = absurd (omega arith)
lines_of_line (b ∷ bs) rest (inr (lacks, some, nothing)) = lines_of_last b bs lacks

length-line_pos : (line rest : List ℕ) → IsLineBefore line rest → 0 < length line
length-line_pos line rest (inl (front, lacks, e)) = omega (arith, ap length e, length-append front (line_feed ∷ []))
length-line_pos line rest (inr (lacks, some, nothing)) = some

-- a line that is a divider divides the text
pub IsDividerBefore-line : (line rest : List ℕ) → IsLineBefore line rest → is_divider line ≡ true → IsDividerBefore line rest
IsDividerBefore-line line rest is h =
    elim (is_divider_cases line h) [
      | inl e ↦ inl e
      | inr e ↦ elim is [
        | inl (front, lacks, ends) ↦ absurd (bare_divider_has_no_end front (sym ends ∙ e))
        | inr (lacks, some, nothing) ↦ inr (e, nothing)
      ]
    ]

-- `rest` is what the text has from `start` on, and a line begins there, or it is empty
pub record IsAtLine (text : List ℕ) (start : ℕ) (rest : List ℕ) : Type 0 where
  pub front : List ℕ
  pub whole : text ≡ front ++ rest
  pub starts : start ≡ length front
  pub at_line : EndsLine front ⊎ (rest ≡ [])

pub IsAtLine-begins : (text : List ℕ) (start : ℕ) (line rest : List ℕ) (at : IsAtLine text start (line ++ rest)) → IsLineBefore line rest → EndsLine at.front
IsAtLine-begins text start line rest at is =
    elim at.at_line [
      | inl ends ↦ ends
      | inr nothing ↦ absurd (omega (arith, ap length nothing, length-append line rest, length-line_pos line rest is))
    ]

EndsLine-behind : (front line rest : List ℕ) → IsLineBefore line rest → EndsLine (front ++ line) ⊎ (rest ≡ [])
EndsLine-behind front line rest (inl (begin, lacks, e)) = inl (inr (front ++ begin, ap (λ z. front ++ z) e ∙ sym (append_assoc front begin (line_feed ∷ []))))
EndsLine-behind front line rest (inr (lacks, some, nothing)) = inr nothing

-- the place behind a line
pub IsAtLine-behind : (text : List ℕ) (start : ℕ) (line rest : List ℕ) → IsAtLine text start (line ++ rest) → IsLineBefore line rest → IsAtLine text (start + length line) rest
IsAtLine-behind text start line rest at is = record {
  front = at.front ++ line;
  whole = at.whole ∙ sym (append_assoc at.front line rest);
  starts = omega (arith, at.starts, length-append at.front line);
  at_line = EndsLine-behind at.front line rest is;
}

-- a text may be cut behind whole lines
IsCharBoundary-EndsLine : (text front rest : List ℕ) → IsUtf8 text → text ≡ front ++ rest → EndsLine front → IsCharBoundary text (length front)
IsCharBoundary-EndsLine text front rest utf8 e (inl nothing) = rw nothing (IsCharBoundary-start text utf8)
IsCharBoundary-EndsLine text front rest utf8 e (inr (begin, ends)) =
    let split : text ≡ begin ++ line_feed ∷ rest = e ∙ (ap (λ z. z ++ rest) ends ∙ append_assoc begin (line_feed ∷ []) rest) in
    let inside : length begin < length text = omega (arith, ap length split, length-append begin (line_feed ∷ rest)) in
    let byte : get_or text (length begin) 0 ≡ line_feed = ap (λ z. get_or z (length begin) 0) split ∙ get_or-append_seam begin line_feed rest 0 in
    let last : length front ≡ length begin + 1 = omega (arith, ap length ends, length-append begin (line_feed ∷ [])) in
    rw last (IsCharBoundary-after_ascii text (length begin) utf8 inside (omega arith))

pub IsAtLine-boundary : (text : List ℕ) (start : ℕ) (rest : List ℕ) → IsUtf8 text → IsAtLine text start rest → IsCharBoundary text start
IsAtLine-boundary text start rest utf8 at =
    elim at.at_line [
      | inl ends ↦ rw at.starts (IsCharBoundary-EndsLine text at.front rest utf8 at.whole ends)
      | inr nothing ↦
          let all : start ≡ length text = omega (arith, at.starts, ap length at.whole, ap length nothing, length-append at.front rest) in
          rw all (IsCharBoundary-end text)
    ]

-- what stands in front of the place, and behind it
pub slice_range-IsAtLine : (text : List ℕ) (start : ℕ) (rest : List ℕ) (at : IsAtLine text start rest) → slice_range text 0 start ≡ at.front
slice_range-IsAtLine text start rest at = rw (sub-zero start, at.starts, at.whole) (take-append_seam at.front rest)

pub drop-IsAtLine : (text : List ℕ) (start : ℕ) (rest : List ℕ) → IsAtLine text start rest → drop start text ≡ rest
drop-IsAtLine text start rest at = rw (at.starts, at.whole) (drop-append_seam at.front rest)

-- the scan has come to this place, and has seen no divider
pub record HasPassed (text : List ℕ) (start : ℕ) (rest : List ℕ) : Type 0 where
  pub place : IsAtLine text start rest
  pub no_divider : LacksDivider place.front

pub HasPassed-start : (text : List ℕ) → HasPassed text 0 text
HasPassed-start text = record {
  place = record { front = []; whole = refl; starts = refl; at_line = inl (inl refl) };
  no_divider = All-nil (λ line. is_divider line ≡ false);
}

pub HasPassed-behind : (text : List ℕ) (start : ℕ) (line rest : List ℕ) → HasPassed text start (line ++ rest) → IsLineBefore line rest → is_divider line ≡ false → HasPassed text (start + length line) rest
unfolding IsAtLine-behind
HasPassed-behind text start line rest h is other =
    let P : List ℕ → Type 0 = λ line. is_divider line ≡ false in
    let lines : lines_of (h.place.front ++ line) ≡ lines_of h.place.front ++ line ∷ [] =
    lines_of-append h.place.front line (IsAtLine-begins text start line rest h.place is) ∙ ap (λ z. lines_of h.place.front ++ z) (lines_of_line line rest is) in
    record {
      place = IsAtLine-behind text start line rest h.place is;
      no_divider = subst (All P) (sym lines) (All-push P (lines_of h.place.front) line h.no_divider other);
    }

-- at the end of the text it has seen all of it
pub HasPassed-end : (text : List ℕ) (start : ℕ) (rest : List ℕ) → HasPassed text start rest → length rest ≡ 0 → LacksDivider text
HasPassed-end text start rest h nothing =
    let all : text ≡ h.place.front = h.place.whole ∙ (ap (λ z. h.place.front ++ z) (nil_from_length rest nothing) ∙ append-nil h.place.front) in
    rw all h.no_divider

-- one turn of the loop over the lines: the line that it takes, where `pattern` is what `split_inclusive` was given
pub line_of_turn : (text : List ℕ) (start pattern : ℕ) (left line rest : List ℕ) → (pattern ≡ line_feed) × HasPassed text start left → (left ≡ line ++ rest) × EndsAtFirstMatch (FindsChar pattern) left line → HasPassed text start (line ++ rest) × IsLineBefore line rest
line_of_turn text start pattern left line rest (feed, passed) (e, ends) =
    let matched = subst (λ p. EndsAtFirstMatch (FindsChar p) left line) feed ends in
    (subst (HasPassed text start) e passed, IsLineBefore-from_match left line rest e matched)

-- the scan is at a divider
pub IsDividedAt-found : (text : List ℕ) (start : ℕ) (line rest before after : List ℕ) → HasPassed text start (line ++ rest) → IsLineBefore line rest → is_divider line ≡ true → before ≡ slice_range text 0 start → after ≡ drop (start + length line) text → IsDividedAt text before line after
IsDividedAt-found text start line rest before after h is found front_is rest_is =
    let front : before ≡ h.place.front = front_is ∙ slice_range-IsAtLine text start (line ++ rest) h.place in
    let behind : after ≡ rest = rest_is ∙ drop-IsAtLine text (start + length line) rest (IsAtLine-behind text start line rest h.place is) in
    rw (front, behind) (record {
      whole = h.place.whole;
      begins_line = IsAtLine-begins text start line rest h.place is;
      divides = IsDividerBefore-line line rest is found;
    })

-- and no divider stands in front of it
pub not_HasDivider-before : (text : List ℕ) (start : ℕ) (rest before : List ℕ) → HasPassed text start rest → before ≡ slice_range text 0 start → ¬ HasDivider before
not_HasDivider-before text start rest before h front_is =
    let front : before ≡ h.place.front = front_is ∙ slice_range-IsAtLine text start rest h.place in
    rw front (not_HasDivider h.place.front h.no_divider)
