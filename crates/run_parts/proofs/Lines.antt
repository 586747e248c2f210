-- The lines of a text, and the lines of two texts that stand one after the other.
use Rattle.std.proofs.Common.{◌≡◌, ℕ, ◌<◌, Bool, true, false, cond, eqb, inl, inr, List, [], ◌∷◌, ◌++◌, length, refl, sym, ap, ◌∙◌, arith}
use Rattle.std.specs.List.{concat, onto_first}
use Rattle.std.proofs.lemmas.Bool.{eqb-true}
use Rattle.std.proofs.lemmas.List.{append-nil, append_assoc}
use Rattle.run_parts.specs.Parts.{line_feed, EndsLine, lines_of}

-- no byte of the text is a line feed
abbrev pub LacksLineFeed : List ℕ → Type 0
LacksLineFeed [] = Unit {0}
LacksLineFeed (b ∷ bs) = (eqb b line_feed ≡ false) × LacksLineFeed bs

onto_first-append : (b : ℕ) (xs ys : List (List ℕ)) → 0 < length xs → onto_first b (xs ++ ys) ≡ onto_first b xs ++ ys
onto_first-append b [] ys h = absurd (omega arith)
onto_first-append b (x ∷ xs) ys h = refl

length-onto_first_pos : (b : ℕ) (xs : List (List ℕ)) → 0 < length (onto_first b xs)
length-onto_first_pos b [] = omega arith
length-onto_first_pos b (x ∷ xs) = omega arith

-- a text that is not empty has a line
pub length-lines_of_pos : (b : ℕ) (bs : List ℕ) → 0 < length (lines_of (b ∷ bs))
length-lines_of_pos b bs =
    elim (eqb b line_feed) as (λ t. 0 < length (cond t ((b ∷ []) ∷ lines_of bs) (onto_first b (lines_of bs))))
    [ true ↦ omega arith | false ↦ length-onto_first_pos b (lines_of bs) ]

length-lines_of_push_pos : (xs : List ℕ) → 0 < length (lines_of (xs ++ line_feed ∷ []))
length-lines_of_push_pos [] = omega arith
length-lines_of_push_pos (b ∷ xs) = length-lines_of_pos b (xs ++ line_feed ∷ [])

lines_of-push-append : (xs ys : List ℕ) → lines_of ((xs ++ line_feed ∷ []) ++ ys) ≡ lines_of (xs ++ line_feed ∷ []) ++ lines_of ys
lines_of-push-append [] ys = refl
lines_of-push-append (b ∷ xs) ys =
    let first = lines_of (xs ++ line_feed ∷ []) in
    let both = lines_of ((xs ++ line_feed ∷ []) ++ ys) in
    let e = lines_of-push-append xs ys in
    elim (eqb b line_feed) as (λ t. cond t ((b ∷ []) ∷ both) (onto_first b both) ≡ cond t ((b ∷ []) ∷ first) (onto_first b first) ++ lines_of ys)
    [ true ↦ ap (λ z. (b ∷ []) ∷ z) e | false ↦ ap (onto_first b) e ∙ onto_first-append b first (lines_of ys) (length-lines_of_push_pos xs) ]

-- whole lines behind whole lines
pub EndsLine-append : (xs ys : List ℕ) → EndsLine xs → EndsLine ys → EndsLine (xs ++ ys)
EndsLine-append xs ys ends (inl e) = rw (e, append-nil xs) ends
EndsLine-append xs ys ends (inr (front, e)) = inr (xs ++ front, ap (λ z. xs ++ z) e ∙ sym (append_assoc xs front (line_feed ∷ [])))

-- the lines of two texts are those of each, where the first ends a line
pub lines_of-append : (xs ys : List ℕ) → EndsLine xs → lines_of (xs ++ ys) ≡ lines_of xs ++ lines_of ys
lines_of-append xs ys (inl e) = rw e refl
lines_of-append xs ys (inr (front, e)) = rw e (lines_of-push-append front ys)

concat-onto_first : (b : ℕ) (xs : List (List ℕ)) → concat (onto_first b xs) ≡ b ∷ concat xs
concat-onto_first b [] = refl
concat-onto_first b (x ∷ xs) = refl

-- the lines of a text give it back
pub concat-lines_of : (text : List ℕ) → concat (lines_of text) ≡ text
concat-lines_of [] = refl
concat-lines_of (b ∷ bs) =
    let e = concat-lines_of bs in
    elim (eqb b line_feed) as (λ t. concat (cond t ((b ∷ []) ∷ lines_of bs) (onto_first b (lines_of bs))) ≡ b ∷ bs)
    [ true ↦ ap (λ z. b ∷ z) e | false ↦ concat-onto_first b (lines_of bs) ∙ ap (λ z. b ∷ z) e ]

lines_of-cons : (b : ℕ) (bs : List ℕ) → eqb b line_feed ≡ false → lines_of (b ∷ bs) ≡ onto_first b (lines_of bs)
lines_of-cons b bs e = ap (λ t. cond t ((b ∷ []) ∷ lines_of bs) (onto_first b (lines_of bs))) e

-- a text that has one line feed, at its end, is one line
pub lines_of-push : (xs : List ℕ) → LacksLineFeed xs → lines_of (xs ++ line_feed ∷ []) ≡ (xs ++ line_feed ∷ []) ∷ []
lines_of-push [] h = refl
lines_of-push (b ∷ xs) h = lines_of-cons b (xs ++ line_feed ∷ []) h.0 ∙ ap (onto_first b) (lines_of-push xs h.1)

-- a text that has no line feed, and is not empty, is one line
pub lines_of_last : (b : ℕ) (bs : List ℕ) → LacksLineFeed (b ∷ bs) → lines_of (b ∷ bs) ≡ (b ∷ bs) ∷ []
lines_of_last b [] h = lines_of-cons b [] h.0
lines_of_last b (c ∷ bs) h = lines_of-cons b (c ∷ bs) h.0 ∙ ap (onto_first b) (lines_of_last c bs h.1)

-- these are the lines of the text, from its front on
pub data IsLines : List ℕ → List (List ℕ) → Type 0 where
  none : IsLines [] []
  last : (b : ℕ) (bs : List ℕ) → LacksLineFeed (b ∷ bs) → IsLines (b ∷ bs) ((b ∷ bs) ∷ [])
  more : (line rest : List ℕ) (lines : List (List ℕ)) → LacksLineFeed line → IsLines rest lines → IsLines (line ++ line_feed ∷ rest) ((line ++ line_feed ∷ []) ∷ lines)

IsLines-onto_first : (b : ℕ) (bs : List ℕ) (lines : List (List ℕ)) → eqb b line_feed ≡ false → IsLines bs lines → IsLines (b ∷ bs) (onto_first b lines)
IsLines-onto_first b bs lines e none = last b [] (e, tt)
IsLines-onto_first b bs lines e (last c cs h) = last b (c ∷ cs) (e, h)
IsLines-onto_first b bs lines e (more line rest others h r) = more (b ∷ line) rest others (e, h) r

IsLines-cons : (b : ℕ) (bs : List ℕ) (t : Bool) → eqb b line_feed ≡ t → IsLines bs (lines_of bs) → IsLines (b ∷ bs) (cond t ((b ∷ []) ∷ lines_of bs) (onto_first b (lines_of bs)))
IsLines-cons b bs false e r = IsLines-onto_first b bs (lines_of bs) e r
IsLines-cons b bs true e r =
    let is = eqb-true b line_feed e in
    rw is (more [] bs (lines_of bs) tt r)

pub IsLines-lines_of : (text : List ℕ) → IsLines text (lines_of text)
IsLines-lines_of [] = none
IsLines-lines_of (b ∷ bs) = IsLines-cons b bs (eqb b line_feed) refl (IsLines-lines_of bs)
