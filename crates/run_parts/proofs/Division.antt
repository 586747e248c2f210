-- A text has one division into parts, and `parts_of` gives it.
use Rattle.std.proofs.Common.{◌≡◌, ℕ, zero, suc, ◌+◌, ◌<◌, Bool, true, false, ◌||◌, ◌⊎◌, inl, inr, List, [], ◌∷◌, ◌++◌, length, map, codes, refl, sym, ap, ◌∙◌, subst, arith}
use Rattle.std.specs.List.{All, concat, list_any, slice_split}
use Rattle.std.specs.Str.{bytes_eq}
use Rattle.std.proofs.lemmas.Bool.{false≢true}
use Rattle.std.proofs.lemmas.List.{append-nil, append_assoc, length-map}
use Rattle.std.proofs.lemmas.List.Elements.{All-nil, All-cons, All-head, All-tail}
use Rattle.std.proofs.lemmas.List.Splits.{slice_split_at, slice_split_none, length-slice_split}
use Rattle.std.proofs.lemmas.Slice.Eq.{bytes_eq-Decides}
use Rattle.run_parts.specs.Parts.{line_feed, EndsLine, IsDividerBefore, IsDividedAt, HasDivider, IsDivision, undivided, divided, lines_of, is_divider, divider_count, parts_of}
use Rattle.run_parts.proofs.Lines.{LacksLineFeed, IsLines, none, last, more, IsLines-lines_of, lines_of-append, lines_of-push, concat-lines_of, EndsLine-append}

-- no line of the text is a divider
abbrev pub LacksDivider : List ℕ → Type 0
LacksDivider text = All (λ line. is_divider line ≡ false) (lines_of text)

-- ---- the line `%%`

or_true : (a b : Bool) → (a || b) ≡ true → (a ≡ true) ⊎ (b ≡ true)
or_true true b h = inl refl
or_true false b h = inr h

pub is_divider_cases : (line : List ℕ) → is_divider line ≡ true → (line ≡ codes "%%\n") ⊎ (line ≡ codes "%%")
is_divider_cases line h =
    elim (or_true (bytes_eq line (codes "%%\n")) (bytes_eq line (codes "%%")) h)
    [ inl e ↦ inl ((bytes_eq-Decides line (codes "%%\n")).0 e) | inr e ↦ inr ((bytes_eq-Decides line (codes "%%")).0 e) ]

pub is_divider_true : (divider after : List ℕ) → IsDividerBefore divider after → is_divider divider ≡ true
is_divider_true divider after (inl e) = ap is_divider e
is_divider_true divider after (inr (e, _)) = ap is_divider e

lines_of_divider : (divider after : List ℕ) → IsDividerBefore divider after → lines_of (divider ++ after) ≡ divider ∷ lines_of after
lines_of_divider divider after (inl e) = rw e refl
lines_of_divider divider after (inr (e, nothing)) = rw (e, nothing) refl

-- ---- a text that is divided, by its lines

pub lines_of-IsDividedAt : (text before divider after : List ℕ) → IsDividedAt text before divider after → lines_of text ≡ lines_of before ++ divider ∷ lines_of after
lines_of-IsDividedAt text before divider after h =
    ap lines_of h.whole ∙ (lines_of-append before (divider ++ after) h.begins_line ∙ ap (λ z. lines_of before ++ z) (lines_of_divider divider after h.divides))

-- what holds of each element of two lists holds of each of the second
All-append_right : {X : Type 0} (P : X → Type 0) (xs ys : List X) → All P (xs ++ ys) → All P ys
All-append_right P [] ys h = h
All-append_right P (x ∷ xs) ys h = All-append_right P xs ys (All-tail P x (xs ++ ys) h)

-- where no line is a divider, none stands in the text
pub not_HasDivider : (text : List ℕ) → LacksDivider text → ¬ HasDivider text
not_HasDivider text lacks (before, divider, after, at) =
    let P : List ℕ → Type 0 = λ line. is_divider line ≡ false in
    let all = subst (All P) (lines_of-IsDividedAt text before divider after at) lacks in
    let not_divider = All-head P divider (lines_of after) (All-append_right P (lines_of before) (divider ∷ lines_of after) all) in
    false≢true (sym not_divider ∙ is_divider_true divider after at.divides)

-- ---- the first divider of a text

lacks_line_feed_end : (xs : List ℕ) → LacksLineFeed (xs ++ line_feed ∷ []) → ⊥
lacks_line_feed_end [] h = false≢true (sym h.0)
lacks_line_feed_end (b ∷ xs) h = lacks_line_feed_end xs h.1

-- a line that ends with a line feed is not `%%`
pub bare_divider_has_no_end : (xs : List ℕ) → xs ++ line_feed ∷ [] ≡ codes "%%" → ⊥
bare_divider_has_no_end xs e = lacks_line_feed_end xs (subst LacksLineFeed (sym e) (refl, (refl, tt)))

-- the text has a divider, and none in front of that
abbrev pub HasFirstDivider : List ℕ → Type 0
HasFirstDivider text = (before divider after : List ℕ) × IsDividedAt text before divider after × LacksDivider before

or_false : (a : Bool) → (a || false) ≡ true → a ≡ true
or_false true h = refl
or_false false h = h

bool_cases : (b : Bool) → (b ≡ true) ⊎ (b ≡ false)
bool_cases true = inl refl
bool_cases false = inr refl

HasFirstDivider-last : (line : List ℕ) → LacksLineFeed line → (line ≡ codes "%%\n") ⊎ (line ≡ codes "%%") → HasFirstDivider line
HasFirstDivider-last line lacks (inl e) = absurd (lacks_line_feed_end (codes "%%") (subst LacksLineFeed e lacks))
HasFirstDivider-last line lacks (inr e) =
    ([], line, [], record { whole = sym (append-nil line); begins_line = inl refl; divides = inr (e, refl) }, All-nil (λ line. is_divider line ≡ false))

push-append : (line rest : List ℕ) → line ++ line_feed ∷ rest ≡ (line ++ line_feed ∷ []) ++ rest
push-append line rest = sym (append_assoc line (line_feed ∷ []) rest)

HasFirstDivider-first : (line rest : List ℕ) → (line ++ line_feed ∷ [] ≡ codes "%%\n") ⊎ (line ++ line_feed ∷ [] ≡ codes "%%") → HasFirstDivider (line ++ line_feed ∷ rest)
HasFirstDivider-first line rest (inl e) =
    ([], line ++ line_feed ∷ [], rest, record { whole = push-append line rest; begins_line = inl refl; divides = inl e }, All-nil (λ line. is_divider line ≡ false))
HasFirstDivider-first line rest (inr e) = absurd (bare_divider_has_no_end line e)

-- a line behind which the text has its first divider
HasFirstDivider-behind : (line rest : List ℕ) → LacksLineFeed line → is_divider (line ++ line_feed ∷ []) ≡ false → HasFirstDivider rest → HasFirstDivider (line ++ line_feed ∷ rest)
HasFirstDivider-behind line rest feedless other (before, divider, after, at, lacks) =
    let P : List ℕ → Type 0 = λ line. is_divider line ≡ false in
    let whole_line = line ++ line_feed ∷ [] in
    let ends : EndsLine whole_line = inr (line, refl) in
    let lines : lines_of (whole_line ++ before) ≡ whole_line ∷ lines_of before =
    lines_of-append whole_line before ends ∙ ap (λ z. z ++ lines_of before) (lines_of-push line feedless) in (
      whole_line ++ before,
      divider,
      after,
      record {
        whole = push-append line rest ∙ (ap (λ z. whole_line ++ z) at.whole ∙ sym (append_assoc whole_line before (divider ++ after)));
        begins_line = EndsLine-append whole_line before ends at.begins_line;
        divides = at.divides;
      },
      subst (All P) (sym lines) (All-cons P whole_line (lines_of before) other lacks),
    )

HasFirstDivider-from_lines : (text : List ℕ) (lines : List (List ℕ)) → IsLines text lines → list_any is_divider lines ≡ true → HasFirstDivider text
HasFirstDivider-from_lines text lines none h = absurd (false≢true h)
HasFirstDivider-from_lines text lines (last b bs feedless) h = HasFirstDivider-last (b ∷ bs) feedless (is_divider_cases (b ∷ bs) (or_false (is_divider (b ∷ bs)) h))
HasFirstDivider-from_lines text lines (more line rest others feedless r) h =
    elim (bool_cases (is_divider (line ++ line_feed ∷ []))) [
      | inl e ↦ HasFirstDivider-first line rest (is_divider_cases (line ++ line_feed ∷ []) e)
      | inr e ↦ HasFirstDivider-behind line rest feedless e (HasFirstDivider-from_lines rest others r (sym (ap (λ t. t || list_any is_divider others) e) ∙ h))
    ]

-- no line is a divider, or some line is
all_or_any : (lines : List (List ℕ)) → All (λ line. is_divider line ≡ false) lines ⊎ (list_any is_divider lines ≡ true)
all_or_any [] = inl (All-nil (λ line. is_divider line ≡ false))
all_or_any (line ∷ lines) =
    elim (bool_cases (is_divider line)) [
      | inl e ↦ inr (ap (λ t. t || list_any is_divider lines) e)
      | inr e ↦ elim (all_or_any lines) [
        | inl all ↦ inl (All-cons (λ line. is_divider line ≡ false) line lines e all)
        | inr any ↦ inr (ap (λ t. t || list_any is_divider lines) e ∙ any)
      ]
    ]

LacksDivider_or_HasFirstDivider : (text : List ℕ) → LacksDivider text ⊎ HasFirstDivider text
LacksDivider_or_HasFirstDivider text =
    elim (all_or_any (lines_of text))
    [ inl lacks ↦ inl lacks | inr any ↦ inr (HasFirstDivider-from_lines text (lines_of text) (IsLines-lines_of text) any) ]

pub LacksDivider-from_not : (text : List ℕ) → ¬ HasDivider text → LacksDivider text
LacksDivider-from_not text not_has =
    elim (LacksDivider_or_HasFirstDivider text)
    [ inl lacks ↦ lacks | inr (before, divider, after, at, _) ↦ absurd (not_has (before, divider, after, at)) ]

-- ---- the parts

-- a text without a divider is one part
parts_of_undivided : (text : List ℕ) → LacksDivider text → parts_of text ≡ text ∷ []
parts_of_undivided text lacks = ap (map concat) (slice_split_none is_divider (lines_of text) lacks) ∙ ap (λ z. z ∷ []) (concat-lines_of text)

-- the part in front of the first divider, and the parts behind it
pub parts_of_divided : (text first divider rest : List ℕ) → IsDividedAt text first divider rest → ¬ HasDivider first → parts_of text ≡ first ∷ parts_of rest
parts_of_divided text first divider rest at not_has =
    ap (λ z. map concat (slice_split is_divider z)) (lines_of-IsDividedAt text first divider rest at)
    ∙ (ap (map concat) (slice_split_at is_divider (lines_of first) divider (lines_of rest) (LacksDivider-from_not first not_has) (is_divider_true divider rest at.divides))
    ∙ ap (λ z. z ∷ parts_of rest) (concat-lines_of first))

-- a division of a text is the list of its parts
pub parts_of-IsDivision : (text : List ℕ) (parts : List (List ℕ)) → IsDivision text parts → parts ≡ parts_of text
parts_of-IsDivision text parts (undivided not_has) = sym (parts_of_undivided text (LacksDivider-from_not text not_has))
parts_of-IsDivision text parts (divided {first = first} {divider = divider} {rest = rest} {parts = others} at not_has r) =
    ap (λ z. first ∷ z) (parts_of-IsDivision rest others r) ∙ sym (parts_of_divided text first divider rest at not_has)

-- a text has one division
pub IsDivision-unique : (text : List ℕ) (xs ys : List (List ℕ)) → IsDivision text xs → IsDivision text ys → xs ≡ ys
IsDivision-unique text xs ys h k = parts_of-IsDivision text xs h ∙ sym (parts_of-IsDivision text ys k)

-- a text has one part more than dividers
pub length-parts_of : (text : List ℕ) → length (parts_of text) ≡ divider_count text + 1
length-parts_of text = length-map (slice_split is_divider (lines_of text)) concat ∙ length-slice_split is_divider (lines_of text)

divider_count_undivided : (text : List ℕ) → LacksDivider text → divider_count text ≡ 0
divider_count_undivided text lacks = omega (arith, length-parts_of text, ap length (parts_of_undivided text lacks))

pub divider_count_divided : (text first divider rest : List ℕ) → IsDividedAt text first divider rest → ¬ HasDivider first → divider_count text ≡ divider_count rest + 1
divider_count_divided text first divider rest at not_has =
    omega (arith, length-parts_of text, length-parts_of rest, ap length (parts_of_divided text first divider rest at not_has))

IsDivision-parts_of_below : (n : ℕ) (text : List ℕ) → divider_count text < n → IsDivision text (parts_of text)
IsDivision-parts_of_below zero text few = absurd (omega arith)
IsDivision-parts_of_below (suc n) text few =
    elim (LacksDivider_or_HasFirstDivider text) [
      | inl lacks ↦ subst (IsDivision text) (sym (parts_of_undivided text lacks)) (undivided (not_HasDivider text lacks))
      | inr (before, divider, after, at, lacks) ↦
          let not_has = not_HasDivider before lacks in
          let fewer : divider_count after < n = omega (arith, divider_count_divided text before divider after at not_has) in
          subst (IsDivision text) (sym (parts_of_divided text before divider after at not_has)) (divided at not_has (IsDivision-parts_of_below n after fewer))
    ]

-- each text has a division
pub IsDivision-parts_of : (text : List ℕ) → IsDivision text (parts_of text)
IsDivision-parts_of text = IsDivision-parts_of_below (suc (divider_count text)) text (omega arith)

-- ---- what `divide` says of each text

pub ruleset one_division = (IsDivision-parts_of, parts_of-IsDivision)

-- a division has one part more than the text has dividers
pub length-IsDivision : (text : List ℕ) (parts : List (List ℕ)) → IsDivision text parts → length parts ≡ divider_count text + 1
length-IsDivision text parts h = ap length (parts_of-IsDivision text parts h) ∙ length-parts_of text

-- with no divider, or three and more, the text has no division into two or three parts
pub length-IsDivision-other : (text : List ℕ) → ¬ ((divider_count text ≡ 1) ⊎ (divider_count text ≡ 2)) → (parts : List (List ℕ)) → IsDivision text parts → (length parts ≡ 2 → ⊥) × (length parts ≡ 3 → ⊥)
length-IsDivision-other text other parts h =
    let size = length-IsDivision text parts h in
    (λ two. other (inl (omega arith)), λ three. other (inr (omega arith)))

pub All-two : {X : Type 0} (P : X → Type 0) (x y : X) → P x → P y → All P (x ∷ y ∷ [])
All-two P x y h k = All-cons P x (y ∷ []) h (All-cons P y [] k (All-nil P))

pub All-three : {X : Type 0} (P : X → Type 0) (x y z : X) → P x → P y → P z → All P (x ∷ y ∷ z ∷ [])
All-three P x y z h k l = All-cons P x (y ∷ z ∷ []) h (All-two P y z k l)

-- the three outcomes, by the dividers that the text has in turn
pub divider_count_none : (text : List ℕ) → ¬ HasDivider text → ¬ ((divider_count text ≡ 1) ⊎ (divider_count text ≡ 2))
divider_count_none text not_has some =
    let zero_is = divider_count_undivided text (LacksDivider-from_not text not_has) in
    elim some [ inl one ↦ absurd (omega arith) | inr two ↦ absurd (omega arith) ]

pub IsDivision-two : (text first divider rest : List ℕ) → IsDividedAt text first divider rest → ¬ HasDivider first → ¬ HasDivider rest → IsDivision text (first ∷ rest ∷ [])
IsDivision-two text first divider rest at not_first not_rest = divided at not_first (undivided not_rest)

pub IsDivision-three : (text first one behind second two third : List ℕ) → IsDividedAt text first one behind → ¬ HasDivider first → IsDividedAt behind second two third → ¬ HasDivider second → ¬ HasDivider third → IsDivision text (first ∷ second ∷ third ∷ [])
IsDivision-three text first one behind second two third at_one not_first at_two not_second not_third =
    divided at_one not_first (divided at_two not_second (undivided not_third))

pub divider_count_more : (text first one behind second two after third three rest : List ℕ) → IsDividedAt text first one behind → ¬ HasDivider first → IsDividedAt behind second two after → ¬ HasDivider second → IsDividedAt after third three rest → ¬ HasDivider third
    → ¬ ((divider_count text ≡ 1) ⊎ (divider_count text ≡ 2))
divider_count_more text first one behind second two after third three rest at_one not_first at_two not_second at_three not_third some =
    let a = divider_count_divided text first one behind at_one not_first in
    let b = divider_count_divided behind second two after at_two not_second in
    let c = divider_count_divided after third three rest at_three not_third in
    elim some [ inl one ↦ absurd (omega arith) | inr two ↦ absurd (omega arith) ]
