use Rattle.std.proofs.Common.{◌≡◌, ◌⊎◌, refl, inl, inr, [], ◌∷◌, arith}
use Rattle.std.specs.Str.{IsUtf8}
use Rattle.std.proofs.lemmas.Bool.{false≢true}
use Rattle.run_parts.specs.Parts.{IsDivision, divider_count}
use Rattle.run_parts.proofs.Division.{All-two, All-three, parts_of-IsDivision, length-IsDivision, length-IsDivision-other, IsDivision-two, IsDivision-three, divider_count_none, divider_count_more}
use Rattle.run_parts.proofs.divide.Goals as goal
use Rattle.run_parts.proofs.divide.Goals.{In_default, In-None, In-Some-split_at_divider}

-- ---- no divider

pub returns-in_err-declarations-clause-some : goal.returns-in_err-declarations-clause-some
returns-in_err-declarations-clause-some c =
    rw c.from_residual.ensures (λ is. absurd (false≢true is), λ count. absurd (divider_count_none c.args.text.now c.in_err-declarations.ensures.none count))

pub returns-in_err-declarations-clause-none : goal.returns-in_err-declarations-clause-none
returns-in_err-declarations-clause-none c =
    rw c.from_residual.ensures (length-IsDivision-other c.args.text.now (divider_count_none c.args.text.now c.in_err-declarations.ensures.none))

-- ---- one divider

two_parts : (c : In_default) → IsDivision c.args.text.now (c.in_ok-declarations.declarations.now ∷ c.in_ok-declarations.rest.now ∷ [])
two_parts c =
    let at = c.in_ok-declarations.ensures.divided in
    IsDivision-two _ _ at.0 _ at.1 c.in_ok-declarations.ensures.first c.in_default.ensures.none

pub returns-in_default-clause-some : goal.returns-in_default-clause-some
returns-in_default-clause-some c =
    let size = length-IsDivision _ _ (two_parts (goal.at.returns-in_default-clause-some c).In_default) in
    (λ _. inl (omega arith), λ _. refl)

pub returns-in_default-clause-division : goal.returns-in_default-clause-division
returns-in_default-clause-division c = two_parts (goal.at.returns-in_default-clause-division c).In_default

pub returns-in_default-clause-value : goal.returns-in_default-clause-value
returns-in_default-clause-value c = parts_of-IsDivision _ _ (two_parts (goal.at.returns-in_default-clause-value c).In_default)

pub returns-in_default-clause-utf8 : goal.returns-in_default-clause-utf8
returns-in_default-clause-utf8 c =
    let utf8 = c.in_ok-declarations.ensures.utf8 in
    All-two IsUtf8 _ _ utf8.0 utf8.1

-- ---- two dividers

three_parts : (c : In-None) → IsDivision c.args.text.now (c.in_ok-declarations.declarations.now ∷ c.in-Some.subjects.now ∷ c.in-Some.table.now ∷ [])
three_parts c =
    let one = c.in_ok-declarations.ensures.divided in
    let two = c.in-Some.ensures.divided in
    IsDivision-three _ _ one.0 _ _ two.0 _ one.1 c.in_ok-declarations.ensures.first two.1 c.in-Some.ensures.first c.in-None.ensures.none

pub returns-in-None-clause-some : goal.returns-in-None-clause-some
returns-in-None-clause-some c =
    let size = length-IsDivision _ _ (three_parts (goal.at.returns-in-None-clause-some c).In-None) in
    (λ _. inr (omega arith), λ _. refl)

pub returns-in-None-clause-division : goal.returns-in-None-clause-division
returns-in-None-clause-division c = three_parts (goal.at.returns-in-None-clause-division c).In-None

pub returns-in-None-clause-value : goal.returns-in-None-clause-value
returns-in-None-clause-value c = parts_of-IsDivision _ _ (three_parts (goal.at.returns-in-None-clause-value c).In-None)

pub returns-in-None-clause-utf8 : goal.returns-in-None-clause-utf8
returns-in-None-clause-utf8 c =
    let behind = c.in-Some.ensures.utf8 in
    All-three IsUtf8 _ _ _ c.in_ok-declarations.ensures.utf8.0 behind.0 behind.1

-- ---- more dividers

no_count : (c : In-Some-split_at_divider) → ¬ ((divider_count c.args.text.now ≡ 1) ⊎ (divider_count c.args.text.now ≡ 2))
no_count c =
    let one = c.in_ok-declarations.ensures.divided in
    let two = c.in-Some.ensures.divided in
    let three = c.in-Some-split_at_divider.ensures.divided in
    divider_count_more _ _ one.0 _ _ two.0 _ _ three.0 _ one.1 c.in_ok-declarations.ensures.first two.1 c.in-Some.ensures.first three.1 c.in-Some-split_at_divider.ensures.first

pub returns-in-Some-split_at_divider-clause-some : goal.returns-in-Some-split_at_divider-clause-some
returns-in-Some-split_at_divider-clause-some c = (λ is. absurd (false≢true is), λ count. absurd (no_count c count))

pub returns-in-Some-split_at_divider-clause-none : goal.returns-in-Some-split_at_divider-clause-none
returns-in-Some-split_at_divider-clause-none c = length-IsDivision-other c.args.text.now (no_count c)
