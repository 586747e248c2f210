use Rattle.std.proofs.Common.{sym, ap, ◌∙◌, subst}
use Rattle.std.specs.Str.Iter.{split_inclusive_text, split_inclusive_pattern}
use Rattle.run_parts.proofs.Division.{not_HasDivider}
use Rattle.run_parts.proofs.Scan.{HasPassed, HasPassed-start, HasPassed-behind, HasPassed-end, IsAtLine-behind, IsAtLine-boundary, IsDividedAt-found, not_HasDivider-before, line_of_turn}
use Rattle.run_parts.proofs.split_at_divider.Goals as goal

pub loop-line-init : goal.loop-line-init
loop-line-init c =
    let same = c.into_iter-line-iterator.ensures.into_iter_gives in (
      ap split_inclusive_pattern same ∙ c.split_inclusive-line-items.ensures.pattern,
      subst (HasPassed _ 0) (sym (ap split_inclusive_text same ∙ c.split_inclusive-line-items.ensures.text)) (HasPassed-start c.args.text.now),
    )

pub range_from-requires : goal.range_from-requires
range_from-requires c =
    let turn = line_of_turn _ _ _ _ c.in-Some.line.now _ c.loop-line.invariant c.in-Some.ensures.steps.1 in
    λ _. IsAtLine-boundary _ _ _ c.utf8.text (IsAtLine-behind _ _ _ _ turn.0.place turn.1)

pub returns-then-is_divider-clause-divided : goal.returns-then-is_divider-clause-divided
returns-then-is_divider-clause-divided c =
    let turn = line_of_turn _ _ _ _ c.in-Some.line.now _ c.loop-line.invariant c.in-Some.ensures.steps.1 in
    (c.in-Some.line.now, IsDividedAt-found _ _ _ _ _ _ turn.0 turn.1 (sym c.is_divider.ensures ∙ c.if-is_divider.true) c.range.ensures.value c.range_from.ensures.value)

pub returns-then-is_divider-clause-first : goal.returns-then-is_divider-clause-first
returns-then-is_divider-clause-first c = not_HasDivider-before _ _ _ _ c.loop-line.invariant.1 c.range.ensures.value

pub loop-line-preserved : goal.loop-line-preserved
loop-line-preserved c =
    let turn = line_of_turn _ _ _ _ c.in-Some.line.now _ c.loop-line.invariant c.in-Some.ensures.steps.1 in
    (c.in-Some.ensures.steps.0 ∙ c.loop-line.invariant.0, HasPassed-behind _ _ _ _ turn.0 turn.1 (sym c.is_divider.ensures ∙ c.if-is_divider.false))

pub returns-clause-none : goal.returns-clause-none
returns-clause-none c = not_HasDivider _ (HasPassed-end _ _ _ c.loop-line.invariant.1 c.in-None.ensures.steps.1.0)
