use Rattle.std.proofs.Common.{◌≡◌, ℕ, zero, suc, false, rules, arith, [], ◌∷◌, ◌++◌, Some}
use Rattle.std.proofs.lemmas.Grind.{common_steps}
use Rattle.tok_types.specs.declared.tree.Delimiter.TheVariants as delimiter
use Rattle.syn_grammar.specs.Input.{Input, ◌<$>◌, items_from}
use Rattle.syn_grammar.specs.Patterns.{pattern, pattern_word, skip_ands}
use Rattle.syn_grammar.specs.Token.{is_group}
use Rattle.syn_grammar.proofs.Turns.{turn_left, turns_over}
use Rattle.syn_lists.proofs.patterns.+patterns.Goals as goal
use Rattle.syn_lists.proofs.patterns.+patterns.Goals.{pattern-then-limit-eq0-via-then-limit-eq0, pattern-then-limit-eq0-via-else-limit-eq0+then-not-is_group}

-- without parentheses, or where none come next
pattern-words : (limit : ℕ) (old now : Input) → skip_ands old ≡ Some (tt {0}, now) → is_group delimiter.Parenthesis now.rest ≡ false → pattern limit old ≡ pattern_word now
unfolding pattern
pattern-words zero old now marks plain = rw marks
pattern-words (suc below) old now marks plain = rw (marks, plain)

pattern-bottom : (limit : ℕ) (old now : Input) → skip_ands old ≡ Some (tt {0}, now) → limit ≡ 0 → pattern limit old ≡ pattern_word now
unfolding pattern
pattern-bottom zero old now marks none = rw marks
pattern-bottom (suc below) old now marks none = absurd (cc)

pub pattern-returns-then-limit-eq0 : goal.pattern-returns-then-limit-eq0
pattern-returns-then-limit-eq0 t c = elim c.then-limit-eq0.branch [
  | pattern-then-limit-eq0-via-then-limit-eq0 w ↦ rw (pattern-bottom c.args.limit _ _ c.skip_ands.ensures w.if-limit-eq0.true) c.pattern_word.ensures
  | pattern-then-limit-eq0-via-else-limit-eq0+then-not-is_group w ↦ rw (pattern-words c.args.limit _ _ c.skip_ands.ensures (search rules)) c.pattern_word.ensures
]

pub patterns-returns-then-at_end : goal.patterns-returns-then-at_end
unfolding items_from
patterns-returns-then-at_end t c =
    let kept = c.loop-turn.invariant in
    let turn = turn_left (λ turns. ((λ all. tt {0}) <$> items_from (pattern c.args.limit) turns kept.0) c.loop-turn.tokens) _ c.loop-turn._turn c.loop-turn-test.true kept.1 in
    first_of (search rules, grind (arith, common_steps))

pub patterns-returns-in_err-pattern : goal.patterns-returns-in_err-pattern
unfolding items_from
patterns-returns-in_err-pattern t c =
    let kept = c.loop-turn.invariant in
    let turn = turn_left (λ turns. ((λ all. tt {0}) <$> items_from (pattern c.args.limit) turns kept.0) c.loop-turn.tokens) _ c.loop-turn._turn c.loop-turn-test.true kept.1 in
    first_of (search rules, grind (arith, common_steps))

pub patterns-returns-then-not-eat_mark : goal.patterns-returns-then-not-eat_mark
unfolding items_from
patterns-returns-then-not-eat_mark t c =
    let kept = c.loop-turn.invariant in
    let turn = turn_left (λ turns. ((λ all. tt {0}) <$> items_from (pattern c.args.limit) turns kept.0) c.loop-turn.tokens) _ c.loop-turn._turn c.loop-turn-test.true kept.1 in
    first_of (search rules, grind (arith, common_steps))

pub patterns-loop-turn-preserved : goal.patterns-loop-turn-preserved
unfolding items_from
patterns-loop-turn-preserved t c =
    let kept = c.loop-turn.invariant in
    let turn = turn_left (λ turns. ((λ all. tt {0}) <$> items_from (pattern c.args.limit) turns kept.0) c.loop-turn.tokens) _ c.loop-turn._turn c.loop-turn-test.true kept.1 in
    (kept.0 ++ c.in_ok-pattern.field-0 ∷ [], first_of (search rules, grind (arith, common_steps)))

pub patterns-returns : goal.patterns-returns
unfolding items_from
patterns-returns t c =
    let kept = c.loop-turn.invariant in
    let over = turns_over (λ turns. ((λ all. tt {0}) <$> items_from (pattern c.args.limit) turns kept.0) c.loop-turn.tokens) _ c.loop-turn._turn c.loop-turn-test.false kept.1 in
    first_of (search rules, grind (arith, common_steps))
