-- The rules of patterns do not see places.
use Rattle.std.proofs.Common.{ℕ, zero, suc, [], refl, ap}
use Rattle.tok_types.specs.declared.tree.Delimiter.TheVariants as delimiter
use Rattle.syn_grammar.specs.declared.word.Word.TheVariants as word
use Rattle.syn_grammar.specs.Patterns.{ands_from, skip_ands, is_underscore, pattern_word, pattern}
use Rattle.syn_grammar.specs.Token.{is_group}
use Rattle.syn_grammar.specs.Words.{next_word}
use Rattle.law_spans.specs.IgnoresSpans.{IgnoresSpans}
use Rattle.law_spans.proofs.Paths.{name-blind}
use Rattle.law_spans.proofs.Seen.{is_mark-bare, is_group-bare, next_word-bare, sees-bare}
use Rattle.law_spans.proofs.Steps.{same, pure-blind, then-blind, so-blind, map-blind, if-blind, test-blind, eat-blind, inside-blind, by_turns-blind, items_after-blind}

ands_from-blind : (turns : ℕ) → IgnoresSpans same (ands_from turns) (ands_from turns)
unfolding ands_from
ands_from-blind zero = pure-blind tt tt refl
ands_from-blind (suc turns) = so-blind (eat-blind 1 (is_mark-bare 38)) (λ more. if-blind more (ands_from-blind turns) (pure-blind tt tt refl))

skip_ands-blind : IgnoresSpans same skip_ands skip_ands
skip_ands-blind = by_turns-blind ands_from-blind

pattern_word-blind : IgnoresSpans same pattern_word pattern_word
unfolding pattern_word
pattern_word-blind = so-blind (eat-blind 1 {holds = λ trees. is_underscore (next_word trees)} (λ trees. ap is_underscore (next_word-bare trees))) (λ wild.
    if-blind wild (pure-blind tt tt refl) (so-blind (eat-blind 1 (sees-bare word.Mut)) (λ mutable. then-blind name-blind (λ name name' n. pure-blind tt tt refl))))

pub pattern-blind : (limit : ℕ) → IgnoresSpans same (pattern limit) (pattern limit)
unfolding pattern
pattern-blind zero = so-blind skip_ands-blind (λ marks. pattern_word-blind)
pattern-blind (suc below) = so-blind skip_ands-blind (λ marks.
    so-blind (test-blind (is_group delimiter.Parenthesis) (is_group delimiter.Parenthesis) (is_group-bare delimiter.Parenthesis)) (λ grouped.
    if-blind grouped (inside-blind delimiter.Parenthesis (map-blind (λ found. tt) (λ found. tt) (items_after-blind (pattern-blind below) [] [] refl) (λ found. refl))) pattern_word-blind))
