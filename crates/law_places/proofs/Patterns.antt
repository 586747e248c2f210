-- How far patterns go.
use Rattle.std.proofs.Common.{ℕ, zero, suc}
use Rattle.tok_types.specs.declared.tree.Delimiter.TheVariants as delimiter
use Rattle.syn_grammar.specs.declared.word.Word.TheVariants as word
use Rattle.syn_grammar.specs.Patterns.{ands_from, skip_ands, is_underscore, pattern_word, patterns_by, pattern}
use Rattle.syn_grammar.specs.Token.{is_and, is_group}
use Rattle.syn_grammar.specs.Words.{name_of, next_word, peek}
use Rattle.law_places.proofs.Steps.{Goes, pure-goes, so-at, if-at, seen-at, turns-at, eat-at, take_as-at, inside-goes}

ands_from-goes : (turns : ℕ) → Goes (ands_from turns)
unfolding ands_from
ands_from-goes zero input = pure-goes tt input
ands_from-goes (suc turns) input = so-at (eat-at 1 is_and input) (λ more input. if-at more (ands_from-goes turns input) (pure-goes tt input))

skip_ands-goes : Goes skip_ands
skip_ands-goes input = turns-at (λ turns. ands_from-goes turns input)

pattern_word-goes : Goes pattern_word
unfolding pattern_word
pattern_word-goes input = so-at (eat-at 1 (λ trees. is_underscore (next_word trees)) input) (λ wild input.
    if-at wild (pure-goes tt input) (
    so-at (eat-at 1 (peek word.Mut) input) (λ mutable input. so-at (take_as-at name_of input) (λ name input. pure-goes tt input))))

pub pattern-goes : (limit : ℕ) → Goes (pattern limit)
unfolding pattern
pattern-goes zero input = so-at (skip_ands-goes input) (λ marks input. pattern_word-goes input)
pattern-goes (suc below) input = so-at (skip_ands-goes input) (λ marks input.
    seen-at (is_group delimiter.Parenthesis) (λ grouped. if-at grouped (inside-goes delimiter.Parenthesis (patterns_by (pattern below)) input) (pattern_word-goes input)))
