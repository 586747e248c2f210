-- Patterns, which are kept as tokens: `_`, `mut a`, `&a`, `(a, b)`.
use Rattle.std.specs.Prelude.{ℕ, zero, suc, Bool, true, false, if◌then◌else◌}
use Rattle.tok_types.specs.declared.tree.Delimiter.TheVariants as delimiter
use Rattle.syn_grammar.specs.declared.word.Word.{Word}
use Rattle.syn_grammar.specs.declared.word.Word.TheVariants as word
use Rattle.syn_grammar.specs.Token.{is_and, is_group}
use Rattle.syn_grammar.specs.Words.{name_of, next_word, peek}
use Rattle.syn_grammar.specs.Input.{Parser, ◌>>=◌, ◌>>◌, ◌<$>◌, pure, test, eat, take_as, inside, by_turns}
use Rattle.syn_grammar.specs.Paths.{list}

-- how many parentheses of a pattern stand in each other, as many as a text has
abbrev pub max_pattern : ℕ
max_pattern = 128

unfoldable pub ands_from : ℕ → Parser (Unit {0})
ands_from zero = pure tt
ands_from (suc turns) = do
  more ← eat 1 is_and
  if more then ands_from turns else pure tt

-- takes the marks `&` that come next
abbrev pub skip_ands : Parser (Unit {0})
skip_ands = by_turns ands_from

abbrev pub is_underscore : Word → Bool
is_underscore word.Underscore = true
is_underscore _ = false

-- `_`, `a`, `mut a`
unfoldable pub pattern_word : Parser (Unit {0})
pattern_word = do
  wild ← eat 1 (λ trees. is_underscore (next_word trees))
  if wild then pure tt else (do
    mutable ← eat 1 (peek word.Mut)
    name ← take_as name_of
    pure tt)

abbrev pub patterns_by : Parser (Unit {0}) → Parser (Unit {0})
patterns_by item = (λ found. tt) <$> list item

-- a pattern with at most so many parentheses in each other
unfoldable pub pattern : ℕ → Parser (Unit {0})
pattern zero = skip_ands >> pattern_word
pattern (suc below) = do
  marks ← skip_ands
  grouped ← test (is_group delimiter.Parenthesis)
  if grouped then inside delimiter.Parenthesis (patterns_by (pattern below)) else pattern_word

-- a list of patterns with at most so many parentheses in each other
abbrev pub patterns : ℕ → Parser (Unit {0})
patterns limit = patterns_by (pattern limit)
