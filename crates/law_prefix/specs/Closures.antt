-- The prefix of a closure whose tokens it keeps.
use Rattle.std.specs.Prelude.{◌≡◌, ℕ, List}
use Rattle.tok_types.specs.declared.span.Span.{Span}
use Rattle.tok_types.specs.declared.tree.Delimiter.TheVariants as delimiter
use Rattle.tok_types.specs.declared.tree.TokenTree.{TokenTree}
use Rattle.syn_grammar.specs.declared.word.Word.TheVariants as word
use Rattle.syn_grammar.specs.Expressions.{closure_params, closure_body}
use Rattle.syn_grammar.specs.Input.{Parser, ◌>>=◌, pure, here, eat, expect}
use Rattle.syn_grammar.specs.Readers.{Readers}
use Rattle.syn_grammar.specs.Token.{is_arrow, is_bar, is_group}
use Rattle.syn_grammar.specs.Words.{peek}

-- Behind the head the rules see whether a `|`, an arrow or a block comes.
pub record SameLookaheadOfBodies (rest tail : List TokenTree) : Type 0 where
  pub bar : is_bar rest ≡ is_bar tail
  pub arrow : is_arrow rest ≡ is_arrow tail
  pub block : is_group delimiter.Brace rest ≡ is_group delimiter.Brace tail

module _ (readers : Readers) where
  -- what stands before the body: where it begins, and the level of the body
  unfoldable pub closure_head : Parser (Span × ℕ)
  closure_head = do
    start ← here
    moved ← eat 1 (peek word.Move)
    opened ← expect 1 is_bar
    params ← closure_params readers
    level ← closure_body readers
    pure (start, level)
