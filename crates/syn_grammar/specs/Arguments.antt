-- Arguments of functions.
use Rattle.std.specs.Prelude.{true}
use Rattle.tok_types.specs.declared.tree.TokenStream.{roll-TokenStream}
use Rattle.node_expr.specs.declared.ty.FnArg.{FnArg}
use Rattle.syn_grammar.specs.Token.{is_colon}
use Rattle.syn_grammar.specs.Input.{Parser, ◌>>=◌, pure, here, upto, state, read_since, expect}
use Rattle.syn_grammar.specs.Patterns.{pattern, max_pattern}
use Rattle.syn_grammar.specs.Readers.{Readers}

module _ (readers : Readers) where
  -- `name: T`, `&(mut a, _): T`; the pattern is kept as tokens
  unfoldable pub fn_arg : Parser FnArg
  fn_arg = do
    before ← state
    start ← here
    found ← pattern max_pattern
    kept ← read_since before.rest
    colon ← expect 1 is_colon
    ty ← readers.ty true
    span ← upto start
    pure (record { pat = roll-TokenStream (record { trees = kept }); ty = ty; span = span })
