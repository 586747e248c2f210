use Rattle.std.proofs.Common.{rules}
use Rattle.tok_types.specs.declared.tree.TokenStream.{out-TokenStream}
use Rattle.syn_grammar.specs.Input.{start_of}
use Rattle.syn_grammar.specs.Grammar.{max_depth, within}
use Rattle.syn_grammar.specs.Readers.{any_level}
use Rattle.syn_grammar.specs.Trees.{expr_of}
use Rattle.syn_core.proofs.parse.expr_or.Goals as goal

pub returns : goal.returns
unfolding expr_of
returns c = c.whole.ensures ((within max_depth).expr any_level (start_of (out-TokenStream c.args.tokens.now).trees)) (search rules)
