use Rattle.std.proofs.Common.{rules}
use Rattle.tok_types.specs.declared.tree.TokenStream.{out-TokenStream}
use Rattle.syn_grammar.specs.Input.{start_of}
use Rattle.syn_grammar.specs.Arguments.{fn_arg}
use Rattle.syn_grammar.specs.Grammar.{max_depth, within}
use Rattle.syn_grammar.specs.Paths.{list}
use Rattle.syn_grammar.specs.Trees.{fn_args_of}
use Rattle.syn_core.proofs.parse.parse_fn_args.Goals as goal

pub returns : goal.returns
unfolding fn_args_of
returns c = c.whole.ensures (list (fn_arg (within max_depth)) (start_of (out-TokenStream c.args.tokens.now).trees)) (search rules)
