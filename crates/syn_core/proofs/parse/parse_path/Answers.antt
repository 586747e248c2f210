use Rattle.std.proofs.Common.{rules, true}
use Rattle.tok_types.specs.declared.tree.TokenStream.{out-TokenStream}
use Rattle.syn_grammar.specs.Input.{start_of}
use Rattle.syn_grammar.specs.Grammar.{max_depth, within}
use Rattle.syn_grammar.specs.Paths.{path}
use Rattle.syn_grammar.specs.Trees.{path_of}
use Rattle.syn_core.proofs.parse.parse_path.Goals as goal

pub returns : goal.returns
unfolding path_of
returns c = c.whole.ensures (path (within max_depth) true (start_of (out-TokenStream c.args.tokens.now).trees)) (search rules)
