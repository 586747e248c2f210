use Rattle.std.proofs.Common.{rules, true}
use Rattle.tok_types.specs.declared.tree.TokenStream.{out-TokenStream}
use Rattle.syn_grammar.specs.Input.{start_of}
use Rattle.syn_grammar.specs.Grammar.{max_depth, within}
use Rattle.syn_grammar.specs.Paths.{list, path}
use Rattle.syn_grammar.specs.Trees.{paths_of}
use Rattle.syn_core.proofs.parse.parse_paths.Goals as goal

pub returns : goal.returns
unfolding paths_of
returns c = c.whole.ensures (list (path (within max_depth) true) (start_of (out-TokenStream c.args.tokens.now).trees)) (search rules)
