use Rattle.std.proofs.Common.{rules}
use Rattle.tok_types.specs.declared.tree.TokenStream.{out-TokenStream}
use Rattle.syn_grammar.specs.Input.{start_of}
use Rattle.syn_items.specs.Visibility.{visibility}
use Rattle.syn_items.specs.Trees.{visibility_of}
use Rattle.syn_core.proofs.parse.parse_visibility.Goals as goal

pub returns : goal.returns
unfolding visibility_of
returns c = c.whole.ensures (visibility (start_of (out-TokenStream c.args.tokens.now).trees)) (search rules)
