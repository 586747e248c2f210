use Rattle.std.proofs.Common.{rules}
use Rattle.tok_types.specs.declared.tree.TokenStream.{out-TokenStream}
use Rattle.syn_grammar.specs.Input.{start_of}
use Rattle.syn_items.specs.Items.{items}
use Rattle.syn_items.specs.Trees.{items_of}
use Rattle.syn_core.proofs.parse.parse_items.Goals as goal

pub returns : goal.returns
unfolding items_of
returns c = c.whole.ensures (items (start_of (out-TokenStream c.args.tokens.now).trees)) (search rules)
