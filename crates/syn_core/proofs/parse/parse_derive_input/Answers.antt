use Rattle.std.proofs.Common.{rules}
use Rattle.tok_types.specs.declared.tree.TokenStream.{out-TokenStream}
use Rattle.syn_grammar.specs.Input.{start_of}
use Rattle.syn_items.specs.Items.{item}
use Rattle.syn_items.specs.Trees.{derive_input_of}
use Rattle.syn_core.proofs.parse.parse_derive_input.Goals as goal

pub returns : goal.returns
unfolding derive_input_of
returns c = c.whole.ensures (item (start_of (out-TokenStream c.args.tokens.now).trees)) (search rules)
