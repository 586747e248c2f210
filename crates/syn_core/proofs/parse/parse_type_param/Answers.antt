use Rattle.std.proofs.Common.{rules}
use Rattle.tok_types.specs.declared.tree.TokenStream.{out-TokenStream}
use Rattle.syn_grammar.specs.Input.{start_of}
use Rattle.syn_items.specs.Generics.{one_type_param}
use Rattle.syn_items.specs.Trees.{type_param_of}
use Rattle.syn_core.proofs.parse.parse_type_param.Goals as goal

pub returns : goal.returns
unfolding type_param_of
returns c = c.whole.ensures (one_type_param (start_of (out-TokenStream c.args.tokens.now).trees)) (search rules)
