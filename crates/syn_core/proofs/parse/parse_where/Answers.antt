use Rattle.std.proofs.Common.{rules}
use Rattle.tok_types.specs.declared.tree.TokenStream.{out-TokenStream}
use Rattle.syn_grammar.specs.Input.{start_of}
use Rattle.syn_items.specs.Generics.{where_clause}
use Rattle.syn_items.specs.Trees.{where_of}
use Rattle.syn_core.proofs.parse.parse_where.Goals as goal

pub returns : goal.returns
unfolding where_of
returns c = c.whole.ensures (where_clause (start_of (out-TokenStream c.args.tokens.now).trees)) (search rules)
