use Rattle.std.proofs.Common.{rules}
use Rattle.tok_types.specs.declared.tree.TokenStream.{out-TokenStream}
use Rattle.syn_grammar.specs.Input.{start_of, take_as}
use Rattle.syn_grammar.specs.Words.{name_of}
use Rattle.syn_grammar.specs.Trees.{ident_of}
use Rattle.syn_core.proofs.parse.parse_ident.Goals as goal

pub returns : goal.returns
unfolding ident_of
returns c = c.whole.ensures (take_as name_of (start_of (out-TokenStream c.args.tokens.now).trees)) (search rules)
