use Rattle.std.proofs.Common.{rules}
use Rattle.syn_grammar.specs.Grammar.{max_depth, within}
use Rattle.syn_grammar.specs.Input.{start_of}
use Rattle.syn_grammar.specs.Readers.{any_level}
use Rattle.syn_items.proofs.attr.expr_of.Goals as goal

pub returns : goal.returns
returns c = c.all_of.ensures ((within max_depth).expr any_level (start_of c.args.trees.now)) (search rules)
