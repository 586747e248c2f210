use Rattle.std.proofs.Common.{rules}
use Rattle.syn_grammar.specs.Input.{start_of}
use Rattle.syn_items.specs.Attributes.{signed}
use Rattle.syn_items.proofs.attr.number_of.Goals as goal

pub returns : goal.returns
returns c = c.all_of.ensures (signed (start_of c.args.trees.now)) (search rules)
