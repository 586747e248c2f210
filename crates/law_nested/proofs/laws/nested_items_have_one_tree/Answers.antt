use Rattle.meta_nested.specs.Nested.{nested_of}
use Rattle.syn_core.proofs.OneTree.{one_tree}
use Rattle.law_nested.proofs.laws.nested_items_have_one_tree.Goals as goal

pub returns : goal.returns
returns c = record { nested_of = one_tree nested_of }
