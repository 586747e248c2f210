use Rattle.meta_nested.proofs.Onward.{tells-here}
use Rattle.meta_nested.proofs.item.name_value.Goals as goal

pub value_item-requires : goal.value_item-requires
value_item-requires c = rw c.skip.ensures (tells-here c.args.closings.now c.args.tokens.now c.requires.tells c.requires.equals)
