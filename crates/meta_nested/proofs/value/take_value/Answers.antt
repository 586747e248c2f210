use Rattle.meta_nested.specs.Values.{value}
use Rattle.meta_nested.proofs.Vain.{vain-here}
use Rattle.meta_nested.proofs.value.take_value.Goals as goal

pub returns-then-not-closings-left : goal.returns-then-not-closings-left
unfolding value
returns-then-not-closings-left c =
    let none = vain-here c.args.closings.now c.args.tokens.now.rest c.requires (rw (← c.left.ensures) c.if-not-closings-left.true) in
    rw none c.bad_value.ensures
