use Rattle.std.proofs.Common.{◌∙◌, sym}
use Rattle.machine_execute.proofs.Rising.{passed, stops}
use Rattle.machine_execute.proofs.order.unit_under.Goals as goal

pub loop-at-init : goal.loop-at-init
loop-at-init c = passed c.args.units.now c.args.number c.args.derive c.first_of-at.result c.first_of-at.ensures.before c.first_of-at.ensures.within

pub returns-then-unit-number : goal.returns-then-unit-number
returns-then-unit-number c =
    sym (c.loop-at.invariant ∙ stops c.args.units.now c.args.number c.args.derive c.loop-at.at c.index-units-at.result (sym c.requires ∙ c.if-in_order.true) c.loop-at-test.true c.index-units-at.is c.if-unit-number.true)
