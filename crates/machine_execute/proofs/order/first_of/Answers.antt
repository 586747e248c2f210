use Rattle.std.proofs.Common.{◌≡◌, ◌≤◌, ◌+◌, ◌/◌, ◌<◌, ◌∙◌, true, arith, subst, sym}
use Rattle.codegen_program.specs.declared.program.«Unit».{«Unit» as Unit'}
use Rattle.machine_execute.proofs.Rising.{above_at, below_at}
use Rattle.machine_execute.proofs.order.first_of.Goals as goal
use Rattle.machine_execute.proofs.order.first_of.Goals.{then-in_order, else-in_order}

pub loop-size-init : goal.loop-size-init
loop-size-init c = elim c.if-in_order.branch [
  | then-in_order w ↦ record {
    within = omega (arith, w.size-is);
    ordered = λ lt. w.if-in_order.true;
    before = λ i lt. let bad : ⊥ = omega (arith, lt) in absurd bad;
    behind = λ ordered i le lt. let bad : ⊥ = omega (arith, le, lt, w.size-is) in absurd bad;
  }
  | else-in_order w ↦ record {
    within = omega (arith, w.size-is);
    ordered = λ lt. let bad : ⊥ = omega (arith, lt, w.size-is) in absurd bad;
    before = λ i lt. let bad : ⊥ = omega (arith, lt) in absurd bad;
    behind = λ ordered i le lt. let bad : ⊥ = grind (arith, ordered, w.if-in_order.false) in absurd bad;
  }
]

pub loop-size-preserved : goal.loop-size-preserved
loop-size-preserved c = record {
  within = omega (arith, c.loop-size.invariant.within, c.loop-size-test.true);
  ordered = λ lt. c.loop-size.invariant.ordered c.loop-size-test.true;
  before = c.loop-size.invariant.before;
  behind = λ ordered i le lt. above_at c.args.units.now (c.loop-size.low + c.loop-size.size / 2) c.index-units-low.result c.args.number (sym c.requires ∙ ordered) (omega (arith, c.loop-size.invariant.within, c.loop-size-test.true)) c.index-units-low.is (subst (λ (unit : Unit'). c.args.number ≤ unit.decl) (sym c.index-units-low.is) c.if-units-low.false) i le lt;
}

pub loop-size-preserved-then-units-low : goal.loop-size-preserved-then-units-low
loop-size-preserved-then-units-low c = record {
  within = omega (arith, c.loop-size.invariant.within, c.loop-size-test.true);
  ordered = λ lt. c.loop-size.invariant.ordered (omega (arith, c.loop-size-test.true));
  behind = λ ordered i le lt. c.loop-size.invariant.behind ordered i (omega (arith, le, c.loop-size-test.true, c.loop-size.invariant.within)) lt;
  before = λ i lt. below_at c.args.units.now (c.loop-size.low + c.loop-size.size / 2) c.index-units-low.result c.args.number (sym c.requires ∙ c.loop-size.invariant.ordered (omega (arith, c.loop-size-test.true))) (omega (arith, c.loop-size.invariant.within, c.loop-size-test.true)) c.index-units-low.is (subst (λ (unit : Unit'). unit.decl < c.args.number) (sym c.index-units-low.is) c.if-units-low.true) i (omega (arith, lt));
}
