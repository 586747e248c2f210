use Rattle.std.proofs.Common.{◌≡◌, ◌≤◌, ◌∙◌, ap, ap₂, arith, length, map}
use Rattle.std.proofs.lemmas.Result.{on_ok_weaker}
use Rattle.machine_read.specs.State.{Several}
use Rattle.machine_state.specs.Seen.{slot_of}
use Rattle.machine_state.specs.declared.slot.Slot.TheVariants as held
use Rattle.machine_state.proofs.Declared.{declared_set, finished, padded}
use Rattle.machine_state.proofs.state.declare_at.Goals as goal

pub returns-then-number-len : goal.returns-then-number-len
returns-then-number-len c =
    ap (map slot_of) c.set.ensures ∙ declared_set c.args.slots.now c.args.number c.args.slot (omega (arith, c.if-number-len.true, c.len.ensures))

pub loop-at-preserved : goal.loop-at-preserved
loop-at-preserved c =
    padded c.loop-at.slots c.push.new.self c.loop-at._at c.args.number (slot_of c.args.slot) (map slot_of c.args.slots.now)
    (held.Several c.args.nameless c.new.result) (ap₂ Several c.requires c.new.ensures) (omega (arith, c.loop-at-test.true)) c.in_ok-push.ensures.ok c.loop-at.invariant

pub returns : goal.returns
returns c =
    let within : c.loop-at._at ≤ c.args.number = c.loop-at.auto._at-end (omega (arith, c.if-number-len.false, c.len.ensures, c.len-at.ensures)) in
    let same : length c.loop-at.slots ≡ c.args.number = omega (arith, c.loop-at.invariant.0, c.loop-at-test.false, within) in
    on_ok_weaker c.push-2.result (λ e. finished c.loop-at.slots c.push-2.new.self c.args.number c.args.slot (map slot_of c.args.slots.now) same e c.loop-at.invariant.1) c.push-2.ensures.ok
