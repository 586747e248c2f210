use Rattle.std.proofs.Common.{◌≡◌, length, map, ap, arith, ◌∙◌, sym}
use Rattle.std.specs.Vec.Iter.{into_iter_items}
use Rattle.error_core.specs.ErrorView.{One}
use Rattle.machine_state.proofs.Errors.{all-taken, ones-leaves, ones-some}
use Rattle.machine_state.proofs.faults.error_among.Goals as goal

pub multiple-requires : goal.multiple-requires
multiple-requires c =
    let it = c.into_iter-fault-iterator.ensures.into_iter_gives.0 in
    let none : length (into_iter_items c.loop-fault.fault-iterator) ≡ 0 = omega (arith, c.loop-fault.fault-iterator.rest.ok, c.in-None.ensures.steps.0) in
    let all = all-taken _ c.loop-fault.yielded (into_iter_items c.loop-fault.fault-iterator) (sym it ∙ c.loop-fault.invariant.2) none in
    ones-some c.loop-fault.errors.items c.args.faults (c.loop-fault.invariant.3 ∙ ap (map One) (sym (sym c.into_vec-fault-items.ensures ∙ all))) c.requires

pub returns : goal.returns
returns c =
    let it = c.into_iter-fault-iterator.ensures.into_iter_gives.0 in
    let none : length (into_iter_items c.loop-fault.fault-iterator) ≡ 0 = omega (arith, c.loop-fault.fault-iterator.rest.ok, c.in-None.ensures.steps.0) in
    let all = all-taken _ c.loop-fault.yielded (into_iter_items c.loop-fault.fault-iterator) (sym it ∙ c.loop-fault.invariant.2) none in
    ones-leaves c.multiple.result c.loop-fault.errors.items c.args.faults (c.loop-fault.invariant.3 ∙ ap (map One) (sym (sym c.into_vec-fault-items.ensures ∙ all))) c.multiple.ensures.leaves
