use Rattle.std.proofs.Common.{◌≡◌, ◌∷◌, ◌∙◌, List, IfOk, length, flat_map, arith, ap, subst, sym}
use Rattle.std.specs.Vec.Iter.{into_iter_items}
use Rattle.error_fault.specs.declared.fault.Fault.{Fault}
use Rattle.error_core.specs.ErrorView.{leaves}
use Rattle.error_core.proofs.ToldLemmas.{all_taken}
use Rattle.machine_read.proofs.Faults.{leaves-ones}
use Rattle.machine_read.proofs.setting.error_of.Goals as goal

pub returns : goal.returns
returns c =
    let it = c.into_iter-fault-iterator.ensures.into_iter_gives.0 in
    let none : length (into_iter_items c.loop-fault.fault-iterator) ≡ 0 =
    omega (arith, c.loop-fault.fault-iterator.rest.ok, c.in-None.ensures.steps.0) in
    let all = all_taken _ c.loop-fault.yielded (into_iter_items c.loop-fault.fault-iterator) (sym it ∙ c.loop-fault.invariant.2) none in
    subst (λ (faults : List Fault). IfOk c.multiple.result (λ error. leaves error ≡ faults))
    (ap (flat_map leaves) c.loop-fault.invariant.3 ∙ ap (λ more. c.args.first ∷ more) (leaves-ones c.loop-fault.yielded ∙ sym (sym c.into_vec-fault-items.ensures ∙ all)))
    c.multiple.ensures.leaves
