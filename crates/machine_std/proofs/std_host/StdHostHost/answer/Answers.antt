use Rattle.std.proofs.Common.{◌≡◌, ◌∙◌, IfOk, ap, subst, sym}
use Rattle.machine_host.specs.Seen.{seen_arg}
use Rattle.machine_host.specs.declared.said.Said.{Said}
use Rattle.machine_std.specs.StdSays.{answered}
use Rattle.machine_std.proofs.Erased.{offer_for-bare}
use Rattle.machine_std.proofs.std_host.StdHostHost.answer.Goals as goal

pub returns-in-Some : goal.returns-in-Some
returns-in-Some c =
    let here = ap (λ offer. answered offer (seen_arg c.args.arg)) (c.in-Some.ensures ∙ sym (offer_for-bare c.args.decls.now c.args.call c.args.place.now)) in
    subst (λ (it : Said). IfOk c.answer.result (λ said. said ≡ it)) here c.answer.ensures

pub returns-in-None : goal.returns-in-None
returns-in-None c =
    let here = ap (λ offer. answered offer (seen_arg c.args.arg)) (c.in-None.ensures ∙ sym (offer_for-bare c.args.decls.now c.args.call c.args.place.now)) in
    subst (λ (it : Said). IfOk c.unasked.result (λ said. said ≡ it)) here c.unasked.ensures
