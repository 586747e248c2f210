use Rattle.std.proofs.Common.{◌≡◌, ◌∙◌, IfOk, List, arith, subst, sym}
use Rattle.std.proofs.lemmas.List.{at_drop_all}
use Rattle.machine_outer.specs.Seen.{part_in}
use Rattle.machine_outer.specs.Weaving.{Member, still_woven}
use Rattle.machine_outer.proofs.parts.Parts.woven.Goals as goal

pub returns : goal.returns
returns c =
    let fields = c.args.fields.now in
    let all = at_drop_all (still_woven c.loop-field.weaving (part_in c.args.self)) fields c.loop-field.field-index (omega arith) in
    subst (λ (members : List Member). IfOk c.into_members.result (λ it. it ≡ members)) (sym all ∙ c.loop-field.invariant) c.into_members.ensures
