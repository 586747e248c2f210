use Rattle.std.proofs.Common.{◌≤◌, length, arith, ap, ◌∙◌}
use Rattle.error_core.specs.ErrorView.{leaves}
use Rattle.error_core.specs.Preorder.{shown}
use Rattle.error_core.proofs.ToldLemmas.{leaves_joined}
use Rattle.error_core.proofs.PreorderLemmas.{multiple_done, shows, keeps}
use Rattle.error_core.proofs.error.Error.multiple.Goals as goal

pub invariant_of-result : goal.invariant_of-result
invariant_of-result c =
    let two : 2 ≤ length c.args.errors.items = omega (arith, c.requires, c.len.ensures, c.if-len-eq1.false) in
    keeps _ _ (multiple_done c.args.errors.items (shown c.in_ok-nodes.nodes) c.in_ok-inside.inside c.in_ok-nodes.nodes c.in_ok-inside.ensures c.in_ok-nodes.ensures two)

pub returns-clause-told : goal.returns-clause-told
returns-clause-told c =
    let two : 2 ≤ length c.args.errors.items = omega (arith, c.requires, c.len.ensures, c.if-len-eq1.false) in
    shows _ _ (multiple_done c.args.errors.items _ c.in_ok-inside.inside c.in_ok-nodes.nodes c.in_ok-inside.ensures c.in_ok-nodes.ensures two)

pub returns-clause-leaves : goal.returns-clause-leaves
returns-clause-leaves c = ap leaves (returns-clause-told c) ∙ leaves_joined c.args.errors.items _ c.requires
