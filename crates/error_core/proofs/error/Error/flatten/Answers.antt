use Rattle.std.proofs.Common.{◌≡◌, map, ap, ◌∙◌}
use Rattle.error_core.specs.ErrorView.{leaves}
use Rattle.error_core.specs.Preorder.{leaf_node}
use Rattle.error_core.proofs.ToldLemmas.{leaves_flat}
use Rattle.error_core.proofs.PreorderLemmas.{flat_done, shows, keeps}
use Rattle.error_core.proofs.error.Error.flatten.Goals as goal

pub invariant_of-result : goal.invariant_of-result
invariant_of-result c =
    let are = c.in_ok-nodes.ensures ∙ ap (map leaf_node) (c.into_vec.ensures ∙ c.in_ok-faults.ensures) in
    keeps _ _ (flat_done c.args.self c.in_ok-nodes.nodes c.in_ok-all.all are c.in_ok-all.ensures)

pub returns-clause-told : goal.returns-clause-told
returns-clause-told c =
    let are = c.in_ok-nodes.ensures ∙ ap (map leaf_node) (c.into_vec.ensures ∙ c.in_ok-faults.ensures) in
    shows _ _ (flat_done c.args.self c.in_ok-nodes.nodes c.in_ok-all.all are c.in_ok-all.ensures)

pub returns-clause-leaves : goal.returns-clause-leaves
returns-clause-leaves c = ap leaves (returns-clause-told c) ∙ leaves_flat c.args.self
