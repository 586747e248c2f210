use Rattle.std.proofs.Common.{◌≡◌, ap, ◌∙◌}
use Rattle.error_core.specs.Wider.{widen}
use Rattle.error_core.proofs.ToldLemmas.{leaves-is_widened}
use Rattle.error_core.proofs.PreorderLemmas.{shows, keeps}
use Rattle.error_core.proofs.SiblingLemmas.{widen-set_of}
use Rattle.error_core.proofs.WiderLemmas.{widen_done}
use Rattle.error_core.proofs.error.Error.add_sibling_alts_among.Goals as goal

pub invariant_of-result : goal.invariant_of-result
invariant_of-result c =
    keeps _ _ (widen_done c.args.alts.now.keys c.args.self c.into_vec.result.items c.in_ok-nodes.nodes c.in_ok-nodes.ensures (c.into_vec.ensures ∙ c.into_nodes.ensures))

pub returns-clause-told : goal.returns-clause-told
returns-clause-told c = λ names is.
    let wider : c.in_ok-nodes.nodes ≡ widen names 0 c.into_vec.result.items =
    c.in_ok-nodes.ensures
    ∙ ap (λ set. widen set.keys 0 c.into_vec.result.items) is
    ∙ widen-set_of names 0 c.into_vec.result.items in
    shows _ _ (widen_done names c.args.self c.into_vec.result.items c.in_ok-nodes.nodes wider (c.into_vec.ensures ∙ c.into_nodes.ensures))

pub returns-clause-leaves : goal.returns-clause-leaves
returns-clause-leaves c = λ names is. leaves-is_widened _ _ _ (returns-clause-told c names is)
