use Rattle.std.proofs.Common.{ap, ◌∙◌}
use Rattle.error_core.specs.Preorder.{leaf_count}
use Rattle.error_core.proofs.PreorderLemmas.{holds, leaf_count-nodes_of}
use Rattle.error_core.proofs.error.Error.len.Goals as goal

pub returns : goal.returns
returns c =
    c.count_leaves.ensures
    ∙ ap leaf_count (c.as_slice.ensures ∙ holds c.self.inside.nodes c.args.self.now c.self.invariant c.self.view_is)
    ∙ leaf_count-nodes_of c.args.self.now
