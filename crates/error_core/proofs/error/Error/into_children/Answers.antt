use Rattle.std.proofs.Common.{ap, ◌∙◌}
use Rattle.std.specs.Prelude.{remove}
use Rattle.error_core.proofs.PreorderLemmas.{holds}
use Rattle.error_core.proofs.SplitLemmas.{children_behind}
use Rattle.error_core.proofs.error.Error.into_children.Goals as goal

pub split-requires : goal.split-requires
split-requires c =
    let held = holds c.self.inside.nodes c.args.self c.self.invariant c.self.view_is in
    let behind = c.remove-root.ensures.rest ∙ ap (λ l. remove l 0) c.into_nodes-nodes.ensures in
    (children_behind c.args.self c.self.inside.nodes c.remove-root.new.self c.len.result held c.len.ensures c.if-len-eq1.false behind).1

pub returns : goal.returns
returns c =
    let held = holds c.self.inside.nodes c.args.self c.self.invariant c.self.view_is in
    let behind = c.remove-root.ensures.rest ∙ ap (λ l. remove l 0) c.into_nodes-nodes.ensures in
    rw (children_behind c.args.self c.self.inside.nodes c.remove-root.new.self c.len.result held c.len.ensures c.if-len-eq1.false behind).0 at c.split.ensures
