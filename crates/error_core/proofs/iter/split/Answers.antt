use Rattle.std.proofs.Common.{rules, ◌≡◌, ◌++◌, ◌∷◌, [], append_assoc, ap, ◌∙◌, sym}
use Rattle.std.specs.Vec.Iter.{into_iter_items}
use Rattle.error_core.specs.Preorder.{shown}
use Rattle.error_core.proofs.SplitLemmas.{step_done, step_keeps}
use Rattle.error_core.proofs.iter.split.Goals as goal

pub invariant_of-push : goal.invariant_of-push
invariant_of-push c =
    let next : into_iter_items c.loop-node.node-iterator ≡ c.in-Some.node ∷ into_iter_items c.next.new.self = search rules in
    step_keeps c.in-Some.node c.loop-node.grown (into_iter_items c.next.new.self) (into_iter_items c.loop-node.node-iterator) c.push.new.self c.replace-nodes.result
    next c.in_ok-push.ensures.ok c.replace-nodes.ensures.value c.loop-node.invariant.4 (sym c.is_whole.ensures ∙ c.if-is_whole.true)

pub loop-node-preserved-in-Continue-branch-2 : goal.loop-node-preserved-in-Continue-branch-2
loop-node-preserved-in-Continue-branch-2 c =
    let next : into_iter_items c.loop-node.node-iterator ≡ c.in-Some.node ∷ into_iter_items c.next.new.self = search rules in
    let done = step_done c.loop-node.errors.items c.push-then-is_whole.new.self.items _ c.in-Some.node c.loop-node.grown (into_iter_items c.next.new.self) (into_iter_items c.loop-node.node-iterator) c.push.new.self c.replace-nodes.new.dest (shown c.replace-nodes.result)
    next c.in_ok-push.ensures.ok (c.replace-nodes.ensures.after ∙ c.new.ensures) (ap shown c.replace-nodes.ensures.value) c.in_ok-push-2.ensures.items c.loop-node.invariant.3 c.loop-node.invariant.4 (sym c.is_whole.ensures ∙ c.if-is_whole.true) in
    (tt, tt, c.loop-node.invariant.2 ∙ ap (λ l. c.loop-node.yielded ++ l) next ∙ sym (append_assoc c.loop-node.yielded (c.in-Some.node ∷ []) (into_iter_items c.next.new.self)), done.0, done.1, done.2)
