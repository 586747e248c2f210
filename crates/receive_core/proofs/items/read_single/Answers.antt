use Rattle.std.proofs.Common.{[], ◌++◌}
use Rattle.receive_core.specs.Checks.{single_checks}
use Rattle.receive_core.specs.Reading.{faults_by_item}
use Rattle.receive_core.specs.Steps.{slot_seen}
use Rattle.receive_core.proofs.SlotLemmas.{slot_turn}
use Rattle.receive_core.proofs.items.read_single.Goals as goal

pub loop-item-preserved : goal.loop-item-preserved
loop-item-preserved g c =
    let T = g.T.FromMeta in
    slot_turn T.cells c.args.name.now c.args.items.now c.loop-item.item-index c.item-item.result c.loop-item-test.true c.item-item.is
    (slot_seen T.seen c.loop-item.slot) (slot_seen T.seen c.take_single.new.slot) c.loop-item.item_faults c.push.new.self
    (c.args.item_faults.now ++ faults_by_item (single_checks T.cells c.args.name.now) [] c.args.items.now) c.in_ok-faults.faults
    c.loop-item.invariant.0 c.loop-item.invariant.1 c.in_ok-faults.ensures.slot c.in_ok-faults.ensures.faults c.in_ok-push.ensures.ok
