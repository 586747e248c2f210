use Rattle.std.proofs.Common.{[], ◌++◌, map}
use Rattle.receive_core.specs.Checks.{multiple_checks}
use Rattle.receive_core.specs.Reading.{faults_by_item}
use Rattle.receive_core.proofs.SlotLemmas.{values_turn}
use Rattle.receive_core.proofs.items.read_multiple.Goals as goal

pub loop-item-preserved : goal.loop-item-preserved
loop-item-preserved g c =
    let T = g.T.FromMeta in
    values_turn T.cells c.args.name.now c.args.items.now c.loop-item.item-index c.item-item.result c.loop-item-test.true c.item-item.is
    (map T.seen c.loop-item.values) (map T.seen c.take_multiple.new.values) c.loop-item.item_faults c.push.new.self
    (c.args.item_faults.now ++ faults_by_item (multiple_checks T.cells c.args.name.now) [] c.args.items.now) c.in_ok-faults.faults
    c.loop-item.invariant.0 c.loop-item.invariant.1 c.in_ok-faults.ensures.values c.in_ok-faults.ensures.faults c.in_ok-push.ensures.ok
