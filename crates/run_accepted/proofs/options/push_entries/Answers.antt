use Rattle.std.proofs.Common.{◌∙◌}
use Rattle.run_accepted.proofs.WalkLemmas.{next_places}
use Rattle.run_accepted.proofs.options.push_entries.Goals as goal

pub loop-entry-preserved : goal.loop-entry-preserved
loop-entry-preserved c =
    next_places c.loop-entry.spans c.push_entry.new.spans c.args.entries.now c.loop-entry.entry-index c.entry-item.result
    c.loop-entry-test.true c.entry-item.is c.in_ok-push_entry.ensures
    ∙ c.loop-entry.invariant
