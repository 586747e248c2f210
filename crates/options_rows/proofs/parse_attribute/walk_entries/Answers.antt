use Rattle.std.proofs.Common.{arith}
use Rattle.std.proofs.lemmas.Grind.{common_steps}
use Rattle.options_rows.specs.Entries.{option_item}
use Rattle.options_rows.proofs.PrefixLemmas.{walk_state_next, walk_state_stopped}
use Rattle.options_rows.proofs.parse_attribute.walk_entries.Goals as goal

pub loop-entry-preserved : goal.loop-entry-preserved
loop-entry-preserved g c =
    let options = g.T.ParseAttribute.options c.args.table.now in
    let faults = g.T.ParseAttribute.faults c.args.table.now in
    let stands = c.loop-entry.invariant.left in
    record {
      left =
          walk_state_next options faults option_item _ _ _ _ _ _ c.loop-entry-test.true c.entry-item.is stands c.in_ok-walk_entry.ensures.ok.0;
      faults = grind (arith, common_steps);
    }

pub returns-in_err-walk_entry-clause-err : goal.returns-in_err-walk_entry-clause-err
returns-in_err-walk_entry-clause-err g c =
    let options = g.T.ParseAttribute.options c.args.table.now in
    let faults = g.T.ParseAttribute.faults c.args.table.now in
    let stands = c.loop-entry.invariant.left in
    walk_state_stopped options faults option_item _ _ _ _ _ _ _ c.loop-entry-test.true c.entry-item.is stands c.in_err-walk_entry.ensures.err
