use Rattle.std.proofs.Common.{arith}
use Rattle.std.proofs.lemmas.Grind.{common_steps}
use Rattle.options_rows.specs.Members.{field_or}
use Rattle.options_rows.proofs.PrefixLemmas.{after_members_next}
use Rattle.options_rows.proofs.parse_data.parse_fields.Goals as goal

pub loop-field-preserved : goal.loop-field-preserved
loop-field-preserved g c =
    let takes = field_or g.T.ParseData.of_field c.args.table.now in
    let stands = c.loop-field.invariant.left in
    record {
      left = after_members_next takes _ _ _ _ _ _ c.loop-field-test.true c.field-item.is stands c.in_ok-parse_one_field.ensures.ok.0;
      faults = grind (arith, common_steps);
    }
