use Rattle.std.proofs.Common.{arith}
use Rattle.std.proofs.lemmas.Grind.{common_steps}
use Rattle.options_rows.specs.Members.{variant_or}
use Rattle.options_rows.proofs.PrefixLemmas.{after_members_next}
use Rattle.options_rows.proofs.parse_data.parse_variants.Goals as goal

pub loop-variant-preserved : goal.loop-variant-preserved
loop-variant-preserved g c =
    let takes = variant_or g.T.ParseData.of_variant c.args.table.now in
    let stands = c.loop-variant.invariant.left in
    record {
      left = after_members_next takes _ _ _ _ _ _ c.loop-variant-test.true c.variant-item.is stands c.in_ok-parse_one_variant.ensures.ok.0;
      faults = grind (arith, common_steps);
    }
