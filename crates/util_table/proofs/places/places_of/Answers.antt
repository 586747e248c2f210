use Rattle.std.proofs.Common.{◌<◌, ◌∙◌, ◌&&◌, ap, sym, length, arith}
use Rattle.util_table.specs.Places.{or_at}
use Rattle.util_table.specs.Table.{has_rule, is_for}
use Rattle.util_table.proofs.FirstPlaces.{position-more}
use Rattle.util_table.proofs.places.places_of.Goals as goal

pub loop-at-preserved : goal.loop-at-preserved
loop-at-preserved c =
    let at = c.loop-at.at in
    let row = c.index-rows-at.result in
    let within : at < length c.args.rows.now = omega arith in
    record {
      first = λ rule.
          c.in_ok-add_row.ensures.first rule ∙ ap (λ found. or_at found (has_rule rule row) at) (c.loop-at.invariant.first rule)
          ∙ sym (position-more (has_rule rule) c.args.rows.now at row within c.index-rows-at.is);
      rest = λ rule kind identifier.
          c.in_ok-add_row.ensures.rest rule kind identifier
          ∙ ap (λ found. or_at found (has_rule rule row && is_for kind identifier row) at) (c.loop-at.invariant.rest rule kind identifier)
          ∙ sym (position-more (λ it. has_rule rule it && is_for kind identifier it) c.args.rows.now at row within c.index-rows-at.is);
    }
