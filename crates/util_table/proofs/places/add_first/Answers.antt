use Rattle.std.proofs.Common.{◌∙◌, sym, Some}
use Rattle.std.specs.BTreeMap.{get_by_text}
use Rattle.std.proofs.lemmas.Map.Text.{btree_map_updates_text}
use Rattle.util_table.proofs.Adding.{or_at-new}
use Rattle.util_table.proofs.places.add_first.Goals as goal

pub returns-in_ok-insert : goal.returns-in_ok-insert
returns-in_ok-insert c other =
    let put = btree_map_updates_text _ c.args.places.now c.insert.new.self (Some c.args.at) c.in_ok-insert.ensures.updates other in
    rw c.in_ok-from_str.ensures.ok at put
    ∙ or_at-new (get_by_text c.args.places.now) c.args.text.now other c.args.at (sym c.contains_key.ensures ∙ c.if-not-contains_key.true)
