use Rattle.std.proofs.Common.{◌∙◌, ap, sym, Some, true, bytes_eq, refl, string_bytes, option_map, option_and_then}
use Rattle.std.specs.BTreeMap.{get_by_text}
use Rattle.std.specs.Map.{update}
use Rattle.std.proofs.lemmas.Map.Text.{btree_map_updates_text}
use Rattle.util_table.specs.Places.{or_at, place_in}
use Rattle.util_table.specs.Table.{is_for}
use Rattle.util_table.proofs.Adding.{AddsRow-put, on_both}
use Rattle.util_table.proofs.places.add_row.Goals as goal

pub returns-in-Some : goal.returns-in-Some
returns-in-Some c =
    let old = c.args.places.now in
    let new = c.get_mut.follows.lender c.add.new.self in
    let row = c.args.row.now in
    let found = rw c.as_str-rule.ensures at c.in-Some.ensures.value in
    let put = (c.get_mut.follows.holds c.add.new.self).3 (rw (sym c.in-Some.ensures.value) refl) in
    on_both c.add.result c.add.ensures.first c.add.ensures.rest (λ first rest.
    AddsRow-put old new row c.args.at c.add.new.self
    (λ rule. rw c.as_str-rule.ensures at (btree_map_updates_text _ old new (Some c.add.new.self) put rule))
    (ap Some first ∙ ap (λ it. or_at (option_map (λ of_rule. of_rule.first) it) true c.args.at) found)
    (λ kind identifier. rest kind identifier ∙ ap (λ it. or_at (option_and_then (λ of_rule. place_in of_rule kind identifier) it) (is_for kind identifier row) c.args.at) found))

pub returns : goal.returns
returns c =
    let old = c.args.places.now in
    let new = c.insert.new.self in
    let row = c.args.row.now in
    let same = c.get_mut.follows.holds-at-none in
    let found = rw c.as_str-rule.ensures at c.in_default.ensures.value in
    let put = c.in_ok-insert.ensures.updates in
    AddsRow-put old new row c.args.at c.add-2.new.self
    (λ rule. rw (c.in_ok-from_str.ensures.ok, c.as_str-rule.ensures) at (btree_map_updates_text (string_bytes c.in_ok-from_str.field-0) c.get_mut.follows.lender-at-none new (Some c.add-2.new.self) put rule) ∙ ap (λ it. update bytes_eq (get_by_text it) row.rule (Some c.add-2.new.self) rule) same)
    (ap Some (c.in_ok-add.ensures.first ∙ c.new-of_rule.ensures.first) ∙ ap (λ it. or_at (option_map (λ of_rule. of_rule.first) it) true c.args.at) found)
    (λ kind identifier. c.in_ok-add.ensures.rest kind identifier ∙ ap (λ it. or_at it (is_for kind identifier row) c.args.at) (c.new-of_rule.ensures.empty kind identifier) ∙ ap (λ it. or_at (option_and_then (λ of_rule. place_in of_rule kind identifier) it) (is_for kind identifier row) c.args.at) found)
