use Rattle.std.proofs.Common.{◌∙◌, ap, sym, option_and_then, option_copied, slice_get}
use Rattle.util_table.specs.Places.{place_in}
use Rattle.util_table.specs.Table.{row_for, rule_at}
use Rattle.util_table.proofs.Looking.{row_for-place}
use Rattle.util_table.proofs.table.RenameTable.row_for.Goals as goal

pub returns-in_err-get-2 : goal.returns-in_err-get-2
returns-in_err-get-2 c =
    let kind = c.args.kind in
    let identifier = c.args.identifier.now in
    let rows = c.self.inside.rows in
    let found = rw c.as_str-rule.ensures at c.in_err-get-2.ensures.value in
    ap option_copied c.from_residual-in_err-get-2.ensures
    ∙ ap (λ it. option_and_then (slice_get rows) (option_and_then (λ of_rule. place_in of_rule kind identifier) it)) found
    ∙ sym (row_for-place c.self.inside.places rows c.self.invariant.placed c.args.number c.in_ok-get.field-0.now (sym c.in_ok-get.ensures.value) kind identifier)
    ∙ ap (λ it. option_and_then (λ rule. row_for it rule kind identifier) (rule_at it c.args.number)) c.self.view_is

pub returns-in_err-at : goal.returns-in_err-at
returns-in_err-at c =
    let kind = c.args.kind in
    let identifier = c.args.identifier.now in
    let rows = c.self.inside.rows in
    let found = rw c.as_str-rule.ensures at c.in_ok-get-2.ensures.value in
    ap option_copied c.from_residual-in_err-at.ensures
    ∙ ap (option_and_then (slice_get rows)) c.in_err-at.ensures
    ∙ ap (λ it. option_and_then (slice_get rows) (option_and_then (λ of_rule. place_in of_rule kind identifier) it)) found
    ∙ sym (row_for-place c.self.inside.places rows c.self.invariant.placed c.args.number c.in_ok-get.field-0.now (sym c.in_ok-get.ensures.value) kind identifier)
    ∙ ap (λ it. option_and_then (λ rule. row_for it rule kind identifier) (rule_at it c.args.number)) c.self.view_is

pub returns : goal.returns
returns c =
    let kind = c.args.kind in
    let identifier = c.args.identifier.now in
    let rows = c.self.inside.rows in
    let found = rw c.as_str-rule.ensures at c.in_ok-get-2.ensures.value in
    c.get-3.ensures.value
    ∙ ap (option_and_then (slice_get rows)) c.in_ok-at.ensures
    ∙ ap (λ it. option_and_then (slice_get rows) (option_and_then (λ of_rule. place_in of_rule kind identifier) it)) found
    ∙ sym (row_for-place c.self.inside.places rows c.self.invariant.placed c.args.number c.in_ok-get.field-0.now (sym c.in_ok-get.ensures.value) kind identifier)
    ∙ ap (λ it. option_and_then (λ rule. row_for it rule kind identifier) (rule_at it c.args.number)) c.self.view_is
