use Rattle.std.proofs.Common.{◌≡◌, ◌∙◌, ap, sym}
use Rattle.std.specs.Option.{option_copied}
use Rattle.error_fault.specs.Outcome.{Value, on_value}
use Rattle.options_rows.specs.Entries.{option_entries}
use Rattle.options_rows.specs.Walk.{read_options}
use Rattle.options_members.proofs.input_field.InputField.from_field.Goals as goal
use Rattle.options_members.specs.Body.{field_meaning, field_start, inherited}
use Rattle.options_members.specs.FieldOptions.{of_field, of_field_faults}

pub returns : goal.returns
unfolding field_meaning
returns c =
    let e : read_options of_field of_field_faults (field_start c.args.field.now) (option_entries c.args.field.now.attrs) ≡ Value c.in_ok-read.read =
    rw (c.in_ok-start.ensures, c.as_slice.ensures) at c.in_ok-read.ensures in
    ap (on_value (inherited c.args.table.now (option_copied c.args.parent))) e ∙ ap Value (sym c.in_ok-whole.ensures)
