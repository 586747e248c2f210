use Rattle.std.proofs.Common.{◌≡◌, drop}
use Rattle.std.specs.Option.{option_copied}
use Rattle.error_core.specs.Each.{behind, each}
use Rattle.options_members.proofs.input_variant.read_fields.Given as goal
use Rattle.options_members.specs.Body.{field_meaning}

abbrev pub invariant-loop-field : goal.invariant-loop-field
invariant-loop-field l =
    let meaning = field_meaning l.table (option_copied l.parent) in
    each meaning l.fields ≡ behind l.read (each meaning (drop l.field-index l.fields))
