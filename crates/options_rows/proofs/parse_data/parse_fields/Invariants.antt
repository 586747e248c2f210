use Rattle.std.proofs.Common.{◌≡◌, ◌++◌, drop, take}
use Rattle.error_core.specs.ErrorView.{held}
use Rattle.options_rows.specs.Members.{after_members, members_faults, field_or}
use Rattle.options_rows.proofs.parse_data.parse_fields.Given as goal

abbrev pub invariant-loop-field : goal.invariant-loop-field
invariant-loop-field g l =
    let takes = field_or g.T.ParseData.of_field l.table in
    let rest = drop l.field-index l.fields in
    record {
      left : l.target ≡ after_members takes l.initial.target (take l.field-index l.fields);
      faults : held l.errors ++ members_faults takes l.target rest ≡ held l.initial.errors ++ members_faults takes l.initial.target l.fields;
    }
