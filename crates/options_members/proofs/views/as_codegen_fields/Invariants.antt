use Rattle.std.proofs.Common.{take}
use Rattle.std.specs.List.{AllZip}
use Rattle.options_members.proofs.views.as_codegen_fields.Given as goal
use Rattle.options_members.specs.Views.{IsField}

abbrev pub invariant-loop-field : goal.invariant-loop-field
invariant-loop-field l = AllZip IsField l.shown.items (take l.field-index l.fields)
