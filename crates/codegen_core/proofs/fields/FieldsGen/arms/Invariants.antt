use Rattle.std.proofs.Common.{◌≡◌, ◌++◌, ◌+◌, drop}
use Rattle.codegen_core.specs.Fields.{at_slots, arm, arms_from}
use Rattle.codegen_core.proofs.fields.FieldsGen.arms.Given as goal

abbrev pub invariant-loop-field : goal.invariant-loop-field
invariant-loop-field l = record {
  kept : arms_from l.initial.slot l.fields ≡ l.arms ++ at_slots arm l.slot (drop l.field-index l.fields);
  counted : l.slot ≡ l.initial.slot + l.field-index;
}
