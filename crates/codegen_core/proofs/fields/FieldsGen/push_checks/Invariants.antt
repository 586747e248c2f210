use Rattle.std.proofs.Common.{◌≡◌, ◌++◌, ◌+◌, drop}
use Rattle.codegen_core.specs.Fields.{at_slots, check}
use Rattle.codegen_core.proofs.fields.FieldsGen.push_checks.Given as goal

abbrev pub invariant-loop-field : goal.invariant-loop-field
invariant-loop-field l = record {
  kept : l.initial.stmts ++ at_slots check l.initial.slot l.fields ≡ l.stmts ++ at_slots check l.slot (drop l.field-index l.fields);
  counted : l.slot ≡ l.initial.slot + l.field-index;
}
