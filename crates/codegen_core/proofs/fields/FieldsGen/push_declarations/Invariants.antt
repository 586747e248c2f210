use Rattle.std.proofs.Common.{◌≡◌, ◌++◌, ◌+◌, drop}
use Rattle.codegen_core.specs.Fields.{at_slots, declaration}
use Rattle.codegen_core.proofs.fields.FieldsGen.push_declarations.Given as goal

abbrev pub invariant-loop-field : goal.invariant-loop-field
invariant-loop-field l = record {
  kept : l.initial.stmts ++ at_slots declaration l.initial.slot l.fields ≡ l.stmts ++ at_slots declaration l.slot (drop l.field-index l.fields);
  counted : l.slot ≡ l.initial.slot + l.field-index;
}
