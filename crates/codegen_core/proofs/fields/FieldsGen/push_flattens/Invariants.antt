use Rattle.std.proofs.Common.{◌≡◌, ◌++◌, drop}
use Rattle.codegen_core.specs.Fields.{at_slots, flatten}
use Rattle.codegen_core.proofs.fields.FieldsGen.push_flattens.Given as goal

abbrev pub invariant-loop-field : goal.invariant-loop-field
invariant-loop-field l = record {
  kept : l.initial.stmts ++ at_slots (flatten l.names) 0 l.fields ≡ l.stmts ++ at_slots (flatten l.names) l.slot (drop l.field-index l.fields);
  counted : l.slot ≡ l.field-index;
}
