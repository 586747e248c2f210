use Rattle.std.proofs.Common.{◌≡◌, ◌++◌, ◌+◌, ◌∷◌, [], drop}
use Rattle.codegen_core.specs.Fields.{at_slots, init, inits_from}
use Rattle.codegen_core.proofs.fields.FieldsGen.initializers.Given as goal

abbrev pub invariant-loop-field : goal.invariant-loop-field
invariant-loop-field l = record {
  kept : inits_from l.initial.slot l.fields ≡ l.inits ++ at_slots (λ slot field. init slot field ∷ []) l.slot (drop l.field-index l.fields);
  counted : l.slot ≡ l.initial.slot + l.field-index;
}
