use Rattle.std.proofs.Common.{◌≡◌, take}
use Rattle.machine_value.proofs.clone.+clone.Given as goal

abbrev pub invariant-clone_values-loop-value : goal.invariant-clone_values-loop-value
invariant-clone_values-loop-value l = l.copies ≡ take l.value-index l.value-items

abbrev pub invariant-clone_fields-loop-field : goal.invariant-clone_fields-loop-field
invariant-clone_fields-loop-field l = l.copies ≡ take l.field-index l.field-items
