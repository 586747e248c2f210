use Rattle.std.proofs.Common.{◌≡◌, ◌++◌, drop}
use Rattle.std.specs.Prelude.{flat_map}
use Rattle.error_core.specs.ErrorView.{held}
use Rattle.options_members.proofs.input_field.InputField.push_all.Given as goal
use Rattle.options_members.specs.FieldOptions.{clash_of}

abbrev pub invariant-loop-name : goal.invariant-loop-name
invariant-loop-name l =
    held l.errors ++ flat_map (clash_of l.self l.item) (drop l.name-index l.names) ≡ held l.initial.errors ++ flat_map (clash_of l.self l.item) l.names
