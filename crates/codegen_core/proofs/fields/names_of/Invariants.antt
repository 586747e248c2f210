use Rattle.std.proofs.Common.{◌≡◌, ◌++◌, drop}
use Rattle.std.specs.List.{filter_map}
use Rattle.codegen_core.specs.Fields.{name_of, names}
use Rattle.codegen_core.proofs.fields.names_of.Given as goal

abbrev pub invariant-loop-field : goal.invariant-loop-field
invariant-loop-field l = names l.fields ≡ l.names ++ filter_map name_of (drop l.field-index l.fields)
