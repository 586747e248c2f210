use Rattle.std.proofs.Common.{◌≡◌, flat_map, take}
use Rattle.uses.specs.Fields.{name_in}
use Rattle.uses.proofs.fields.names_of.Given as goal

abbrev pub invariant-loop-field : goal.invariant-loop-field
invariant-loop-field l = l.names ≡ flat_map name_in (take l.field-index l.fields)
