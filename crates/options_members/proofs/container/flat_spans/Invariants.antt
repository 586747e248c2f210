use Rattle.std.proofs.Common.{◌≡◌, ◌++◌, drop}
use Rattle.options_members.proofs.container.flat_spans.Given as goal
use Rattle.options_members.specs.Body.{flat_spans}

abbrev pub invariant-loop-field : goal.invariant-loop-field
invariant-loop-field l = l.spans ++ flat_spans (drop l.field-index l.fields) ≡ flat_spans l.fields
