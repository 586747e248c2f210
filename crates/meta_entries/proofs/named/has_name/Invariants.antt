use Rattle.std.proofs.Common.{◌≡◌, drop}
use Rattle.meta_entries.specs.Attributes as spec
use Rattle.meta_entries.proofs.named.has_name.Given as goal

abbrev pub invariant-loop-other : goal.invariant-loop-other
invariant-loop-other l = spec.has_name (drop l.other-index l.names) l.name ≡ spec.has_name l.names l.name
