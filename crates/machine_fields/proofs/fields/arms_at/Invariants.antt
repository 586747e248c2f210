use Rattle.std.proofs.Common.{◌≡◌, ◌++◌, drop}
use Rattle.machine_fields.specs.Fields.{reads_by, variants_at}
use Rattle.machine_fields.proofs.fields.arms_at.Given as goal

abbrev pub invariant-loop-variant : goal.invariant-loop-variant
invariant-loop-variant l = variants_at 0 (reads_by l.arms) l.variants ≡ l.places ++ variants_at l.first (reads_by l.rest) (drop l.variant-index l.variants)
