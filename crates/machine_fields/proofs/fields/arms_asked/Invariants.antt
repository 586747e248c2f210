use Rattle.std.proofs.Common.{◌≡◌, ◌++◌, map, drop}
use Rattle.machine_forms.specs.Asks.{seen}
use Rattle.machine_fields.specs.Fields.{reads_by, variants_asked}
use Rattle.machine_fields.proofs.fields.arms_asked.Given as goal

abbrev pub invariant-loop-ask : goal.invariant-loop-ask
invariant-loop-ask l = variants_asked (map seen l.asks) ≡ reads_by l.arms ++ variants_asked (map seen (drop l.ask-index l.asks))
