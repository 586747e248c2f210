use Rattle.std.proofs.Common.{◌≡◌, flat_map, map}
use Rattle.darling_run.specs.Report.{subject_text}
use Rattle.darling_run.proofs.report.report_text.Given as goal

abbrev pub invariant-loop-subject : goal.invariant-loop-subject
invariant-loop-subject l = l.text ≡ flat_map subject_text (map (λ p. (p.0.now, p.1.now)) l.yielded)
