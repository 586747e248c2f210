use Rattle.std.proofs.Common.{flat_map, ap, ◌∙◌}
use Rattle.std.proofs.lemmas.Iterator.{YieldsList-from_slice, YieldsList-from_zip}
use Rattle.std.proofs.lemmas.Iterator.Consumers.{YieldsList-end}
use Rattle.darling_run.specs.Report.{subject_text}
use Rattle.darling_run.proofs.report.report_text.Goals as goal

-- the pairs that came are all of the subjects with their outcomes
pub returns : goal.returns
returns c =
    let end = YieldsList-end
    (YieldsList-from_zip
    (YieldsList-from_slice c.args.report.now.subjects cc)
    (YieldsList-from_slice c.args.report.now.outcomes cc))
    c.loop-subject.yielded _ c.loop-subject.yielded_by c.next.result c.next.new.self c.in-None.is c.next.ensures.steps in
    c.loop-subject.invariant ∙ ap (flat_map subject_text) end.0
