use Rattle.law_accepted.proofs.Report.{report_fits}
use Rattle.law_accepted.proofs.the_values_of_a_report_fit_the_receiver.Goals as goal

pub returns : goal.returns
returns c = report_fits
