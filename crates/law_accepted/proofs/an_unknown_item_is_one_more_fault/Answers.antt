use Rattle.law_accepted.proofs.Faults.{one_more_fault}
use Rattle.law_accepted.proofs.an_unknown_item_is_one_more_fault.Goals as goal

pub returns : goal.returns
returns c = one_more_fault
