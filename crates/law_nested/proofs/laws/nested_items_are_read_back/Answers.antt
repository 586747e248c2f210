use Rattle.law_nested.proofs.Exact.{nested-only}
use Rattle.law_nested.proofs.StayBad.{all-shut, no-expr-shut}
use Rattle.law_nested.proofs.Wholes.{nested-back, one-back}
use Rattle.law_nested.proofs.laws.nested_items_are_read_back.Goals as goal

pub returns-clause-nested_of : goal.returns-clause-nested_of
returns-clause-nested_of c = λ tokens items e stay. nested-back tokens items e stay

pub returns-clause-only : goal.returns-clause-only
returns-clause-only c = λ tokens items again e reads same. nested-only tokens items again e reads same

pub returns-clause-one : goal.returns-clause-one
returns-clause-one c = λ tokens item e. one-back tokens item e

pub returns-clause-stay : goal.returns-clause-stay
returns-clause-stay c = λ items shut. all-shut items shut

pub returns-clause-shut : goal.returns-clause-shut
returns-clause-shut c = λ tokens none. no-expr-shut tokens none
