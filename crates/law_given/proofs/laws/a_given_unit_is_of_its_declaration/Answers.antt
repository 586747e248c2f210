use Rattle.law_given.proofs.Owned.{given_is_of_declarations}
use Rattle.law_given.proofs.laws.a_given_unit_is_of_its_declaration.Goals as goal

pub returns : goal.returns
returns c = given_is_of_declarations
