use Rattle.node_make.proofs.PathTexts.{same_text}
use Rattle.law_eq.proofs.the_text_of_a_path_is_of_its_identifiers.Goals as goal

pub returns : goal.returns
returns c = λ a b same. same_text a b same
