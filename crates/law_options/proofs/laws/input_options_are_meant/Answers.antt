use Rattle.law_options.proofs.Elements.{input_elements_are}
use Rattle.law_options.proofs.laws.input_options_are_meant.Goals as goal

pub returns : goal.returns
returns c = input_elements_are
