use Rattle.law_options.proofs.Kept.{meta_options_are}
use Rattle.law_options.proofs.laws.meta_options_are_meant.Goals as goal

pub returns : goal.returns
returns c = meta_options_are
