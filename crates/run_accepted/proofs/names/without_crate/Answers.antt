use Rattle.run_accepted.proofs.TraitLemmas.{derive_named-whole}
use Rattle.run_accepted.proofs.names.without_crate.Goals as goal

pub returns-in-None-strip_prefix : goal.returns-in-None-strip_prefix
returns-in-None-strip_prefix c = derive_named-whole c.args.text.now c.in-None.ensures.cases c.in-None-strip_prefix.ensures.cases
