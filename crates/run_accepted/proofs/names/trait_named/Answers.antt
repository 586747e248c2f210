use Rattle.run_accepted.proofs.TraitLemmas.{differs}
use Rattle.run_accepted.proofs.names.trait_named.Goals as goal

pub returns-in_default : goal.returns-in_default
returns-in_default c =
    let n = c.in_default in
    simp (differs _ _ n.not-FromMeta, differs _ _ n.not-FromAttributes, differs _ _ n.not-FromDeriveInput, differs _ _ n.not-FromField, differs _ _ n.not-FromTypeParam, differs _ _ n.not-FromVariant)
