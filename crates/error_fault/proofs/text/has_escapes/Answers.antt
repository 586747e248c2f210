use Rattle.std.proofs.Common.{rules}
use Rattle.std.proofs.lemmas.Iterator.{YieldsList-from_slice}
use Rattle.std.proofs.lemmas.Iterator.Search.{any_from_yields_List}
use Rattle.error_fault.specs.FaultText.{has_escape}
use Rattle.error_fault.proofs.text.has_escapes.Goals as goal

pub returns : goal.returns
returns c =
    any_from_yields_List has_escape _ _ c.any.result c.any.ensures.ran (YieldsList-from_slice c.args.text.now cc) (λ x b q k. search rules)
