use Rattle.std.proofs.Common.{rules}
use Rattle.std.proofs.lemmas.Iterator.{YieldsList-from_slice}
use Rattle.std.proofs.lemmas.Iterator.Search.{all_from_yields_List}
use Rattle.tok_types.specs.Names.{continues_name}
use Rattle.tok_types.proofs.names.all_continue.Goals as goal

pub returns : goal.returns
returns c =
    all_from_yields_List continues_name _ _ c.all.result c.all.ensures.ran (YieldsList-from_slice c.args.text.now cc) (λ x b q k. search rules)
