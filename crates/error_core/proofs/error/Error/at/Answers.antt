use Rattle.std.proofs.Common.{rules}
use Rattle.error_core.proofs.ToldLemmas.{leaves-is_located}
use Rattle.error_core.proofs.error.Error.at.Goals as goal

pub returns-clause-told : goal.returns-clause-told
returns-clause-told c = search rules

pub returns-clause-leaves : goal.returns-clause-leaves
returns-clause-leaves c = leaves-is_located _ _ _ (returns-clause-told c)
