use Rattle.std.proofs.Common.{rules, arith}
use Rattle.std.proofs.lemmas.Grind.{common_steps}
use Rattle.syn_core.proofs.parse.whole.Goals as goal

pub returns-in-Some : goal.returns-in-Some
returns-in-Some g c = λ outcome gives.
    let found = c.in_ok-tree.ensures outcome gives in
    first_of (search rules, grind (arith, common_steps))

pub returns-in-None : goal.returns-in-None
returns-in-None g c = λ outcome gives.
    let found = c.in_ok-tree.ensures outcome gives in
    first_of (search rules, grind (arith, common_steps))
