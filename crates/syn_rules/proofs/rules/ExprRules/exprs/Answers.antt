use Rattle.std.proofs.Common.{refl}
use Rattle.syn_rules.proofs.rules.ExprRules.exprs.Goals as goal

pub returns : goal.returns
returns g c =
    let known = c.in_ok-found.ensures.knows (record { same = refl; counted = c.requires.depth; within = c.requires.limit }) in
    (c.in_ok-found.ensures.gives, known.counted, known.within)
