use Rattle.std.proofs.Common.{refl, arith}
use Rattle.syn_types.proofs.rules.Rules.angle_arguments.Goals as goal

pub returns : goal.returns
returns g c =
    let known = c.in_ok-found.ensures.knows (record { same = refl; counted = refl; within = omega arith }) in
    (c.in_ok-found.ensures.gives, known.counted, known.within)
