use Rattle.std.proofs.Common.{refl}
use Rattle.syn_types.proofs.rules.Rules.types_after.Goals as goal

pub returns : goal.returns
returns g c =
    let known = c.in_ok-found.ensures.knows (record { same = refl; counted = c.requires.found; within = c.requires.within }) in
    (c.in_ok-found.ensures.gives, known.counted, known.within)
