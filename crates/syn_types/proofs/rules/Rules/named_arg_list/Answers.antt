use Rattle.std.proofs.Common.{refl, arith}
use Rattle.syn_types.proofs.rules.Rules.named_arg_list.Goals as goal

pub returns : goal.returns
returns g c =
    let read = rw c.new.ensures at c.in_ok-found.ensures in
    let known = read.knows (record { same = refl; counted = refl; within = omega arith }) in
    (read.gives, known.counted, known.within)
