use Rattle.std.proofs.Common.{arith}
use Rattle.std.proofs.lemmas.Grind.{common_steps}
use Rattle.tok_core.proofs.Escapes.{escaped-take_more, encodes-quoted}
use Rattle.tok_core.proofs.quoting.quoted_characters.Goals as goal

pub loop-c-preserved : goal.loop-c-preserved
loop-c-preserved c =
    let e = escaped-take_more c.args.characters.now c.loop-c.c-index c.c-item.result (omega arith) in
    cc (e, c.c-item.is, c.in_ok-push_escaped.ensures, c.loop-c.invariant)

pub returns : goal.returns
returns c =
    let e = encodes-quoted c.args.characters.now in
    grind (arith, common_steps)
