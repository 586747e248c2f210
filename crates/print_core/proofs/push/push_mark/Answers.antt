use Rattle.std.proofs.Common.{rules, arith}
use Rattle.std.proofs.lemmas.Grind.{common_steps}
use Rattle.print_core.proofs.Fronts.{front}
use Rattle.print_core.proofs.Marks.{mark-from, mark-past}
use Rattle.print_core.proofs.push.push_mark.Goals as goal

pub loop-i-preserved : goal.loop-i-preserved
loop-i-preserved c =
    let e = mark-from c.loop-i.i c.args.characters.now c.args.span c.loop-i-test.true in
    record { written = search (rules, common_steps); front = grind (arith, common_steps, front) }

pub returns-clause-ok : goal.returns-clause-ok
returns-clause-ok c =
    let e = mark-past c.loop-i.i c.args.characters.now c.args.span c.loop-i-test.false in
    search (rules, common_steps)
