use Rattle.std.proofs.Common.{rules, arith}
use Rattle.tok_lit.proofs.Content.{unescaped-dropped, unescaped-escape}
use Rattle.tok_lit.proofs.quoted.unescaped.Goals as goal

pub loop-i-preserved-then-at-eq10 : goal.loop-i-preserved-then-at-eq10
loop-i-preserved-then-at-eq10 c =
    let z = c.args.content.now in
    let step = unescaped-dropped c.args.byte z c.loop-i.i c.loop-i.value.items _ (omega arith) c.loop-i.invariant (search (rules, c.if-c-ne92)) (search (rules, c.if-at-eq10)) in
    search (rules, step)

pub loop-i-preserved : goal.loop-i-preserved
loop-i-preserved c =
    let z = c.args.content.now in
    let step = unescaped-escape c.args.byte z c.loop-i.i c.loop-i.value.items _ (omega arith) c.loop-i.invariant (search (rules, c.if-c-ne92)) (search (rules, c.if-at-eq10)) in
    search (rules, step)
