use Rattle.std.proofs.Common.{◌≡◌, eqb, true, false, drop, sym, ◌∙◌, arith}
use Rattle.std.proofs.lemmas.Bool.Decides.{nat_tests}
use Rattle.std.proofs.lemmas.List.{length-drop}
use Rattle.tok_scan.proofs.Steps.{comment_end-short, comment_end-closes, comment_end-ends, comment_end-opens, comment_end-goes_on}
use Rattle.tok_scan.proofs.comments.comment_end.Goals as goal

pub loop-i-preserved-then-is_pair_at : goal.loop-i-preserved-then-is_pair_at
loop-i-preserved-then-is_pair_at c =
    let deeper : eqb c.loop-i.depth 1 ≡ false = grind (arith, nat_tests) in
    record { same = comment_end-closes c.loop-i.depth c.loop-i.i c.args.text.now (omega arith) (cc) deeper ∙ c.loop-i.invariant.same; within = omega arith; depth = omega arith; deep = omega arith; from = omega arith }

pub returns-then-depth-eq1-clause-value : goal.returns-then-depth-eq1-clause-value
returns-then-depth-eq1-clause-value c =
    let last : eqb c.loop-i.depth 1 ≡ true = grind (arith, nat_tests) in
    comment_end-ends c.loop-i.depth c.loop-i.i c.args.text.now (omega arith) (cc) last ∙ c.loop-i.invariant.same

pub loop-i-preserved-then-is_pair_at-2 : goal.loop-i-preserved-then-is_pair_at-2
loop-i-preserved-then-is_pair_at-2 c =
    record { same = comment_end-opens c.loop-i.depth c.loop-i.i c.args.text.now (omega arith) (cc) (cc) ∙ c.loop-i.invariant.same; within = omega arith; depth = omega arith; deep = omega arith; from = omega arith }

pub loop-i-preserved : goal.loop-i-preserved
loop-i-preserved c =
    record { same = comment_end-goes_on c.loop-i.depth c.loop-i.i c.args.text.now (omega arith) (cc) (cc) ∙ c.loop-i.invariant.same; within = omega arith; depth = omega arith; deep = omega arith; from = omega arith }

pub returns-clause-value : goal.returns-clause-value
returns-clause-value c =
    sym (sym c.loop-i.invariant.same ∙ comment_end-short c.loop-i.depth c.loop-i.i (drop c.loop-i.i c.args.text.now) (omega (arith, length-drop c.loop-i.i c.args.text.now)))
