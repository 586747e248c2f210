use Rattle.std.proofs.Common.{◌≡◌, ◌+◌, suc, None, rules, arith}
use Rattle.std.proofs.lemmas.Grind.{common_steps}
use Rattle.std.proofs.lemmas.Result.{err_from_is_err_and}
use Rattle.syn_grammar.specs.Grammar.{within}
use Rattle.syn_grammar.specs.Expressions.{binary_from}
use Rattle.syn_grammar.specs.Look.{at_level, operator_of}
use Rattle.syn_rules.proofs.Kept.{operand-refused, level-refused, level-taken, level-without}
use Rattle.syn_rules.proofs.rules.ExprRules.binary_from.Goals.{then-is_some+in_ok-longer, else-is_some}
use Rattle.syn_rules.proofs.rules.ExprRules.binary_from.Goals as goal

pub returns-in_err-left : goal.returns-in_err-left
returns-in_err-left g c =
    let p = err_from_is_err_and c.from_residual.result c.from_residual.ensures.1 in
    rw (p.1, p.2) (operand-refused (within c.args.self.now.rules.depth) (c.args.self.now.rules.depth + 1) c.args.start c.args.level _ _ _ c.in_err-left.field-0.0 c.in_err-left.ensures)

pub returns-in_err-longer : goal.returns-in_err-longer
returns-in_err-longer g c =
    let p = err_from_is_err_and c.from_residual-in_err-longer.result c.from_residual-in_err-longer.ensures.1 in
    rw (p.1, p.2) (level-refused (within c.args.self.now.rules.depth) (c.args.self.now.rules.depth + 1) c.args.start _ c.args.level _ _ _ _ _ c.in_err-longer.field-0.0 c.loop-below-test.true c.loop-below.invariant.front c.in_err-longer.ensures)

pub loop-below-init : goal.loop-below-init
unfolding binary_from
loop-below-init g c = first_of (search rules, grind (arith, common_steps))

pub loop-below-preserved : goal.loop-below-preserved
loop-below-preserved g c =
    let readers = within c.args.self.now.rules.depth in
    let limit = c.args.self.now.rules.depth + 1 in
    let front = c.loop-below.invariant.front in
    elim c.if-is_some.branch [
      | then-is_some+in_ok-longer w ↦ record {
        front = rw (w.left-is, w.tokens-is) (level-taken readers limit c.args.start c.loop-below.below _ _ _ _ _ front w.in_ok-longer.ensures.0);
        depth = rw (w.left-is, w.depth-is) w.in_ok-longer.ensures.1;
        limit = rw w.depth-is w.in_ok-longer.ensures.2;
      }
      | else-is_some w ↦
          let none : at_level (suc c.loop-below.below) (operator_of c.loop-below.tokens.rest) ≡ None = first_of (search rules, grind (arith, common_steps)) in record {
            front = rw (w.left-is, w.tokens-is) (level-without readers limit c.args.start c.loop-below.below _ _ _ front none);
            depth = rw (w.left-is, w.depth-is) c.loop-below.invariant.depth;
            limit = rw w.depth-is c.loop-below.invariant.limit;
          }
    ]
