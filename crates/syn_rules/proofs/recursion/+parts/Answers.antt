use Rattle.std.proofs.Common.{◌≡◌, ap, arith}
use Rattle.syn_grammar.specs.Grammar.{within}
use Rattle.syn_rules.proofs.Within.{ty-within, expr-within, bounds-within}
use Rattle.syn_rules.proofs.recursion.+parts.Goals as goal

pub read_type-returns-then-depth-eq0 : goal.read_type-returns-then-depth-eq0
unfolding within
read_type-returns-then-depth-eq0 t c = let none : c.args.depth ≡ 0 = omega arith in ap (λ depth. (within depth).ty c.args.allow_plus c.args.tokens.now) none

pub read_type-returns : goal.read_type-returns
read_type-returns t c = ty-within c.args.depth c.args.allow_plus _ _ _ (omega arith) c.type_step.ensures

pub read_expr-returns-then-depth-eq0 : goal.read_expr-returns-then-depth-eq0
unfolding within
read_expr-returns-then-depth-eq0 t c = let none : c.args.depth ≡ 0 = omega arith in ap (λ depth. (within depth).expr c.args.level c.args.tokens.now) none

pub read_expr-returns : goal.read_expr-returns
read_expr-returns t c = expr-within c.args.depth c.args.level _ _ _ (omega arith) c.expr_step.ensures

pub constraint_bounds-returns-then-depth-eq0 : goal.constraint_bounds-returns-then-depth-eq0
unfolding within
constraint_bounds-returns-then-depth-eq0 t c = let none : c.args.depth ≡ 0 = omega arith in ap (λ depth. (within depth).bounds c.args.tokens.now) none

pub constraint_bounds-returns : goal.constraint_bounds-returns
constraint_bounds-returns t c = bounds-within c.args.depth _ _ _ (omega arith) c.bounds_step.ensures
