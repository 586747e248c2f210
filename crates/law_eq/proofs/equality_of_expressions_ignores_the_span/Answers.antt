use Rattle.std.proofs.Common.{rules, ◌∙◌, sym}
use Rattle.node_expr.specs.contracts.expr.ExprEq.TheImpl.Laws as expr_law
use Rattle.node_expr.specs.contracts.expr.ExprPartialEq.TheImpl.Laws as expr_eq
use Rattle.node_expr.specs.declared.expr.Expr.{the_lemmas}
use Rattle.node_expr.specs.declared.expr.Expr.TheVariants as expr
use Rattle.law_eq.proofs.equality_of_expressions_ignores_the_span.Goals as goal

pub returns-clause-repeat : goal.returns-clause-repeat
returns-clause-repeat c = λ inner len span other.
    let same = sym (expr_eq.is (expr.Repeat inner len span) (expr.Repeat inner len span)) ∙ expr_law.laws-law.refl (expr.Repeat inner len span) in
    search (rules, the_lemmas, expr_eq.is, same)

pub returns-clause-tuple : goal.returns-clause-tuple
returns-clause-tuple c = λ elems span other.
    let same = sym (expr_eq.is (expr.Tuple elems span) (expr.Tuple elems span)) ∙ expr_law.laws-law.refl (expr.Tuple elems span) in
    search (rules, the_lemmas, expr_eq.is, same)

pub returns-clause-paren : goal.returns-clause-paren
returns-clause-paren c = λ inner span other.
    let same = sym (expr_eq.is (expr.Paren inner span) (expr.Paren inner span)) ∙ expr_law.laws-law.refl (expr.Paren inner span) in
    search (rules, the_lemmas, expr_eq.is, same)

pub returns-clause-group : goal.returns-clause-group
returns-clause-group c = λ inner span other.
    let same = sym (expr_eq.is (expr.Group inner span) (expr.Group inner span)) ∙ expr_law.laws-law.refl (expr.Group inner span) in
    search (rules, the_lemmas, expr_eq.is, same)

pub returns-clause-unary : goal.returns-clause-unary
returns-clause-unary c = λ op inner span other.
    let same = sym (expr_eq.is (expr.Unary op inner span) (expr.Unary op inner span)) ∙ expr_law.laws-law.refl (expr.Unary op inner span) in
    search (rules, the_lemmas, expr_eq.is, same)

pub returns-clause-reference : goal.returns-clause-reference
returns-clause-reference c = λ mutable inner span other.
    let same = sym (expr_eq.is (expr.Reference mutable inner span) (expr.Reference mutable inner span)) ∙ expr_law.laws-law.refl (expr.Reference mutable inner span) in
    search (rules, the_lemmas, expr_eq.is, same)

pub returns-clause-binary : goal.returns-clause-binary
returns-clause-binary c = λ left op right span other.
    let same = sym (expr_eq.is (expr.Binary left op right span) (expr.Binary left op right span)) ∙ expr_law.laws-law.refl (expr.Binary left op right span) in
    search (rules, the_lemmas, expr_eq.is, same)

pub returns-clause-call : goal.returns-clause-call
returns-clause-call c = λ func args span other.
    let same = sym (expr_eq.is (expr.Call func args span) (expr.Call func args span)) ∙ expr_law.laws-law.refl (expr.Call func args span) in
    search (rules, the_lemmas, expr_eq.is, same)

pub returns-clause-method_call : goal.returns-clause-method_call
returns-clause-method_call c = λ receiver method turbofish args span other.
    let same = sym (expr_eq.is (expr.MethodCall receiver method turbofish args span) (expr.MethodCall receiver method turbofish args span)) ∙ expr_law.laws-law.refl (expr.MethodCall receiver method turbofish args span) in
    search (rules, the_lemmas, expr_eq.is, same)

pub returns-clause-member : goal.returns-clause-member
returns-clause-member c = λ base member span other.
    let same = sym (expr_eq.is (expr.Field base member span) (expr.Field base member span)) ∙ expr_law.laws-law.refl (expr.Field base member span) in
    search (rules, the_lemmas, expr_eq.is, same)

pub returns-clause-index : goal.returns-clause-index
returns-clause-index c = λ inner index span other.
    let same = sym (expr_eq.is (expr.Index inner index span) (expr.Index inner index span)) ∙ expr_law.laws-law.refl (expr.Index inner index span) in
    search (rules, the_lemmas, expr_eq.is, same)

pub returns-clause-question : goal.returns-clause-question
returns-clause-question c = λ inner span other.
    let same = sym (expr_eq.is (expr.Try inner span) (expr.Try inner span)) ∙ expr_law.laws-law.refl (expr.Try inner span) in
    search (rules, the_lemmas, expr_eq.is, same)

pub returns-clause-block : goal.returns-clause-block
returns-clause-block c = λ stmts last span other.
    let same = sym (expr_eq.is (expr.Block stmts last span) (expr.Block stmts last span)) ∙ expr_law.laws-law.refl (expr.Block stmts last span) in
    search (rules, the_lemmas, expr_eq.is, same)

pub returns-clause-infer : goal.returns-clause-infer
returns-clause-infer c = λ span other.
    let same = sym (expr_eq.is (expr.Infer span) (expr.Infer span)) ∙ expr_law.laws-law.refl (expr.Infer span) in
    search (rules, the_lemmas, expr_eq.is, same)
