use Rattle.std.proofs.Common.{sym, ◌∙◌}
use Rattle.std.proofs.lemmas.Bool.{true≢false}
use Rattle.tok_lit.proofs.Literals.{IsLiteral-found, literal-kind, literal-length, no-literal}
use Rattle.tok_lit.proofs.value.is_literal.Goals as goal

pub returns-in-Some-clause-literal : goal.returns-in-Some-clause-literal
returns-in-Some-clause-literal c = λ t.
    let w = c.is_whole.ensures.0 t in
    IsLiteral-found c.args.text.now c.in-Some.found (sym c.piece.ensures.value ∙ c.in-Some.is) w.0 w.1

pub returns-in-Some-clause-other : goal.returns-in-Some-clause-other
returns-in-Some-clause-other c = λ f p.
    let e = sym c.piece.ensures.value ∙ c.in-Some.is in
    let t = c.is_whole.ensures.1 (literal-kind c.args.text.now c.in-Some.found e p, literal-length c.args.text.now c.in-Some.found e p) in
    true≢false (sym t ∙ f)

pub returns-in-None-clause-other : goal.returns-in-None-clause-other
returns-in-None-clause-other c = λ f. no-literal c.args.text.now (sym c.piece.ensures.value ∙ c.in-None.is)
