use Rattle.tok_lit.specs.Reading.{value_of}
use Rattle.tok_lit.proofs.Literals.{IsValue-literal, IsValue-value_of, whole}
use Rattle.tok_lit.proofs.laws.literals_have_values.Goals as goal

pub returns-clause-literal : goal.returns-clause-literal
returns-clause-literal c = λ text v h. whole text (IsValue-literal text v h)

pub returns-clause-valued : goal.returns-clause-valued
returns-clause-valued c = λ text p. (value_of text, IsValue-value_of text p.piece)
