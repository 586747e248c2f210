use Rattle.law_places.proofs.Fronts.{argument-stands, bound-stands, expr-stands, fn_arg-stands, index-stands, inputs-stand, lifetime-stands, literal-stands, name-stands, named_arg-stands, path-stands, segment-stands, type-stands}
use Rattle.law_places.proofs.laws.prefixes_stand_where_they_are_read.Goals as goal

pub returns-clause-ty : goal.returns-clause-ty
returns-clause-ty c = type-stands

pub returns-clause-expr : goal.returns-clause-expr
returns-clause-expr c = expr-stands

pub returns-clause-path : goal.returns-clause-path
returns-clause-path c = path-stands

pub returns-clause-segment : goal.returns-clause-segment
returns-clause-segment c = segment-stands

pub returns-clause-argument : goal.returns-clause-argument
returns-clause-argument c = argument-stands

pub returns-clause-bound : goal.returns-clause-bound
returns-clause-bound c = bound-stands

pub returns-clause-named_arg : goal.returns-clause-named_arg
returns-clause-named_arg c = named_arg-stands

pub returns-clause-fn_arg : goal.returns-clause-fn_arg
returns-clause-fn_arg c = fn_arg-stands

pub returns-clause-name : goal.returns-clause-name
returns-clause-name c = name-stands

pub returns-clause-lifetime : goal.returns-clause-lifetime
returns-clause-lifetime c = lifetime-stands

pub returns-clause-literal : goal.returns-clause-literal
returns-clause-literal c = literal-stands

pub returns-clause-index : goal.returns-clause-index
returns-clause-index c = index-stands

pub returns-clause-inputs : goal.returns-clause-inputs
returns-clause-inputs c = inputs-stand
