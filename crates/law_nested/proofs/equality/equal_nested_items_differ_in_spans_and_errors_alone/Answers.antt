use Rattle.law_nested.proofs.Equal.{bad_told, nested_told}
use Rattle.law_nested.proofs.equality.equal_nested_items_differ_in_spans_and_errors_alone.Goals as goal

pub returns-clause-nested_meta : goal.returns-clause-nested_meta
returns-clause-nested_meta c = λ error. record { at = nested_told error }

pub returns-clause-invalid_expr : goal.returns-clause-invalid_expr
returns-clause-invalid_expr c = λ error. record { at = bad_told error }
