-- What is read as the item of an option.
use Rattle.std.proofs.Common.{◌≡◌, ◌∙◌, ap, refl, Result, Ok, Err, List}
use Rattle.node_expr.specs.declared.expr.Expr.{Expr}
use Rattle.node_expr.specs.declared.path.Path.{Path}
use Rattle.error_fault.specs.Outcome.{Outcome, Value, on_value}
use Rattle.error_core.specs.Answers.{Answers}
use Rattle.error_core.specs.declared.fail.Fail.{Fail}
use Rattle.error_core.specs.declared.fail.Fail.TheVariants as fails
use Rattle.options_types.specs.PathList.{PathList}
use Rattle.options_types.specs.Callable.{callable}
use Rattle.codegen_program.specs.declared.callable.Callable.{Callable}

-- a value that is made again of what is seen of it
answers_made : {X A : Type 0} (seen : X → A) (made : A → X) (answer : Result X Fail) (outcome : Outcome A)
    → ((it : X) → made (seen it) ≡ it) → Answers seen answer outcome → Answers (λ it. it) answer (on_value made outcome)
answers_made seen made (Ok value) outcome same is = ap (on_value made) is ∙ ap Value (same value)
answers_made seen made (Err (fails.Faults error)) outcome same is = ap (on_value made) is
answers_made seen made (Err fails.NoMemory) outcome same is = tt

pub answers_paths : (answer : Result PathList Fail) (outcome : Outcome (List Path))
    → Answers (λ list. list.0) answer outcome → Answers (λ it. it) answer (on_value (λ paths. record { 0 = paths }) outcome)
answers_paths answer outcome is = answers_made (λ list. list.0) (λ paths. record { 0 = paths }) answer outcome (λ it. refl) is

pub answers_callable : (answer : Result Callable Fail) (outcome : Outcome Expr)
    → Answers (λ it. it.call) answer outcome → Answers (λ it. it) answer (on_value callable outcome)
answers_callable answer outcome is = answers_made (λ it. it.call) callable answer outcome (λ it. refl) is
