use Rattle.std.proofs.Common.{sym, rules}
use Rattle.meta_nested.proofs.Runs.{shortest_run-literal, shortest_run-number, shortest_run-expr, shortest_run-on, shortest_run-none}
use Rattle.meta_nested.proofs.value.shortest_run.Goals as goal

pub returns-in-Some : goal.returns-in-Some
returns-in-Some c = sym (shortest_run-literal c.args.trees.now c.in-Some.literal (search rules))

pub returns-in-Some-2 : goal.returns-in-Some-2
returns-in-Some-2 c = sym (shortest_run-number c.args.trees.now c.in-Some-2.number (search rules))

pub overflow_sub-result : goal.overflow_sub-result
overflow_sub-result c =
    let run = shortest_run-expr c.args.trees.now c.read_expr.new.tokens c.in-Ok.expr (search rules) (search rules) (search rules) in
    rw c.left.ensures run.0

pub returns-then-stops : goal.returns-then-stops
returns-then-stops c =
    let run = shortest_run-expr c.args.trees.now c.read_expr.new.tokens c.in-Ok.expr (search rules) (search rules) (search rules) in
    rw c.left.ensures (sym run.1)

pub returns-else-stops : goal.returns-else-stops
returns-else-stops c = sym (shortest_run-on c.args.trees.now c.read_expr.new.tokens c.in-Ok.expr (search rules) (search rules) (search rules))

pub returns-in-Err-Syntax : goal.returns-in-Err-Syntax
returns-in-Err-Syntax c = sym (shortest_run-none c.args.trees.now (search rules) (search rules))
