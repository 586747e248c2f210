-- The shortest run of tokens that is a value, by one reading of them.
use Rattle.std.proofs.Common.{◌≡◌, ℕ, suc, ◌-◌, ◌≤◌, Bool, true, false, List, [], ◌∷◌, length, take, drop, Option, Some, None, refl, arith, ap, ◌∙◌, if◌then◌else◌}
use Rattle.tok_types.specs.declared.span.Span.TheVariants.{CallSite}
use Rattle.tok_types.specs.declared.tree.TokenTree.{TokenTree}
use Rattle.node_expr.specs.declared.expr.Expr.{Expr}
use Rattle.node_expr.specs.declared.expr.Expr.TheVariants as expr
use Rattle.node_expr.specs.declared.lit.Lit.{Lit}
use Rattle.syn_grammar.specs.Grammar.{within, max_depth}
use Rattle.syn_grammar.specs.Input.{Input, Parser, start_of}
use Rattle.syn_grammar.specs.Readers.{any_level}
use Rattle.syn_grammar.specs.Token.{span_of}
use Rattle.law_prefix.specs.SameLookahead.{SameLookahead, stops}
use Rattle.law_prefix.specs.ReadsByPrefix.{at, ReadsByPrefix}
use Rattle.law_prefix.proofs.Within.{front-before, front-of, within-fronts}
use Rattle.syn_items.specs.Attributes.{number_in, expr_in}
use Rattle.meta_nested.specs.Values.{next_literal, run_of, shortest_run, value_in}
use Rattle.meta_nested.proofs.Least.{least-none, least-some}
use Rattle.meta_nested.proofs.Literals.{literal-run}
use Rattle.meta_nested.proofs.Numbers.{number-run, number-runs, number-goes-on, number-unmarked}
use Rattle.meta_nested.proofs.Readings.{run-none, run-parts, read-run, read-shorter, read-least, read-on, read-none}

abbrev an_expr : Parser Expr
an_expr = (within max_depth).expr any_level

front : ReadsByPrefix SameLookahead an_expr
front = front-of ((within-fronts max_depth).expr any_level)

-- where no number is, a value is an expression
value-run : (trees : List TokenTree) (count : ℕ) → run_of number_in trees count ≡ None → run_of value_in trees count ≡ run_of expr_in trees count
value-run trees count none = by (stops (drop count trees)) none
  where
    by : (b : Bool) → ◌≡◌ {A = Option Lit} (if b then number_in (take count trees) else None) None
        → ◌≡◌ {A = Option Expr} (if b then value_in (take count trees) else None) (if b then expr_in (take count trees) else None)
    by true none = rw none refl
    by false none = refl

-- no number and no expression
shortest-none : (trees : List TokenTree) → run_of number_in trees 2 ≡ None → ((count : ℕ) → run_of expr_in trees count ≡ None) → shortest_run trees ≡ None
shortest-none trees number none = least-none (run_of value_in trees) (length trees) (λ count within. value-run trees count (number-runs trees number count) ∙ none count)

-- a number
pub shortest_run-number : (trees : List TokenTree) (found : Lit) → run_of number_in trees 2 ≡ Some found → shortest_run trees ≡ Some (expr.Lit found, 2)
shortest_run-number trees found e =
    let number = number-run trees 2 found e in
    let sizes : length trees ≡ suc (suc (length (drop 2 trees))) = ap length number.1 in
    least-some (run_of value_in trees) (length trees) 2 (expr.Lit found) (omega (arith, sizes)) two (λ count h. run-none value_in trees count (number-goes-on trees found e count h))
  where
    two : run_of value_in trees 2 ≡ Some (expr.Lit found)
    two = let run = run-parts number_in trees 2 found e in rw (run.0, run.1) refl

-- an expression, before a comma or the end
pub shortest_run-expr : (trees : List TokenTree) (after : Input) (found : Expr) → run_of number_in trees 2 ≡ None → an_expr (start_of trees) ≡ Some (found, after) → stops after.rest ≡ true
    → (length after.rest ≤ length trees) × (shortest_run trees ≡ Some (found, length trees - length after.rest))
shortest_run-expr trees after found number e stop = (
  read-shorter front trees after found e,
  least-some (run_of value_in trees) (length trees) (length trees - length after.rest) found (omega arith)
      (value-run trees (length trees - length after.rest) (number-runs trees number (length trees - length after.rest)) ∙ read-run front trees after found e stop)
      (λ count shorter. value-run trees count (number-runs trees number count) ∙ read-least front trees after found e count shorter),
)

-- a literal, before a comma or the end
pub shortest_run-literal : (trees : List TokenTree) (found : Lit) → run_of next_literal trees 1 ≡ Some found → shortest_run trees ≡ Some (expr.Lit found, 1)
shortest_run-literal trees found e =
    let run = literal-run trees found e in
    let after : Input = at run.rest (span_of run.one) in
    let alone = front-before front (start_of (run.one ∷ [])) (at [] (span_of run.one)) (expr.Lit found) run.reads refl run.rest CallSite run.stop in
    let read : an_expr (start_of trees) ≡ Some (expr.Lit found, after) = ap (λ trees. an_expr (start_of trees)) run.is ∙ alone in
    let shortest = shortest_run-expr trees after (expr.Lit found) (number-unmarked trees run.mark) read run.stop in
    let sizes : length trees ≡ suc (length run.rest) = ap length run.is in
    let count : length trees - length run.rest ≡ 1 = omega (arith, sizes) in
    shortest.1 ∙ ap (λ count. Some (expr.Lit found, count)) count

-- an expression that goes on
pub shortest_run-on : (trees : List TokenTree) (after : Input) (found : Expr) → run_of number_in trees 2 ≡ None → an_expr (start_of trees) ≡ Some (found, after) → stops after.rest ≡ false
    → shortest_run trees ≡ None
shortest_run-on trees after found number e on = shortest-none trees number (read-on front trees after found e on)

-- no expression
pub shortest_run-none : (trees : List TokenTree) → run_of number_in trees 2 ≡ None → an_expr (start_of trees) ≡ None → shortest_run trees ≡ None
shortest_run-none trees number e = shortest-none trees number (read-none front trees e)
