-- Where the angles of turbofishes do not close, no run of tokens is a value.
use Rattle.std.proofs.Common.{◌≡◌, ℕ, Bool, true, false, if◌then◌else◌, List, length, take, drop, slice_index_or, Option, Some, None, refl, ap, sym, subst, ◌∙◌}
use Rattle.std.proofs.lemmas.Bool.{both_ways}
use Rattle.std.proofs.lemmas.Option.{get_or_from_slice_get}
use Rattle.tok_types.specs.declared.tree.TokenTree.{TokenTree}
use Rattle.node_expr.specs.declared.expr.Expr.{Expr}
use Rattle.node_expr.specs.declared.lit.Lit.{Lit}
use Rattle.law_prefix.specs.SameLookahead.{stops}
use Rattle.law_angles.specs.Ends.{ends, nothing}
use Rattle.law_angles.proofs.Within.{run-ends, number-ends}
use Rattle.syn_items.specs.Attributes.{number_in, expr_in}
use Rattle.meta_nested.specs.Angles.{TellsHere}
use Rattle.meta_nested.specs.Values.{either_value, run_of, shortest_run, value_in}
use Rattle.meta_nested.proofs.Least.{least-none}
use Rattle.meta_nested.proofs.Numbers.{number-run}
use Rattle.meta_nested.proofs.Readings.{run-parts}

value-ends : (trees : List TokenTree) (count : ℕ) (found : Expr) → run_of value_in trees count ≡ Some found → ends nothing 0 trees ≡ true
value-ends trees count found e =
    let run = run-parts value_in trees count found e in
    by (number_in (take count trees)) refl run.0 run.1
  where
    by : (number : Option Lit) → number_in (take count trees) ≡ number → stops (drop count trees) ≡ true → either_value number (expr_in (take count trees)) ≡ Some found → ends nothing 0 trees ≡ true
    by None is stop e = run-ends trees count found e stop
    by (Some number) is stop e =
        let run = number-run trees count number (ap (λ b. if◌then◌else◌ {A = Option Lit} b (number_in (take count trees)) None) stop ∙ is) in
        subst (λ trees. ends nothing 0 trees ≡ true) (sym run.1) (number-ends run.0.minus run.0.token (drop count trees) run.0.begins run.0.ends stop)

-- no value at all
pub vain : (trees : List TokenTree) → ends nothing 0 trees ≡ false → shortest_run trees ≡ None
vain trees off = least-none (run_of value_in trees) (length trees) (λ count within. none count (run_of value_in trees count) refl)
  where
    none : (count : ℕ) (run : Option Expr) → run_of value_in trees count ≡ run → run_of value_in trees count ≡ None
    none count None is = is
    none count (Some found) is = absurd (both_ways _ off (value-ends trees count found is))

-- nor where the table says so
pub vain-here : (table : List Bool) (trees : List TokenTree) → TellsHere table trees → slice_index_or table (length trees) false ≡ false → shortest_run trees ≡ None
vain-here table trees tells off = vain trees (sym (get_or_from_slice_get table (length trees) (ends nothing 0 trees) false tells) ∙ off)
