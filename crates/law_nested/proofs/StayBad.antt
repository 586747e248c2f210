-- Bad values that begin no expression are shut, and what is shut stays bad before each item.
use Rattle.std.proofs.Common.{◌≡◌, true, false, List, [], ◌∷◌, ◌++◌, All, drop, Option, Some, None, refl}
use Rattle.std.proofs.lemmas.Bool.{both_ways}
use Rattle.std.proofs.lemmas.List.Elements.{All-head, All-tail}
use Rattle.tok_types.specs.declared.span.Span.TheVariants.{CallSite}
use Rattle.tok_types.specs.declared.tree.TokenStream.{TokenStream}
use Rattle.node_expr.specs.declared.expr.Expr.{Expr}
use Rattle.node_expr.specs.declared.lit.Lit.{Lit}
use Rattle.syn_grammar.specs.Grammar.{max_depth}
use Rattle.syn_grammar.specs.Input.{Input, Outcome, start_of}
use Rattle.syn_grammar.specs.Readers.{any_level}
use Rattle.syn_items.specs.Attributes.{number_in}
use Rattle.meta_nested.specs.declared.nested.NestedMeta.{NestedMeta}
use Rattle.meta_nested.specs.declared.nested.NestedMeta.TheVariants as nested
use Rattle.meta_nested.specs.Nodes.{nested_tokens}
use Rattle.meta_nested.specs.Values.{run_of}
use Rattle.meta_nested.proofs.Runs.{shortest_run-none}
use Rattle.print_core.specs.Marks.{Trees, comma, contents}
use Rattle.law_prefix.specs.ReadsByPrefix.{at}
use Rattle.law_prefix.specs.SameLookahead.{stops}
use Rattle.law_round_trip.specs.Follow.{begins_expr}
use Rattle.law_round_trip.specs.Printed.{separated}
use Rattle.law_round_trip.proofs.Infix.{expr-end}
use Rattle.law_round_trip.proofs.Within.{within-backs}
use Rattle.law_nested.specs.StaysBad.{AllStayBad, BeginsNoExpr, IsBad, IsShut, StaysBadBefore}
use Rattle.law_nested.proofs.Stops.{comma-stops}
use Rattle.law_nested.proofs.Values.{an_expr, number-read}

-- what an expression is read of begins one
read-begins : (trees : Trees) (after : Input) (found : Expr) → an_expr (start_of trees) ≡ Some (found, after) → begins_expr any_level trees ≡ true
read-begins trees after found e = ((((within-backs max_depth).expr any_level).of (start_of trees) after found e).first [] (expr-end any_level after.rest)).source

no-expr : (trees : Trees) → begins_expr any_level trees ≡ false → an_expr (start_of trees) ≡ None
no-expr trees none = by (an_expr (start_of trees)) refl
  where
    by : (outcome : Outcome Expr) → an_expr (start_of trees) ≡ outcome → an_expr (start_of trees) ≡ None
    by None is = is
    by (Some pair) is = absurd (both_ways _ none (read-begins trees pair.1 pair.0 is))

no-number : (trees : Trees) → begins_expr any_level trees ≡ false → run_of number_in trees 2 ≡ None
no-number trees none = by (run_of number_in trees 2) refl
  where
    by : (run : Option Lit) → run_of number_in trees 2 ≡ run → run_of number_in trees 2 ≡ None
    by None is = is
    by (Some number) is =
        let one = number-read trees number is in
        absurd (both_ways _ none (read-begins trees (at (drop 2 trees) one.1) one.0 one.2))

pub no-expr-shut : (tokens : TokenStream) → BeginsNoExpr tokens → IsBad tokens
no-expr-shut tokens none tail stop = let begins = none tail stop in shortest_run-none (contents tokens ++ tail) (no-number (contents tokens ++ tail) begins) (no-expr (contents tokens ++ tail) begins)

shut-before : (it : NestedMeta) (tail : Trees) → stops tail ≡ true → IsShut it → StaysBadBefore it tail
shut-before (nested.Meta it) tail stop shut = tt
shut-before (nested.Lit it) tail stop shut = tt
shut-before (nested.NameValueInvalidExpr it) tail stop shut = shut tail stop

pub all-shut : (items : List NestedMeta) → All IsShut items → AllStayBad items
all-shut [] shut = tt
all-shut (it ∷ []) shut = tt
all-shut (it ∷ next ∷ more) shut =
    let behind : Trees = separated nested_tokens (next ∷ more) in
    (shut-before it (comma CallSite ++ behind) (comma-stops CallSite behind) (All-head IsShut it (next ∷ more) shut), all-shut (next ∷ more) (All-tail IsShut it (next ∷ more) shut))
