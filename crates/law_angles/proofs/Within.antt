-- The angles of types and expressions of every depth close.
use Rattle.std.proofs.Common.{◌≡◌, ℕ, zero, suc, ◌*◌, nat_le, Bool, true, false, if◌then◌else◌, List, [], ◌∷◌, take, drop, Option, Some, None, refl, arith, ap, sym, ◌∙◌}
use Rattle.std.proofs.lemmas.List.{take-append-drop}
use Rattle.tok_types.specs.declared.span.Span.TheVariants.{CallSite}
use Rattle.tok_types.specs.declared.tree.TokenTree.{TokenTree, out-TokenTree}
use Rattle.node_expr.specs.declared.expr.Expr.{Expr}
use Rattle.syn_grammar.specs.Depth.{expr_depth, type_depth}
use Rattle.syn_grammar.specs.Expressions.{expr_step}
use Rattle.syn_grammar.specs.Grammar.{within, kept, bounds_depth, max_depth}
use Rattle.syn_grammar.specs.Input.{Input, Outcome, Parser, start_of, is_end}
use Rattle.syn_grammar.specs.Paths.{bounds}
use Rattle.syn_grammar.specs.Readers.{any_level, constant_level}
use Rattle.syn_grammar.specs.Token.{mark_in, mark_of}
use Rattle.syn_grammar.specs.Trees.{all}
use Rattle.syn_grammar.specs.Types.{type_step}
use Rattle.law_prefix.specs.SameLookahead.{stops}
use Rattle.law_prefix.specs.ReadsByPrefix.{at}
use Rattle.law_prefix.proofs.Within.{front-before, front-of, within-fronts}
use Rattle.law_angles.specs.Ends.{nothing, ends}
use Rattle.law_angles.proofs.Steps.{Leads, refuse-at}
use Rattle.law_angles.proofs.Walk.{Holds, other-mark, zero-step}
use Rattle.law_angles.proofs.Paths.{AllLead, bounds-leads}
use Rattle.law_angles.proofs.Types.{type_step-leads}
use Rattle.law_angles.proofs.Operators.{expr_step-leads, constant_step-leads}

-- what is kept was read
kept-read : {A : Type 0} (size : A → ℕ) (limit : ℕ) (outcome : Outcome A) (found : A × Input) → kept size limit outcome ≡ Some found → outcome ≡ Some found
kept-read size limit None found e = absurd cc
kept-read {A} size limit (Some read) found e = go (nat_le (size read.0) limit) e
  where
    go : (b : Bool) → ◌≡◌ {A = Outcome A} (if b then Some read else None) (Some found) → ◌≡◌ {A = Outcome A} (Some read) (Some found)
    go true e = e
    go false e = absurd cc

kept-leads : {A : Type 0} {from to : ℕ} (size : A → ℕ) (limit : ℕ) (parser : Parser A) → Leads from to parser → Leads from to (λ input. kept size limit (parser input))
kept-leads size limit parser h input = record { of = λ after found e. (h input).of after found (kept-read size limit (parser input) (found, after) e) }

-- of each level two angles
pub within-lead : (depth : ℕ) → AllLead (2 * depth) (within depth)
unfolding within
within-lead zero = record {
  ty = λ allow_plus angles fits input. refuse-at;
  bounds = λ angles fits input. refuse-at;
  constant = λ angles input. refuse-at;
  expr = λ level fits input. refuse-at;
}
within-lead (suc below) =
    let parts = within-lead below in
    record {
      ty = λ allow_plus angles fits. kept-leads type_depth (suc below) (type_step (within below) allow_plus) (type_step-leads (2 * below) (within below) parts angles (omega arith) allow_plus);
      bounds = λ angles fits. kept-leads bounds_depth (suc below) (bounds (within below) true) (bounds-leads (2 * below) (within below) parts angles (omega arith) true);
      constant = λ angles. kept-leads expr_depth (suc below) (expr_step (within below) constant_level) (constant_step-leads (within below) angles);
      expr = λ level fits. kept-leads expr_depth (suc below) (expr_step (within below) level) (expr_step-leads (2 * below) (within below) parts (omega arith) level);
    }

stops-end : (trees : List TokenTree) → stops trees ≡ true → Holds 0 trees
stops-end [] h = refl
stops-end (tree ∷ trees) h = rw h refl

-- Where an expression is read before a comma or before nothing, all angles of turbofishes in it close.
pub read-ends : (input after : Input) (found : Expr) → (within max_depth).expr any_level input ≡ Some (found, after) → stops after.rest ≡ true → ends nothing 0 input.rest ≡ true
read-ends input after found e h = ((within-lead max_depth).expr any_level (omega arith) input).of after found e (stops-end after.rest h)

-- what is read of all of the tokens leaves none
all-read : {A : Type 0} (outcome : Outcome A) (found : A) → all outcome ≡ Some found → (after : Input) × (outcome ≡ Some (found, after)) × (after.rest ≡ [])
all-read None found e = absurd cc
all-read {A} (Some read) found e = go read.1.rest refl e
  where
    go : (rest : List TokenTree) → read.1.rest ≡ rest → ◌≡◌ {A = Option A} (if is_end rest then Some read.0 else None) (Some found) → (after : Input) × (◌≡◌ {A = Outcome A} (Some read) (Some (found, after))) × (after.rest ≡ [])
    go [] is e = let same : read.0 ≡ found = cc in (read.1, ap (λ value. Some (value, read.1)) same, is)
    go (tree ∷ trees) is e = absurd cc

-- The same of an expression that is all of some tokens before a comma or before nothing.
pub run-ends : (trees : List TokenTree) (count : ℕ) (found : Expr) → all ((within max_depth).expr any_level (start_of (take count trees))) ≡ Some found → stops (drop count trees) ≡ true → ends nothing 0 trees ≡ true
run-ends trees count found e h =
    let whole = all-read ((within max_depth).expr any_level (start_of (take count trees))) found e in
    let again = front-before (front-of ((within-fronts max_depth).expr any_level)) (start_of (take count trees)) whole.0 found whole.1 whole.2 (drop count trees) CallSite h in
    read-ends (start_of trees) (at (drop count trees) whole.0.last) found (ap (λ trees. (within max_depth).expr any_level (start_of trees)) (sym (take-append-drop count trees)) ∙ again) h

-- A number with its sign has no angles.
pub number-ends : (minus token : TokenTree) (rest : List TokenTree) → mark_in (out-TokenTree minus) ≡ 45 → mark_in (out-TokenTree token) ≡ 0 → stops rest ≡ true → ends nothing 0 (minus ∷ token ∷ rest) ≡ true
unfolding mark_of
number-ends minus token rest one two h =
    zero-step (minus ∷ token ∷ rest) (other-mark 45 58 (minus ∷ token ∷ rest) one refl) (zero-step (token ∷ rest) (other-mark 0 58 (token ∷ rest) two refl) (stops-end rest h))
