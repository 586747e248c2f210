-- The rules of values of nested items do not see places.
use Rattle.std.proofs.Common.{◌≡◌, ℕ, zero, suc, Bool, true, false, if◌then◌else◌, List, [], ◌∷◌, length, take, drop, map, Option, Some, None, option_map, refl, ap, sym, subst, ◌∙◌}
use Rattle.std.specs.Option.{option_or}
use Rattle.std.proofs.lemmas.List.{drop-map, length-map, take-map}
use Rattle.tok_types.specs.declared.span.Span.{Span}
use Rattle.tok_types.specs.declared.span.Span.TheVariants.{CallSite}
use Rattle.tok_types.specs.declared.tree.TokenTree.{TokenTree}
use Rattle.node_expr.specs.declared.expr.Expr.{Expr}
use Rattle.node_expr.specs.declared.lit.Lit.{Lit}
use Rattle.law_prefix.specs.SameLookahead.{stops}
use Rattle.syn_grammar.specs.Input.{skip_by}
use Rattle.syn_grammar.specs.Token.{is_comma}
use Rattle.tok_types.specs.Stream.{stream_of}
use Rattle.syn_items.specs.Attributes.{number_in, expr_in}
use Rattle.meta_nested.specs.declared.value.Value.{Value}
use Rattle.meta_nested.specs.declared.value.Value.TheVariants as kind
use Rattle.meta_nested.specs.Values.{either_value, value_in, run_of, least, shortest_run, before_comma, bad_place, bad_value, value_by, value}
use Rattle.law_spans.specs.Erased.{erased_tree, erased_lit, erased_expr, erased_stream}
use Rattle.law_spans.specs.IgnoresSpans.{IgnoresSpans}
use Rattle.law_spans.proofs.Made.{bare_expr-Lit}
use Rattle.law_spans.proofs.Seen.{bare_stream-roll, is_mark-bare, span_of-bare, if-map}
use Rattle.law_spans.proofs.Steps.{same, Sees, pure-blind, then-blind, so-blind, test-blind, skip_by-blind}
use Rattle.law_spans_items.proofs.Attributes.{number_in-bare, expr_in-bare}

-- ---- runs

either_value-bare : (number : Option Lit) (found : Option Expr) → either_value (option_map erased_lit number) (option_map erased_expr found) ≡ option_map erased_expr (either_value number found)
either_value-bare (Some number) found = ap Some (sym (bare_expr-Lit number))
either_value-bare None found = refl

value_in-bare : (trees : List TokenTree) → value_in (map erased_tree trees) ≡ option_map erased_expr (value_in trees)
value_in-bare trees = rw (number_in-bare trees, expr_in-bare trees) (either_value-bare (number_in trees) (expr_in trees))

stops-bare : Sees stops
stops-bare [] = refl
stops-bare (tree ∷ trees) = is_mark-bare 44 (tree ∷ trees)

run_of-bare : (trees : List TokenTree) (count : ℕ) → run_of value_in (map erased_tree trees) count ≡ option_map erased_expr (run_of value_in trees count)
run_of-bare trees count =
    ap (λ rest. if stops rest then value_in (take count (map erased_tree trees)) else None) (drop-map erased_tree count trees)
    ∙ ap (λ front. if stops (map erased_tree (drop count trees)) then value_in front else None) (take-map erased_tree count trees)
    ∙ ap (λ ended. if ended then value_in (map erased_tree (take count trees)) else None) (stops-bare (drop count trees))
    ∙ ap (λ found. if stops (drop count trees) then found else None) (value_in-bare (take count trees))
    ∙ if-map erased_expr (stops (drop count trees)) (value_in (take count trees))

-- a value and how many tokens it has
abbrev erased_run : Expr × ℕ → Expr × ℕ
erased_run run = (erased_expr run.0, run.1)

option_or-map : {A B : Type 0} (f : A → B) (one other : Option A) → option_or (option_map f one) (option_map f other) ≡ option_map f (option_or one other)
option_or-map f (Some found) other = refl
option_or-map f None other = refl

counted-bare : (found : Option Expr) (count : ℕ) → option_map (λ found. (found, count)) (option_map erased_expr found) ≡ option_map erased_run (option_map (λ found. (found, count)) found)
counted-bare None count = refl
counted-bare (Some found) count = refl

least-bare : (of also : ℕ → Option Expr) → ((count : ℕ) → also count ≡ option_map erased_expr (of count)) → (number : ℕ) → least also number ≡ option_map erased_run (least of number)
least-bare of also e zero = rw (e 0) (counted-bare (of 0) 0)
least-bare of also e (suc number) =
    rw (least-bare of also e number, e (suc number), counted-bare (of (suc number)) (suc number)) (option_or-map erased_run (least of number) (option_map (λ found. (found, suc number)) (of (suc number))))

shortest_run-bare : (trees : List TokenTree) → shortest_run (map erased_tree trees) ≡ option_map erased_run (shortest_run trees)
shortest_run-bare trees =
    ap (least (run_of value_in (map erased_tree trees))) (length-map trees erased_tree)
    ∙ least-bare (run_of value_in trees) (run_of value_in (map erased_tree trees)) (run_of-bare trees) (length trees)

-- ---- bad values

before_comma-bare : (trees : List TokenTree) → before_comma (map erased_tree trees) ≡ map erased_tree (before_comma trees)
before_comma-bare [] = refl
before_comma-bare (tree ∷ trees) =
    ap (λ comma. if comma then [] else erased_tree tree ∷ before_comma (map erased_tree trees)) (is_mark-bare 44 (tree ∷ trees))
    ∙ ap (λ more. if is_comma (tree ∷ trees) then [] else erased_tree tree ∷ more) (before_comma-bare trees)
    ∙ go (is_comma (tree ∷ trees))
  where
    go : (comma : Bool) → (if comma then [] else erased_tree tree ∷ map erased_tree (before_comma trees)) ≡ map erased_tree (if comma then [] else tree ∷ before_comma trees)
    go true = refl
    go false = refl

bad_place-bare : (trees : List TokenTree) → bad_place CallSite (map erased_tree trees) ≡ CallSite
bad_place-bare [] = refl
bad_place-bare (tree ∷ trees) = span_of-bare tree

-- a value without its places
abbrev pub erased_value : Value → Value
erased_value (kind.Expr it) = kind.Expr (erased_expr it)
erased_value (kind.Bad tokens place) = kind.Bad (erased_stream tokens) CallSite

skip_as-blind : (count also : ℕ) → count ≡ also → IgnoresSpans same (skip_by count) (skip_by also)
skip_as-blind count also e = subst (λ also. IgnoresSpans same (skip_by count) (skip_by also)) e (skip_by-blind count)

bad_value-blind : (eq_span there : Span) → CallSite ≡ there → IgnoresSpans erased_value (bad_value eq_span) (bad_value there)
unfolding bad_value
bad_value-blind eq_span there s = then-blind {bare = map erased_tree} (test-blind before_comma before_comma before_comma-bare) (λ trees trees' t.
    so-blind (skip_as-blind (length trees) (length trees') (sym (length-map trees erased_tree) ∙ ap length t)) (λ done.
    pure-blind (kind.Bad (stream_of trees) (bad_place eq_span trees)) (kind.Bad (stream_of trees') (bad_place there trees')) (rw (← s, ← t, bad_place-bare trees, bare_stream-roll trees) refl)))

value_by-blind : (eq_span there : Span) → CallSite ≡ there → (run : Option (Expr × ℕ)) → IgnoresSpans erased_value (value_by eq_span run) (value_by there (option_map erased_run run))
value_by-blind eq_span there s (Some run) = so-blind (skip_by-blind run.1) (λ done. pure-blind (kind.Expr run.0) (kind.Expr (erased_expr run.0)) refl)
value_by-blind eq_span there s None = bad_value-blind eq_span there s

pub value-blind : (eq_span there : Span) → CallSite ≡ there → IgnoresSpans erased_value (value eq_span) (value there)
unfolding value
value-blind eq_span there s = then-blind (test-blind shortest_run shortest_run shortest_run-bare) (λ run run' r.
    subst (λ run'. IgnoresSpans erased_value (value_by eq_span run) (value_by there run')) r (value_by-blind eq_span there s run))
