-- What follows for tokens and nodes that differ in places alone.
use Rattle.std.proofs.Common.{◌≡◌, ℕ, map, Some, None, refl, ap, sym, ◌∙◌}
use Rattle.std.proofs.lemmas.Option.{some_pair_parts}
use Rattle.node_expr.specs.declared.expr.Expr.{Expr}
use Rattle.node_expr.specs.declared.generics.TypeParamBound.{TypeParamBound}
use Rattle.node_expr.specs.declared.path.Path.{Path}
use Rattle.node_expr.specs.declared.ty.«Type».{«Type» as Ty}
use Rattle.syn_grammar.specs.Depth.{bound_depth, expr_depth, path_depth, type_depth}
use Rattle.syn_grammar.specs.Input.{Input, Outcome, Parser}
use Rattle.law_spans.specs.Erased.{erased_tree, erased_bound, erased_expr, erased_path, erased_type}
use Rattle.law_spans.specs.IgnoresSpans.{erased_input, erased_outcome, IgnoresSpans}
use Rattle.law_spans.proofs.Depths.{bound_depth-bare, expr_depth-bare, path_depth-bare, type_depth-bare}

-- ---- the same depth

same-size : {A : Type 0} (size : A → ℕ) (bare : A → A) → ((node : A) → size (bare node) ≡ size node) → (one other : A) → bare one ≡ bare other → size one ≡ size other
same-size size bare h one other e = sym (h one) ∙ ap size e ∙ h other

pub expr_depth-alike : (one other : Expr) → erased_expr one ≡ erased_expr other → expr_depth one ≡ expr_depth other
expr_depth-alike = same-size expr_depth erased_expr expr_depth-bare

pub type_depth-alike : (one other : Ty) → erased_type one ≡ erased_type other → type_depth one ≡ type_depth other
type_depth-alike = same-size type_depth erased_type type_depth-bare

pub path_depth-alike : (one other : Path) → erased_path one ≡ erased_path other → path_depth one ≡ path_depth other
path_depth-alike = same-size path_depth erased_path path_depth-bare

pub bound_depth-alike : (one other : TypeParamBound) → erased_bound one ≡ erased_bound other → bound_depth one ≡ bound_depth other
bound_depth-alike = same-size bound_depth erased_bound bound_depth-bare

-- ---- the same reading

-- what is read of one input, and of another with the same tokens
pub outcome-alike : {A B : Type 0} {bare : A → B} {parser : Parser A} {other : Parser B} → IgnoresSpans bare parser other → (one two : Input) → map erased_tree one.rest ≡ map erased_tree two.rest
    → erased_outcome bare (parser one) ≡ erased_outcome bare (parser two)
outcome-alike {other = other} h one two e = sym (h.at one) ∙ rw (e) refl ∙ h.at two

-- what one input is read as, the other is read as too, places aside
pub record ReadsBySameLookahead {A B : Type 0} (bare : A → B) (parser : Parser A) (input after : Input) (found : A) : Type 0 where
  pub value : A
  pub left : Input
  pub reads : parser input ≡ Some (value, left)
  pub same : bare value ≡ bare found
  pub rest : map erased_tree left.rest ≡ map erased_tree after.rest

alike-of : {A B : Type 0} (bare : A → B) (parser : Parser A) (input after : Input) (found : A) (outcome : Outcome A) → parser input ≡ outcome → erased_outcome bare outcome ≡ Some (bare found, erased_input after)
    → ReadsBySameLookahead bare parser input after found
alike-of bare parser input after found None is e = absurd cc
alike-of bare parser input after found (Some pair) is e =
    let both = some_pair_parts (bare pair.0) (bare found) (erased_input pair.1) (erased_input after) e in
    record { value = pair.0; left = pair.1; reads = is; same = both.0; rest = ap (λ (input : Input). input.rest) both.1 }

pub reads-alike : {A B : Type 0} {bare : A → B} {parser : Parser A} {other : Parser B} → IgnoresSpans bare parser other → (one two after : Input) (found : A) → map erased_tree one.rest ≡ map erased_tree two.rest
    → parser one ≡ Some (found, after) → ReadsBySameLookahead bare parser two after found
reads-alike {bare = bare} {parser = parser} h one two after found e is =
    alike-of bare parser two after found (parser two) refl (sym (outcome-alike h one two e) ∙ ap (erased_outcome bare) is)
