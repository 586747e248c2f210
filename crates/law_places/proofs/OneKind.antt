-- An expression of one kind stands where all of its tokens do.
use Rattle.std.proofs.Common.{◌≡◌, Option, Some, None, refl, ap, sym, ◌∙◌}
use Rattle.tok_types.specs.declared.span.Span.{Span}
use Rattle.tok_types.specs.declared.tree.TokenStream.{TokenStream}
use Rattle.node_expr.specs.Kinds.{array_in, path_in, range_in}
use Rattle.node_expr.specs.Layers.{ExprLayer}
use Rattle.node_expr.specs.declared.expr.Expr.{Expr, out-Expr}
use Rattle.node_expr.specs.declared.expr.Expr.TheOpen.{Expr-F}
use Rattle.node_expr.specs.declared.expr.ExprArray.{ExprArray}
use Rattle.node_expr.specs.declared.expr.ExprPath.{ExprPath}
use Rattle.node_expr.specs.declared.expr.ExprRange.{ExprRange}
use Rattle.node_span.specs.Spanned.{expr_layer_span, expr_path_span, stream_span}
use Rattle.syn_grammar.specs.Trees.{of_kind, expr_of, expr_array_of, expr_path_of, expr_range_of}
use Rattle.law_places.proofs.Wholes.{expr_of-stands}

kind-stands : {A : Type 0} (part : ExprLayer → Option A) (span_of : A → Span) → ((layer : ExprLayer) (found : A) → part layer ≡ Some found → span_of found ≡ expr_layer_span layer)
    → (tokens : TokenStream) (found : A) → of_kind part (expr_of tokens) ≡ Some found → span_of found ≡ stream_span tokens
kind-stands {A} part span_of keeps tokens found e = go (expr_of tokens) refl e
  where
    go : (tree : Option Expr) → expr_of tokens ≡ tree → of_kind part tree ≡ Some found → span_of found ≡ stream_span tokens
    go None is e = absurd cc
    go (Some expr) is e = keeps (out-Expr expr) found e ∙ expr_of-stands tokens expr is

array-place : (layer : ExprLayer) (found : ExprArray Expr) → array_in layer ≡ Some found → found.span ≡ expr_layer_span layer
array-place (Expr-F.Expr::Array it) found e = let same : it ≡ found = cc in ap (λ (it : ExprArray Expr). it.span) (sym same)
array-place _ found e = absurd cc

path-place : (layer : ExprLayer) (found : ExprPath) → path_in layer ≡ Some found → expr_path_span found ≡ expr_layer_span layer
path-place (Expr-F.Expr::Path it) found e = let same : it ≡ found = cc in ap expr_path_span (sym same)
path-place _ found e = absurd cc

range-place : (layer : ExprLayer) (found : ExprRange Expr) → range_in layer ≡ Some found → found.span ≡ expr_layer_span layer
range-place (Expr-F.Range it) found e = let same : it ≡ found = cc in ap (λ (it : ExprRange Expr). it.span) (sym same)
range-place _ found e = absurd cc

pub expr_array_of-stands : (tokens : TokenStream) (found : ExprArray Expr) → expr_array_of tokens ≡ Some found → found.span ≡ stream_span tokens
unfolding expr_array_of
expr_array_of-stands = kind-stands array_in (λ it. it.span) array-place

pub expr_path_of-stands : (tokens : TokenStream) (found : ExprPath) → expr_path_of tokens ≡ Some found → expr_path_span found ≡ stream_span tokens
unfolding expr_path_of
expr_path_of-stands = kind-stands path_in expr_path_span path-place

pub expr_range_of-stands : (tokens : TokenStream) (found : ExprRange Expr) → expr_range_of tokens ≡ Some found → found.span ≡ stream_span tokens
unfolding expr_range_of
expr_range_of-stands = kind-stands range_in (λ it. it.span) range-place
