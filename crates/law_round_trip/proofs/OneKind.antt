-- The law of printing for expressions of one kind.
use Rattle.std.proofs.Common.{◌≡◌, Bool, Option, Some, None, refl, ap, sym, option_map, ◌∙◌}
use Rattle.std.proofs.lemmas.Option.{same_Some}
use Rattle.tok_types.specs.declared.span.Span.{Span}
use Rattle.tok_types.specs.declared.span.Span.TheVariants.{CallSite}
use Rattle.tok_types.specs.declared.tree.TokenStream.{TokenStream}
use Rattle.node_expr.specs.Layers.{ExprLayer}
use Rattle.node_expr.specs.declared.expr.Expr.{Expr, out-Expr}
use Rattle.node_expr.specs.declared.expr.Expr.TheFolds.{fold_out-Expr, map-Expr}
use Rattle.node_expr.specs.declared.expr.Expr.TheOpen.{Expr-F}
use Rattle.node_expr.specs.declared.expr.Expr.TheVariants as expr
use Rattle.node_expr.specs.declared.expr.ExprArray.{ExprArray}
use Rattle.node_expr.specs.declared.expr.ExprPath.{ExprPath}
use Rattle.node_expr.specs.declared.expr.ExprRange.{ExprRange}
use Rattle.node_expr.specs.declared.generics.TraitBound.{TraitBound}
use Rattle.node_expr.specs.declared.generics.TypeParamBound.{TypeParamBound}
use Rattle.node_expr.specs.declared.path.GenericArgument.{GenericArgument}
use Rattle.node_expr.specs.declared.path.Path.{Path}
use Rattle.node_expr.specs.declared.path.PathArguments.{PathArguments}
use Rattle.node_expr.specs.declared.path.PathSegment.{PathSegment}
use Rattle.node_expr.specs.declared.ty.«Type».{«Type» as Type'}
use Rattle.node_expr.specs.declared.ty.TypeArray.{TypeArray}
use Rattle.node_expr.specs.declared.ty.TypePath.{TypePath}
use Rattle.node_expr.specs.Kinds.{array_in, path_in, range_in}
use Rattle.syn_grammar.specs.Trees.{expr_array_of, expr_of, expr_path_of, expr_range_of, of_kind}
use Rattle.print_core.specs.Exprs.{expr_rule}
use Rattle.print_core.specs.Kinds.{array_tokens, range_tokens}
use Rattle.print_core.specs.Marks.{Trees}
use Rattle.print_core.specs.Nodes.{argument_tokens, arguments_tokens, bound_tokens, expr_path_tokens, expr_tokens, path_parts, segment_tokens, trait_bound_tokens, type_array_tokens, type_path_tokens, type_tokens}
use Rattle.print_core.specs.Paths.{Arguments, PathParts, Styled, argument_rule, arguments_rule, bound_rule, expr_path_rule, path_rule, segment_rule, trait_bound_rule, type_path_rule}
use Rattle.print_core.specs.Types.{type_array_rule, type_rule}
use Rattle.law_spans.specs.Erased.{argument_bared, arguments_bared, array_bared, erased_argument, erased_arguments, erased_array, erased_bound, erased_expr, erased_expr_path, erased_ident, erased_lit, erased_member, erased_path, erased_segment, erased_stream, erased_trait_bound, erased_type, erased_type_path, bound_bared, expr_bared, expr_path_bared, path_bared, segment_bared, trait_bound_bared, type_bared, type_path_bared}
use Rattle.law_spans.specs.Kinds.{erased_expr_array, erased_expr_range}
use Rattle.tok_types.specs.Stream.{stream_of}
use Rattle.law_round_trip.specs.Printed.{ReadBack}

-- a layer with bare parts, and with what its parts print
abbrev erased_parts : ExprLayer → ExprLayer
erased_parts = map-Expr Expr TypeParamBound GenericArgument PathArguments Type' ExprPath TraitBound Path PathSegment TypeArray TypePath Expr TypeParamBound GenericArgument PathArguments Type' ExprPath TraitBound Path PathSegment TypeArray TypePath
    erased_expr erased_bound erased_argument erased_arguments erased_type erased_expr_path erased_trait_bound erased_path erased_segment erased_array erased_type_path

abbrev printed_parts : ExprLayer → Expr-F Trees Trees Trees Arguments Trees Trees Trees PathParts Styled Trees Trees
printed_parts = map-Expr Expr TypeParamBound GenericArgument PathArguments Type' ExprPath TraitBound Path PathSegment TypeArray TypePath Trees Trees Trees Arguments Trees Trees Trees PathParts Styled Trees Trees
    expr_tokens bound_tokens argument_tokens arguments_tokens type_tokens expr_path_tokens trait_bound_tokens path_parts segment_tokens type_array_tokens type_path_tokens

expr_tokens-out : (it : Expr) → expr_tokens it ≡ expr_rule (printed_parts (out-Expr it))
expr_tokens-out = fold_out-Expr Trees Trees Trees Arguments Trees Trees Trees PathParts Styled Trees Trees
    expr_rule bound_rule argument_rule arguments_rule type_rule expr_path_rule trait_bound_rule path_rule segment_rule type_array_rule type_path_rule

bare_expr-out : (it : Expr) → erased_expr it ≡ expr_bared (erased_parts (out-Expr it))
bare_expr-out = fold_out-Expr Expr TypeParamBound GenericArgument PathArguments Type' ExprPath TraitBound Path PathSegment TypeArray TypePath
    expr_bared bound_bared argument_bared arguments_bared type_bared expr_path_bared trait_bound_bared path_bared segment_bared array_bared type_path_bared

-- the layer of a node that is made of bare parts
abbrev layer_bared : ExprLayer → ExprLayer
layer_bared (Expr-F.Lit it) = Expr-F.Lit (erased_lit it)
layer_bared (Expr-F.Expr::Path it) = Expr-F.Expr::Path it
layer_bared (Expr-F.Expr::Array it) = Expr-F.Expr::Array (record it { span = CallSite })
layer_bared (Expr-F.Repeat elem len span) = Expr-F.Repeat elem len CallSite
layer_bared (Expr-F.Expr::Tuple elems span) = Expr-F.Expr::Tuple elems CallSite
layer_bared (Expr-F.Expr::Paren inner span) = Expr-F.Expr::Paren inner CallSite
layer_bared (Expr-F.Expr::Group inner span) = Expr-F.Expr::Group inner CallSite
layer_bared (Expr-F.Unary op operand span) = Expr-F.Unary op operand CallSite
layer_bared (Expr-F.Expr::Reference mutable operand span) = Expr-F.Expr::Reference mutable operand CallSite
layer_bared (Expr-F.Binary left op right span) = Expr-F.Binary left op right CallSite
layer_bared (Expr-F.Call func args span) = Expr-F.Call func args CallSite
layer_bared (Expr-F.MethodCall receiver method turbofish args span) = Expr-F.MethodCall receiver (erased_ident method) turbofish args CallSite
layer_bared (Expr-F.Field base member span) = Expr-F.Field base (erased_member member) CallSite
layer_bared (Expr-F.Index base at span) = Expr-F.Index base at CallSite
layer_bared (Expr-F.Try inner span) = Expr-F.Try inner CallSite
layer_bared (Expr-F.Range it) = Expr-F.Range (record it { span = CallSite })
layer_bared (Expr-F.Closure it) = Expr-F.Closure (record it { tokens = erased_stream it.tokens; span = CallSite })
layer_bared (Expr-F.Block stmts last span) = Expr-F.Block stmts last CallSite
layer_bared (Expr-F.Expr::Infer span) = Expr-F.Expr::Infer CallSite
layer_bared (Expr-F.Verbatim it) = Expr-F.Verbatim (erased_stream it)

out-bared : (layer : ExprLayer) → out-Expr (expr_bared layer) ≡ layer_bared layer
out-bared (Expr-F.Lit it) = expr.outs-Lit (erased_lit it)
out-bared (Expr-F.Expr::Path it) = expr.outs-Path it
out-bared (Expr-F.Expr::Array it) = expr.outs-Array (record it { span = CallSite })
out-bared (Expr-F.Repeat elem len span) = expr.outs-Repeat elem len CallSite
out-bared (Expr-F.Expr::Tuple elems span) = expr.outs-Tuple elems CallSite
out-bared (Expr-F.Expr::Paren inner span) = expr.outs-Paren inner CallSite
out-bared (Expr-F.Expr::Group inner span) = expr.outs-Group inner CallSite
out-bared (Expr-F.Unary op operand span) = expr.outs-Unary op operand CallSite
out-bared (Expr-F.Expr::Reference mutable operand span) = expr.outs-Reference mutable operand CallSite
out-bared (Expr-F.Binary left op right span) = expr.outs-Binary left op right CallSite
out-bared (Expr-F.Call func args span) = expr.outs-Call func args CallSite
out-bared (Expr-F.MethodCall receiver method turbofish args span) = expr.outs-MethodCall receiver (erased_ident method) turbofish args CallSite
out-bared (Expr-F.Field base member span) = expr.outs-Field base (erased_member member) CallSite
out-bared (Expr-F.Index base at span) = expr.outs-Index base at CallSite
out-bared (Expr-F.Try inner span) = expr.outs-Try inner CallSite
out-bared (Expr-F.Range it) = expr.outs-Range (record it { span = CallSite })
out-bared (Expr-F.Closure it) = expr.outs-Closure (record it { tokens = erased_stream it.tokens; span = CallSite })
out-bared (Expr-F.Block stmts last span) = expr.outs-Block stmts last CallSite
out-bared (Expr-F.Expr::Infer span) = expr.outs-Infer CallSite
out-bared (Expr-F.Verbatim it) = expr.outs-Verbatim (erased_stream it)

mapped-some : {A B : Type 0} (f : A → B) (found : Option A) (it : B) → option_map f found ≡ Some it → (value : A) × (found ≡ Some value) × (f value ≡ it)
mapped-some f None it e = absurd cc
mapped-some f (Some value) it e = (value, refl, same_Some (f value) it e)

-- a kind, of which the layer tells
module _ {A : Type 0} (part : ExprLayer → Option A) (bare : A → A) (print : A → Trees)
    (bares : (layer : ExprLayer) → part (layer_bared (erased_parts layer)) ≡ option_map bare (part layer))
    (prints : (layer : ExprLayer) (found : A) → part layer ≡ Some found → expr_rule (printed_parts layer) ≡ print found) where
  kind-bare : (it : Expr) → part (out-Expr (erased_expr it)) ≡ option_map bare (part (out-Expr it))
  kind-bare it = ap (λ it. part (out-Expr it)) (bare_expr-out it) ∙ ap part (out-bared (erased_parts (out-Expr it))) ∙ bares (out-Expr it)

  kind_of-back : ReadBack erased_expr expr_tokens expr_of → ReadBack bare print (λ tokens. of_kind part (expr_of tokens))
  kind_of-back h = record { of = λ tokens found e. by tokens found (expr_of tokens) refl e }
    where
      by : (tokens : TokenStream) (found : A) (read : Option Expr) → expr_of tokens ≡ read → of_kind part read ≡ Some found → (again : A) × (of_kind part (expr_of (stream_of (print found))) ≡ Some again) × (bare again ≡ bare found)
      by tokens found None is e = absurd cc
      by tokens found (Some it) is e =
          let one = h.of tokens it is in
          let same : option_map bare (part (out-Expr one.0)) ≡ Some (bare found) = sym (kind-bare one.0) ∙ ap (λ it. part (out-Expr it)) one.2 ∙ kind-bare it ∙ ap (option_map bare) e in
          let again = mapped-some bare (part (out-Expr one.0)) (bare found) same in
          (again.0, rw (← (prints (out-Expr it) found e), ← (expr_tokens-out it), one.1) (again.1), again.2)

array-bare : (layer : ExprLayer) → array_in (layer_bared (erased_parts layer)) ≡ option_map erased_expr_array (array_in layer)
array-bare (Expr-F.Expr::Array it) = refl
array-bare _ = refl

array-print : (layer : ExprLayer) (found : ExprArray Expr) → array_in layer ≡ Some found → expr_rule (printed_parts layer) ≡ array_tokens found
array-print (Expr-F.Expr::Array it) found e = ap array_tokens (same_Some it found e)
array-print _ found e = absurd cc

path-bare : (layer : ExprLayer) → path_in (layer_bared (erased_parts layer)) ≡ option_map erased_expr_path (path_in layer)
path-bare (Expr-F.Expr::Path it) = refl
path-bare _ = refl

path-print : (layer : ExprLayer) (found : ExprPath) → path_in layer ≡ Some found → expr_rule (printed_parts layer) ≡ expr_path_tokens found
path-print (Expr-F.Expr::Path it) found e = ap expr_path_tokens (same_Some it found e)
path-print _ found e = absurd cc

bare-range : (start end : Option Expr) (closed : Bool) (span : Span) → range_in (layer_bared (erased_parts (Expr-F.Range (record { start = start; end = end; closed = closed; span = span })))) ≡ Some (erased_expr_range (record { start = start; end = end; closed = closed; span = span }))
bare-range None None closed span = refl
bare-range None (Some end) closed span = refl
bare-range (Some start) None closed span = refl
bare-range (Some start) (Some end) closed span = refl

range-bare : (layer : ExprLayer) → range_in (layer_bared (erased_parts layer)) ≡ option_map erased_expr_range (range_in layer)
range-bare (Expr-F.Range it) = bare-range it.start it.end it.closed it.span
range-bare _ = refl

print-range : (start end : Option Expr) (closed : Bool) (span : Span) → expr_rule (printed_parts (Expr-F.Range (record { start = start; end = end; closed = closed; span = span }))) ≡ range_tokens (record { start = start; end = end; closed = closed; span = span })
print-range None None closed span = refl
print-range None (Some end) closed span = refl
print-range (Some start) None closed span = refl
print-range (Some start) (Some end) closed span = refl

range-print : (layer : ExprLayer) (found : ExprRange Expr) → range_in layer ≡ Some found → expr_rule (printed_parts layer) ≡ range_tokens found
range-print (Expr-F.Range it) found e = print-range it.start it.end it.closed it.span ∙ ap range_tokens (same_Some it found e)
range-print _ found e = absurd cc

module _ (exprs : ReadBack erased_expr expr_tokens expr_of) where
  pub expr_array_of-back : ReadBack erased_expr_array array_tokens expr_array_of
  unfolding expr_array_of
  expr_array_of-back = kind_of-back array_in erased_expr_array array_tokens array-bare array-print exprs

  pub expr_path_of-back : ReadBack erased_expr_path expr_path_tokens expr_path_of
  unfolding expr_path_of
  expr_path_of-back = kind_of-back path_in erased_expr_path expr_path_tokens path-bare path-print exprs

  pub expr_range_of-back : ReadBack erased_expr_range range_tokens expr_range_of
  unfolding expr_range_of
  expr_range_of-back = kind_of-back range_in erased_expr_range range_tokens range-bare range-print exprs
