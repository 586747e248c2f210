-- A node without its places, one level of it opened.
use Rattle.std.proofs.Common.{◌≡◌, ◌∙◌, ap, sym}
use Rattle.node_expr.specs.declared.expr.Expr.{Expr, roll-Expr, out-Expr, roll-out-Expr, out-roll-Expr}
use Rattle.node_expr.specs.declared.expr.ExprPath.{ExprPath, roll-ExprPath, out-ExprPath, roll-out-ExprPath, out-roll-ExprPath}
use Rattle.node_expr.specs.declared.path.GenericArgument.{GenericArgument, roll-GenericArgument, out-GenericArgument, roll-out-GenericArgument, out-roll-GenericArgument}
use Rattle.node_expr.specs.declared.path.Path.{Path, roll-Path, out-Path, roll-out-Path, out-roll-Path}
use Rattle.node_expr.specs.declared.path.PathArguments.{PathArguments, roll-PathArguments, out-PathArguments, roll-out-PathArguments, out-roll-PathArguments}
use Rattle.node_expr.specs.declared.path.PathSegment.{PathSegment, roll-PathSegment, out-PathSegment, roll-out-PathSegment, out-roll-PathSegment}
use Rattle.node_expr.specs.declared.ty.«Type».{«Type» as Type', roll-Type, out-Type, roll-out-Type, out-roll-Type}
use Rattle.node_expr.specs.declared.ty.TypePath.{TypePath, roll-TypePath, out-TypePath, roll-out-TypePath, out-roll-TypePath}
use Rattle.law_spans.specs.Erased.{erased_argument, erased_arguments, erased_expr, erased_expr_path, erased_path, erased_segment, erased_type, erased_type_path}
use Rattle.law_equality.proofs.Arguments.{bare_argument, argument-bare}
use Rattle.law_equality.proofs.Exprs.{bare_expr, expr-bare}
use Rattle.law_equality.proofs.PathArguments.{bare_arguments, arguments-bare}
use Rattle.law_equality.proofs.Paths.{bare_path, path-bare, bare_segment, segment-bare, bare_expr_path, expr_path-bare, bare_type_path, type_path-bare}
use Rattle.law_equality.proofs.Types.{bare_type, type-bare}

module _ {Node Layer : Type 0} (roll : Layer → Node) (out : Node → Layer) (roll-out : (it : Node) → roll (out it) ≡ it) (out-roll : (layer : Layer) → out (roll layer) ≡ layer)
    (erased : Node → Node) (bare : Layer → Layer) (rolled : (layer : Layer) → erased (roll layer) ≡ roll (bare layer)) where
  opened : (it : Node) → out (erased it) ≡ bare (out it)
  opened it = ap (λ node. out (erased node)) (sym (roll-out it)) ∙ ap out (rolled (out it)) ∙ out-roll (bare (out it))

pub opened_type : (it : Type') → out-Type (erased_type it) ≡ bare_type (out-Type it)
opened_type = opened roll-Type out-Type roll-out-Type out-roll-Type erased_type bare_type type-bare

pub opened_type_path : (it : TypePath) → out-TypePath (erased_type_path it) ≡ bare_type_path (out-TypePath it)
opened_type_path = opened roll-TypePath out-TypePath roll-out-TypePath out-roll-TypePath erased_type_path bare_type_path type_path-bare

pub opened_path : (it : Path) → out-Path (erased_path it) ≡ bare_path (out-Path it)
opened_path = opened roll-Path out-Path roll-out-Path out-roll-Path erased_path bare_path path-bare

pub opened_segment : (it : PathSegment) → out-PathSegment (erased_segment it) ≡ bare_segment (out-PathSegment it)
opened_segment = opened roll-PathSegment out-PathSegment roll-out-PathSegment out-roll-PathSegment erased_segment bare_segment segment-bare

pub opened_arguments : (it : PathArguments) → out-PathArguments (erased_arguments it) ≡ bare_arguments (out-PathArguments it)
opened_arguments = opened roll-PathArguments out-PathArguments roll-out-PathArguments out-roll-PathArguments erased_arguments bare_arguments arguments-bare

pub opened_argument : (it : GenericArgument) → out-GenericArgument (erased_argument it) ≡ bare_argument (out-GenericArgument it)
opened_argument = opened roll-GenericArgument out-GenericArgument roll-out-GenericArgument out-roll-GenericArgument erased_argument bare_argument argument-bare

pub opened_expr : (it : Expr) → out-Expr (erased_expr it) ≡ bare_expr (out-Expr it)
opened_expr = opened roll-Expr out-Expr roll-out-Expr out-roll-Expr erased_expr bare_expr expr-bare

pub opened_expr_path : (it : ExprPath) → out-ExprPath (erased_expr_path it) ≡ bare_expr_path (out-ExprPath it)
opened_expr_path = opened roll-ExprPath out-ExprPath roll-out-ExprPath out-roll-ExprPath erased_expr_path bare_expr_path expr_path-bare
