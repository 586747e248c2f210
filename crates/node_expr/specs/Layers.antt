-- One level of each node that lies on the cycle of types, expressions and paths. A node opens to its
-- layer (`out-Expr`), closes from it (`roll-Path`), and is folded over it (`fold-Expr`).
use Rattle.node_expr.specs.declared.expr.Expr.{Expr}
use Rattle.node_expr.specs.declared.expr.Expr.TheOpen.{Expr-F, TypeParamBound-F, GenericArgument-F, PathArguments-F, Type-F, ExprPath-F, TraitBound-F, Path-F, PathSegment-F, TypeArray-F, TypePath-F}
use Rattle.node_expr.specs.declared.expr.ExprPath.{ExprPath}
use Rattle.node_expr.specs.declared.generics.TraitBound.{TraitBound}
use Rattle.node_expr.specs.declared.generics.TypeParamBound.{TypeParamBound}
use Rattle.node_expr.specs.declared.path.GenericArgument.{GenericArgument}
use Rattle.node_expr.specs.declared.path.Path.{Path}
use Rattle.node_expr.specs.declared.path.PathArguments.{PathArguments}
use Rattle.node_expr.specs.declared.path.PathSegment.{PathSegment}
use Rattle.node_expr.specs.declared.ty.«Type».{«Type» as Type'}
use Rattle.node_expr.specs.declared.ty.TypeArray.{TypeArray}
use Rattle.node_expr.specs.declared.ty.TypePath.{TypePath}

-- an expression whose parts are nodes
abbrev pub ExprLayer : Type 0
ExprLayer = Expr-F Expr TypeParamBound GenericArgument PathArguments Type' ExprPath TraitBound Path PathSegment TypeArray TypePath

abbrev pub TypeParamBoundLayer : Type 0
TypeParamBoundLayer = TypeParamBound-F Expr TypeParamBound GenericArgument PathArguments Type' ExprPath TraitBound Path PathSegment TypeArray TypePath

abbrev pub GenericArgumentLayer : Type 0
GenericArgumentLayer = GenericArgument-F Expr TypeParamBound GenericArgument PathArguments Type' ExprPath TraitBound Path PathSegment TypeArray TypePath

abbrev pub PathArgumentsLayer : Type 0
PathArgumentsLayer = PathArguments-F Expr TypeParamBound GenericArgument PathArguments Type' ExprPath TraitBound Path PathSegment TypeArray TypePath

abbrev pub TypeLayer : Type 0
TypeLayer = Type-F Expr TypeParamBound GenericArgument PathArguments Type' ExprPath TraitBound Path PathSegment TypeArray TypePath

abbrev pub ExprPathLayer : Type 0
ExprPathLayer = ExprPath-F Expr TypeParamBound GenericArgument PathArguments Type' ExprPath TraitBound Path PathSegment TypeArray TypePath

abbrev pub TraitBoundLayer : Type 0
TraitBoundLayer = TraitBound-F Expr TypeParamBound GenericArgument PathArguments Type' ExprPath TraitBound Path PathSegment TypeArray TypePath

abbrev pub PathLayer : Type 0
PathLayer = Path-F Expr TypeParamBound GenericArgument PathArguments Type' ExprPath TraitBound Path PathSegment TypeArray TypePath

abbrev pub PathSegmentLayer : Type 0
PathSegmentLayer = PathSegment-F Expr TypeParamBound GenericArgument PathArguments Type' ExprPath TraitBound Path PathSegment TypeArray TypePath

abbrev pub TypeArrayLayer : Type 0
TypeArrayLayer = TypeArray-F Expr TypeParamBound GenericArgument PathArguments Type' ExprPath TraitBound Path PathSegment TypeArray TypePath

abbrev pub TypePathLayer : Type 0
TypePathLayer = TypePath-F Expr TypeParamBound GenericArgument PathArguments Type' ExprPath TraitBound Path PathSegment TypeArray TypePath
