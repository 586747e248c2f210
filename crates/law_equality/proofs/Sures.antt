-- Nodes of which it is known what `==` says of them.
use Rattle.node_expr.specs.Layers.{ExprLayer, TypeParamBoundLayer, GenericArgumentLayer, PathArgumentsLayer, TypeLayer, ExprPathLayer, TraitBoundLayer, PathLayer, PathSegmentLayer, TypeArrayLayer, TypePathLayer}
use Rattle.node_expr.specs.contracts.expr.ExprPartialEq.TheImpl as expr_eq
use Rattle.node_expr.specs.contracts.generics.TypeParamBoundPartialEq.TheImpl as bound_eq
use Rattle.node_expr.specs.contracts.path.GenericArgumentPartialEq.TheImpl as argument_eq
use Rattle.node_expr.specs.contracts.path.PathArgumentsPartialEq.TheImpl as arguments_eq
use Rattle.node_expr.specs.contracts.ty.TypePartialEq.TheImpl as type_eq
use Rattle.node_expr.specs.contracts.expr.ExprPathPartialEq.TheImpl as expr_path_eq
use Rattle.node_expr.specs.contracts.generics.TraitBoundPartialEq.TheImpl as trait_bound_eq
use Rattle.node_expr.specs.contracts.path.PathPartialEq.TheImpl as path_eq
use Rattle.node_expr.specs.contracts.path.PathSegmentPartialEq.TheImpl as segment_eq
use Rattle.node_expr.specs.contracts.ty.TypeArrayPartialEq.TheImpl as array_eq
use Rattle.node_expr.specs.contracts.ty.TypePathPartialEq.TheImpl as type_path_eq
use Rattle.node_expr.specs.declared.expr.Expr.TheFolds.{map-Expr, map-TypeParamBound, map-GenericArgument, map-PathArguments, map-Type, map-ExprPath, map-TraitBound, map-Path, map-PathSegment, map-TypeArray, map-TypePath}
use Rattle.node_expr.specs.declared.expr.Expr.TheOpen.{Expr-F, TypeParamBound-F, GenericArgument-F, PathArguments-F, Type-F, ExprPath-F, TraitBound-F, Path-F, PathSegment-F, TypeArray-F, TypePath-F}
use Rattle.node_expr.specs.declared.expr.Expr.{Expr}
use Rattle.node_expr.specs.declared.generics.TypeParamBound.{TypeParamBound}
use Rattle.node_expr.specs.declared.path.GenericArgument.{GenericArgument}
use Rattle.node_expr.specs.declared.path.PathArguments.{PathArguments}
use Rattle.node_expr.specs.declared.ty.«Type».{«Type» as Type'}
use Rattle.node_expr.specs.declared.expr.ExprPath.{ExprPath}
use Rattle.node_expr.specs.declared.generics.TraitBound.{TraitBound}
use Rattle.node_expr.specs.declared.path.Path.{Path}
use Rattle.node_expr.specs.declared.path.PathSegment.{PathSegment}
use Rattle.node_expr.specs.declared.ty.TypeArray.{TypeArray}
use Rattle.node_expr.specs.declared.ty.TypePath.{TypePath}
use Rattle.law_spans.specs.Erased.{erased_expr, erased_bound, erased_argument, erased_arguments, erased_type, erased_expr_path, erased_trait_bound, erased_path, erased_segment, erased_array, erased_type_path}
use Rattle.law_equality.proofs.Deciding.{Sure}

abbrev pub SureExpr : Type 0
SureExpr = Sure expr_eq.ghosts.eq erased_expr

abbrev pub SureTypeParamBound : Type 0
SureTypeParamBound = Sure bound_eq.ghosts.eq erased_bound

abbrev pub SureGenericArgument : Type 0
SureGenericArgument = Sure argument_eq.ghosts.eq erased_argument

abbrev pub SurePathArguments : Type 0
SurePathArguments = Sure arguments_eq.ghosts.eq erased_arguments

abbrev pub SureType : Type 0
SureType = Sure type_eq.ghosts.eq erased_type

abbrev pub SureExprPath : Type 0
SureExprPath = Sure expr_path_eq.ghosts.eq erased_expr_path

abbrev pub SureTraitBound : Type 0
SureTraitBound = Sure trait_bound_eq.ghosts.eq erased_trait_bound

abbrev pub SurePath : Type 0
SurePath = Sure path_eq.ghosts.eq erased_path

abbrev pub SurePathSegment : Type 0
SurePathSegment = Sure segment_eq.ghosts.eq erased_segment

abbrev pub SureTypeArray : Type 0
SureTypeArray = Sure array_eq.ghosts.eq erased_array

abbrev pub SureTypePath : Type 0
SureTypePath = Sure type_path_eq.ghosts.eq erased_type_path

-- one level of a node whose parts are sure

abbrev pub SureExprLayer : Type 0
SureExprLayer = Expr-F SureExpr SureTypeParamBound SureGenericArgument SurePathArguments SureType SureExprPath SureTraitBound SurePath SurePathSegment SureTypeArray SureTypePath

abbrev pub SureTypeParamBoundLayer : Type 0
SureTypeParamBoundLayer = TypeParamBound-F SureExpr SureTypeParamBound SureGenericArgument SurePathArguments SureType SureExprPath SureTraitBound SurePath SurePathSegment SureTypeArray SureTypePath

abbrev pub SureGenericArgumentLayer : Type 0
SureGenericArgumentLayer = GenericArgument-F SureExpr SureTypeParamBound SureGenericArgument SurePathArguments SureType SureExprPath SureTraitBound SurePath SurePathSegment SureTypeArray SureTypePath

abbrev pub SurePathArgumentsLayer : Type 0
SurePathArgumentsLayer = PathArguments-F SureExpr SureTypeParamBound SureGenericArgument SurePathArguments SureType SureExprPath SureTraitBound SurePath SurePathSegment SureTypeArray SureTypePath

abbrev pub SureTypeLayer : Type 0
SureTypeLayer = Type-F SureExpr SureTypeParamBound SureGenericArgument SurePathArguments SureType SureExprPath SureTraitBound SurePath SurePathSegment SureTypeArray SureTypePath

abbrev pub SureExprPathLayer : Type 0
SureExprPathLayer = ExprPath-F SureExpr SureTypeParamBound SureGenericArgument SurePathArguments SureType SureExprPath SureTraitBound SurePath SurePathSegment SureTypeArray SureTypePath

abbrev pub SureTraitBoundLayer : Type 0
SureTraitBoundLayer = TraitBound-F SureExpr SureTypeParamBound SureGenericArgument SurePathArguments SureType SureExprPath SureTraitBound SurePath SurePathSegment SureTypeArray SureTypePath

abbrev pub SurePathLayer : Type 0
SurePathLayer = Path-F SureExpr SureTypeParamBound SureGenericArgument SurePathArguments SureType SureExprPath SureTraitBound SurePath SurePathSegment SureTypeArray SureTypePath

abbrev pub SurePathSegmentLayer : Type 0
SurePathSegmentLayer = PathSegment-F SureExpr SureTypeParamBound SureGenericArgument SurePathArguments SureType SureExprPath SureTraitBound SurePath SurePathSegment SureTypeArray SureTypePath

abbrev pub SureTypeArrayLayer : Type 0
SureTypeArrayLayer = TypeArray-F SureExpr SureTypeParamBound SureGenericArgument SurePathArguments SureType SureExprPath SureTraitBound SurePath SurePathSegment SureTypeArray SureTypePath

abbrev pub SureTypePathLayer : Type 0
SureTypePathLayer = TypePath-F SureExpr SureTypeParamBound SureGenericArgument SurePathArguments SureType SureExprPath SureTraitBound SurePath SurePathSegment SureTypeArray SureTypePath

-- without what is sure

abbrev pub forget_expr : SureExprLayer → ExprLayer
forget_expr = map-Expr SureExpr SureTypeParamBound SureGenericArgument SurePathArguments SureType SureExprPath SureTraitBound SurePath SurePathSegment SureTypeArray SureTypePath Expr TypeParamBound GenericArgument PathArguments Type' ExprPath TraitBound Path PathSegment TypeArray TypePath (λ e. e.0) (λ e. e.0) (λ e. e.0) (λ e. e.0) (λ e. e.0) (λ e. e.0) (λ e. e.0) (λ e. e.0) (λ e. e.0) (λ e. e.0) (λ e. e.0)

abbrev pub forget_bound : SureTypeParamBoundLayer → TypeParamBoundLayer
forget_bound = map-TypeParamBound SureExpr SureTypeParamBound SureGenericArgument SurePathArguments SureType SureExprPath SureTraitBound SurePath SurePathSegment SureTypeArray SureTypePath Expr TypeParamBound GenericArgument PathArguments Type' ExprPath TraitBound Path PathSegment TypeArray TypePath (λ e. e.0) (λ e. e.0) (λ e. e.0) (λ e. e.0) (λ e. e.0) (λ e. e.0) (λ e. e.0) (λ e. e.0) (λ e. e.0) (λ e. e.0) (λ e. e.0)

abbrev pub forget_argument : SureGenericArgumentLayer → GenericArgumentLayer
forget_argument = map-GenericArgument SureExpr SureTypeParamBound SureGenericArgument SurePathArguments SureType SureExprPath SureTraitBound SurePath SurePathSegment SureTypeArray SureTypePath Expr TypeParamBound GenericArgument PathArguments Type' ExprPath TraitBound Path PathSegment TypeArray TypePath (λ e. e.0) (λ e. e.0) (λ e. e.0) (λ e. e.0) (λ e. e.0) (λ e. e.0) (λ e. e.0) (λ e. e.0) (λ e. e.0) (λ e. e.0) (λ e. e.0)

abbrev pub forget_arguments : SurePathArgumentsLayer → PathArgumentsLayer
forget_arguments = map-PathArguments SureExpr SureTypeParamBound SureGenericArgument SurePathArguments SureType SureExprPath SureTraitBound SurePath SurePathSegment SureTypeArray SureTypePath Expr TypeParamBound GenericArgument PathArguments Type' ExprPath TraitBound Path PathSegment TypeArray TypePath (λ e. e.0) (λ e. e.0) (λ e. e.0) (λ e. e.0) (λ e. e.0) (λ e. e.0) (λ e. e.0) (λ e. e.0) (λ e. e.0) (λ e. e.0) (λ e. e.0)

abbrev pub forget_type : SureTypeLayer → TypeLayer
forget_type = map-Type SureExpr SureTypeParamBound SureGenericArgument SurePathArguments SureType SureExprPath SureTraitBound SurePath SurePathSegment SureTypeArray SureTypePath Expr TypeParamBound GenericArgument PathArguments Type' ExprPath TraitBound Path PathSegment TypeArray TypePath (λ e. e.0) (λ e. e.0) (λ e. e.0) (λ e. e.0) (λ e. e.0) (λ e. e.0) (λ e. e.0) (λ e. e.0) (λ e. e.0) (λ e. e.0) (λ e. e.0)

abbrev pub forget_expr_path : SureExprPathLayer → ExprPathLayer
forget_expr_path = map-ExprPath SureExpr SureTypeParamBound SureGenericArgument SurePathArguments SureType SureExprPath SureTraitBound SurePath SurePathSegment SureTypeArray SureTypePath Expr TypeParamBound GenericArgument PathArguments Type' ExprPath TraitBound Path PathSegment TypeArray TypePath (λ e. e.0) (λ e. e.0) (λ e. e.0) (λ e. e.0) (λ e. e.0) (λ e. e.0) (λ e. e.0) (λ e. e.0) (λ e. e.0) (λ e. e.0) (λ e. e.0)

abbrev pub forget_trait_bound : SureTraitBoundLayer → TraitBoundLayer
forget_trait_bound = map-TraitBound SureExpr SureTypeParamBound SureGenericArgument SurePathArguments SureType SureExprPath SureTraitBound SurePath SurePathSegment SureTypeArray SureTypePath Expr TypeParamBound GenericArgument PathArguments Type' ExprPath TraitBound Path PathSegment TypeArray TypePath (λ e. e.0) (λ e. e.0) (λ e. e.0) (λ e. e.0) (λ e. e.0) (λ e. e.0) (λ e. e.0) (λ e. e.0) (λ e. e.0) (λ e. e.0) (λ e. e.0)

abbrev pub forget_path : SurePathLayer → PathLayer
forget_path = map-Path SureExpr SureTypeParamBound SureGenericArgument SurePathArguments SureType SureExprPath SureTraitBound SurePath SurePathSegment SureTypeArray SureTypePath Expr TypeParamBound GenericArgument PathArguments Type' ExprPath TraitBound Path PathSegment TypeArray TypePath (λ e. e.0) (λ e. e.0) (λ e. e.0) (λ e. e.0) (λ e. e.0) (λ e. e.0) (λ e. e.0) (λ e. e.0) (λ e. e.0) (λ e. e.0) (λ e. e.0)

abbrev pub forget_segment : SurePathSegmentLayer → PathSegmentLayer
forget_segment = map-PathSegment SureExpr SureTypeParamBound SureGenericArgument SurePathArguments SureType SureExprPath SureTraitBound SurePath SurePathSegment SureTypeArray SureTypePath Expr TypeParamBound GenericArgument PathArguments Type' ExprPath TraitBound Path PathSegment TypeArray TypePath (λ e. e.0) (λ e. e.0) (λ e. e.0) (λ e. e.0) (λ e. e.0) (λ e. e.0) (λ e. e.0) (λ e. e.0) (λ e. e.0) (λ e. e.0) (λ e. e.0)

abbrev pub forget_array : SureTypeArrayLayer → TypeArrayLayer
forget_array = map-TypeArray SureExpr SureTypeParamBound SureGenericArgument SurePathArguments SureType SureExprPath SureTraitBound SurePath SurePathSegment SureTypeArray SureTypePath Expr TypeParamBound GenericArgument PathArguments Type' ExprPath TraitBound Path PathSegment TypeArray TypePath (λ e. e.0) (λ e. e.0) (λ e. e.0) (λ e. e.0) (λ e. e.0) (λ e. e.0) (λ e. e.0) (λ e. e.0) (λ e. e.0) (λ e. e.0) (λ e. e.0)

abbrev pub forget_type_path : SureTypePathLayer → TypePathLayer
forget_type_path = map-TypePath SureExpr SureTypeParamBound SureGenericArgument SurePathArguments SureType SureExprPath SureTraitBound SurePath SurePathSegment SureTypeArray SureTypePath Expr TypeParamBound GenericArgument PathArguments Type' ExprPath TraitBound Path PathSegment TypeArray TypePath (λ e. e.0) (λ e. e.0) (λ e. e.0) (λ e. e.0) (λ e. e.0) (λ e. e.0) (λ e. e.0) (λ e. e.0) (λ e. e.0) (λ e. e.0) (λ e. e.0)
