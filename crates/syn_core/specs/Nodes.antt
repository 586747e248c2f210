-- The types of nodes in one list, for definitions over them.
pub use Rattle.node_expr.specs.declared.expr.Expr.{Expr, out-Expr, roll-Expr}
pub use Rattle.node_expr.specs.declared.expr.Expr.TheVariants as expr
pub use Rattle.node_expr.specs.declared.expr.Expr.TheOpen.{Expr-F, TypeParamBound-F, GenericArgument-F, PathArguments-F, Type-F, ExprPath-F, TraitBound-F, Path-F, PathSegment-F, TypeArray-F, TypePath-F}
pub use Rattle.node_expr.specs.declared.expr.Expr.TheFolds.{fold-Expr, fold-TypeParamBound, fold-GenericArgument, fold-PathArguments, fold-Type, fold-ExprPath, fold-TraitBound, fold-Path, fold-PathSegment, fold-TypeArray, fold-TypePath}
pub use Rattle.node_expr.specs.declared.expr.ExprPath.{ExprPath, out-ExprPath, roll-ExprPath}
pub use Rattle.node_expr.specs.declared.expr.ExprArray.{ExprArray}
pub use Rattle.node_expr.specs.declared.expr.ExprRange.{ExprRange}
pub use Rattle.node_expr.specs.declared.expr.ExprClosure.{ExprClosure}
pub use Rattle.node_expr.specs.declared.expr.Member.{Member}
pub use Rattle.node_expr.specs.declared.expr.Member.TheVariants as member
pub use Rattle.node_expr.specs.declared.expr.UnOp.{UnOp}
pub use Rattle.node_expr.specs.declared.expr.UnOp.TheVariants as un_op
pub use Rattle.node_expr.specs.declared.expr.BinOp.{BinOp}
pub use Rattle.node_expr.specs.declared.expr.BinOp.TheVariants as bin_op
pub use Rattle.node_expr.specs.declared.generics.TypeParamBound.{TypeParamBound, out-TypeParamBound, roll-TypeParamBound}
pub use Rattle.node_expr.specs.declared.generics.TypeParamBound.TheVariants as type_param_bound
pub use Rattle.node_expr.specs.declared.generics.TraitBound.{TraitBound, out-TraitBound, roll-TraitBound}
pub use Rattle.node_expr.specs.declared.lit.Lit.{Lit}
pub use Rattle.node_expr.specs.declared.lit.Lit.TheVariants as lit
pub use Rattle.node_expr.specs.declared.lit.LitStr.{LitStr}
pub use Rattle.node_expr.specs.declared.lit.LitByteStr.{LitByteStr}
pub use Rattle.node_expr.specs.declared.lit.LitByte.{LitByte}
pub use Rattle.node_expr.specs.declared.lit.LitChar.{LitChar}
pub use Rattle.node_expr.specs.declared.lit.LitInt.{LitInt}
pub use Rattle.node_expr.specs.declared.lit.LitFloat.{LitFloat}
pub use Rattle.node_expr.specs.declared.lit.LitBool.{LitBool}
pub use Rattle.node_expr.specs.declared.path.Path.{Path, out-Path, roll-Path}
pub use Rattle.node_expr.specs.declared.path.PathSegment.{PathSegment, out-PathSegment, roll-PathSegment}
pub use Rattle.node_expr.specs.declared.path.PathArguments.{PathArguments, out-PathArguments, roll-PathArguments}
pub use Rattle.node_expr.specs.declared.path.PathArguments.TheVariants as path_arguments
pub use Rattle.node_expr.specs.declared.path.GenericArgument.{GenericArgument, out-GenericArgument, roll-GenericArgument}
pub use Rattle.node_expr.specs.declared.path.GenericArgument.TheVariants as generic_argument
pub use Rattle.node_expr.specs.declared.path.QSelf.{QSelf}
pub use Rattle.node_expr.specs.declared.ty.«Type».{«Type» as Ty, out-Type, roll-Type}
pub use Rattle.node_expr.specs.declared.ty.«Type».TheVariants as ty
pub use Rattle.node_expr.specs.declared.ty.TypePath.{TypePath, out-TypePath, roll-TypePath}
pub use Rattle.node_expr.specs.declared.ty.TypeReference.{TypeReference}
pub use Rattle.node_expr.specs.declared.ty.TypePtr.{TypePtr}
pub use Rattle.node_expr.specs.declared.ty.TypeSlice.{TypeSlice}
pub use Rattle.node_expr.specs.declared.ty.TypeArray.{TypeArray, out-TypeArray, roll-TypeArray}
pub use Rattle.node_expr.specs.declared.ty.TypeTuple.{TypeTuple}
pub use Rattle.node_expr.specs.declared.ty.TypeParen.{TypeParen}
pub use Rattle.node_expr.specs.declared.ty.TypeGroup.{TypeGroup}
pub use Rattle.node_expr.specs.declared.ty.TypeFnPtr.{TypeFnPtr}
pub use Rattle.node_expr.specs.declared.ty.TypeTraitObject.{TypeTraitObject}
pub use Rattle.node_expr.specs.declared.ty.TypeImplTrait.{TypeImplTrait}
pub use Rattle.node_expr.specs.declared.ty.TypeNever.{TypeNever}
pub use Rattle.node_expr.specs.declared.ty.TypeInfer.{TypeInfer}
pub use Rattle.node_expr.specs.declared.ty.ReturnType.{ReturnType}
pub use Rattle.node_expr.specs.declared.ty.ReturnType.TheVariants as return_type
pub use Rattle.node_expr.specs.declared.ty.NamedArg.{NamedArg}
pub use Rattle.node_expr.specs.declared.ty.FnArg.{FnArg}
pub use Rattle.node_core.specs.declared.attr.Attribute.{Attribute}
pub use Rattle.node_core.specs.declared.attr.Meta.{Meta}
pub use Rattle.node_core.specs.declared.attr.Meta.TheVariants as meta
pub use Rattle.node_core.specs.declared.attr.MetaList.{MetaList}
pub use Rattle.node_core.specs.declared.attr.MetaNameValue.{MetaNameValue}
pub use Rattle.node_core.specs.declared.data.Visibility.{Visibility}
pub use Rattle.node_core.specs.declared.data.Visibility.TheVariants as visibility
pub use Rattle.node_core.specs.declared.data.Field.{Field}
pub use Rattle.node_core.specs.declared.data.Fields.{Fields}
pub use Rattle.node_core.specs.declared.data.Fields.TheVariants as fields
pub use Rattle.node_core.specs.declared.data.FieldsNamed.{FieldsNamed}
pub use Rattle.node_core.specs.declared.data.FieldsUnnamed.{FieldsUnnamed}
pub use Rattle.node_core.specs.declared.data.Variant.{Variant}
pub use Rattle.node_core.specs.declared.data.«Data».{«Data» as Data}
pub use Rattle.node_core.specs.declared.data.«Data».TheVariants as body
pub use Rattle.node_core.specs.declared.data.DataStruct.{DataStruct}
pub use Rattle.node_core.specs.declared.data.DataEnum.{DataEnum}
pub use Rattle.node_core.specs.declared.data.DataUnion.{DataUnion}
pub use Rattle.node_core.specs.declared.derive.DeriveInput.{DeriveInput}
pub use Rattle.node_core.specs.declared.generics.Generics.{Generics}
pub use Rattle.node_core.specs.declared.generics.GenericParam.{GenericParam}
pub use Rattle.node_core.specs.declared.generics.GenericParam.TheVariants as generic_param
pub use Rattle.node_core.specs.declared.generics.LifetimeParam.{LifetimeParam}
pub use Rattle.node_core.specs.declared.generics.TypeParam.{TypeParam}
pub use Rattle.node_core.specs.declared.generics.ConstParam.{ConstParam}
pub use Rattle.node_core.specs.declared.generics.WhereClause.{WhereClause}
pub use Rattle.node_core.specs.declared.generics.WherePredicate.{WherePredicate}
pub use Rattle.node_core.specs.declared.generics.WherePredicate.TheVariants as where_predicate
pub use Rattle.node_core.specs.declared.punctuated.Punctuated.{Punctuated}
pub use Rattle.node_core.specs.declared.punctuated.Comma.{Comma}
pub use Rattle.node_core.specs.declared.error.SynError.{SynError}
