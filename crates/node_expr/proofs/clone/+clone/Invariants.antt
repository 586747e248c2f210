-- Every call of the cycle falls: a part is smaller than the type that leads to it, and a function is
-- called by those that hold its argument in more.
use Rattle.std.proofs.Common.{◌≡◌, ℕ, ◌+◌, ◌*◌, take, Option, Some, None}
use Prim.Native.Nat.{max}
use denote.Param.Weighed.{most}
use Rattle.node_expr.specs.declared.expr.Expr.{Expr}
use Rattle.node_expr.proofs.expr.Expr.TheLaws.{the_size as expr_size}
use Rattle.node_expr.proofs.path.GenericArgument.TheLaws.{the_size as argument_size}
use Rattle.node_expr.proofs.clone.+clone.Given as goal

abbrev optional_size : Option Expr → ℕ
optional_size (Some expr) = expr_size expr
optional_size None = 0

-- the types that contain each other

abbrev pub decreases-expr::ExprTryClone::try_clone : goal.decreases-expr::ExprTryClone::try_clone
decreases-expr::ExprTryClone::try_clone a = 4 * goal.size-expr::ExprTryClone::try_clone a

abbrev pub decreases-expr::ExprPathTryClone::try_clone : goal.decreases-expr::ExprPathTryClone::try_clone
decreases-expr::ExprPathTryClone::try_clone a = 4 * goal.size-expr::ExprPathTryClone::try_clone a

abbrev pub decreases-generics::TypeParamBoundTryClone::try_clone : goal.decreases-generics::TypeParamBoundTryClone::try_clone
decreases-generics::TypeParamBoundTryClone::try_clone a = 4 * goal.size-generics::TypeParamBoundTryClone::try_clone a

abbrev pub decreases-generics::TraitBoundTryClone::try_clone : goal.decreases-generics::TraitBoundTryClone::try_clone
decreases-generics::TraitBoundTryClone::try_clone a = 4 * goal.size-generics::TraitBoundTryClone::try_clone a

abbrev pub decreases-path::PathTryClone::try_clone : goal.decreases-path::PathTryClone::try_clone
decreases-path::PathTryClone::try_clone a = 4 * goal.size-path::PathTryClone::try_clone a

abbrev pub decreases-path::PathSegmentTryClone::try_clone : goal.decreases-path::PathSegmentTryClone::try_clone
decreases-path::PathSegmentTryClone::try_clone a = 4 * goal.size-path::PathSegmentTryClone::try_clone a

abbrev pub decreases-path::PathArgumentsTryClone::try_clone : goal.decreases-path::PathArgumentsTryClone::try_clone
decreases-path::PathArgumentsTryClone::try_clone a = 4 * goal.size-path::PathArgumentsTryClone::try_clone a

abbrev pub decreases-path::GenericArgumentTryClone::try_clone : goal.decreases-path::GenericArgumentTryClone::try_clone
decreases-path::GenericArgumentTryClone::try_clone a = 4 * goal.size-path::GenericArgumentTryClone::try_clone a

abbrev pub decreases-ty::TypeTryClone::try_clone : goal.decreases-ty::TypeTryClone::try_clone
decreases-ty::TypeTryClone::try_clone a = 4 * goal.size-ty::TypeTryClone::try_clone a

abbrev pub decreases-ty::TypePathTryClone::try_clone : goal.decreases-ty::TypePathTryClone::try_clone
decreases-ty::TypePathTryClone::try_clone a = 4 * goal.size-ty::TypePathTryClone::try_clone a

abbrev pub decreases-ty::TypeArrayTryClone::try_clone : goal.decreases-ty::TypeArrayTryClone::try_clone
decreases-ty::TypeArrayTryClone::try_clone a = 4 * goal.size-ty::TypeArrayTryClone::try_clone a

-- what holds them

abbrev pub decreases-expr::clone_boxed_expr : goal.decreases-expr::clone_boxed_expr
decreases-expr::clone_boxed_expr a = 4 * goal.size-expr::clone_boxed_expr a + 1

abbrev pub decreases-expr::clone_exprs : goal.decreases-expr::clone_exprs
decreases-expr::clone_exprs a = 4 * goal.size-expr::clone_exprs a + 1

abbrev pub decreases-ty::clone_boxed_type : goal.decreases-ty::clone_boxed_type
decreases-ty::clone_boxed_type a = 4 * goal.size-ty::clone_boxed_type a + 1

abbrev pub decreases-ty::clone_types : goal.decreases-ty::clone_types
decreases-ty::clone_types a = 4 * goal.size-ty::clone_types a + 1

abbrev pub decreases-generics::clone_bounds : goal.decreases-generics::clone_bounds
decreases-generics::clone_bounds a = 4 * goal.size-generics::clone_bounds a + 1

abbrev pub decreases-path::clone_segments : goal.decreases-path::clone_segments
decreases-path::clone_segments a = 4 * goal.size-path::clone_segments a + 1

abbrev pub decreases-path::clone_generic_arguments : goal.decreases-path::clone_generic_arguments
decreases-path::clone_generic_arguments a = 4 * goal.size-path::clone_generic_arguments a + 1

abbrev pub decreases-ty::NamedArgTryClone::try_clone : goal.decreases-ty::NamedArgTryClone::try_clone
decreases-ty::NamedArgTryClone::try_clone a = 4 * goal.size-ty::NamedArgTryClone::try_clone a + 1

-- what holds that

abbrev pub decreases-expr::clone_optional_expr : goal.decreases-expr::clone_optional_expr
decreases-expr::clone_optional_expr a = 4 * goal.size-expr::clone_optional_expr a + 2

abbrev pub decreases-ty::clone_named_args : goal.decreases-ty::clone_named_args
decreases-ty::clone_named_args a = 4 * goal.size-ty::clone_named_args a + 2

abbrev pub decreases-expr::ExprArrayTryClone::try_clone : goal.decreases-expr::ExprArrayTryClone::try_clone
decreases-expr::ExprArrayTryClone::try_clone a = 4 * goal.size-expr::ExprArrayTryClone::try_clone a + 2

abbrev pub decreases-expr::ExprClosureTryClone::try_clone : goal.decreases-expr::ExprClosureTryClone::try_clone
decreases-expr::ExprClosureTryClone::try_clone a = 4 * goal.size-expr::ExprClosureTryClone::try_clone a + 2

abbrev pub decreases-path::QSelfTryClone::try_clone : goal.decreases-path::QSelfTryClone::try_clone
decreases-path::QSelfTryClone::try_clone a = 4 * goal.size-path::QSelfTryClone::try_clone a + 2

abbrev pub decreases-ty::ReturnTypeTryClone::try_clone : goal.decreases-ty::ReturnTypeTryClone::try_clone
decreases-ty::ReturnTypeTryClone::try_clone a = 4 * goal.size-ty::ReturnTypeTryClone::try_clone a + 2

abbrev pub decreases-ty::TypeReferenceTryClone::try_clone : goal.decreases-ty::TypeReferenceTryClone::try_clone
decreases-ty::TypeReferenceTryClone::try_clone a = 4 * goal.size-ty::TypeReferenceTryClone::try_clone a + 2

abbrev pub decreases-ty::TypePtrTryClone::try_clone : goal.decreases-ty::TypePtrTryClone::try_clone
decreases-ty::TypePtrTryClone::try_clone a = 4 * goal.size-ty::TypePtrTryClone::try_clone a + 2

abbrev pub decreases-ty::TypeSliceTryClone::try_clone : goal.decreases-ty::TypeSliceTryClone::try_clone
decreases-ty::TypeSliceTryClone::try_clone a = 4 * goal.size-ty::TypeSliceTryClone::try_clone a + 2

abbrev pub decreases-ty::TypeTupleTryClone::try_clone : goal.decreases-ty::TypeTupleTryClone::try_clone
decreases-ty::TypeTupleTryClone::try_clone a = 4 * goal.size-ty::TypeTupleTryClone::try_clone a + 2

abbrev pub decreases-ty::TypeParenTryClone::try_clone : goal.decreases-ty::TypeParenTryClone::try_clone
decreases-ty::TypeParenTryClone::try_clone a = 4 * goal.size-ty::TypeParenTryClone::try_clone a + 2

abbrev pub decreases-ty::TypeGroupTryClone::try_clone : goal.decreases-ty::TypeGroupTryClone::try_clone
decreases-ty::TypeGroupTryClone::try_clone a = 4 * goal.size-ty::TypeGroupTryClone::try_clone a + 2

abbrev pub decreases-ty::TypeTraitObjectTryClone::try_clone : goal.decreases-ty::TypeTraitObjectTryClone::try_clone
decreases-ty::TypeTraitObjectTryClone::try_clone a = 4 * goal.size-ty::TypeTraitObjectTryClone::try_clone a + 2

abbrev pub decreases-ty::TypeImplTraitTryClone::try_clone : goal.decreases-ty::TypeImplTraitTryClone::try_clone
decreases-ty::TypeImplTraitTryClone::try_clone a = 4 * goal.size-ty::TypeImplTraitTryClone::try_clone a + 2

abbrev pub decreases-expr::clone_tuple : goal.decreases-expr::clone_tuple
decreases-expr::clone_tuple a = 4 * goal.size-expr::clone_tuple a + 2

abbrev pub decreases-expr::clone_paren : goal.decreases-expr::clone_paren
decreases-expr::clone_paren a = 4 * goal.size-expr::clone_paren a + 2

abbrev pub decreases-expr::clone_group : goal.decreases-expr::clone_group
decreases-expr::clone_group a = 4 * goal.size-expr::clone_group a + 2

abbrev pub decreases-expr::clone_unary : goal.decreases-expr::clone_unary
decreases-expr::clone_unary a = 4 * goal.size-expr::clone_unary a + 2

abbrev pub decreases-expr::clone_reference : goal.decreases-expr::clone_reference
decreases-expr::clone_reference a = 4 * goal.size-expr::clone_reference a + 2

abbrev pub decreases-expr::clone_field : goal.decreases-expr::clone_field
decreases-expr::clone_field a = 4 * goal.size-expr::clone_field a + 2

abbrev pub decreases-expr::clone_try : goal.decreases-expr::clone_try
decreases-expr::clone_try a = 4 * goal.size-expr::clone_try a + 2

abbrev pub decreases-expr::clone_repeat : goal.decreases-expr::clone_repeat
decreases-expr::clone_repeat a = 4 * max (expr_size a.expr.now) (expr_size a.len.now) + 2

abbrev pub decreases-expr::clone_binary : goal.decreases-expr::clone_binary
decreases-expr::clone_binary a = 4 * max (expr_size a.left.now) (expr_size a.right.now) + 2

abbrev pub decreases-expr::clone_index : goal.decreases-expr::clone_index
decreases-expr::clone_index a = 4 * max (expr_size a.expr.now) (expr_size a.index.now) + 2

abbrev pub decreases-expr::clone_call : goal.decreases-expr::clone_call
decreases-expr::clone_call a = 4 * max (expr_size a.func.now) (most expr_size a.args.now) + 2

abbrev pub decreases-expr::clone_method_call : goal.decreases-expr::clone_method_call
decreases-expr::clone_method_call a = 4 * max (expr_size a.receiver.now) (max (most argument_size a.turbofish.now) (most expr_size a.args.now)) + 2

-- and what holds that

abbrev pub decreases-path::clone_qself : goal.decreases-path::clone_qself
decreases-path::clone_qself a = 4 * goal.size-path::clone_qself a + 3

abbrev pub decreases-expr::ExprRangeTryClone::try_clone : goal.decreases-expr::ExprRangeTryClone::try_clone
decreases-expr::ExprRangeTryClone::try_clone a = 4 * goal.size-expr::ExprRangeTryClone::try_clone a + 3

abbrev pub decreases-ty::TypeFnPtrTryClone::try_clone : goal.decreases-ty::TypeFnPtrTryClone::try_clone
decreases-ty::TypeFnPtrTryClone::try_clone a = 4 * goal.size-ty::TypeFnPtrTryClone::try_clone a + 3

abbrev pub decreases-expr::clone_block : goal.decreases-expr::clone_block
decreases-expr::clone_block a = 4 * max (most expr_size a.stmts.now) (optional_size a.last.now) + 3

-- what a loop has copied

abbrev pub invariant-expr::clone_exprs-loop-expr : goal.invariant-expr::clone_exprs-loop-expr
invariant-expr::clone_exprs-loop-expr l = l.copies ≡ take l.expr-index l.expr-items

abbrev pub invariant-ty::clone_types-loop-ty : goal.invariant-ty::clone_types-loop-ty
invariant-ty::clone_types-loop-ty l = l.copies ≡ take l.ty-index l.ty-items

abbrev pub invariant-ty::clone_named_args-loop-arg : goal.invariant-ty::clone_named_args-loop-arg
invariant-ty::clone_named_args-loop-arg l = l.copies ≡ take l.arg-index l.arg-items

abbrev pub invariant-generics::clone_bounds-loop-bound : goal.invariant-generics::clone_bounds-loop-bound
invariant-generics::clone_bounds-loop-bound l = l.copies ≡ take l.bound-index l.bound-items

abbrev pub invariant-path::clone_segments-loop-segment : goal.invariant-path::clone_segments-loop-segment
invariant-path::clone_segments-loop-segment l = l.copies ≡ take l.segment-index l.segment-items

abbrev pub invariant-path::clone_generic_arguments-loop-argument : goal.invariant-path::clone_generic_arguments-loop-argument
invariant-path::clone_generic_arguments-loop-argument l = l.copies ≡ take l.argument-index l.argument-items
