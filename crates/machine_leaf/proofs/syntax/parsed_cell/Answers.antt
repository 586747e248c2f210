use Rattle.std.proofs.Common.{refl}
use Rattle.print_core.specs.Items.{type_param_tokens, visibility_tokens, where_tokens}
use Rattle.print_core.specs.Kinds.{fn_ptr_tokens, impl_trait_tokens, ptr_tokens, reference_tokens, slice_tokens, trait_object_tokens, type_group_tokens, type_paren_tokens, type_tuple_tokens}
use Rattle.print_core.specs.Nodes.{type_array_tokens, type_tokens}
use Rattle.print_core.specs.Types.{never_rule, type_infer_rule}
use Rattle.machine_cells.specs.Values.{syntax}
use Rattle.machine_leaf.proofs.syntax.parsed_cell.Goals as goal

pub returns-in-Type : goal.returns-in-Type
returns-in-Type c = rw c.in-Type.is (c.shown_cell.ensures (syntax type_tokens) (λ it. refl))

pub returns-in-TypeArray : goal.returns-in-TypeArray
returns-in-TypeArray c = rw c.in-TypeArray.is (c.shown_cell-in-TypeArray.ensures (syntax type_array_tokens) (λ it. refl))

pub returns-in-TypeFnPtr : goal.returns-in-TypeFnPtr
returns-in-TypeFnPtr c = rw c.in-TypeFnPtr.is (c.shown_cell-in-TypeFnPtr.ensures (syntax fn_ptr_tokens) (λ it. refl))

pub returns-in-TypeGroup : goal.returns-in-TypeGroup
returns-in-TypeGroup c = rw c.in-TypeGroup.is (c.shown_cell-in-TypeGroup.ensures (syntax type_group_tokens) (λ it. refl))

pub returns-in-TypeImplTrait : goal.returns-in-TypeImplTrait
returns-in-TypeImplTrait c = rw c.in-TypeImplTrait.is (c.shown_cell-in-TypeImplTrait.ensures (syntax impl_trait_tokens) (λ it. refl))

pub returns-in-TypeInfer : goal.returns-in-TypeInfer
returns-in-TypeInfer c = rw c.in-TypeInfer.is (c.shown_cell-in-TypeInfer.ensures (syntax type_infer_rule) (λ it. refl))

pub returns-in-TypeNever : goal.returns-in-TypeNever
returns-in-TypeNever c = rw c.in-TypeNever.is (c.shown_cell-in-TypeNever.ensures (syntax never_rule) (λ it. refl))

pub returns-in-TypeParam : goal.returns-in-TypeParam
returns-in-TypeParam c = rw c.in-TypeParam.is (c.shown_cell-in-TypeParam.ensures (syntax type_param_tokens) (λ it. refl))

pub returns-in-TypeParen : goal.returns-in-TypeParen
returns-in-TypeParen c = rw c.in-TypeParen.is (c.shown_cell-in-TypeParen.ensures (syntax type_paren_tokens) (λ it. refl))

pub returns-in-TypePtr : goal.returns-in-TypePtr
returns-in-TypePtr c = rw c.in-TypePtr.is (c.shown_cell-in-TypePtr.ensures (syntax ptr_tokens) (λ it. refl))

pub returns-in-TypeReference : goal.returns-in-TypeReference
returns-in-TypeReference c = rw c.in-TypeReference.is (c.shown_cell-in-TypeReference.ensures (syntax reference_tokens) (λ it. refl))

pub returns-in-TypeSlice : goal.returns-in-TypeSlice
returns-in-TypeSlice c = rw c.in-TypeSlice.is (c.shown_cell-in-TypeSlice.ensures (syntax slice_tokens) (λ it. refl))

pub returns-in-TypeTraitObject : goal.returns-in-TypeTraitObject
returns-in-TypeTraitObject c = rw c.in-TypeTraitObject.is (c.shown_cell-in-TypeTraitObject.ensures (syntax trait_object_tokens) (λ it. refl))

pub returns-in-TypeTuple : goal.returns-in-TypeTuple
returns-in-TypeTuple c = rw c.in-TypeTuple.is (c.shown_cell-in-TypeTuple.ensures (syntax type_tuple_tokens) (λ it. refl))

pub returns-in-Visibility : goal.returns-in-Visibility
returns-in-Visibility c = rw c.in-Visibility.is (c.shown_cell-in-Visibility.ensures (syntax visibility_tokens) (λ it. refl))

pub returns-in-WhereClause : goal.returns-in-WhereClause
returns-in-WhereClause c = rw c.in-WhereClause.is (c.shown_cell-in-WhereClause.ensures (syntax where_tokens) (λ it. refl))
