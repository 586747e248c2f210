use Rattle.node_expr.specs.contracts.expr.Expr.{the_row as expr_row}
use Rattle.node_expr.specs.contracts.expr.ExprHash.TheImpl as expr_hash
use Rattle.node_expr.specs.contracts.expr.ExprHash.TheImpl.Laws as expr_hash_laws
use Rattle.node_expr.specs.contracts.expr.ExprEq.TheImpl as expr_equivalence
use Rattle.node_expr.specs.contracts.expr.ExprEq.TheImpl.Laws as expr_equivalence_laws
use Rattle.node_expr.specs.contracts.expr.ExprPartialEq.TheImpl as expr_eq
use Rattle.node_expr.specs.contracts.expr.ExprPartialEq.TheImpl.Laws as expr_eq_laws
use Rattle.node_expr.specs.contracts.ty.«Type».{the_row as type_row}
use Rattle.node_expr.specs.contracts.ty.TypeHash.TheImpl as type_hash
use Rattle.node_expr.specs.contracts.ty.TypeHash.TheImpl.Laws as type_hash_laws
use Rattle.node_expr.specs.contracts.ty.TypeEq.TheImpl as type_equivalence
use Rattle.node_expr.specs.contracts.ty.TypeEq.TheImpl.Laws as type_equivalence_laws
use Rattle.node_expr.specs.contracts.ty.TypePartialEq.TheImpl as type_eq
use Rattle.node_expr.specs.contracts.ty.TypePartialEq.TheImpl.Laws as type_eq_laws
use Rattle.node_expr.specs.contracts.generics.TypeParamBound.{the_row as bound_row}
use Rattle.node_expr.specs.contracts.generics.TypeParamBoundHash.TheImpl as bound_hash
use Rattle.node_expr.specs.contracts.generics.TypeParamBoundHash.TheImpl.Laws as bound_hash_laws
use Rattle.node_expr.specs.contracts.generics.TypeParamBoundEq.TheImpl as bound_equivalence
use Rattle.node_expr.specs.contracts.generics.TypeParamBoundEq.TheImpl.Laws as bound_equivalence_laws
use Rattle.node_expr.specs.contracts.generics.TypeParamBoundPartialEq.TheImpl as bound_eq
use Rattle.node_expr.specs.contracts.generics.TypeParamBoundPartialEq.TheImpl.Laws as bound_eq_laws
use Rattle.node_expr.specs.contracts.expr.ExprArrayHash.TheImpl.Laws as expr_array
use Rattle.node_expr.specs.contracts.expr.ExprRangeHash.TheImpl.Laws as expr_range
use Rattle.node_expr.specs.contracts.expr.ExprClosureHash.TheImpl.Laws as expr_closure
use Rattle.node_expr.specs.contracts.path.QSelfHash.TheImpl.Laws as qself
use Rattle.node_expr.specs.contracts.ty.TypeReferenceHash.TheImpl.Laws as type_reference
use Rattle.node_expr.specs.contracts.ty.TypePtrHash.TheImpl.Laws as type_ptr
use Rattle.node_expr.specs.contracts.ty.TypeSliceHash.TheImpl.Laws as type_slice
use Rattle.node_expr.specs.contracts.ty.TypeTupleHash.TheImpl.Laws as type_tuple
use Rattle.node_expr.specs.contracts.ty.TypeParenHash.TheImpl.Laws as type_paren
use Rattle.node_expr.specs.contracts.ty.TypeGroupHash.TheImpl.Laws as type_group
use Rattle.node_expr.specs.contracts.ty.TypeFnPtrHash.TheImpl.Laws as type_fn_ptr
use Rattle.node_expr.specs.contracts.ty.TypeTraitObjectHash.TheImpl.Laws as type_trait_object
use Rattle.node_expr.specs.contracts.ty.TypeImplTraitHash.TheImpl.Laws as type_impl_trait
use Rattle.node_expr.specs.contracts.ty.NamedArgHash.TheImpl.Laws as named_arg
use Rattle.node_expr.specs.contracts.ty.ReturnTypeHash.TheImpl.Laws as return_type
use Rattle.law_equality.proofs.equal_parts_hash_alike.Goals as goal

pub returns-clause-expr_array : goal.returns-clause-expr_array
returns-clause-expr_array c =
    record {
      fed = expr_array.respects_eq-law expr_row expr_hash.ghosts expr_hash.dict expr_equivalence.ghosts expr_equivalence.dict expr_eq.ghosts expr_eq.dict
          (record { respects_eq = expr_hash_laws.respects_eq-law }) (record { laws = expr_equivalence_laws.laws-law }) (record { laws = expr_eq_laws.laws-law });
    }

pub returns-clause-expr_range : goal.returns-clause-expr_range
returns-clause-expr_range c =
    record {
      fed = expr_range.respects_eq-law expr_row expr_hash.ghosts expr_hash.dict expr_equivalence.ghosts expr_equivalence.dict expr_eq.ghosts expr_eq.dict
          (record { respects_eq = expr_hash_laws.respects_eq-law }) (record { laws = expr_equivalence_laws.laws-law }) (record { laws = expr_eq_laws.laws-law });
    }

pub returns-clause-expr_closure : goal.returns-clause-expr_closure
returns-clause-expr_closure c =
    record {
      fed = expr_closure.respects_eq-law expr_row expr_hash.ghosts expr_hash.dict expr_equivalence.ghosts expr_equivalence.dict expr_eq.ghosts expr_eq.dict
          (record { respects_eq = expr_hash_laws.respects_eq-law }) (record { laws = expr_equivalence_laws.laws-law }) (record { laws = expr_eq_laws.laws-law });
    }

pub returns-clause-qself : goal.returns-clause-qself
returns-clause-qself c =
    record {
      fed = qself.respects_eq-law type_row type_hash.ghosts type_hash.dict type_equivalence.ghosts type_equivalence.dict type_eq.ghosts type_eq.dict
          (record { respects_eq = type_hash_laws.respects_eq-law }) (record { laws = type_equivalence_laws.laws-law }) (record { laws = type_eq_laws.laws-law });
    }

pub returns-clause-type_reference : goal.returns-clause-type_reference
returns-clause-type_reference c =
    record {
      fed = type_reference.respects_eq-law type_row type_hash.ghosts type_hash.dict type_equivalence.ghosts type_equivalence.dict type_eq.ghosts type_eq.dict
          (record { respects_eq = type_hash_laws.respects_eq-law }) (record { laws = type_equivalence_laws.laws-law }) (record { laws = type_eq_laws.laws-law });
    }

pub returns-clause-type_ptr : goal.returns-clause-type_ptr
returns-clause-type_ptr c =
    record {
      fed = type_ptr.respects_eq-law type_row type_hash.ghosts type_hash.dict type_equivalence.ghosts type_equivalence.dict type_eq.ghosts type_eq.dict
          (record { respects_eq = type_hash_laws.respects_eq-law }) (record { laws = type_equivalence_laws.laws-law }) (record { laws = type_eq_laws.laws-law });
    }

pub returns-clause-type_slice : goal.returns-clause-type_slice
returns-clause-type_slice c =
    record {
      fed = type_slice.respects_eq-law type_row type_hash.ghosts type_hash.dict type_equivalence.ghosts type_equivalence.dict type_eq.ghosts type_eq.dict
          (record { respects_eq = type_hash_laws.respects_eq-law }) (record { laws = type_equivalence_laws.laws-law }) (record { laws = type_eq_laws.laws-law });
    }

pub returns-clause-type_tuple : goal.returns-clause-type_tuple
returns-clause-type_tuple c =
    record {
      fed = type_tuple.respects_eq-law type_row type_hash.ghosts type_hash.dict type_equivalence.ghosts type_equivalence.dict type_eq.ghosts type_eq.dict
          (record { respects_eq = type_hash_laws.respects_eq-law }) (record { laws = type_equivalence_laws.laws-law }) (record { laws = type_eq_laws.laws-law });
    }

pub returns-clause-type_paren : goal.returns-clause-type_paren
returns-clause-type_paren c =
    record {
      fed = type_paren.respects_eq-law type_row type_hash.ghosts type_hash.dict type_equivalence.ghosts type_equivalence.dict type_eq.ghosts type_eq.dict
          (record { respects_eq = type_hash_laws.respects_eq-law }) (record { laws = type_equivalence_laws.laws-law }) (record { laws = type_eq_laws.laws-law });
    }

pub returns-clause-type_group : goal.returns-clause-type_group
returns-clause-type_group c =
    record {
      fed = type_group.respects_eq-law type_row type_hash.ghosts type_hash.dict type_equivalence.ghosts type_equivalence.dict type_eq.ghosts type_eq.dict
          (record { respects_eq = type_hash_laws.respects_eq-law }) (record { laws = type_equivalence_laws.laws-law }) (record { laws = type_eq_laws.laws-law });
    }

pub returns-clause-type_fn_ptr : goal.returns-clause-type_fn_ptr
returns-clause-type_fn_ptr c =
    record {
      fed = type_fn_ptr.respects_eq-law type_row type_hash.ghosts type_hash.dict type_equivalence.ghosts type_equivalence.dict type_eq.ghosts type_eq.dict
          (record { respects_eq = type_hash_laws.respects_eq-law }) (record { laws = type_equivalence_laws.laws-law }) (record { laws = type_eq_laws.laws-law });
    }

pub returns-clause-type_trait_object : goal.returns-clause-type_trait_object
returns-clause-type_trait_object c =
    record {
      fed = type_trait_object.respects_eq-law bound_row bound_hash.ghosts bound_hash.dict bound_equivalence.ghosts bound_equivalence.dict bound_eq.ghosts bound_eq.dict
          (record { respects_eq = bound_hash_laws.respects_eq-law }) (record { laws = bound_equivalence_laws.laws-law }) (record { laws = bound_eq_laws.laws-law });
    }

pub returns-clause-type_impl_trait : goal.returns-clause-type_impl_trait
returns-clause-type_impl_trait c =
    record {
      fed = type_impl_trait.respects_eq-law bound_row bound_hash.ghosts bound_hash.dict bound_equivalence.ghosts bound_equivalence.dict bound_eq.ghosts bound_eq.dict
          (record { respects_eq = bound_hash_laws.respects_eq-law }) (record { laws = bound_equivalence_laws.laws-law }) (record { laws = bound_eq_laws.laws-law });
    }

pub returns-clause-named_arg : goal.returns-clause-named_arg
returns-clause-named_arg c =
    record {
      fed = named_arg.respects_eq-law type_row type_hash.ghosts type_hash.dict type_equivalence.ghosts type_equivalence.dict type_eq.ghosts type_eq.dict
          (record { respects_eq = type_hash_laws.respects_eq-law }) (record { laws = type_equivalence_laws.laws-law }) (record { laws = type_eq_laws.laws-law });
    }

pub returns-clause-return_type : goal.returns-clause-return_type
returns-clause-return_type c =
    record {
      fed = return_type.respects_eq-law type_row type_hash.ghosts type_hash.dict type_equivalence.ghosts type_equivalence.dict type_eq.ghosts type_eq.dict
          (record { respects_eq = type_hash_laws.respects_eq-law }) (record { laws = type_equivalence_laws.laws-law }) (record { laws = type_eq_laws.laws-law });
    }
