use Rattle.std.proofs.Common.{rules, ◌∙◌, sym}
use Rattle.node_expr.specs.contracts.expr.ExprPathEq.TheImpl.Laws as expr_path
use Rattle.node_expr.specs.contracts.expr.ExprPathPartialEq.TheImpl.Laws as expr_path_eq
use Rattle.node_expr.specs.contracts.ty.TypePathEq.TheImpl.Laws as type_path
use Rattle.node_expr.specs.contracts.ty.TypePathPartialEq.TheImpl.Laws as type_path_eq
use Rattle.node_expr.specs.contracts.ty.TypeArrayEq.TheImpl.Laws as type_array
use Rattle.node_expr.specs.contracts.ty.TypeArrayPartialEq.TheImpl.Laws as type_array_eq
use Rattle.node_expr.specs.contracts.path.PathEq.TheImpl.Laws as path
use Rattle.node_expr.specs.contracts.path.PathPartialEq.TheImpl.Laws as path_eq
use Rattle.node_expr.specs.contracts.path.PathSegmentEq.TheImpl.Laws as path_segment
use Rattle.node_expr.specs.contracts.path.PathSegmentPartialEq.TheImpl.Laws as path_segment_eq
use Rattle.node_expr.specs.contracts.generics.TraitBoundEq.TheImpl.Laws as trait_bound
use Rattle.node_expr.specs.contracts.generics.TraitBoundPartialEq.TheImpl.Laws as trait_bound_eq
use Rattle.node_expr.specs.declared.expr.Expr.{the_lemmas}
use Rattle.law_eq.proofs.equality_of_paths_ignores_the_span.Goals as goal

pub returns-clause-expr_path : goal.returns-clause-expr_path
returns-clause-expr_path c = λ a span.
    let same = sym (expr_path_eq.is a a) ∙ expr_path.laws-law.refl a in
    search (rules, the_lemmas, expr_path_eq.is, same)

pub returns-clause-type_path : goal.returns-clause-type_path
returns-clause-type_path c = λ a span.
    let same = sym (type_path_eq.is a a) ∙ type_path.laws-law.refl a in
    search (rules, the_lemmas, type_path_eq.is, same)

pub returns-clause-type_array : goal.returns-clause-type_array
returns-clause-type_array c = λ a span.
    let same = sym (type_array_eq.is a a) ∙ type_array.laws-law.refl a in
    search (rules, the_lemmas, type_array_eq.is, same)

pub returns-clause-path : goal.returns-clause-path
returns-clause-path c = λ a span.
    let same = sym (path_eq.is a a) ∙ path.laws-law.refl a in
    search (rules, the_lemmas, path_eq.is, same)

pub returns-clause-path_segment : goal.returns-clause-path_segment
returns-clause-path_segment c = λ a span.
    let same = sym (path_segment_eq.is a a) ∙ path_segment.laws-law.refl a in
    search (rules, the_lemmas, path_segment_eq.is, same)

pub returns-clause-trait_bound : goal.returns-clause-trait_bound
returns-clause-trait_bound c = λ a span.
    let same = sym (trait_bound_eq.is a a) ∙ trait_bound.laws-law.refl a in
    search (rules, the_lemmas, trait_bound_eq.is, same)
