-- Of what one variant of a node holds, and stands in no other.
use Rattle.std.proofs.Common.{Bool, refl, sym, ap}
use Rattle.tok_types.specs.declared.span.Span.TheVariants.{CallSite}
use Rattle.node_expr.specs.contracts.ty.NamedArgPartialEq.TheImpl as named_args
use Rattle.node_expr.specs.contracts.ty.ReturnTypePartialEq.TheImpl as return_types
use Rattle.node_expr.specs.contracts.ty.«Type».{the_row}
use Rattle.node_expr.specs.contracts.ty.TypePartialEq.TheImpl as type_eq
use Rattle.node_expr.specs.declared.ty.NamedArg.{NamedArg}
use Rattle.node_expr.specs.declared.ty.ReturnType.{ReturnType}
use Rattle.node_expr.specs.declared.ty.ReturnType.TheVariants as output
use Rattle.node_expr.specs.declared.ty.«Type».{«Type» as Type'}
use Rattle.law_spans.specs.Erased.{erased_named_arg, erased_output}
use Rattle.law_equality.proofs.Leaves.{apart_outputs, option_ident_told, same_output}
use Rattle.law_equality.proofs.Nodes.{type_told}
use Rattle.law_equality.proofs.Deciding.{Told, both, neither, told}

abbrev pub output_eq : ReturnType Type' → ReturnType Type' → Bool
output_eq = (return_types.ghosts the_row type_eq.ghosts type_eq.dict).eq

pub output_told : (a : ReturnType Type') → Told output_eq erased_output a
output_told output.Default output.Default = (λ h. refl, λ e. refl)
output_told (output.Ty a) (output.Ty b) = told refl (type_told a b) (λ p. λ i. output.Ty (p i)) same_output
output_told output.Default (output.Ty b) = neither refl (λ e. apart_outputs (sym e))
output_told (output.Ty a) output.Default = neither refl apart_outputs

abbrev pub named_arg_eq : NamedArg Type' → NamedArg Type' → Bool
named_arg_eq = (named_args.ghosts the_row type_eq.ghosts type_eq.dict).eq

pub named_arg_told : (a : NamedArg Type') → Told named_arg_eq erased_named_arg a
named_arg_told a b =
    told refl (both (option_ident_told a.name b.name) (type_told a.ty b.ty)) (λ p. λ i. record { name = p.0 i; ty = p.1 i; span = CallSite })
    (λ e. (ap (λ (it : NamedArg Type'). it.name) e, ap (λ (it : NamedArg Type'). it.ty) e))
