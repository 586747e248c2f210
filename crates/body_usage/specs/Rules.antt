-- Where a node is searched: what it mentions itself, and which of its parts count.
--
-- A rule has what a node's parts mention where the node has the parts. Expressions mention nothing:
-- array lengths and constants are not searched.
use Rattle.std.specs.Prelude.{true, if◌then◌else◌, List, [], ◌∷◌, ◌++◌, map, Option, Some, None}
use Rattle.std.specs.Option.{option_map}
use Rattle.tok_types.specs.declared.ident.Ident.{Ident}
use Rattle.node_expr.specs.declared.path.QSelf.{QSelf}
use Rattle.node_expr.specs.declared.ty.NamedArg.{NamedArg}
use Rattle.node_expr.specs.declared.ty.ReturnType.{ReturnType}
use Rattle.node_expr.specs.declared.ty.ReturnType.TheVariants.{Default, Ty}
use Rattle.node_expr.specs.declared.ty.TypeFnPtr.{TypeFnPtr}
use Rattle.node_expr.specs.declared.ty.TypeReference.{TypeReference}
use Rattle.node_expr.specs.declared.expr.Expr.TheOpen.{Expr-F, TypeParamBound-F, GenericArgument-F, PathArguments-F, Type-F, ExprPath-F, TraitBound-F, Path-F, PathSegment-F, TypeArray-F, TypePath-F}
use Rattle.body_usage.specs.Mentions.{Mentioned, nothing, the_type_param, the_lifetime, all_of, optional}

-- a segment of a path: its name, and what its arguments mention
pub record Segment : Type 0 where
  pub ident : Ident
  pub arguments : Mentioned

-- the name of the first segment
abbrev pub first_ident : List Segment → Mentioned
first_ident [] = nothing
first_ident (segment ∷ others) = the_type_param segment.ident

abbrev pub arguments_of : Segment → Mentioned
arguments_of segment = segment.arguments

-- only a path without `::` in front can begin with a type parameter
abbrev pub path_rule : Path-F Mentioned Mentioned Mentioned Mentioned Mentioned Mentioned Mentioned Mentioned Segment Mentioned Mentioned → Mentioned
path_rule path in_qself =
    (if path.leading_colon then [] else first_ident path.segments in_qself) ++ all_of (map arguments_of path.segments) in_qself

abbrev pub segment_rule : PathSegment-F Mentioned Mentioned Mentioned Mentioned Mentioned Mentioned Mentioned Mentioned Segment Mentioned Mentioned → Segment
segment_rule segment = record { ident = segment.ident; arguments = segment.arguments }

-- the type after `->`
abbrev pub output_rule : ReturnType Mentioned → Mentioned
output_rule Default = nothing
output_rule (Ty ty) = ty

abbrev pub arguments_rule : PathArguments-F Mentioned Mentioned Mentioned Mentioned Mentioned Mentioned Mentioned Mentioned Segment Mentioned Mentioned → Mentioned
arguments_rule PathArguments-F.None in_qself = []
arguments_rule (PathArguments-F.AngleBracketed arguments) in_qself = all_of arguments in_qself
arguments_rule (PathArguments-F.Parenthesized inputs output span) in_qself = all_of inputs in_qself ++ output_rule output in_qself

abbrev pub argument_rule : GenericArgument-F Mentioned Mentioned Mentioned Mentioned Mentioned Mentioned Mentioned Mentioned Segment Mentioned Mentioned → Mentioned
argument_rule (GenericArgument-F.GenericArgument::Lifetime it) = the_lifetime it
argument_rule (GenericArgument-F.Ty ty) = ty
argument_rule (GenericArgument-F.Const value) = nothing
argument_rule (GenericArgument-F.AssocType name ty span) = ty
argument_rule (GenericArgument-F.AssocConst name value span) = nothing
argument_rule (GenericArgument-F.Constraint name bounds span) = all_of bounds

abbrev pub bound_rule : TypeParamBound-F Mentioned Mentioned Mentioned Mentioned Mentioned Mentioned Mentioned Mentioned Segment Mentioned Mentioned → Mentioned
bound_rule (TypeParamBound-F.Trait bound) = bound
bound_rule (TypeParamBound-F.TypeParamBound::Lifetime it) = the_lifetime it

-- the binder of a bound counts
abbrev pub trait_bound_rule : TraitBound-F Mentioned Mentioned Mentioned Mentioned Mentioned Mentioned Mentioned Mentioned Segment Mentioned Mentioned → Mentioned
trait_bound_rule it in_qself = all_of (map the_lifetime it.lifetimes) in_qself ++ it.path in_qself

-- the type in front of a path
abbrev pub qself_rule : Option (QSelf Mentioned) → Mentioned
qself_rule None in_qself = []
qself_rule (Some qself) in_qself = qself.ty true

abbrev pub type_path_rule : TypePath-F Mentioned Mentioned Mentioned Mentioned Mentioned Mentioned Mentioned Mentioned Segment Mentioned Mentioned → Mentioned
type_path_rule it in_qself = qself_rule it.qself in_qself ++ it.path in_qself

abbrev pub array_rule : TypeArray-F Mentioned Mentioned Mentioned Mentioned Mentioned Mentioned Mentioned Mentioned Segment Mentioned Mentioned → Mentioned
array_rule it = it.elem

abbrev pub reference_rule : TypeReference Mentioned → Mentioned
reference_rule it in_qself = optional (option_map the_lifetime it.lifetime) in_qself ++ it.elem in_qself

abbrev pub input_rule : NamedArg Mentioned → Mentioned
input_rule it = it.ty

-- the binder of a function type does not count
abbrev pub fn_ptr_rule : TypeFnPtr Mentioned → Mentioned
fn_ptr_rule it in_qself = all_of (map input_rule it.inputs) in_qself ++ output_rule it.output in_qself

abbrev pub type_rule : Type-F Mentioned Mentioned Mentioned Mentioned Mentioned Mentioned Mentioned Mentioned Segment Mentioned Mentioned → Mentioned
type_rule (Type-F.Type::Path it) = it
type_rule (Type-F.Type::Reference it) = reference_rule it
type_rule (Type-F.Ptr it) = it.elem
type_rule (Type-F.Slice it) = it.elem
type_rule (Type-F.Type::Array it) = it
type_rule (Type-F.Type::Tuple it) = all_of it.elems
type_rule (Type-F.Type::Paren it) = it.elem
type_rule (Type-F.Type::Group it) = it.elem
type_rule (Type-F.FnPtr it) = fn_ptr_rule it
type_rule (Type-F.TraitObject it) = all_of it.bounds
type_rule (Type-F.ImplTrait it) = all_of it.bounds
type_rule (Type-F.Never it) = nothing
type_rule (Type-F.Type::Infer it) = nothing

abbrev pub expr_rule : Expr-F Mentioned Mentioned Mentioned Mentioned Mentioned Mentioned Mentioned Mentioned Segment Mentioned Mentioned → Mentioned
expr_rule it = nothing

abbrev pub expr_path_rule : ExprPath-F Mentioned Mentioned Mentioned Mentioned Mentioned Mentioned Mentioned Mentioned Segment Mentioned Mentioned → Mentioned
expr_path_rule it = nothing
