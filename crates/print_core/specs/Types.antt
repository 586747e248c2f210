-- Types.
use Rattle.std.specs.Prelude.{Bool, if◌then◌else◌, List, [], ◌++◌, map, Option, Some, None, codes}
use Rattle.std.specs.Option.{option_map}
use Rattle.tok_types.specs.declared.ident.Ident.{Ident}
use Rattle.tok_types.specs.declared.span.Span.{Span}
use Rattle.tok_types.specs.declared.tree.Delimiter.TheVariants as delimiter
use Rattle.node_expr.specs.declared.ty.NamedArg.{NamedArg}
use Rattle.node_expr.specs.declared.ty.TypeReference.{TypeReference}
use Rattle.node_expr.specs.declared.ty.TypePtr.{TypePtr}
use Rattle.node_expr.specs.declared.ty.TypeSlice.{TypeSlice}
use Rattle.node_expr.specs.declared.ty.TypeTuple.{TypeTuple}
use Rattle.node_expr.specs.declared.ty.TypeParen.{TypeParen}
use Rattle.node_expr.specs.declared.ty.TypeGroup.{TypeGroup}
use Rattle.node_expr.specs.declared.ty.TypeFnPtr.{TypeFnPtr}
use Rattle.node_expr.specs.declared.ty.TypeTraitObject.{TypeTraitObject}
use Rattle.node_expr.specs.declared.ty.TypeImplTrait.{TypeImplTrait}
use Rattle.node_expr.specs.declared.ty.TypeNever.{TypeNever}
use Rattle.node_expr.specs.declared.ty.TypeInfer.{TypeInfer}
use Rattle.node_expr.specs.declared.expr.Expr.TheOpen.{Type-F, TypeArray-F}
use Rattle.print_core.specs.Marks.{Trees, ident, lifetime, mark, word, group, comma, joined, tuple, optional}
use Rattle.print_core.specs.Paths.{Styled, Arguments, PathParts, binder, sum_of, return_of}

-- `mut`, or nothing
abbrev pub mutability : Bool → Span → Trees
mutability mutable span = if mutable then word (codes "mut") span else []

-- `name:`, or nothing
abbrev pub maybe_name : Option Ident → Span → Trees
maybe_name None span = []
maybe_name (Some name) span = ident name ++ mark (codes ":") span

-- `&'a mut T`
abbrev pub reference_rule : TypeReference Trees → Trees
reference_rule it = mark (codes "&") it.span ++ optional (option_map lifetime it.lifetime) ++ mutability it.mutable it.span ++ it.elem

-- `*const T`, `*mut T`
abbrev pub ptr_rule : TypePtr Trees → Trees
ptr_rule it = mark (codes "*") it.span ++ word (if it.mutable then codes "mut" else codes "const") it.span ++ it.elem

-- `[T]`
abbrev pub slice_rule : TypeSlice Trees → Trees
slice_rule it = group delimiter.Bracket it.elem it.span

-- `[T; 8]`
abbrev pub type_array_rule : TypeArray-F Trees Trees Trees Arguments Trees Trees Trees PathParts Styled Trees Trees → Trees
type_array_rule it = group delimiter.Bracket (it.elem ++ mark (codes ";") it.span ++ it.len) it.span

-- `()`, `(A,)`, `(A, B)`
abbrev pub type_tuple_rule : TypeTuple Trees → Trees
type_tuple_rule it = group delimiter.Parenthesis (tuple it.elems it.span) it.span

-- `(T)`
abbrev pub type_paren_rule : TypeParen Trees → Trees
type_paren_rule it = group delimiter.Parenthesis it.elem it.span

-- a group without delimiters
abbrev pub type_group_rule : TypeGroup Trees → Trees
type_group_rule it = group delimiter.None it.elem it.span

-- `T`, `name: T`
abbrev pub named_arg_rule : NamedArg Trees → Trees
named_arg_rule it = maybe_name it.name it.span ++ it.ty

-- `for<'a> fn(&'a A, name: B) -> C`
abbrev pub fn_ptr_rule : TypeFnPtr Trees → Trees
fn_ptr_rule it =
    binder it.lifetimes it.span ++ word (codes "fn") it.span
    ++ group delimiter.Parenthesis (joined (comma it.span) (map named_arg_rule it.inputs)) it.span
    ++ return_of it.output it.span

-- `dyn A + B`
abbrev pub trait_object_rule : TypeTraitObject Trees → Trees
trait_object_rule it = word (codes "dyn") it.span ++ sum_of it.bounds it.span

-- `impl A + B`
abbrev pub impl_trait_rule : TypeImplTrait Trees → Trees
impl_trait_rule it = word (codes "impl") it.span ++ sum_of it.bounds it.span

-- `!`
abbrev pub never_rule : TypeNever → Trees
never_rule it = mark (codes "!") it.span

-- `_`, an identifier token
abbrev pub type_infer_rule : TypeInfer → Trees
type_infer_rule it = word (codes "_") it.span

abbrev pub type_rule : Type-F Trees Trees Trees Arguments Trees Trees Trees PathParts Styled Trees Trees → Trees
type_rule (Type-F.Type::Path it) = it
type_rule (Type-F.Type::Reference it) = reference_rule it
type_rule (Type-F.Ptr it) = ptr_rule it
type_rule (Type-F.Slice it) = slice_rule it
type_rule (Type-F.Type::Array it) = it
type_rule (Type-F.Type::Tuple it) = type_tuple_rule it
type_rule (Type-F.Type::Paren it) = type_paren_rule it
type_rule (Type-F.Type::Group it) = type_group_rule it
type_rule (Type-F.FnPtr it) = fn_ptr_rule it
type_rule (Type-F.TraitObject it) = trait_object_rule it
type_rule (Type-F.ImplTrait it) = impl_trait_rule it
type_rule (Type-F.Never it) = never_rule it
type_rule (Type-F.Type::Infer it) = type_infer_rule it
