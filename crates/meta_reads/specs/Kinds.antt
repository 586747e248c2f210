-- Types of one kind.
use Rattle.std.specs.Prelude.{Option, Some, None, option_and_then}
use Rattle.tok_types.specs.declared.tree.TokenStream.{TokenStream}
use Rattle.node_expr.specs.Layers.{TypeLayer}
use Rattle.node_expr.specs.declared.expr.Expr.TheOpen.{Type-F}
use Rattle.node_expr.specs.declared.generics.TypeParamBound.{TypeParamBound}
use Rattle.node_expr.specs.declared.ty.«Type».{«Type» as Type', out-Type}
use Rattle.node_expr.specs.declared.ty.TypeArray.{TypeArray}
use Rattle.node_expr.specs.declared.ty.TypeFnPtr.{TypeFnPtr}
use Rattle.node_expr.specs.declared.ty.TypeGroup.{TypeGroup}
use Rattle.node_expr.specs.declared.ty.TypeImplTrait.{TypeImplTrait}
use Rattle.node_expr.specs.declared.ty.TypeInfer.{TypeInfer}
use Rattle.node_expr.specs.declared.ty.TypeNever.{TypeNever}
use Rattle.node_expr.specs.declared.ty.TypeParen.{TypeParen}
use Rattle.node_expr.specs.declared.ty.TypePath.{TypePath}
use Rattle.node_expr.specs.declared.ty.TypePtr.{TypePtr}
use Rattle.node_expr.specs.declared.ty.TypeReference.{TypeReference}
use Rattle.node_expr.specs.declared.ty.TypeSlice.{TypeSlice}
use Rattle.node_expr.specs.declared.ty.TypeTraitObject.{TypeTraitObject}
use Rattle.node_expr.specs.declared.ty.TypeTuple.{TypeTuple}
use Rattle.syn_grammar.specs.Trees.{type_of}

-- the array that a type is
abbrev pub array_type_in : TypeLayer → Option TypeArray
array_type_in (Type-F.Type::Array it) = Some it
array_type_in _ = None

-- the function pointer that a type is
abbrev pub fn_ptr_type_in : TypeLayer → Option (TypeFnPtr Type')
fn_ptr_type_in (Type-F.FnPtr it) = Some it
fn_ptr_type_in _ = None

-- the invisible group that a type is
abbrev pub group_type_in : TypeLayer → Option (TypeGroup Type')
group_type_in (Type-F.Type::Group it) = Some it
group_type_in _ = None

-- the `impl` of bounds that a type is
abbrev pub impl_trait_type_in : TypeLayer → Option (TypeImplTrait TypeParamBound)
impl_trait_type_in (Type-F.ImplTrait it) = Some it
impl_trait_type_in _ = None

-- the `_` that a type is
abbrev pub infer_type_in : TypeLayer → Option TypeInfer
infer_type_in (Type-F.Type::Infer it) = Some it
infer_type_in _ = None

-- the `!` that a type is
abbrev pub never_type_in : TypeLayer → Option TypeNever
never_type_in (Type-F.Never it) = Some it
never_type_in _ = None

-- the type in parentheses that a type is
abbrev pub paren_type_in : TypeLayer → Option (TypeParen Type')
paren_type_in (Type-F.Type::Paren it) = Some it
paren_type_in _ = None

-- the path that a type is
abbrev pub path_type_in : TypeLayer → Option TypePath
path_type_in (Type-F.Type::Path it) = Some it
path_type_in _ = None

-- the raw pointer that a type is
abbrev pub ptr_type_in : TypeLayer → Option (TypePtr Type')
ptr_type_in (Type-F.Ptr it) = Some it
ptr_type_in _ = None

-- the reference that a type is
abbrev pub reference_type_in : TypeLayer → Option (TypeReference Type')
reference_type_in (Type-F.Type::Reference it) = Some it
reference_type_in _ = None

-- the slice that a type is
abbrev pub slice_type_in : TypeLayer → Option (TypeSlice Type')
slice_type_in (Type-F.Slice it) = Some it
slice_type_in _ = None

-- the `dyn` of bounds that a type is
abbrev pub trait_object_type_in : TypeLayer → Option (TypeTraitObject TypeParamBound)
trait_object_type_in (Type-F.TraitObject it) = Some it
trait_object_type_in _ = None

-- the tuple that a type is
abbrev pub tuple_type_in : TypeLayer → Option (TypeTuple Type')
tuple_type_in (Type-F.Type::Tuple it) = Some it
tuple_type_in _ = None

-- the type of this kind that all of the tokens are
abbrev pub type_of_kind : {A : Type 0} → (TypeLayer → Option A) → TokenStream → Option A
type_of_kind kind tokens = option_and_then (λ ty. kind (out-Type ty)) (type_of tokens)
