-- Tokens, literals and nodes with a parameter with their spans erased: the same, with every span at the call site.
use Rattle.std.specs.Prelude.{map, option_map}
use Rattle.tok_types.specs.Respan.{group_at}
use Rattle.tok_types.specs.declared.span.Span.TheVariants.{CallSite}
use Rattle.tok_types.specs.declared.tree.Group.{Group}
use Rattle.tok_types.specs.declared.tree.Punct.{Punct}
use Rattle.node_expr.specs.declared.expr.Expr.{Expr}
use Rattle.node_expr.specs.declared.expr.ExprClosure.{ExprClosure}
use Rattle.node_expr.specs.declared.generics.TypeParamBound.{TypeParamBound}
use Rattle.node_expr.specs.declared.lit.LitBool.{LitBool}
use Rattle.node_expr.specs.declared.lit.LitByte.{LitByte}
use Rattle.node_expr.specs.declared.lit.LitByteStr.{LitByteStr}
use Rattle.node_expr.specs.declared.lit.LitChar.{LitChar}
use Rattle.node_expr.specs.declared.lit.LitFloat.{LitFloat}
use Rattle.node_expr.specs.declared.lit.LitStr.{LitStr}
use Rattle.node_expr.specs.declared.ty.«Type».{«Type» as Type'}
use Rattle.node_expr.specs.declared.ty.TypeFnPtr.{TypeFnPtr}
use Rattle.node_expr.specs.declared.ty.TypeGroup.{TypeGroup}
use Rattle.node_expr.specs.declared.ty.TypeImplTrait.{TypeImplTrait}
use Rattle.node_expr.specs.declared.ty.TypeInfer.{TypeInfer}
use Rattle.node_expr.specs.declared.ty.TypeNever.{TypeNever}
use Rattle.node_expr.specs.declared.ty.TypeParen.{TypeParen}
use Rattle.node_expr.specs.declared.ty.TypePtr.{TypePtr}
use Rattle.node_expr.specs.declared.ty.TypeReference.{TypeReference}
use Rattle.node_expr.specs.declared.ty.TypeSlice.{TypeSlice}
use Rattle.node_expr.specs.declared.ty.TypeTraitObject.{TypeTraitObject}
use Rattle.node_expr.specs.declared.ty.TypeTuple.{TypeTuple}
use Rattle.law_spans.specs.Erased.{erased_bound, erased_expr, erased_lifetime, erased_literal, erased_named_arg, erased_output, erased_stream, erased_type}

-- ---- tokens

abbrev pub erased_punct : Punct → Punct
erased_punct it = record it { span = CallSite }

abbrev pub erased_group : Group → Group
erased_group = group_at CallSite

-- ---- literals

abbrev pub erased_str : LitStr → LitStr
erased_str it = record { value = it.value; token = erased_literal it.token; span = CallSite }

abbrev pub erased_byte_str : LitByteStr → LitByteStr
erased_byte_str it = record { value = it.value; token = erased_literal it.token; span = CallSite }

abbrev pub erased_byte : LitByte → LitByte
erased_byte it = record { value = it.value; token = erased_literal it.token; span = CallSite }

abbrev pub erased_char : LitChar → LitChar
erased_char it = record { value = it.value; token = erased_literal it.token; span = CallSite }

abbrev pub erased_float : LitFloat → LitFloat
erased_float it = record { negative = it.negative; token = erased_literal it.token; span = CallSite }

abbrev pub erased_bool : LitBool → LitBool
erased_bool it = record { value = it.value; span = CallSite }

-- ---- what stands behind one variant of an expression

abbrev pub erased_closure : ExprClosure Expr → ExprClosure Expr
erased_closure it = record { tokens = erased_stream it.tokens; body = erased_expr it.body; span = CallSite }

-- ---- what stands behind one variant of a type

abbrev pub erased_reference : TypeReference Type' → TypeReference Type'
erased_reference it = record { lifetime = option_map erased_lifetime it.lifetime; mutable = it.mutable; elem = erased_type it.elem; span = CallSite }

abbrev pub erased_ptr : TypePtr Type' → TypePtr Type'
erased_ptr it = record { mutable = it.mutable; elem = erased_type it.elem; span = CallSite }

abbrev pub erased_slice : TypeSlice Type' → TypeSlice Type'
erased_slice it = record { elem = erased_type it.elem; span = CallSite }

abbrev pub erased_tuple : TypeTuple Type' → TypeTuple Type'
erased_tuple it = record { elems = map erased_type it.elems; span = CallSite }

abbrev pub erased_paren : TypeParen Type' → TypeParen Type'
erased_paren it = record { elem = erased_type it.elem; span = CallSite }

abbrev pub erased_type_group : TypeGroup Type' → TypeGroup Type'
erased_type_group it = record { elem = erased_type it.elem; span = CallSite }

abbrev pub erased_fn_ptr : TypeFnPtr Type' → TypeFnPtr Type'
erased_fn_ptr it = record { lifetimes = map erased_lifetime it.lifetimes; inputs = map erased_named_arg it.inputs; output = erased_output it.output; span = CallSite }

abbrev pub erased_trait_object : TypeTraitObject TypeParamBound → TypeTraitObject TypeParamBound
erased_trait_object it = record { bounds = map erased_bound it.bounds; span = CallSite }

abbrev pub erased_impl_trait : TypeImplTrait TypeParamBound → TypeImplTrait TypeParamBound
erased_impl_trait it = record { bounds = map erased_bound it.bounds; span = CallSite }

abbrev pub erased_never : TypeNever → TypeNever
erased_never it = record { span = CallSite }

abbrev pub erased_infer : TypeInfer → TypeInfer
erased_infer it = record { span = CallSite }
