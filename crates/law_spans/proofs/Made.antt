-- A node without its places, by its parts without theirs.
use Rattle.std.proofs.Common.{◌≡◌, Bool, List, [], ◌∷◌, map, Option, Some, None, option_map, refl, ap, sym, ◌∙◌}
use Rattle.tok_types.specs.declared.ident.Ident.{Ident}
use Rattle.tok_types.specs.declared.ident.Lifetime.{Lifetime}
use Rattle.tok_types.specs.declared.span.Span.{Span}
use Rattle.tok_types.specs.declared.span.Span.TheVariants.{CallSite}
use Rattle.tok_types.specs.declared.tree.TokenStream.{TokenStream}
use Rattle.node_make.specs.Make.{make_path, make_segment, make_expr_path, make_type_path, make_type_array, make_trait_bound}
use Rattle.node_expr.specs.declared.expr.BinOp.{BinOp}
use Rattle.node_expr.specs.declared.expr.Expr.{Expr, the_lemmas}
use Rattle.node_expr.specs.declared.expr.Expr.TheFolds.{fold-roll-Expr, fold-roll-Type}
use Rattle.node_expr.specs.declared.expr.Expr.TheOpen.{Expr-F, Type-F}
use Rattle.node_expr.specs.declared.expr.Expr.TheVariants as expr
use Rattle.node_expr.specs.declared.expr.ExprPath.{ExprPath}
use Rattle.node_expr.specs.declared.expr.Member.{Member}
use Rattle.node_expr.specs.declared.expr.UnOp.{UnOp}
use Rattle.node_expr.specs.declared.generics.TraitBound.{TraitBound}
use Rattle.node_expr.specs.declared.generics.TypeParamBound.{TypeParamBound}
use Rattle.node_expr.specs.declared.generics.TypeParamBound.TheVariants as bound
use Rattle.node_expr.specs.declared.lit.Lit.{Lit}
use Rattle.node_expr.specs.declared.path.GenericArgument.{GenericArgument}
use Rattle.node_expr.specs.declared.path.GenericArgument.TheVariants as argument
use Rattle.node_expr.specs.declared.path.Path.{Path}
use Rattle.node_expr.specs.declared.path.PathArguments.{PathArguments}
use Rattle.node_expr.specs.declared.path.PathArguments.TheVariants as arguments
use Rattle.node_expr.specs.declared.path.PathSegment.{PathSegment}
use Rattle.node_expr.specs.declared.path.QSelf.{QSelf}
use Rattle.node_expr.specs.declared.ty.NamedArg.{NamedArg}
use Rattle.node_expr.specs.declared.ty.ReturnType.{ReturnType}
use Rattle.node_expr.specs.declared.ty.ReturnType.TheVariants as output
use Rattle.node_expr.specs.declared.ty.«Type».{«Type» as Type'}
use Rattle.node_expr.specs.declared.ty.«Type».TheVariants as ty
use Rattle.node_expr.specs.declared.ty.TypeArray.{TypeArray}
use Rattle.node_expr.specs.declared.ty.TypePath.{TypePath}
use Rattle.law_spans.specs.Erased.{erased_ident, erased_lifetime, erased_lit, erased_member, erased_stream, erased_expr, erased_bound, erased_argument, erased_arguments, erased_type, erased_expr_path, erased_trait_bound, erased_path, erased_segment, erased_array, erased_type_path, erased_qself, erased_named_arg, erased_output, named_arg_bared, expr_bared, bound_bared, argument_bared, arguments_bared, type_bared, expr_path_bared, trait_bound_bared, path_bared, segment_bared, array_bared, type_path_bared}

pub bare_expr-Lit : (it : Lit) → erased_expr (expr.Lit it) ≡ expr.Lit (erased_lit it)
bare_expr-Lit it = search the_lemmas

pub bare_expr-Path : (it : ExprPath) → erased_expr (expr.Path it) ≡ expr.Path (erased_expr_path it)
bare_expr-Path it =
    ap erased_expr (sym (expr.rolls-Path it))
    ∙ fold-roll-Expr Expr TypeParamBound GenericArgument PathArguments Type' ExprPath TraitBound Path PathSegment TypeArray TypePath
    expr_bared bound_bared argument_bared arguments_bared type_bared expr_path_bared trait_bound_bared path_bared segment_bared array_bared type_path_bared (Expr-F.Expr::Path it)

pub bare_expr-Array : (elems : List Expr) (span : Span) → erased_expr (expr.Array (record { elems = elems; span = span })) ≡ expr.Array (record { elems = map erased_expr elems; span = CallSite })
bare_expr-Array elems span = search the_lemmas

pub bare_expr-Repeat : (elem len : Expr) (span : Span) → erased_expr (expr.Repeat elem len span) ≡ expr.Repeat (erased_expr elem) (erased_expr len) CallSite
bare_expr-Repeat elem len span = search the_lemmas

pub bare_expr-Tuple : (elems : List Expr) (span : Span) → erased_expr (expr.Tuple elems span) ≡ expr.Tuple (map erased_expr elems) CallSite
bare_expr-Tuple elems span = search the_lemmas

pub bare_expr-Paren : (inner : Expr) (span : Span) → erased_expr (expr.Paren inner span) ≡ expr.Paren (erased_expr inner) CallSite
bare_expr-Paren inner span = search the_lemmas

pub bare_expr-Group : (inner : Expr) (span : Span) → erased_expr (expr.Group inner span) ≡ expr.Group (erased_expr inner) CallSite
bare_expr-Group inner span = search the_lemmas

pub bare_expr-Try : (inner : Expr) (span : Span) → erased_expr (expr.Try inner span) ≡ expr.Try (erased_expr inner) CallSite
bare_expr-Try inner span = search the_lemmas

pub bare_expr-Unary : (op : UnOp) (operand : Expr) (span : Span) → erased_expr (expr.Unary op operand span) ≡ expr.Unary op (erased_expr operand) CallSite
bare_expr-Unary op operand span = search the_lemmas

pub bare_expr-Reference : (mutable : Bool) (operand : Expr) (span : Span) → erased_expr (expr.Reference mutable operand span) ≡ expr.Reference mutable (erased_expr operand) CallSite
bare_expr-Reference mutable operand span = search the_lemmas

pub bare_expr-Binary : (left : Expr) (op : BinOp) (right : Expr) (span : Span) → erased_expr (expr.Binary left op right span) ≡ expr.Binary (erased_expr left) op (erased_expr right) CallSite
bare_expr-Binary left op right span = search the_lemmas

pub bare_expr-Call : (func : Expr) (args : List Expr) (span : Span) → erased_expr (expr.Call func args span) ≡ expr.Call (erased_expr func) (map erased_expr args) CallSite
bare_expr-Call func args span = search the_lemmas

pub bare_expr-MethodCall : (receiver : Expr) (method : Ident) (turbofish : List GenericArgument) (args : List Expr) (span : Span) → erased_expr (expr.MethodCall receiver method turbofish args span) ≡ expr.MethodCall (erased_expr receiver) (erased_ident method) (map erased_argument turbofish) (map erased_expr args) CallSite
bare_expr-MethodCall receiver method turbofish args span = search the_lemmas

pub bare_expr-Field : (base : Expr) (member : Member) (span : Span) → erased_expr (expr.Field base member span) ≡ expr.Field (erased_expr base) (erased_member member) CallSite
bare_expr-Field base member span = search the_lemmas

pub bare_expr-Index : (base at : Expr) (span : Span) → erased_expr (expr.Index base at span) ≡ expr.Index (erased_expr base) (erased_expr at) CallSite
bare_expr-Index base at span = search the_lemmas

pub bare_expr-Range : (start end : Option Expr) (closed : Bool) (span : Span) → erased_expr (expr.Range (record { start = start; end = end; closed = closed; span = span })) ≡ expr.Range (record { start = option_map erased_expr start; end = option_map erased_expr end; closed = closed; span = CallSite })
bare_expr-Range None None closed span = search the_lemmas
bare_expr-Range None (Some end) closed span = search the_lemmas
bare_expr-Range (Some start) None closed span = search the_lemmas
bare_expr-Range (Some start) (Some end) closed span = search the_lemmas

pub bare_expr-Closure : (tokens : TokenStream) (body : Expr) (span : Span) → erased_expr (expr.Closure (record { tokens = tokens; body = body; span = span })) ≡ expr.Closure (record { tokens = erased_stream tokens; body = erased_expr body; span = CallSite })
bare_expr-Closure tokens body span = search the_lemmas

pub bare_expr-Block : (stmts : List Expr) (last : Option Expr) (span : Span) → erased_expr (expr.Block stmts last span) ≡ expr.Block (map erased_expr stmts) (option_map erased_expr last) CallSite
bare_expr-Block stmts None span = search the_lemmas
bare_expr-Block stmts (Some last) span = search the_lemmas

pub bare_expr-Infer : (span : Span) → erased_expr (expr.Infer span) ≡ expr.Infer CallSite
bare_expr-Infer span = search the_lemmas

pub bare_expr-Verbatim : (it : TokenStream) → erased_expr (expr.Verbatim it) ≡ expr.Verbatim (erased_stream it)
bare_expr-Verbatim it = search the_lemmas

pub bare_type-Path : (it : TypePath) → erased_type (ty.Path it) ≡ ty.Path (erased_type_path it)
bare_type-Path it =
    ap erased_type (sym (ty.rolls-Path it))
    ∙ fold-roll-Type Expr TypeParamBound GenericArgument PathArguments Type' ExprPath TraitBound Path PathSegment TypeArray TypePath
    expr_bared bound_bared argument_bared arguments_bared type_bared expr_path_bared trait_bound_bared path_bared segment_bared array_bared type_path_bared (Type-F.Type::Path it)

pub bare_type-Reference : (lifetime : Option Lifetime) (mutable : Bool) (elem : Type') (span : Span) → erased_type (ty.Reference (record { lifetime = lifetime; mutable = mutable; elem = elem; span = span })) ≡ ty.Reference (record { lifetime = option_map erased_lifetime lifetime; mutable = mutable; elem = erased_type elem; span = CallSite })
bare_type-Reference lifetime mutable elem span = search the_lemmas

pub bare_type-Ptr : (mutable : Bool) (elem : Type') (span : Span) → erased_type (ty.Ptr (record { mutable = mutable; elem = elem; span = span })) ≡ ty.Ptr (record { mutable = mutable; elem = erased_type elem; span = CallSite })
bare_type-Ptr mutable elem span = search the_lemmas

pub bare_type-Slice : (elem : Type') (span : Span) → erased_type (ty.Slice (record { elem = elem; span = span })) ≡ ty.Slice (record { elem = erased_type elem; span = CallSite })
bare_type-Slice elem span = search the_lemmas

pub bare_type-Paren : (elem : Type') (span : Span) → erased_type (ty.Paren (record { elem = elem; span = span })) ≡ ty.Paren (record { elem = erased_type elem; span = CallSite })
bare_type-Paren elem span = search the_lemmas

pub bare_type-Group : (elem : Type') (span : Span) → erased_type (ty.Group (record { elem = elem; span = span })) ≡ ty.Group (record { elem = erased_type elem; span = CallSite })
bare_type-Group elem span = search the_lemmas

pub bare_type-Array : (it : TypeArray) → erased_type (ty.Array it) ≡ ty.Array (erased_array it)
bare_type-Array it = search the_lemmas

pub bare_type-Tuple : (elems : List Type') (span : Span) → erased_type (ty.Tuple (record { elems = elems; span = span })) ≡ ty.Tuple (record { elems = map erased_type elems; span = CallSite })
bare_type-Tuple elems span = search the_lemmas

-- an input whose type alone is bare
abbrev typed : NamedArg Type' → NamedArg Type'
typed it = record { name = it.name; ty = erased_type it.ty; span = it.span }

typed-inputs : (inputs : List (NamedArg Type')) → map named_arg_bared (map typed inputs) ≡ map erased_named_arg inputs
typed-inputs [] = refl
typed-inputs (input ∷ inputs) = ap (λ more. erased_named_arg input ∷ more) (typed-inputs inputs)

fn_ptr : (lifetimes : List Lifetime) (inputs : List (NamedArg Type')) (output : ReturnType Type') (span : Span)
    → erased_type (ty.FnPtr (record { lifetimes = lifetimes; inputs = inputs; output = output; span = span }))
    ≡ ty.FnPtr (record { lifetimes = map erased_lifetime lifetimes; inputs = map named_arg_bared (map typed inputs); output = erased_output output; span = CallSite })
fn_ptr lifetimes inputs output.Default span = search the_lemmas
fn_ptr lifetimes inputs (output.Ty it) span = search the_lemmas

pub bare_type-FnPtr : (lifetimes : List Lifetime) (inputs : List (NamedArg Type')) (output : ReturnType Type') (span : Span)
    → erased_type (ty.FnPtr (record { lifetimes = lifetimes; inputs = inputs; output = output; span = span }))
    ≡ ty.FnPtr (record { lifetimes = map erased_lifetime lifetimes; inputs = map erased_named_arg inputs; output = erased_output output; span = CallSite })
bare_type-FnPtr lifetimes inputs output span =
    fn_ptr lifetimes inputs output span
    ∙ ap (λ inputs. ty.FnPtr (record { lifetimes = map erased_lifetime lifetimes; inputs = inputs; output = erased_output output; span = CallSite })) (typed-inputs inputs)

pub bare_type-TraitObject : (bounds : List TypeParamBound) (span : Span) → erased_type (ty.TraitObject (record { bounds = bounds; span = span })) ≡ ty.TraitObject (record { bounds = map erased_bound bounds; span = CallSite })
bare_type-TraitObject bounds span = search the_lemmas

pub bare_type-ImplTrait : (bounds : List TypeParamBound) (span : Span) → erased_type (ty.ImplTrait (record { bounds = bounds; span = span })) ≡ ty.ImplTrait (record { bounds = map erased_bound bounds; span = CallSite })
bare_type-ImplTrait bounds span = search the_lemmas

pub bare_type-Never : (span : Span) → erased_type (ty.Never (record { span = span })) ≡ ty.Never (record { span = CallSite })
bare_type-Never span = search the_lemmas

pub bare_type-Infer : (span : Span) → erased_type (ty.Infer (record { span = span })) ≡ ty.Infer (record { span = CallSite })
bare_type-Infer span = search the_lemmas

pub bare_argument-Lifetime : (it : Lifetime) → erased_argument (argument.Lifetime it) ≡ argument.Lifetime (erased_lifetime it)
bare_argument-Lifetime it = search the_lemmas

pub bare_argument-Ty : (it : Type') → erased_argument (argument.Ty it) ≡ argument.Ty (erased_type it)
bare_argument-Ty it = search the_lemmas

pub bare_argument-Const : (it : Expr) → erased_argument (argument.Const it) ≡ argument.Const (erased_expr it)
bare_argument-Const it = search the_lemmas

pub bare_argument-AssocType : (ident : Ident) (it : Type') (span : Span) → erased_argument (argument.AssocType ident it span) ≡ argument.AssocType (erased_ident ident) (erased_type it) CallSite
bare_argument-AssocType ident it span = search the_lemmas

pub bare_argument-AssocConst : (ident : Ident) (value : Expr) (span : Span) → erased_argument (argument.AssocConst ident value span) ≡ argument.AssocConst (erased_ident ident) (erased_expr value) CallSite
bare_argument-AssocConst ident value span = search the_lemmas

pub bare_argument-Constraint : (ident : Ident) (bounds : List TypeParamBound) (span : Span) → erased_argument (argument.Constraint ident bounds span) ≡ argument.Constraint (erased_ident ident) (map erased_bound bounds) CallSite
bare_argument-Constraint ident bounds span = search the_lemmas

pub bare_arguments-None : erased_arguments arguments.None ≡ arguments.None
bare_arguments-None = search the_lemmas

pub bare_arguments-AngleBracketed : (args : List GenericArgument) → erased_arguments (arguments.AngleBracketed args) ≡ arguments.AngleBracketed (map erased_argument args)
bare_arguments-AngleBracketed args = search the_lemmas

pub bare_arguments-Parenthesized : (inputs : List Type') (output : ReturnType Type') (span : Span) → erased_arguments (arguments.Parenthesized inputs output span) ≡ arguments.Parenthesized (map erased_type inputs) (erased_output output) CallSite
bare_arguments-Parenthesized inputs output.Default span = search the_lemmas
bare_arguments-Parenthesized inputs (output.Ty it) span = search the_lemmas

pub bare_bound-Trait : (it : TraitBound) → erased_bound (bound.Trait it) ≡ bound.Trait (erased_trait_bound it)
bare_bound-Trait it = search the_lemmas

pub bare_bound-Lifetime : (it : Lifetime) → erased_bound (bound.Lifetime it) ≡ bound.Lifetime (erased_lifetime it)
bare_bound-Lifetime it = search the_lemmas

pub bare_trait_bound-make : (maybe : Bool) (lifetimes : List Lifetime) (path : Path) (span : Span) → erased_trait_bound (make_trait_bound maybe lifetimes path span) ≡ make_trait_bound maybe (map erased_lifetime lifetimes) (erased_path path) CallSite
bare_trait_bound-make maybe lifetimes path span = search the_lemmas

pub bare_path-make : (leading_colon : Bool) (segments : List PathSegment) (span : Span) → erased_path (make_path leading_colon segments span) ≡ make_path leading_colon (map erased_segment segments) CallSite
bare_path-make leading_colon segments span = search the_lemmas

pub bare_segment-make : (ident : Ident) (arguments : PathArguments) (span : Span) → erased_segment (make_segment ident arguments span) ≡ make_segment (erased_ident ident) (erased_arguments arguments) CallSite
bare_segment-make ident arguments span = search the_lemmas

pub bare_expr_path-make : (qself : Option (QSelf Type')) (path : Path) (span : Span) → erased_expr_path (make_expr_path qself path span) ≡ make_expr_path (option_map erased_qself qself) (erased_path path) CallSite
bare_expr_path-make None path span = search the_lemmas
bare_expr_path-make (Some qself) path span = search the_lemmas

pub bare_type_path-make : (qself : Option (QSelf Type')) (path : Path) (span : Span) → erased_type_path (make_type_path qself path span) ≡ make_type_path (option_map erased_qself qself) (erased_path path) CallSite
bare_type_path-make None path span = search the_lemmas
bare_type_path-make (Some qself) path span = search the_lemmas

pub bare_array-make : (elem : Type') (len : Expr) (span : Span) → erased_array (make_type_array elem len span) ≡ make_type_array (erased_type elem) (erased_expr len) CallSite
bare_array-make elem len span = search the_lemmas

-- all of them
pub ruleset erased_nodes = (bare_expr-Lit, bare_expr-Path, bare_expr-Array, bare_expr-Repeat, bare_expr-Tuple, bare_expr-Paren, bare_expr-Group, bare_expr-Try, bare_expr-Unary, bare_expr-Reference, bare_expr-Binary, bare_expr-Call, bare_expr-MethodCall, bare_expr-Field, bare_expr-Index, bare_expr-Range, bare_expr-Closure, bare_expr-Block, bare_expr-Infer, bare_expr-Verbatim, bare_type-Path, bare_type-Reference, bare_type-Ptr, bare_type-Slice, bare_type-Paren, bare_type-Group, bare_type-Array, bare_type-Tuple, bare_type-FnPtr, bare_type-TraitObject, bare_type-ImplTrait, bare_type-Never, bare_type-Infer, bare_argument-Lifetime, bare_argument-Ty, bare_argument-Const, bare_argument-AssocType, bare_argument-AssocConst, bare_argument-Constraint, bare_arguments-None, bare_arguments-AngleBracketed, bare_arguments-Parenthesized, bare_bound-Trait, bare_bound-Lifetime, bare_trait_bound-make, bare_path-make, bare_segment-make, bare_expr_path-make, bare_type_path-make, bare_array-make)
