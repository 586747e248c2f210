-- What each node of a path or a type prints, with its parts from left to right.
use Rattle.std.proofs.Common.{◌≡◌, Bool, if◌then◌else◌, List, [], ◌∷◌, ◌++◌, map, Option, Some, None, refl, ap, codes}
use Rattle.std.specs.Option.{option_map}
use Rattle.tok_types.specs.declared.ident.Ident.{Ident}
use Rattle.tok_types.specs.declared.ident.Lifetime.{Lifetime}
use Rattle.tok_types.specs.declared.span.Span.{Span}
use Rattle.tok_types.specs.declared.tree.Delimiter.TheVariants as delimiter
use Rattle.node_expr.specs.declared.expr.BinOp.{BinOp}
use Rattle.node_expr.specs.declared.expr.Expr.{Expr, the_lemmas}
use Rattle.node_expr.specs.declared.expr.Expr.TheVariants as expr
use Rattle.node_expr.specs.declared.expr.UnOp.{UnOp}
use Rattle.node_expr.specs.declared.generics.TypeParamBound.{TypeParamBound}
use Rattle.node_expr.specs.declared.generics.TypeParamBound.TheVariants as bound
use Rattle.node_expr.specs.declared.path.GenericArgument.{GenericArgument}
use Rattle.node_expr.specs.declared.path.GenericArgument.TheVariants as generic
use Rattle.node_expr.specs.declared.path.Path.{Path}
use Rattle.node_expr.specs.declared.path.PathArguments.{PathArguments}
use Rattle.node_expr.specs.declared.path.PathArguments.TheVariants as made
use Rattle.node_expr.specs.declared.path.PathSegment.{PathSegment}
use Rattle.node_expr.specs.declared.path.QSelf.{QSelf}
use Rattle.node_expr.specs.declared.ty.«Type».{«Type» as Ty}
use Rattle.node_expr.specs.declared.ty.NamedArg.{NamedArg}
use Rattle.node_expr.specs.declared.ty.ReturnType.{ReturnType}
use Rattle.node_expr.specs.declared.ty.ReturnType.TheVariants as return
use Rattle.syn_grammar.specs.Make as make
use Rattle.print_core.specs.declared.path.PathStyle.{PathStyle}
use Rattle.print_core.specs.declared.path.PathStyle.TheVariants.{Plain}
use Rattle.print_core.specs.Exprs.{bin_op_tokens, un_op_tokens}
use Rattle.print_core.specs.Kinds.{printed_arg, printed_return, named_arg_tokens}
use Rattle.print_core.specs.Marks.{Trees, ident, lifetime, mark, word, group, comma, joined, tuple, optional}
use Rattle.print_core.specs.Nodes.{expr_tokens, bound_tokens, argument_tokens, arguments_tokens, type_tokens, path_parts, segment_tokens, path_tokens}
use Rattle.print_core.specs.Paths.{Arguments, angled, binder, before_arguments, return_of, sum_of, segment_rule, after_type}
use Rattle.print_core.specs.Types.{mutability, named_arg_rule}

-- ---- types

pub print-slice : (elem : Ty) (span : Span) → type_tokens (make.type_slice elem span) ≡ group delimiter.Bracket (type_tokens elem) span
print-slice elem span = search the_lemmas

pub print-array : (elem : Ty) (len : Expr) (span : Span) → type_tokens (make.type_array elem len span) ≡ group delimiter.Bracket (type_tokens elem ++ mark (codes ";") span ++ expr_tokens len) span
print-array elem len span = search the_lemmas

pub print-reference : (it : Option Lifetime) (mutable : Bool) (elem : Ty) (span : Span)
    → type_tokens (make.type_reference it mutable elem span) ≡ mark (codes "&") span ++ optional (option_map lifetime it) ++ mutability mutable span ++ type_tokens elem
print-reference it mutable elem span = search the_lemmas

pub print-ptr : (mutable : Bool) (elem : Ty) (span : Span) → type_tokens (make.type_ptr mutable elem span) ≡ mark (codes "*") span ++ word (if mutable then codes "mut" else codes "const") span ++ type_tokens elem
print-ptr mutable elem span = search the_lemmas

pub print-tuple : (elems : List Ty) (span : Span) → type_tokens (make.type_tuple elems span) ≡ group delimiter.Parenthesis (tuple (map type_tokens elems) span) span
print-tuple elems span = search the_lemmas

pub print-paren : (elem : Ty) (span : Span) → type_tokens (make.type_paren elem span) ≡ group delimiter.Parenthesis (type_tokens elem) span
print-paren elem span = search the_lemmas

pub print-never : (span : Span) → type_tokens (make.type_never span) ≡ mark (codes "!") span
print-never span = search the_lemmas

pub print-infer : (span : Span) → type_tokens (make.type_infer span) ≡ word (codes "_") span
print-infer span = search the_lemmas

pub print-trait_object : (found : List TypeParamBound) (span : Span) → type_tokens (make.type_trait_object found span) ≡ word (codes "dyn") span ++ sum_of (map bound_tokens found) span
print-trait_object found span = search the_lemmas

pub print-impl_trait : (found : List TypeParamBound) (span : Span) → type_tokens (make.type_impl_trait found span) ≡ word (codes "impl") span ++ sum_of (map bound_tokens found) span
print-impl_trait found span = search the_lemmas

pub print-type_path : (it : Path) (span : Span) → type_tokens (make.type_path None it span) ≡ path_tokens Plain it
print-type_path it span = search the_lemmas

pub print-type_qualified : (it : QSelf Ty) (behind : Path) (span : Span)
    → type_tokens (make.type_path (Some it) behind span) ≡ mark (codes "<") it.span ++ type_tokens it.ty ++ after_type it.position it.span Plain (path_parts behind)
print-type_qualified it behind span = search the_lemmas

print-inputs : (inputs : List (NamedArg Ty)) → map named_arg_rule (map printed_arg inputs) ≡ map named_arg_tokens inputs
print-inputs [] = refl
print-inputs (input ∷ inputs) = ap (λ more. named_arg_tokens input ∷ more) (print-inputs inputs)

fn_ptr : (lifetimes : List Lifetime) (inputs : List (NamedArg Ty)) (output : ReturnType Ty) (span : Span) → type_tokens (make.type_fn_ptr lifetimes inputs output span)
    ≡ binder lifetimes span ++ word (codes "fn") span ++ group delimiter.Parenthesis (joined (comma span) (map named_arg_rule (map printed_arg inputs))) span ++ return_of (printed_return output) span
fn_ptr lifetimes inputs return.Default span = search the_lemmas
fn_ptr lifetimes inputs (return.Ty it) span = search the_lemmas

pub print-fn_ptr : (lifetimes : List Lifetime) (inputs : List (NamedArg Ty)) (output : ReturnType Ty) (span : Span) → type_tokens (make.type_fn_ptr lifetimes inputs output span)
    ≡ binder lifetimes span ++ word (codes "fn") span ++ group delimiter.Parenthesis (joined (comma span) (map named_arg_tokens inputs)) span ++ return_of (printed_return output) span
print-fn_ptr lifetimes inputs output span = rw (fn_ptr lifetimes inputs output span, print-inputs inputs) refl

-- ---- operators

pub print-unary : (it : UnOp) (operand : Expr) (span : Span) → expr_tokens (expr.Unary it operand span) ≡ un_op_tokens it span ++ expr_tokens operand
print-unary it operand span = search the_lemmas

pub print-expr_reference : (mutable : Bool) (operand : Expr) (span : Span) → expr_tokens (expr.Reference mutable operand span) ≡ mark (codes "&") span ++ mutability mutable span ++ expr_tokens operand
print-expr_reference mutable operand span = search the_lemmas

pub print-binary : (left : Expr) (it : BinOp) (right : Expr) (span : Span) → expr_tokens (expr.Binary left it right span) ≡ expr_tokens left ++ bin_op_tokens it span ++ expr_tokens right
print-binary left it right span = search the_lemmas

pub print-range : (start end : Option Expr) (closed : Bool) (span : Span)
    → expr_tokens (make.expr_range start end closed span) ≡ optional (option_map expr_tokens start) ++ mark (if closed then codes "..=" else codes "..") span ++ optional (option_map expr_tokens end)
print-range None None closed span = search the_lemmas
print-range None (Some end) closed span = search the_lemmas
print-range (Some start) None closed span = search the_lemmas
print-range (Some start) (Some end) closed span = search the_lemmas

-- ---- paths

pub path_parts-make : (leading_colon : Bool) (segments : List PathSegment) (span : Span) → path_parts (make.path leading_colon segments span) ≡ record { leading_colon = leading_colon; segments = map segment_tokens segments; span = span }
path_parts-make leading_colon segments span = search the_lemmas

segment-function : (name : Ident) (arguments : PathArguments) (span : Span) → segment_tokens (make.segment name arguments span) ≡ segment_rule (record { ident = name; arguments = arguments_tokens arguments; span = span })
segment-function name arguments span = search the_lemmas

pub print-segment : (name : Ident) (arguments : PathArguments) (span : Span) (style : PathStyle) → segment_tokens (make.segment name arguments span) style ≡ ident name ++ arguments_tokens arguments style span
print-segment name arguments span style = ap (λ (print : PathStyle → Trees). print style) (segment-function name arguments span)

none-function : arguments_tokens made.None ≡ (λ style span. [])
none-function = search the_lemmas

pub print-None : (style : PathStyle) (span : Span) → arguments_tokens made.None style span ≡ []
print-None style span = ap (λ (print : Arguments). print style span) none-function

angle-function : (arguments : List GenericArgument) → arguments_tokens (made.AngleBracketed arguments) ≡ (λ style span. before_arguments style span ++ angled (map argument_tokens arguments) span)
angle-function arguments = search the_lemmas

pub print-AngleBracketed : (arguments : List GenericArgument) (style : PathStyle) (span : Span) → arguments_tokens (made.AngleBracketed arguments) style span ≡ before_arguments style span ++ angled (map argument_tokens arguments) span
print-AngleBracketed arguments style span = ap (λ (print : Arguments). print style span) (angle-function arguments)

parentheses-function : (inputs : List Ty) (output : ReturnType Ty) (own : Span)
    → arguments_tokens (made.Parenthesized inputs output own) ≡ (λ style span. group delimiter.Parenthesis (joined (comma own) (map type_tokens inputs)) own ++ return_of (printed_return output) own)
parentheses-function inputs return.Default own = search the_lemmas
parentheses-function inputs (return.Ty it) own = search the_lemmas

pub print-Parenthesized : (inputs : List Ty) (output : ReturnType Ty) (own : Span) (style : PathStyle) (span : Span)
    → arguments_tokens (made.Parenthesized inputs output own) style span ≡ group delimiter.Parenthesis (joined (comma own) (map type_tokens inputs)) own ++ return_of (printed_return output) own
print-Parenthesized inputs output own style span = ap (λ (print : Arguments). print style span) (parentheses-function inputs output own)

pub print-Lifetime : (it : Lifetime) → argument_tokens (generic.Lifetime it) ≡ lifetime it
print-Lifetime it = search the_lemmas

pub print-Ty : (it : Ty) → argument_tokens (generic.Ty it) ≡ type_tokens it
print-Ty it = search the_lemmas

pub print-Const : (it : Expr) → argument_tokens (generic.Const it) ≡ expr_tokens it
print-Const it = search the_lemmas

pub print-AssocType : (name : Ident) (it : Ty) (span : Span) → argument_tokens (generic.AssocType name it span) ≡ ident name ++ mark (codes "=") span ++ type_tokens it
print-AssocType name it span = search the_lemmas

pub print-AssocConst : (name : Ident) (it : Expr) (span : Span) → argument_tokens (generic.AssocConst name it span) ≡ ident name ++ mark (codes "=") span ++ expr_tokens it
print-AssocConst name it span = search the_lemmas

pub print-Constraint : (name : Ident) (it : List TypeParamBound) (span : Span) → argument_tokens (generic.Constraint name it span) ≡ ident name ++ mark (codes ":") span ++ sum_of (map bound_tokens it) span
print-Constraint name it span = search the_lemmas

pub print-bound_lifetime : (it : Lifetime) → bound_tokens (bound.Lifetime it) ≡ lifetime it
print-bound_lifetime it = search the_lemmas

pub print-trait_bound : (maybe : Bool) (lifetimes : List Lifetime) (it : Path) (span : Span)
    → bound_tokens (make.trait_bound maybe lifetimes it span) ≡ (if maybe then mark (codes "?") span else []) ++ binder lifetimes span ++ path_tokens Plain it
print-trait_bound maybe lifetimes it span = search the_lemmas
