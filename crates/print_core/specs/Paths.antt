-- Paths: their segments and arguments, the bounds that hold them, and the type in front of one.
--
-- A rule has the printed tokens of a node's parts where the node has the parts.
use Rattle.std.specs.Prelude.{ℕ, Bool, ◌==◌, if◌then◌else◌, List, [], ◌∷◌, ◌++◌, map, take, drop, Option, Some, None, codes}
use Rattle.tok_types.specs.declared.span.Span.{Span}
use Rattle.tok_types.specs.declared.ident.Lifetime.{Lifetime}
use Rattle.tok_types.specs.declared.tree.Delimiter.TheVariants.{Parenthesis}
use Rattle.node_expr.specs.declared.path.QSelf.{QSelf}
use Rattle.node_expr.specs.declared.ty.ReturnType.{ReturnType}
use Rattle.node_expr.specs.declared.ty.ReturnType.TheVariants.{Default, Ty}
use Rattle.node_expr.specs.declared.expr.Expr.TheOpen.{GenericArgument-F, PathArguments-F, Path-F, PathSegment-F, ExprPath-F, TypePath-F, TypeParamBound-F, TraitBound-F}
use Rattle.print_core.specs.declared.path.PathStyle.{PathStyle}
use Rattle.print_core.specs.declared.path.PathStyle.TheVariants.{Plain, Turbofish}
use Rattle.print_core.specs.Marks.{Trees, ident, lifetime, mark, word, group, comma, plus, colons, after, joined, unless_empty}

-- what a segment prints, by the style of its path
abbrev pub Styled : Type 0
Styled = PathStyle → Trees

-- arguments keep no span of their own: they stand under that of their segment
abbrev pub Arguments : Type 0
Arguments = PathStyle → Span → Trees

-- a path, with what its segments print
pub record PathParts : Type 0 where
  pub leading_colon : Bool
  pub segments : List Styled
  pub span : Span

abbrev pub in_style : PathStyle → Styled → Trees
in_style style segment = segment style

-- `<a, b>`, or `<>`
abbrev pub angled : List Trees → Span → Trees
angled arguments span = mark (codes "<") span ++ joined (comma span) arguments ++ mark (codes ">") span

-- `for<'a, 'b>`, or nothing without lifetimes
abbrev pub binder : List Lifetime → Span → Trees
binder lifetimes span = unless_empty lifetimes (word (codes "for") span ++ angled (map lifetime lifetimes) span)

-- `A + B`
abbrev pub sum_of : List Trees → Span → Trees
sum_of bounds span = joined (plus span) bounds

-- `-> T`, or nothing
abbrev pub return_of : ReturnType Trees → Span → Trees
return_of Default span = []
return_of (Ty ty) span = mark (codes "->") span ++ ty

-- `::` before the arguments in an expression
abbrev pub before_arguments : PathStyle → Span → Trees
before_arguments Plain span = []
before_arguments Turbofish span = colons span

-- `::` before the first segment
abbrev pub leading : PathParts → Trees
leading path = if path.leading_colon then colons path.span else []

-- `a::b<T>`
abbrev pub path_in : PathStyle → PathParts → Trees
path_in style path = leading path ++ joined (colons path.span) (map (in_style style) path.segments)

-- `as a::Trait>::Item` after the type: the first segments, then the others in the style of the path
abbrev pub after_as : ℕ → Span → PathStyle → PathParts → Trees
after_as position span style path =
    word (codes "as") span ++ leading path
    ++ joined (colons path.span) (map (in_style Plain) (take position path.segments))
    ++ mark (codes ">") span
    ++ after (colons path.span) (map (in_style style) (drop position path.segments))

-- what follows `<T`
abbrev pub after_type : ℕ → Span → PathStyle → PathParts → Trees
after_type position span style path =
    if position == 0 then mark (codes ">") span ++ path_in style path else after_as position span style path

-- a path, with the type in front of it where there is one
abbrev pub qualified : Option (QSelf Trees) → PathStyle → PathParts → Trees
qualified None style path = path_in style path
qualified (Some qself) style path = mark (codes "<") qself.span ++ qself.ty ++ after_type qself.position qself.span style path

abbrev pub path_rule : Path-F Trees Trees Trees Arguments Trees Trees Trees PathParts Styled Trees Trees → PathParts
path_rule path = record { leading_colon = path.leading_colon; segments = path.segments; span = path.span }

abbrev pub segment_rule : PathSegment-F Trees Trees Trees Arguments Trees Trees Trees PathParts Styled Trees Trees → Styled
segment_rule segment style = ident segment.ident ++ segment.arguments style segment.span

abbrev pub arguments_rule : PathArguments-F Trees Trees Trees Arguments Trees Trees Trees PathParts Styled Trees Trees → Arguments
arguments_rule PathArguments-F.None style span = []
arguments_rule (PathArguments-F.AngleBracketed arguments) style span = before_arguments style span ++ angled arguments span
arguments_rule (PathArguments-F.Parenthesized inputs output own) style span =
    group Parenthesis (joined (comma own) inputs) own ++ return_of output own

abbrev pub argument_rule : GenericArgument-F Trees Trees Trees Arguments Trees Trees Trees PathParts Styled Trees Trees → Trees
argument_rule (GenericArgument-F.GenericArgument::Lifetime it) = lifetime it
argument_rule (GenericArgument-F.Ty ty) = ty
argument_rule (GenericArgument-F.Const value) = value
argument_rule (GenericArgument-F.AssocType name ty span) = ident name ++ mark (codes "=") span ++ ty
argument_rule (GenericArgument-F.AssocConst name value span) = ident name ++ mark (codes "=") span ++ value
argument_rule (GenericArgument-F.Constraint name bounds span) = ident name ++ mark (codes ":") span ++ sum_of bounds span

abbrev pub bound_rule : TypeParamBound-F Trees Trees Trees Arguments Trees Trees Trees PathParts Styled Trees Trees → Trees
bound_rule (TypeParamBound-F.Trait bound) = bound
bound_rule (TypeParamBound-F.TypeParamBound::Lifetime it) = lifetime it

abbrev pub trait_bound_rule : TraitBound-F Trees Trees Trees Arguments Trees Trees Trees PathParts Styled Trees Trees → Trees
trait_bound_rule bound =
    (if bound.maybe then mark (codes "?") bound.span else []) ++ binder bound.lifetimes bound.span ++ path_in Plain bound.path

abbrev pub type_path_rule : TypePath-F Trees Trees Trees Arguments Trees Trees Trees PathParts Styled Trees Trees → Trees
type_path_rule it = qualified it.qself Plain it.path

abbrev pub expr_path_rule : ExprPath-F Trees Trees Trees Arguments Trees Trees Trees PathParts Styled Trees Trees → Trees
expr_path_rule it = qualified it.qself Turbofish it.path
