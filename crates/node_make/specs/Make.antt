-- Nodes of their parts, for those that lie on the cycle of types, expressions and paths and are
-- structs. Every other node is its record or its variant.
use Rattle.std.specs.Prelude.{ℕ, Bool, List, Option}
use Rattle.tok_types.specs.declared.ident.Ident.{Ident}
use Rattle.tok_types.specs.declared.ident.Lifetime.{Lifetime}
use Rattle.tok_types.specs.declared.span.Span.{Span}
use Rattle.node_expr.specs.declared.expr.Expr.{Expr}
use Rattle.node_expr.specs.declared.expr.ExprPath.{ExprPath, roll-ExprPath}
use Rattle.node_expr.specs.declared.generics.TraitBound.{TraitBound, roll-TraitBound}
use Rattle.node_expr.specs.declared.path.Path.{Path, roll-Path}
use Rattle.node_expr.specs.declared.path.PathArguments.{PathArguments}
use Rattle.node_expr.specs.declared.path.PathSegment.{PathSegment, roll-PathSegment}
use Rattle.node_expr.specs.declared.path.QSelf.{QSelf}
use Rattle.node_expr.specs.declared.ty.«Type».{«Type» as Type'}
use Rattle.node_expr.specs.declared.ty.TypeArray.{TypeArray, roll-TypeArray}
use Rattle.node_expr.specs.declared.ty.TypePath.{TypePath, roll-TypePath}

-- the segments joined by `::`, with `::` in front or without
abbrev pub make_path : Bool → List PathSegment → Span → Path
make_path leading_colon segments span = roll-Path (record { leading_colon = leading_colon; segments = segments; span = span })

-- the identifier, with what follows it
abbrev pub make_segment : Ident → PathArguments → Span → PathSegment
make_segment ident arguments span = roll-PathSegment (record { ident = ident; arguments = arguments; span = span })

-- the path as an expression
abbrev pub make_expr_path : Option (QSelf Type') → Path → Span → ExprPath
make_expr_path qself path span = roll-ExprPath (record { qself = qself; path = path; span = span })

-- the path as a type
abbrev pub make_type_path : Option (QSelf Type') → Path → Span → TypePath
make_type_path qself path span = roll-TypePath (record { qself = qself; path = path; span = span })

-- `[elem; len]`
abbrev pub make_type_array : Type' → Expr → Span → TypeArray
make_type_array elem len span = roll-TypeArray (record { elem = elem; len = len; span = span })

-- the path as a bound, with a `?` in front or without, and with these lifetimes in `for<>`
abbrev pub make_trait_bound : Bool → List Lifetime → Path → Span → TraitBound
make_trait_bound maybe lifetimes path span = roll-TraitBound (record { maybe = maybe; lifetimes = lifetimes; path = path; span = span })
