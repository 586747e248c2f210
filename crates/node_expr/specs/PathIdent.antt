-- The identifier that a path is.
use Rattle.std.specs.Prelude.{List, [], ◌∷◌, Option, Some, None, if◌then◌else◌}
use Rattle.tok_types.specs.declared.ident.Ident.{Ident}
use Rattle.node_expr.specs.declared.expr.Expr.TheOpen.{PathArguments-F}
use Rattle.node_expr.specs.declared.path.Path.{Path, out-Path}
use Rattle.node_expr.specs.declared.path.PathArguments.{out-PathArguments}
use Rattle.node_expr.specs.declared.path.PathSegment.{PathSegment, out-PathSegment}
use Rattle.node_expr.specs.Layers.{PathArgumentsLayer}

-- the identifier, where no arguments follow
abbrev pub bare_ident : Ident → PathArgumentsLayer → Option Ident
bare_ident ident PathArguments-F.None = Some ident
bare_ident ident _ = None

-- the identifier of the one segment, which has no arguments
abbrev pub segments_ident : List PathSegment → Option Ident
segments_ident (segment ∷ []) = bare_ident (out-PathSegment segment).ident (out-PathArguments (out-PathSegment segment).arguments)
segments_ident _ = None

-- the identifier of the one segment, where no `::` stands in front and no arguments follow
abbrev pub ident_of : Path → Option Ident
ident_of path = if (out-Path path).leading_colon then None else segments_ident (out-Path path).segments
