-- The text of a path.
use Rattle.std.specs.Prelude.{ℕ, List, [], ◌++◌, map, codes, if◌then◌else◌}
use Rattle.std.specs.List.{join_by}
use Rattle.tok_types.specs.Ident.{ident_text}
use Rattle.tok_types.specs.declared.ident.Ident.{Ident}
use Rattle.node_expr.specs.declared.path.Path.{Path, out-Path}
use Rattle.node_expr.specs.declared.path.PathSegment.{PathSegment, out-PathSegment}

abbrev pub segment_text : PathSegment → List ℕ
segment_text segment = ident_text (out-PathSegment segment).ident

-- the identifiers of its segments, joined by `::`; a leading `::` and arguments are left out
abbrev pub path_text : Path → List ℕ
path_text path = join_by segment_text (codes "::") (out-Path path).segments

-- the text with the `::` that the path may begin with
abbrev pub full_path_text : Path → List ℕ
full_path_text path = (if (out-Path path).leading_colon then codes "::" else []) ++ path_text path

-- the identifiers of its segments
abbrev pub idents_of : Path → List Ident
idents_of path = map (λ segment. (out-PathSegment segment).ident) (out-Path path).segments
