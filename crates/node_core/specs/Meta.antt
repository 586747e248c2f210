-- The path in front of what an attribute holds.
use Rattle.node_expr.specs.declared.path.Path.{Path}
use Rattle.node_core.specs.declared.attr.Meta.{Meta}
use Rattle.node_core.specs.declared.attr.Meta.TheVariants as meta

-- the path in front
abbrev pub path_of_meta : Meta → Path
path_of_meta (meta.Path path) = path
path_of_meta (meta.List list) = list.path
path_of_meta (meta.NameValue pair) = pair.path
