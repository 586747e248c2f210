-- The arguments behind a name.
use Rattle.std.specs.Prelude.{◌-◌, List, [], ◌∷◌, length, slice_get, Option, Some, None}
use Rattle.std.specs.Borrow.{Bor}
use Rattle.node_expr.specs.declared.expr.Expr.TheOpen.{PathArguments-F, GenericArgument-F}
use Rattle.node_expr.specs.declared.path.GenericArgument.{GenericArgument, out-GenericArgument}
use Rattle.node_expr.specs.declared.path.PathArguments.{PathArguments, out-PathArguments}
use Rattle.node_expr.specs.declared.path.PathSegment.{PathSegment, out-PathSegment}
use Rattle.node_expr.specs.declared.ty.«Type».{«Type» as Type'}
use Rattle.node_expr.specs.Layers.{PathArgumentsLayer, GenericArgumentLayer}
use Rattle.machine_rows.specs.declared.arguments.Arguments.{Arguments}
use Rattle.machine_rows.specs.declared.arguments.Arguments.TheVariants as arguments

-- the arguments as they are seen behind references
abbrev pub seen : Arguments (Bor Type') → Arguments Type'
seen arguments.Bare = arguments.Bare
seen (arguments.One only) = arguments.One only.now
seen (arguments.Two first second) = arguments.Two first.now second.now
seen arguments.Other = arguments.Other

abbrev pub layer_type : GenericArgumentLayer → Option Type'
layer_type (GenericArgument-F.Ty type) = Some type
layer_type _ = None

-- the type that an argument is
abbrev pub type_in : GenericArgument → Option Type'
type_in it = layer_type (out-GenericArgument it)

abbrev pub one : Option Type' → Arguments Type'
one (Some only) = arguments.One only
one None = arguments.Other

abbrev pub two : Option Type' → Option Type' → Arguments Type'
two (Some first) (Some second) = arguments.Two first second
two _ _ = arguments.Other

-- the types between angles: one, or two
abbrev pub between : List GenericArgument → Arguments Type'
between (only ∷ []) = one (type_in only)
between (first ∷ second ∷ []) = two (type_in first) (type_in second)
between _ = arguments.Other

abbrev pub layer_arguments : PathArgumentsLayer → Arguments Type'
layer_arguments PathArguments-F.None = arguments.Bare
layer_arguments (PathArguments-F.AngleBracketed items) = between items
layer_arguments _ = arguments.Other

-- the arguments behind a segment
abbrev pub arguments_in : PathArguments → Arguments Type'
arguments_in it = layer_arguments (out-PathArguments it)

abbrev pub arguments_at : Option PathSegment → Arguments Type'
arguments_at (Some last) = arguments_in (out-PathSegment last).arguments
arguments_at None = arguments.Other

-- the arguments behind the last of the segments
abbrev pub last_arguments : List PathSegment → Arguments Type'
last_arguments segments = arguments_at (slice_get segments (length segments - 1))
