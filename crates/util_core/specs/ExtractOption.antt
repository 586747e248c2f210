-- The `T` of an `Option<T>`.
use Rattle.std.specs.Prelude.{Bool, if◌then◌else◌, List, [], ◌∷◌, Option, Some, None, option_and_then, codes, slice_get, length, ◌-◌, bytes_eq}
use Rattle.tok_types.specs.declared.span.Span.{Span}
use Rattle.tok_types.specs.Ident.{ident_text}
use Rattle.tok_types.specs.declared.ident.Ident.{Ident}
use Rattle.node_expr.specs.Layers.{GenericArgumentLayer, PathArgumentsLayer, TypeLayer}
use Rattle.node_expr.specs.declared.expr.Expr.TheOpen.{GenericArgument-F, PathArguments-F, Type-F}
use Rattle.node_expr.specs.declared.path.GenericArgument.{GenericArgument, out-GenericArgument}
use Rattle.node_expr.specs.declared.path.Path.{Path, out-Path}
use Rattle.node_expr.specs.declared.path.PathArguments.{out-PathArguments}
use Rattle.node_expr.specs.declared.path.PathSegment.{PathSegment, out-PathSegment}
use Rattle.node_expr.specs.declared.path.QSelf.{QSelf}
use Rattle.node_expr.specs.declared.ty.«Type».{«Type» as Type', out-Type}
use Rattle.node_expr.specs.declared.ty.TypePath.{TypePath, out-TypePath}
use Rattle.node_span.specs.Spanned.{type_span}
use Rattle.error_fault.specs.Fault.{at_span}
use Rattle.error_fault.specs.Outcome.{Outcome, Value, Faults}
use Rattle.error_fault.specs.declared.fault.Fault.{Fault}
use Rattle.error_fault.specs.declared.kind.FaultKind.TheVariants.{Custom}

-- the identifier reads `Option`
abbrev pub is_option : Ident → Bool
is_option ident = bytes_eq (ident_text ident) (codes "Option")

-- the type that an argument is
abbrev pub type_in : GenericArgumentLayer → Option Type'
type_in (GenericArgument-F.Ty it) = Some it
type_in _ = None

-- the one type in a list of arguments
abbrev pub one_type : List GenericArgument → Option Type'
one_type (argument ∷ []) = type_in (out-GenericArgument argument)
one_type _ = None

-- the one type in angle brackets
abbrev pub only_type : PathArgumentsLayer → Option Type'
only_type (PathArguments-F.AngleBracketed arguments) = one_type arguments
only_type _ = None

-- the one type argument of a segment `Option`
abbrev pub argument_of : PathSegment → Option Type'
argument_of segment =
    if is_option (out-PathSegment segment).ident then only_type (out-PathArguments (out-PathSegment segment).arguments) else None

-- the last segment of a path
abbrev pub last_segment : Path → Option PathSegment
last_segment path = slice_get (out-Path path).segments (length (out-Path path).segments - 1)

-- a path without a type in front
abbrev pub unqualified : Option (QSelf Type') → Path → Option Path
unqualified None path = Some path
unqualified (Some qself) path = None

-- the path that a type is, without a type in front
abbrev pub bare_path : TypeLayer → Option Path
bare_path (Type-F.Type::Path it) = unqualified (out-TypePath it).qself (out-TypePath it).path
bare_path _ = None

-- the one type argument of an unqualified path whose last segment is `Option`
abbrev pub option_argument : Type' → Option Type'
option_argument ty = option_and_then argument_of (option_and_then last_segment (bare_path (out-Type ty)))

-- another type, at its place
abbrev pub no_option : Span → Fault
no_option span = at_span (Custom (codes "expected an `Option`")) span

abbrev pub extracted_or : Span → Option Type' → Outcome Type'
extracted_or span (Some argument) = Value argument
extracted_or span None = Faults (no_option span) []

-- that type, or else a fault where the type stands
abbrev pub extracted : Type' → Outcome Type'
extracted ty = extracted_or (type_span ty) (option_argument ty)
