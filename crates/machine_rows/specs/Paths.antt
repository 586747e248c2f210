-- What the path of a type names.
use Rattle.std.specs.Prelude.{ℕ, ◌-◌, Bool, true, false, ◌&&◌, not, if◌then◌else◌, List, [], ◌∷◌, length, take, slice_get, Option, Some, None, position, is_none}
use Rattle.std.specs.Str.{bytes_eq}
use Rattle.base_core.specs.declared.text.Text.{Text}
use Rattle.tok_types.specs.declared.ident.Ident.{Ident}
use Rattle.node_expr.specs.declared.expr.Expr.TheOpen.{PathArguments-F, Type-F}
use Rattle.node_expr.specs.declared.path.Path.{out-Path}
use Rattle.node_expr.specs.declared.path.PathArguments.{out-PathArguments}
use Rattle.node_expr.specs.declared.path.PathSegment.{PathSegment, out-PathSegment}
use Rattle.node_expr.specs.declared.ty.«Type».{«Type» as Type', out-Type}
use Rattle.node_expr.specs.declared.ty.TypePath.{out-TypePath}
use Rattle.node_expr.specs.Layers.{TypeLayer, PathArgumentsLayer}
use Rattle.machine_rows.specs.declared.name.Home.{Home}
use Rattle.machine_rows.specs.declared.name.Name.{Name}
use Rattle.machine_rows.specs.declared.path.Meant.{Meant}
use Rattle.machine_rows.specs.declared.path.Meant.TheVariants as meants
use Rattle.machine_rows.specs.Table.{names, looked_up, home_path}

abbrev pub layer_segments : TypeLayer → List PathSegment
layer_segments (Type-F.«Type::Path» it) = if is_none (out-TypePath it).qself then (out-Path (out-TypePath it).path).segments else []
layer_segments _ = []

-- the segments of a path that has no type in front; a leading `::` is not looked at
abbrev pub segments_in : Type' → List PathSegment
segments_in type = layer_segments (out-Type type)

abbrev pub layer_is_none : PathArgumentsLayer → Bool
layer_is_none PathArguments-F.None = true
layer_is_none _ = false

-- the segment is this name alone
abbrev pub is_bare : Text → PathSegment → Bool
is_bare name it =
    not (out-PathSegment it).ident.raw && bytes_eq (out-PathSegment it).ident.text name && layer_is_none (out-PathArguments (out-PathSegment it).arguments)

-- the segments are these names, without arguments
abbrev pub are_bare : List Text → List PathSegment → Bool
are_bare [] [] = true
are_bare [] (it ∷ more) = false
are_bare (name ∷ rest) [] = false
are_bare (name ∷ rest) (it ∷ more) = is_bare name it && are_bare rest more

-- a name stands bare, or behind the path of its home
abbrev pub stands_after : Home → List PathSegment → Bool
stands_after home [] = true
stands_after home (first ∷ more) = are_bare (home_path home) (first ∷ more)

abbrev pub by_row : List PathSegment → Option (Home × Name) → Meant
by_row before (Some row) = if stands_after row.0 before then meants.Table row.1 else meants.Nothing
by_row before None = meants.Nothing

-- the name of the table, where it may stand behind these segments; a raw identifier is none
abbrev pub in_table : List PathSegment → Ident → Meant
in_table before name = if name.raw then meants.Nothing else by_row before (looked_up names name.text)

-- two identifiers are the same by their texts: `r#` is no part of a name
abbrev pub same_ident : Ident → Ident → Bool
same_ident a b = bytes_eq a.text b.text

abbrev pub declared_or : Meant → Option ℕ → Meant
declared_or otherwise (Some place) = meants.Declared place
declared_or otherwise None = otherwise

-- a bare name is a declaration's before it is the table's
abbrev pub meant_after : List Ident → List PathSegment → Ident → Meant
meant_after decls [] name = declared_or (in_table [] name) (position (λ other. same_ident other name) decls)
meant_after decls (first ∷ more) name = in_table (first ∷ more) name

abbrev pub meant_at : List Ident → List PathSegment → Option PathSegment → Meant
meant_at decls before (Some last) = meant_after decls before (out-PathSegment last).ident
meant_at decls before None = meants.Nothing

-- what the segments name: the last is the name
abbrev pub meant_by : List Ident → List PathSegment → Meant
meant_by decls segments = meant_at decls (take (length segments - 1) segments) (slice_get segments (length segments - 1))
