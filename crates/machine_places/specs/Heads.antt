-- What a type is at its outermost name, where it reads an element.
use Rattle.std.specs.Prelude.{◌-◌, if◌then◌else◌, List, take, length, slice_get, Option, Some, None}
use Rattle.std.specs.Borrow.{Bor}
use Rattle.base_core.specs.declared.text.Text.{Text}
use Rattle.tok_types.specs.declared.ident.Ident.{Ident}
use Rattle.node_expr.specs.declared.path.PathSegment.{PathSegment, out-PathSegment}
use Rattle.node_expr.specs.declared.ty.«Type».{«Type» as Type'}
use Rattle.machine_rows.specs.Arguments.{last_arguments}
use Rattle.machine_rows.specs.Heads.{head_of}
use Rattle.machine_rows.specs.Paths.{meant_by, segments_in}
use Rattle.machine_rows.specs.declared.arguments.Arguments.{Arguments}
use Rattle.machine_rows.specs.declared.arguments.Arguments.TheVariants as arguments
use Rattle.machine_rows.specs.declared.head.Head.{Head}
use Rattle.machine_rows.specs.declared.head.Head.TheVariants as head
use Rattle.machine_rows.specs.declared.leaf.Leaf.{Leaf}
use Rattle.machine_rows.specs.declared.leaf.Leaf.TheVariants as leaf
use Rattle.machine_rows.specs.declared.leaf.Parsed.TheVariants as parsed
use Rattle.machine_rows.specs.declared.name.Name.TheVariants as rows
use Rattle.machine_rows.specs.declared.path.Meant.{Meant}
use Rattle.machine_rows.specs.declared.path.Meant.TheVariants as meants
use Rattle.machine_rows.specs.declared.wrapper.Wrapper.{Wrapper}
use Rattle.machine_rows.specs.declared.wrapper.Wrapper.TheVariants as wrapper
use Rattle.machine_places.specs.declared.head.OuterHead.{OuterHead}
use Rattle.machine_places.specs.declared.head.OuterHead.TheVariants as outer
use Rattle.machine_places.specs.declared.name.OuterName.{OuterName}
use Rattle.machine_places.specs.declared.name.OuterName.TheVariants as name
use Rattle.machine_places.specs.declared.part.Part.{Part}
use Rattle.machine_places.specs.declared.part.Part.TheVariants as part
use Rattle.machine_places.specs.Table.{names, looked_up}

-- the head as it is seen behind references
abbrev pub seen_outer : OuterHead (Bor Type') → OuterHead Type'
seen_outer outer.Unit = outer.Unit
seen_outer outer.Ignored = outer.Ignored
seen_outer (outer.Part it) = outer.Part it
seen_outer (outer.Declared place) = outer.Declared place
seen_outer (outer.SpannedValue inner) = outer.SpannedValue inner.now
seen_outer (outer.WithOriginal inner original) = outer.WithOriginal inner.now original
seen_outer (outer.Result inner) = outer.Result inner.now
seen_outer (outer.Data variant field) = outer.Data variant.now field.now
seen_outer (outer.Fields field) = outer.Fields field.now
seen_outer (outer.Generics param) = outer.Generics param.now
seen_outer (outer.GenericParam type) = outer.GenericParam type.now
seen_outer outer.Other = outer.Other

-- ---- names

abbrev pub name_behind : List PathSegment → Text → Arguments Type' → Option OuterName
name_behind before text arguments.Bare = looked_up names before text 0
name_behind before text (arguments.One only) = looked_up names before text 1
name_behind before text (arguments.Two first second) = looked_up names before text 2
name_behind before text arguments.Other = None

-- a raw identifier is no name of the table
abbrev pub name_of : List PathSegment → Ident → Arguments Type' → Option OuterName
name_of before ident arguments = if ident.raw then None else name_behind before ident.text arguments

abbrev pub last_name : List PathSegment → Option PathSegment → Option OuterName
last_name segments (Some last) = name_of (take (length segments - 1) segments) (out-PathSegment last).ident (last_arguments segments)
last_name segments None = None

-- what the table has at the last of the segments
abbrev pub name_at : List PathSegment → Option OuterName
name_at segments = last_name segments (slice_get segments (length segments - 1))

abbrev pub unless_meant : Meant → Option OuterName → Option OuterName
unless_meant meants.Nothing found = found
unless_meant _ found = None

-- what the segments name that are neither a declaration's name nor of the table of conversions
abbrev pub outer_name : List Ident → List PathSegment → Option OuterName
outer_name decls segments = unless_meant (meant_by decls segments) (name_at segments)

-- ---- types that take an element, or a part of one, as it stands

-- those of the table of conversions
abbrev pub leaf_part : Leaf → Option Part
leaf_part leaf.Ident = Some part.Ident
leaf_part (leaf.Parsed parsed.Type) = Some part.Type
leaf_part (leaf.Parsed parsed.TypeParam) = Some part.TypeParam
leaf_part (leaf.Parsed parsed.Visibility) = Some part.Visibility
leaf_part _ = None

-- those of the other table
abbrev pub named_part : Option OuterName → Option Part
named_part (Some (name.Part it)) = Some it
named_part _ = None

abbrev pub part_by : Head Type' → Option OuterName → Option Part
part_by (head.Leaf it) found = leaf_part it
part_by head.Host found = named_part found
part_by _ found = None

-- what a type takes that is around no other
abbrev pub bare_part : List Ident → Type' → Option Part
bare_part decls type = part_by (head_of decls type) (outer_name decls (segments_in type))

-- what an `Option` takes
abbrev pub optional_part : Head Type' → Option Part
optional_part (head.Leaf leaf.Ident) = Some part.OptionalIdent
optional_part (head.Leaf leaf.Expr) = Some part.OptionalExpr
optional_part (head.Leaf (leaf.Parsed parsed.Type)) = Some part.OptionalType
optional_part _ = None

-- what a `Vec` takes
abbrev pub listed_part : Option OuterName → Option Part
listed_part (Some name.Attribute) = Some part.Attributes
listed_part (Some name.TypeParamBound) = Some part.Bounds
listed_part _ = None

-- ---- heads

abbrev pub part_head : Option Part → OuterHead Type'
part_head (Some it) = outer.Part it
part_head None = outer.Other

abbrev pub leaf_head : Leaf → OuterHead Type'
leaf_head leaf.Ignored = outer.Ignored
leaf_head it = part_head (leaf_part it)

abbrev pub around_head : List Ident → Wrapper → Type' → OuterHead Type'
around_head decls wrapper.Result inner = outer.Result inner
around_head decls wrapper.SpannedValue inner = outer.SpannedValue inner
around_head decls wrapper.Option inner = part_head (optional_part (head_of decls inner))
around_head decls wrapper.Vec inner = part_head (listed_part (outer_name decls (segments_in inner)))
around_head decls _ inner = outer.Other

abbrev pub original_head : Type' → Option Part → OuterHead Type'
original_head inner (Some original) = outer.WithOriginal inner original
original_head inner None = outer.Other

-- a name of the table with its arguments
abbrev pub head_by : Option OuterName → Arguments Type' → OuterHead Type'
head_by (Some (name.Part it)) arguments.Bare = outer.Part it
head_by (Some name.Data) (arguments.Two variant field) = outer.Data variant field
head_by (Some name.Fields) (arguments.One field) = outer.Fields field
head_by (Some name.Generics) (arguments.One param) = outer.Generics param
head_by (Some name.GenericParam) (arguments.One type) = outer.GenericParam type
head_by _ _ = outer.Other

-- `WithOriginal` of what is no meta, or a name of the table
abbrev pub meant_head : List Ident → Meant → Option OuterName → Arguments Type' → OuterHead Type'
meant_head decls (meants.Table rows.WithOriginal) found (arguments.Two inner original) = original_head inner (bare_part decls original)
meant_head decls meants.Nothing found those = head_by found those
meant_head decls _ found those = outer.Other

abbrev pub named_head : List Ident → List PathSegment → OuterHead Type'
named_head decls segments = meant_head decls (meant_by decls segments) (name_at segments) (last_arguments segments)

abbrev pub head_as : List Ident → Type' → Head Type' → OuterHead Type'
head_as decls type head.Unit = outer.Unit
head_as decls type (head.Leaf it) = leaf_head it
head_as decls type (head.Around it inner) = around_head decls it inner
head_as decls type (head.Declared place) = outer.Declared place
head_as decls type head.Host = named_head decls (segments_in type)

-- what a type is at its outermost name: as in the table of conversions where that has it and reads an element, else as in this
abbrev pub outer_head_of : List Ident → Type' → OuterHead Type'
outer_head_of decls type = head_as decls type (head_of decls type)
