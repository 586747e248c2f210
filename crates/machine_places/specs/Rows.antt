-- What a type reads of an element.
use Rattle.std.specs.Prelude.{ℕ, zero, suc, List}
use Rattle.tok_types.specs.declared.ident.Ident.{Ident}
use Rattle.node_expr.specs.declared.ty.«Type».{«Type» as Type'}
use Rattle.machine_places.specs.declared.head.OuterHead.{OuterHead}
use Rattle.machine_places.specs.declared.head.OuterHead.TheVariants as head
use Rattle.machine_places.specs.declared.row.OuterRow.{OuterRow}
use Rattle.machine_places.specs.declared.row.OuterRow.TheVariants as row
use Rattle.machine_places.specs.Heads.{outer_head_of}

-- the row of a type of this head, where `read` gives the row of what it holds
abbrev pub row_by : (Type' → OuterRow) → OuterHead Type' → OuterRow
row_by read head.Unit = row.Unit
row_by read head.Ignored = row.Ignored
row_by read (head.Part it) = row.Part it
row_by read (head.Declared place) = row.Declared place
row_by read (head.SpannedValue inner) = row.SpannedValue (read inner)
row_by read (head.WithOriginal inner original) = row.WithOriginal (read inner) original
row_by read (head.Result inner) = row.Result (read inner)
row_by read (head.Data variant field) = row.Data (read variant) (read field)
row_by read (head.Fields field) = row.Fields (read field)
row_by read (head.Generics param) = row.Generics (read param)
row_by read (head.GenericParam type) = row.GenericParam (read type)
row_by read head.Other = row.Other

-- the row of a type, which is looked into as deep as the level
abbrev pub outer_row_at : List Ident → ℕ → Type' → OuterRow
outer_row_at decls zero type = row.Other
outer_row_at decls (suc level) type = row_by (outer_row_at decls level) (outer_head_of decls type)

-- the row of a type, where what it holds is looked into as deep as the level
abbrev pub row_above : List Ident → ℕ → Type' → OuterRow
row_above decls level type = row_by (outer_row_at decls level) (outer_head_of decls type)

-- the row of a type; one that holds a type at level 257 reads no element
unfoldable pub outer_row_of : List Ident → Type' → OuterRow
outer_row_of decls type = outer_row_at decls 256 type
