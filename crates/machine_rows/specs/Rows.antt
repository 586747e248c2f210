-- The row of a type.
use Rattle.std.specs.Prelude.{ℕ, zero, suc, List, Option, Some, None}
use Rattle.tok_types.specs.declared.ident.Ident.{Ident}
use Rattle.node_expr.specs.declared.ty.«Type».{«Type» as Type'}
use Rattle.machine_rows.specs.declared.arguments.Arguments.{Arguments}
use Rattle.machine_rows.specs.declared.arguments.Arguments.TheVariants as arguments
use Rattle.machine_rows.specs.declared.head.Head.{Head}
use Rattle.machine_rows.specs.declared.head.Head.TheVariants as head
use Rattle.machine_rows.specs.declared.name.Name.TheVariants as name
use Rattle.machine_rows.specs.declared.path.Meant.{Meant}
use Rattle.machine_rows.specs.declared.path.Meant.TheVariants as meants
use Rattle.machine_rows.specs.declared.row.Row.{Row}
use Rattle.machine_rows.specs.declared.row.Row.TheVariants as row
use Rattle.machine_rows.specs.declared.wrapper.Wrapper.{Wrapper}
use Rattle.machine_rows.specs.declared.wrapper.Wrapper.TheVariants as wrapper
use Rattle.machine_rows.specs.Arguments.{last_arguments}
use Rattle.machine_rows.specs.Heads.{head_of}
use Rattle.machine_rows.specs.Paths.{meant_by, segments_in}

-- the row of a type that holds one type
abbrev pub around : Wrapper → Row → Row
around wrapper.Option inner = row.Option inner
around wrapper.Box inner = row.Box inner
around wrapper.Result inner = row.Result inner
around wrapper.ResultMeta inner = row.ResultMeta inner
around wrapper.Override inner = row.Override inner
around wrapper.SpannedValue inner = row.SpannedValue inner
around wrapper.WithOriginal inner = row.WithOriginal inner
around (wrapper.HashMap key) inner = row.HashMap key inner
around (wrapper.BTreeMap key) inner = row.BTreeMap key inner
around wrapper.Vec inner = row.Vec inner

-- the row of a type of this head, where `read` gives the row of what it holds
abbrev pub row_by : (Type' → Row) → Type' → Head Type' → Row
row_by read type head.Unit = row.Unit
row_by read type (head.Leaf it) = row.Leaf it
row_by read type (head.Around it inner) = around it (read inner)
row_by read type (head.Declared place) = row.Declared place
row_by read type head.Host = row.Host type

-- the row of a type, which is looked into as deep as the level
abbrev pub row_at : List Ident → ℕ → Type' → Row
row_at decls zero type = row.Host type
row_at decls (suc level) type = row_by (row_at decls level) type (head_of decls type)

-- the row of a type, where what it holds is looked into as deep as the level
abbrev pub row_above : List Ident → ℕ → Type' → Row
row_above decls level type = row_by (row_at decls level) type (head_of decls type)

-- the row of a type; one that holds a type at level 257 leaves that to the host
unfoldable pub row_of : List Ident → Type' → Row
row_of decls type = row_at decls 256 type

abbrev pub vec_element : Meant → Arguments Type' → Option Type'
vec_element (meants.Table name.Vec) (arguments.One inner) = Some inner
vec_element _ _ = None

-- the `T` of a `Vec<T>`
abbrev pub element_of : List Ident → Type' → Option Type'
element_of decls type = vec_element (meant_by decls (segments_in type)) (last_arguments (segments_in type))
