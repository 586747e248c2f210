-- What lists, sets and maps of the table hold.
use Rattle.std.specs.Prelude.{Option, Some, None}
use Rattle.machine_rows.specs.declared.leaf.Integer.{Integer}
use Rattle.machine_rows.specs.declared.leaf.Integer.TheVariants as integer
use Rattle.machine_rows.specs.declared.leaf.Leaf.{Leaf}
use Rattle.machine_rows.specs.declared.leaf.Leaf.TheVariants as leaf
use Rattle.machine_rows.specs.declared.leaf.PunctuatedItem.{PunctuatedItem}
use Rattle.machine_rows.specs.declared.leaf.PunctuatedItem.TheVariants as listed
use Rattle.machine_rows.specs.declared.leaf.SetItem.{SetItem}
use Rattle.machine_rows.specs.declared.leaf.SetItem.TheVariants as set
use Rattle.machine_rows.specs.declared.leaf.Unsigned.TheVariants as unsigned
use Rattle.machine_rows.specs.declared.leaf.VecItem.{VecItem}
use Rattle.machine_rows.specs.declared.leaf.VecItem.TheVariants as vec
use Rattle.machine_rows.specs.declared.name.Name.{Name}
use Rattle.machine_rows.specs.declared.name.Name.TheVariants as name
use Rattle.machine_rows.specs.declared.wrapper.HashKey.{HashKey}
use Rattle.machine_rows.specs.declared.wrapper.HashKey.TheVariants as hash
use Rattle.machine_rows.specs.declared.wrapper.TreeKey.{TreeKey}
use Rattle.machine_rows.specs.declared.wrapper.TreeKey.TheVariants as tree

-- the integers of a list that is read as a whole
abbrev pub vec_integer : Integer → Option VecItem
vec_integer integer.U8 = Some (vec.Unsigned unsigned.U8)
vec_integer integer.U16 = Some (vec.Unsigned unsigned.U16)
vec_integer integer.U32 = Some (vec.Unsigned unsigned.U32)
vec_integer integer.U64 = Some (vec.Unsigned unsigned.U64)
vec_integer integer.Usize = Some (vec.Unsigned unsigned.Usize)
vec_integer _ = None

abbrev pub vec_leaf : Leaf → Option VecItem
vec_leaf (leaf.LitOf kind) = Some (vec.Lit kind)
vec_leaf (leaf.Integer integer) = vec_integer integer
vec_leaf leaf.Ident = Some vec.Ident
vec_leaf leaf.Path = Some vec.Path
vec_leaf _ = None

-- the items of a `Vec` that is read as a whole
abbrev pub vec_item : Option Name → Option VecItem
vec_item (Some name.WherePredicate) = Some vec.WherePredicate
vec_item (Some (name.Leaf it)) = vec_leaf it
vec_item _ = None

-- the items of a `HashSet`
abbrev pub set_item : Option Name → Option SetItem
set_item (Some (name.Leaf leaf.Ident)) = Some set.Ident
set_item (Some (name.Leaf leaf.Path)) = Some set.Path
set_item _ = None

-- the items of a `Punctuated`
abbrev pub punctuated_item : Option Name → Option PunctuatedItem
punctuated_item (Some (name.Leaf leaf.Expr)) = Some listed.Expr
punctuated_item (Some (name.Leaf leaf.Ident)) = Some listed.Ident
punctuated_item (Some (name.Leaf leaf.Path)) = Some listed.Path
punctuated_item (Some name.FnArg) = Some listed.FnArg
punctuated_item _ = None

-- the keys of a `HashMap`
abbrev pub hash_key : Option Name → Option HashKey
hash_key (Some (name.Leaf leaf.String)) = Some hash.String
hash_key (Some (name.Leaf leaf.Ident)) = Some hash.Ident
hash_key (Some (name.Leaf leaf.Path)) = Some hash.Path
hash_key _ = None

-- the keys of a `BTreeMap`
abbrev pub tree_key : Option Name → Option TreeKey
tree_key (Some (name.Leaf leaf.String)) = Some tree.String
tree_key (Some (name.Leaf leaf.Ident)) = Some tree.Ident
tree_key _ = None
