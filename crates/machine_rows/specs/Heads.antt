-- What a type is at its outermost name: the rows of the table, by their names and arguments.
use Rattle.std.specs.Prelude.{Bool, true, false, if◌then◌else◌, List, [], ◌∷◌, Option, Some, None}
use Rattle.std.specs.Borrow.{Bor}
use Rattle.tok_types.specs.declared.ident.Ident.{Ident}
use Rattle.node_expr.specs.declared.expr.Expr.TheOpen.{Type-F}
use Rattle.node_expr.specs.declared.ty.«Type».{«Type» as Type', out-Type}
use Rattle.node_expr.specs.Layers.{TypeLayer}
use Rattle.machine_rows.specs.declared.arguments.Arguments.{Arguments}
use Rattle.machine_rows.specs.declared.arguments.Arguments.TheVariants as arguments
use Rattle.machine_rows.specs.declared.head.Head.{Head}
use Rattle.machine_rows.specs.declared.head.Head.TheVariants as head
use Rattle.machine_rows.specs.declared.leaf.Leaf.TheVariants as leaf
use Rattle.machine_rows.specs.declared.leaf.PunctuatedItem.{PunctuatedItem}
use Rattle.machine_rows.specs.declared.leaf.SetItem.{SetItem}
use Rattle.machine_rows.specs.declared.leaf.VecItem.{VecItem}
use Rattle.machine_rows.specs.declared.name.Name.{Name}
use Rattle.machine_rows.specs.declared.name.Name.TheVariants as name
use Rattle.machine_rows.specs.declared.path.Meant.{Meant}
use Rattle.machine_rows.specs.declared.path.Meant.TheVariants as meants
use Rattle.machine_rows.specs.declared.wrapper.HashKey.{HashKey}
use Rattle.machine_rows.specs.declared.wrapper.TreeKey.{TreeKey}
use Rattle.machine_rows.specs.declared.wrapper.Wrapper.{Wrapper}
use Rattle.machine_rows.specs.declared.wrapper.Wrapper.TheVariants as wrapper
use Rattle.machine_rows.specs.Arguments.{last_arguments}
use Rattle.machine_rows.specs.Items.{vec_item, set_item, punctuated_item, hash_key, tree_key}
use Rattle.machine_rows.specs.Paths.{meant_by, segments_in}

-- the head as it is seen behind a reference
abbrev pub seen_head : Head (Bor Type') → Head Type'
seen_head head.Unit = head.Unit
seen_head (head.Leaf it) = head.Leaf it
seen_head (head.Around it inner) = head.Around it inner.now
seen_head (head.Declared place) = head.Declared place
seen_head head.Host = head.Host

abbrev pub bare_in : Meant → Arguments Type' → Option Name
bare_in (meants.Table it) arguments.Bare = Some it
bare_in _ _ = None

-- the name of the table that a type without arguments is
abbrev pub bare_name : List Ident → Type' → Option Name
bare_name decls type = bare_in (meant_by decls (segments_in type)) (last_arguments (segments_in type))

abbrev pub list_of : Option VecItem → Type' → Head Type'
list_of (Some item) inner = head.Leaf (leaf.Vec item)
list_of None inner = head.Around wrapper.Vec inner

-- a `Vec` that is read as a whole, or else a list of what its items are read at
abbrev pub list_head : Option Name → Type' → Head Type'
list_head item inner = list_of (vec_item item) inner

abbrev pub set_of : Option SetItem → Head Type'
set_of (Some item) = head.Leaf (leaf.HashSet item)
set_of None = head.Host

abbrev pub set_head : Option Name → Head Type'
set_head item = set_of (set_item item)

abbrev pub punctuated_of : Option PunctuatedItem → Option Name → Head Type'
punctuated_of (Some item) (Some name.Comma) = head.Leaf (leaf.Punctuated item)
punctuated_of _ _ = head.Host

-- a list whose items stand between commas
abbrev pub punctuated_head : Option Name → Option Name → Head Type'
punctuated_head item mark = punctuated_of (punctuated_item item) mark

-- the wrapper, where its second argument is `Meta`
abbrev pub beside_meta : Wrapper → Type' → Option Name → Head Type'
beside_meta it inner (Some (name.Leaf leaf.Meta)) = head.Around it inner
beside_meta it inner _ = head.Host

abbrev pub hash_map_of : Option HashKey → Type' → Head Type'
hash_map_of (Some key) inner = head.Around (wrapper.HashMap key) inner
hash_map_of None inner = head.Host

abbrev pub hash_map_head : Option Name → Type' → Head Type'
hash_map_head key inner = hash_map_of (hash_key key) inner

abbrev pub tree_map_of : Option TreeKey → Type' → Head Type'
tree_map_of (Some key) inner = head.Around (wrapper.BTreeMap key) inner
tree_map_of None inner = head.Host

abbrev pub tree_map_head : Option Name → Type' → Head Type'
tree_map_head key inner = tree_map_of (tree_key key) inner

-- the names with one argument; `bare` is what it names
abbrev pub head_of_one : Option Name → Name → Type' → Head Type'
head_of_one bare name.Vec inner = list_head bare inner
head_of_one bare name.HashSet inner = set_head bare
head_of_one bare name.Option inner = head.Around wrapper.Option inner
head_of_one bare name.Box inner = head.Around wrapper.Box inner
head_of_one bare name.Result inner = head.Around wrapper.Result inner
head_of_one bare name.Override inner = head.Around wrapper.Override inner
head_of_one bare name.SpannedValue inner = head.Around wrapper.SpannedValue inner
head_of_one bare _ inner = head.Host

-- the names with two arguments; `bare` and `other` are what they name
abbrev pub head_of_two : Option Name → Option Name → Name → Type' → Type' → Head Type'
head_of_two bare other name.Punctuated first second = punctuated_head bare other
head_of_two bare other name.Result first second = beside_meta wrapper.ResultMeta first other
head_of_two bare other name.WithOriginal first second = beside_meta wrapper.WithOriginal first other
head_of_two bare other name.HashMap first second = hash_map_head bare second
head_of_two bare other name.BTreeMap first second = tree_map_head bare second
head_of_two bare other _ first second = head.Host

-- a name with its arguments; a declaration has none
abbrev pub named_head : List Ident → Meant → Arguments Type' → Head Type'
named_head decls (meants.Declared place) arguments.Bare = head.Declared place
named_head decls (meants.Table (name.Leaf it)) arguments.Bare = head.Leaf it
named_head decls (meants.Table it) (arguments.One inner) = head_of_one (bare_name decls inner) it inner
named_head decls (meants.Table it) (arguments.Two first second) = head_of_two (bare_name decls first) (bare_name decls second) it first second
named_head decls _ _ = head.Host

abbrev pub null : {A : Type 0} → List A → Bool
null [] = true
null (first ∷ more) = false

abbrev pub layer_is_unit : TypeLayer → Bool
layer_is_unit (Type-F.«Type::Tuple» it) = null it.elems
layer_is_unit _ = false

-- the type `()`
abbrev pub is_unit : Type' → Bool
is_unit type = layer_is_unit (out-Type type)

-- what a type is at its outermost name
abbrev pub head_of : List Ident → Type' → Head Type'
head_of decls type =
    if is_unit type then head.Unit
    else named_head decls (meant_by decls (segments_in type)) (last_arguments (segments_in type))
