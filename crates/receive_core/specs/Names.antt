-- The names of items, and the items of a name.
use Rattle.std.specs.Prelude.{Bool, false, ◌||◌, not, List, [], ◌∷◌, filter, Option, Some, None}
use Rattle.std.specs.Str.{bytes_eq}
use Rattle.base_core.specs.declared.text.Text.{Text}
use Rattle.node_core.specs.Meta.{path_of_meta}
use Rattle.node_make.specs.PathText.{path_text}
use Rattle.meta_nested.specs.declared.nested.NestedMeta.{NestedMeta}
use Rattle.meta_nested.specs.declared.nested.NestedMeta.TheVariants as nested

-- the text of the path of an item; a literal has none
abbrev pub item_name : NestedMeta → Option Text
item_name (nested.Meta it) = Some (path_text (path_of_meta it))
item_name (nested.Lit it) = None
item_name (nested.NameValueInvalidExpr it) = Some (path_text it.path)

abbrev pub is_this_name : Text → Option Text → Bool
is_this_name name None = false
is_this_name name (Some other) = bytes_eq name other

-- the item has this name
abbrev pub is_named : Text → NestedMeta → Bool
is_named name item = is_this_name name (item_name item)

-- the items of this name, in order
abbrev pub own : Text → List NestedMeta → List NestedMeta
own name items = filter (is_named name) items

-- the name is among these
abbrev pub is_among : List Text → Text → Bool
is_among [] name = false
is_among (other ∷ names) name = bytes_eq other name || is_among names name

abbrev pub is_unclaimed_name : List Text → Option Text → Bool
is_unclaimed_name names None = false
is_unclaimed_name names (Some name) = not (is_among names name)

-- no literal, and of none of the names
abbrev pub is_unclaimed : List Text → NestedMeta → Bool
is_unclaimed names item = is_unclaimed_name names (item_name item)

-- the items of none of the names, in order
abbrev pub unclaimed : List Text → List NestedMeta → List NestedMeta
unclaimed names items = filter (is_unclaimed names) items
