-- The names of items.
use Rattle.std.specs.Prelude.{Option, Some, None}
use Rattle.base_core.specs.declared.text.Text.{Text}
use Rattle.node_core.specs.Meta.{path_of_meta}
use Rattle.node_core.specs.declared.attr.Meta.{Meta}
use Rattle.node_make.specs.PathText.{path_text}
use Rattle.meta_nested.specs.declared.nested.NestedMeta.{NestedMeta}
use Rattle.meta_nested.specs.declared.nested.NestedMeta.TheVariants as nested

-- the text of the path of a meta
abbrev pub meta_name : Meta → Text
meta_name it = path_text (path_of_meta it)

-- the text of the path of an item; a literal has none
abbrev pub item_name : NestedMeta → Option Text
item_name (nested.Meta it) = Some (meta_name it)
item_name (nested.Lit it) = None
item_name (nested.NameValueInvalidExpr it) = Some (path_text it.path)
