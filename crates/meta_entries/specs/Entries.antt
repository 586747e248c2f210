-- The entries of attributes: the items of their lists, or the faults in the place of items, in order.
use Rattle.std.specs.Prelude.{Bool, List, [], ◌∷◌, map, flat_map, if◌then◌else◌}
use Rattle.base_core.specs.declared.text.Text.{Text}
use Rattle.node_expr.specs.declared.path.Path.{Path}
use Rattle.node_core.specs.Meta.{path_of_meta}
use Rattle.node_core.specs.declared.attr.Attribute.{Attribute}
use Rattle.node_core.specs.declared.attr.Meta.{Meta}
use Rattle.error_fault.specs.Outcome.{Outcome, Value, Faults}
use Rattle.meta_nested.specs.declared.nested.NestedMeta.{NestedMeta}
use Rattle.meta_entries.specs.Attributes.{attribute_items, is_named}
use Rattle.meta_entries.specs.declared.entry.Entry.{Entry}
use Rattle.meta_entries.specs.declared.entry.Entry.TheVariants as entry

-- the items of a list, or the faults of one that has none
abbrev pub list_entries : Outcome (List NestedMeta) → List Entry
list_entries (Value items) = map entry.Item items
list_entries (Faults fault more) = map entry.Fault (fault ∷ more)

-- `reads` tells by its path whether an attribute is read, and `list` is the items of one
module _ (reads : Path → Bool) (list : Meta → Outcome (List NestedMeta)) where
  abbrev pub attribute_entries : Attribute → List Entry
  attribute_entries attribute = if reads (path_of_meta attribute.meta) then list_entries (list attribute.meta) else []

  -- the entries of the attributes that are read, in order
  abbrev pub entries : List Attribute → List Entry
  entries attributes = flat_map attribute_entries attributes

-- the entries of the attributes of these names
abbrev pub named_entries : List Text → List Attribute → List Entry
named_entries names attributes = entries (is_named names) attribute_items attributes

-- the items among the entries
abbrev pub items : List Entry → List NestedMeta
items [] = []
items (entry.Fault fault ∷ entries) = items entries
items (entry.Item item ∷ entries) = item ∷ items entries
