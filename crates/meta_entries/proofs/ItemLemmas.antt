-- The items of entries.
use Rattle.std.proofs.Common.{◌≡◌, List, [], ◌∷◌, ◌++◌, map, refl, ap}
use Rattle.node_core.specs.declared.attr.Attribute.{Attribute}
use Rattle.error_fault.specs.declared.fault.Fault.{Fault}
use Rattle.meta_nested.specs.declared.nested.NestedMeta.{NestedMeta}
use Rattle.meta_entries.specs.Entries.{items, named_entries}
use Rattle.meta_entries.specs.declared.entry.Entry.{Entry}
use Rattle.meta_entries.specs.declared.entry.Entry.TheVariants as entry

-- the items of two lists of entries are those of the first, then those of the second
pub items-append : (xs ys : List Entry) → items (xs ++ ys) ≡ items xs ++ items ys
items-append [] ys = refl
items-append (entry.Fault fault ∷ xs) ys = items-append xs ys
items-append (entry.Item item ∷ xs) ys = ap (λ more. item ∷ more) (items-append xs ys)

-- the items of entries that are items are these
pub items-of_items : (found : List NestedMeta) → items (map entry.Item found) ≡ found
items-of_items [] = refl
items-of_items (item ∷ found) = ap (λ more. item ∷ more) (items-of_items found)

-- entries that are faults have none
pub items-of_faults : (faults : List Fault) → items (map entry.Fault faults) ≡ []
items-of_faults [] = refl
items-of_faults (fault ∷ faults) = items-of_faults faults

-- there are no attributes of no names
pub entries-unnamed : (attributes : List Attribute) → named_entries [] attributes ≡ []
entries-unnamed [] = refl
entries-unnamed (attribute ∷ attributes) = entries-unnamed attributes
