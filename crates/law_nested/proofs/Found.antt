-- What is read between two commas, how it is printed, and what may stand behind it.
use Rattle.std.specs.Prelude.{[]}
use Rattle.meta_nested.specs.declared.item.Found.{Found}
use Rattle.meta_nested.specs.declared.item.Found.TheVariants as found
use Rattle.meta_nested.specs.Nodes.{nested_tokens}
use Rattle.print_core.specs.Marks.{Trees}
use Rattle.law_nested.specs.Erased.{erased_nested}
use Rattle.law_nested.specs.StaysBad.{StaysBadBefore}

abbrev pub erased_found : Found → Found
erased_found (found.Item it) = found.Item (erased_nested it)
erased_found (found.Attribute place) = found.Attribute place

abbrev pub found_tokens : Found → Trees
found_tokens (found.Item it) = nested_tokens it
found_tokens (found.Attribute place) = []

-- an item, and no attribute that stands in the place of a value
abbrev pub Good : Found → Type 0
Good (found.Item it) = Unit {0}
Good (found.Attribute place) = ⊥

-- what leaves the value of an item bad, where it is
abbrev pub Fits : Found → Trees → Type 0
Fits (found.Item it) tail = StaysBadBefore it tail
Fits (found.Attribute place) tail = Unit {0}
