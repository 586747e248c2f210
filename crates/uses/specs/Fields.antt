-- The names of the fields of an item.
use Rattle.std.specs.Prelude.{◌≡◌, ℕ, List, [], ◌∷◌, flat_map, Option, Some, None, Result, Ok, Err}
use Rattle.syn_core.specs.Nodes.{DeriveInput, Field}
use Rattle.syn_core.specs.Bodies.{fields_in}
use Rattle.syn_core.specs.Tokens.{Ident}
use Rattle.uses.specs.declared.fail.TextFail.{TextFail}
use Rattle.uses.specs.Texts.{ReadsItem}

abbrev pub optional_name : Option Ident → List Ident
optional_name None = []
optional_name (Some name) = name ∷ []

-- the name of a field, where it has one
abbrev pub name_in : Field → List Ident
name_in field = optional_name field.ident

-- the names of the fields of the text's item, or why there is no item
abbrev pub ReadsNames : List ℕ → Result (List Ident) TextFail → Type 0
ReadsNames text (Ok names) = (item : DeriveInput) × ReadsItem text (Ok item) × (names ≡ flat_map name_in (fields_in item.body))
ReadsNames text (Err fail) = ReadsItem text (Err fail)
