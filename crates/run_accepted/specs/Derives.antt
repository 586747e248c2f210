-- The derives that the attributes of a declaration name.
use Rattle.std.specs.Prelude.{ℕ, Bool, if◌then◌else◌, List, [], ◌∷◌, ◌++◌, flat_map, codes, Option, Some, None}
use Rattle.std.specs.List.{list_any}
use Rattle.std.specs.Str.{bytes_eq}
use Rattle.tok_core.specs.Tokens.{Span}
use Rattle.node_expr.specs.declared.path.Path.{Path}
use Rattle.node_make.specs.PathText.{path_text}
use Rattle.node_core.specs.declared.attr.Attribute.{Attribute}
use Rattle.node_core.specs.declared.attr.Meta.TheVariants as meta
use Rattle.node_span.specs.Spanned.{path_span}
use Rattle.meta_nested.specs.declared.nested.NestedMeta.TheVariants as nested
use Rattle.meta_entries.specs.Attributes.{attribute_items}
use Rattle.meta_entries.specs.Entries.{entries}
use Rattle.meta_entries.specs.declared.entry.Entry.{Entry}
use Rattle.meta_entries.specs.declared.entry.Entry.TheVariants as entry
use Rattle.codegen_program.specs.declared.program.Derive.{Derive}
use Rattle.codegen_program.specs.declared.program.Derive.TheVariants as derive
use Rattle.run_accepted.specs.declared.derives.Derived.{Derived}

-- the traits that receivers derive, by their names
abbrev pub traits : List (List ℕ × Derive)
traits =
    (codes "FromMeta", derive.FromMeta) ∷
    (codes "FromAttributes", derive.FromAttributes) ∷
    (codes "FromDeriveInput", derive.FromDeriveInput) ∷
    (codes "FromField", derive.FromField) ∷
    (codes "FromTypeParam", derive.FromTypeParam) ∷
    (codes "FromVariant", derive.FromVariant) ∷
    []

-- what may stand in front of a trait's name: nothing, or the name of a crate that has it
abbrev pub fronts : List (List ℕ)
fronts = [] ∷ codes "darling::" ∷ codes "darling_core::" ∷ []

-- the first trait whose name passes the test
abbrev pub trait_by : (List ℕ → Bool) → List (List ℕ × Derive) → Option Derive
trait_by test [] = None
trait_by test (row ∷ rows) = if test row.0 then Some row.1 else trait_by test rows

-- the trait of this name
abbrev pub trait_named : List ℕ → Option Derive
trait_named text = trait_by (λ name. bytes_eq name text) traits

-- the text is the name behind one of the fronts
abbrev pub is_behind_front : List ℕ → List ℕ → Bool
is_behind_front text name = list_any (λ front. bytes_eq (front ++ name) text) fronts

-- the trait whose name the text is, behind one of the fronts
abbrev pub derive_named : List ℕ → Option Derive
derive_named text = trait_by (is_behind_front text) traits

-- the derive, where there is one, at this place
abbrev pub derived_at : Span → Option Derive → List Derived
derived_at span None = []
derived_at span (Some derive) = record { derive = derive; span = span } ∷ []

-- the derive that a word names by its path's text
abbrev pub word_derives : Path → List Derived
word_derives path = derived_at (path_span path) (derive_named (path_text path))

-- no other entry than a word names a derive
abbrev pub entry_derives : Entry → List Derived
entry_derives (entry.Item (nested.Meta (meta.Path path))) = word_derives path
entry_derives _ = []

-- the text of the path is `derive`
abbrev pub is_derive : Path → Bool
is_derive path = bytes_eq (path_text path) (codes "derive")

-- the derives that the attributes name, in order; tokens that are no items name none
abbrev pub derives_of : List Attribute → List Derived
derives_of attributes = flat_map entry_derives (entries is_derive attribute_items attributes)
