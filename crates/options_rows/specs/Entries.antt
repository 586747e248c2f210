-- What stands in the `darling` attributes of an item or of a part of one: items of options, and what is none.
use Rattle.std.specs.Prelude.{ℕ, Bool, List, [], ◌∷◌, map, codes}
use Rattle.std.specs.Str.{bytes_eq}
use Rattle.node_expr.specs.declared.lit.Lit.{Lit}
use Rattle.node_expr.specs.declared.path.Path.{Path}
use Rattle.node_core.specs.declared.attr.Attribute.{Attribute}
use Rattle.node_core.specs.declared.attr.Meta.{Meta}
use Rattle.node_core.specs.declared.attr.Meta.TheVariants as meta
use Rattle.node_span.specs.Spanned.{lit_span, meta_span}
use Rattle.error_fault.specs.Fault.{at_span}
use Rattle.error_fault.specs.Outcome.{Outcome, Value, Faults}
use Rattle.error_fault.specs.declared.fault.Fault.{Fault}
use Rattle.error_fault.specs.declared.kind.FaultKind.TheVariants.{UnexpectedFormat}
use Rattle.error_core.specs.Answers.{refusal}
use Rattle.meta_entries.specs.Entries.{entries}
use Rattle.meta_entries.specs.declared.entry.Entry.{Entry}
use Rattle.meta_entries.specs.declared.entry.Entry.TheVariants as entry
use Rattle.options_types.specs.NestedMeta.{NestedMeta}
use Rattle.options_types.specs.NestedMeta.TheVariants as nested
use Rattle.options_types.specs.Dispatch.{items_of}
use Rattle.options_rows.specs.Values.{word_of}

-- the path is `darling`
abbrev pub is_darling : Path → Bool
is_darling path = bytes_eq (word_of path) (codes "darling")

-- an attribute of this format has no items
unfoldable pub no_list : List ℕ → Meta → Fault
no_list format item = at_span (UnexpectedFormat format) (meta_span item)

-- the items of a `darling` attribute, which has to be a list
abbrev pub darling_items : Meta → Outcome (List NestedMeta)
darling_items (meta.Path path) = Faults (no_list (codes "word") (meta.Path path)) []
darling_items (meta.«List» list) = items_of list.tokens
darling_items (meta.NameValue pair) = Faults (no_list (codes "name-value") (meta.NameValue pair)) []

-- the entries of the `darling` attributes, in order
abbrev pub darling_entries : List Attribute → List Entry
darling_entries attributes = entries is_darling darling_items attributes

-- a literal is no option
unfoldable pub no_option : Lit → Fault
no_option lit = at_span (UnexpectedFormat (codes "literal")) (lit_span lit)

-- the item of an option that an entry is, or what is wrong with it; a bad value has its stored faults
abbrev pub option_item : Entry → Outcome Meta
option_item (entry.Item (nested.Meta item)) = Value item
option_item (entry.Item (nested.Lit lit)) = Faults (no_option lit) []
option_item (entry.Item (nested.NameValueInvalidExpr bad)) = refusal bad.error
option_item (entry.Fault fault) = Faults fault []

-- the same of all entries of the `darling` attributes
abbrev pub option_entries : List Attribute → List (Outcome Meta)
option_entries attributes = map option_item (darling_entries attributes)

-- the items among the entries
abbrev pub items : List (Outcome Meta) → List Meta
items [] = []
items (Faults fault more ∷ entries) = items entries
items (Value item ∷ entries) = item ∷ items entries
