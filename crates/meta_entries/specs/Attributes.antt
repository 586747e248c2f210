-- Attributes of some names, and the items of an attribute.
use Rattle.std.specs.Prelude.{Bool, List, [], ◌++◌, codes}
use Rattle.std.specs.List.{list_any}
use Rattle.std.specs.Str.{bytes_eq}
use Rattle.base_core.specs.declared.text.Text.{Text}
use Rattle.node_expr.specs.declared.path.Path.{Path}
use Rattle.node_make.specs.PathText.{full_path_text, path_text}
use Rattle.node_core.specs.Meta.{path_of_meta}
use Rattle.node_core.specs.declared.attr.Meta.{Meta}
use Rattle.node_core.specs.declared.attr.Meta.TheVariants as meta
use Rattle.node_span.specs.Spanned.{meta_span}
use Rattle.error_fault.specs.Fault.{at_span}
use Rattle.error_fault.specs.Outcome.{Outcome, Value, Faults}
use Rattle.error_fault.specs.declared.fault.Fault.{Fault}
use Rattle.error_fault.specs.declared.kind.FaultKind.TheVariants.{Custom}
use Rattle.meta_nested.specs.Dispatch.{items_of}
use Rattle.meta_nested.specs.declared.nested.NestedMeta.{NestedMeta}

-- the name is one of these
abbrev pub has_name : List Text → Text → Bool
has_name names name = list_any (λ other. bytes_eq other name) names

-- the text of the path is one of these names
abbrev pub is_named : List Text → Path → Bool
is_named names path = has_name names (path_text path)

-- `name = value` in the place of `name(items)`; the message has the path with the `::` that it may begin with
abbrev pub name_value_fault : Meta → Fault
name_value_fault it =
    at_span (Custom (codes "Name-value arguments are not supported. Use #[" ++ full_path_text (path_of_meta it) ++ codes "(...)]")) (meta_span it)

-- the items of the list that an attribute holds; a word is an empty list
abbrev pub attribute_items : Meta → Outcome (List NestedMeta)
attribute_items (meta.Path path) = Value []
attribute_items (meta.«List» list) = items_of list.tokens
attribute_items (meta.NameValue pair) = Faults (name_value_fault (meta.NameValue pair)) []
