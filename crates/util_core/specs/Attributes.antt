-- What an attribute lists.
use Rattle.std.specs.Prelude.{[], ◌++◌, codes}
use Rattle.tok_types.specs.Stream.{stream_of}
use Rattle.tok_types.specs.declared.span.Span.{Span}
use Rattle.tok_types.specs.declared.tree.Delimiter.TheVariants.{Parenthesis}
use Rattle.node_make.specs.PathText.{full_path_text}
use Rattle.node_core.specs.declared.attr.Attribute.{Attribute}
use Rattle.node_core.specs.declared.attr.Meta.{Meta}
use Rattle.node_core.specs.declared.attr.Meta.TheVariants as meta
use Rattle.node_core.specs.declared.attr.MetaList.{MetaList}
use Rattle.node_core.specs.declared.attr.MetaNameValue.{MetaNameValue}
use Rattle.error_fault.specs.Fault.{at_span}
use Rattle.error_fault.specs.Outcome.{Outcome, Value, Faults}
use Rattle.error_fault.specs.declared.fault.Fault.{Fault}
use Rattle.error_fault.specs.declared.kind.FaultKind.TheVariants.{Custom}

-- a value where a list is to be, at its place
abbrev pub name_value : MetaNameValue → Fault
name_value pair =
    at_span (Custom ((codes "Name-value arguments are not supported. Use #[" ++ full_path_text pair.path) ++ codes "(...)]")) pair.span

abbrev pub meta_list_by : Span → Meta → Outcome MetaList
meta_list_by span (meta.List list) = Value list
meta_list_by span (meta.NameValue pair) = Faults (name_value pair) []
meta_list_by span (meta.Path path) =
    Value (record { path = path; delimiter = Parenthesis; tokens = stream_of []; span = span })

-- the list that the attribute holds; a word is an empty list in parentheses, at the attribute's place
abbrev pub meta_list_of : Attribute → Outcome MetaList
meta_list_of attr = meta_list_by attr.span attr.meta
