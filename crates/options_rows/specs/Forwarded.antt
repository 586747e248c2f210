-- A field that takes a part of an item as it stands: its one option, and what the field means.
use Rattle.std.specs.Prelude.{ℕ, ◌==◌, Bool, false, List, [], ◌∷◌, map, codes, Option, Some, None}
use Rattle.tok_types.specs.declared.ident.Ident.{Ident}
use Rattle.base_core.specs.declared.text.Text.{Text}
use Rattle.node_expr.specs.declared.ty.«Type».{«Type» as Type'}
use Rattle.node_core.specs.Meta.{path_of_meta}
use Rattle.node_core.specs.declared.attr.Meta.{Meta}
use Rattle.node_core.specs.declared.data.Field.{Field}
use Rattle.node_span.specs.Spanned.{meta_span}
use Rattle.error_fault.specs.Fault.{at_span}
use Rattle.error_fault.specs.Kind.{set_of}
use Rattle.error_fault.specs.Outcome.{Outcome, Faults}
use Rattle.error_fault.specs.declared.fault.Fault.{Fault}
use Rattle.error_fault.specs.declared.kind.FaultKind.TheVariants.{Custom, UnknownField}
use Rattle.codegen_program.specs.declared.callable.Callable.{Callable}
use Rattle.options_types.specs.declared.forwarded_field.ForwardedField.{ForwardedField}
use Rattle.options_rows.specs.declared.forwarded.ForwardedName.{ForwardedName}
use Rattle.options_rows.specs.declared.forwarded.ForwardedName.TheVariants.{With, Unknown}
use Rattle.options_rows.specs.Entries.{option_entries}
use Rattle.options_rows.specs.Rows.{duplicate, first_of, fresh, Named, Opt, OptionRow, once, name_in, values}
use Rattle.options_rows.specs.Values.{callable_of, name_of, word_of}
use Rattle.options_rows.specs.Walk.{read_options}

abbrev pub forwarded_number : ForwardedName → ℕ
forwarded_number With = 0
forwarded_number Unknown = 1

abbrev pub same_forwarded : ForwardedName → ForwardedName → Bool
same_forwarded a b = forwarded_number a == forwarded_number b

-- what converts the part
abbrev pub with_call : Opt ForwardedField ForwardedName Callable
with_call = record { name = With; word = codes "with"; at = λ set. set.with; read = callable_of; again = λ set. duplicate; alone = λ value. false }

-- the table
abbrev pub forwarded_table : List (OptionRow ForwardedField ForwardedName)
forwarded_table = once with_call ∷ []

-- the option that a word is
abbrev pub forwarded_name_of : Text → ForwardedName
forwarded_name_of word = name_in forwarded_table Unknown word

-- an item that is of no option, beside the one that there is
unfoldable pub unknown_beside_with : Meta → Fault
unknown_beside_with item = at_span (UnknownField (name_of item) (set_of (codes "with" ∷ []))) (meta_span item)

-- what is wrong with an item behind what is set
abbrev pub forwarded_faults : ForwardedName → ForwardedField → Meta → List Fault
forwarded_faults With set item = fresh with_call.again set.with callable_of item
forwarded_faults Unknown set item = unknown_beside_with item ∷ []

-- what stands behind items
abbrev pub forwarded_options : ForwardedField → List (Named ForwardedName) → ForwardedField
forwarded_options set items = record set { with = first_of set.with (values (same_forwarded With) callable_of items) }

-- an item, with the option that it is of
abbrev pub forwarded_named : Meta → Named ForwardedName
forwarded_named item = record { name = forwarded_name_of (word_of (path_of_meta item)); item = item }

-- what stands behind items, and what is wrong with one
abbrev pub of_forwarded : ForwardedField → List Meta → ForwardedField
of_forwarded set items = forwarded_options set (map forwarded_named items)

abbrev pub of_forwarded_faults : ForwardedField → Meta → List Fault
of_forwarded_faults set item = forwarded_faults (forwarded_name_of (word_of (path_of_meta item))) set item

-- a field that has no option
abbrev pub forwarded_start : Ident → Type' → ForwardedField
forwarded_start ident ty = record { ident = ident; ty = ty; with = None }

-- a field without a name takes no part
unfoldable pub no_name : Field → Fault
no_name field = at_span (Custom (codes "forwarded field must be named field")) field.span

-- what a field of this name means
abbrev pub forwarded_as : Field → Option Ident → Outcome ForwardedField
forwarded_as field None = Faults (no_name field) []
forwarded_as field (Some ident) =
    read_options of_forwarded of_forwarded_faults (forwarded_start ident field.ty) (option_entries field.attrs)

-- what a field means that takes a part of an item
unfoldable pub forwarded_meaning : Field → Outcome ForwardedField
forwarded_meaning field = forwarded_as field field.ident
