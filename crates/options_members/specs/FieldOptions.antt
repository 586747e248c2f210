-- The options of a field: their table, the faults of an item behind what is set, and what stands behind items.
use Rattle.std.specs.Prelude.{ℕ, ◌==◌, ◌&&◌, ◌||◌, Bool, true, false, cond, List, [], ◌∷◌, ◌++◌, flat_map, map, codes, Option, None, is_some}
use Rattle.std.specs.Str.{bytes_eq}
use Rattle.base_core.specs.declared.text.Text.{Text}
use Rattle.tok_types.specs.declared.span.Span.{Span}
use Rattle.node_core.specs.Meta.{path_of_meta}
use Rattle.node_core.specs.declared.attr.Meta.{Meta}
use Rattle.node_span.specs.Spanned.{meta_span}
use Rattle.error_fault.specs.Fault.{at_span}
use Rattle.error_fault.specs.declared.fault.Fault.{Fault}
use Rattle.error_fault.specs.declared.kind.FaultKind.TheVariants.{Custom}
use Rattle.codegen_program.specs.declared.callable.Callable.{Callable}
use Rattle.codegen_program.specs.declared.arm.PostfixTransform.{PostfixTransform}
use Rattle.options_rows.specs.DefaultExpression.{DefaultExpression}
use Rattle.options_rows.specs.SpannedValue.{SpannedValue}
use Rattle.options_rows.specs.Rows.{duplicate, exclusive, first_of, Named, one, values, Opt, OptionRow, once, name_in, row_in, row_faults, row_word, row_stands_alone, else_faults}
use Rattle.options_rows.specs.Values.{bool_of, callable_of, default_of, present_of, spanned_bool_of, text_of, transform_of, word_of}
use Rattle.options_members.specs.declared.input_field.InputField.{InputField}
use Rattle.options_members.specs.declared.names.FieldName.{FieldName}
use Rattle.options_members.specs.declared.names.FieldName.TheVariants.{Multiple, Rename, With, Skip, Map, AndThen, Default, Flatten, Unknown}

abbrev pub field_number : FieldName → ℕ
field_number Multiple = 0
field_number Rename = 1
field_number With = 2
field_number Skip = 3
field_number Map = 4
field_number AndThen = 5
field_number Default = 6
field_number Flatten = 7
field_number Unknown = 8

abbrev pub same_field : FieldName → FieldName → Bool
same_field a b = field_number a == field_number b

abbrev FieldOpt : Type 0 → Type 0
FieldOpt A = Opt InputField FieldName A

abbrev pub multiple : FieldOpt Bool
multiple = record { name = Multiple; word = codes "multiple"; at = λ set. set.multiple; read = bool_of; again = λ set. duplicate; alone = λ value. value }

abbrev pub rename : FieldOpt Text
rename = record { name = Rename; word = codes "rename"; at = λ set. set.attr_name; read = text_of; again = λ set. duplicate; alone = λ value. true }

abbrev pub with_call : FieldOpt Callable
with_call = record { name = With; word = codes "with"; at = λ set. set.with; read = callable_of; again = λ set. duplicate; alone = λ value. true }

abbrev pub skip : FieldOpt (SpannedValue Bool)
skip = record { name = Skip; word = codes "skip"; at = λ set. set.skip; read = spanned_bool_of; again = λ set. duplicate; alone = λ value. value.value }

-- a transform of this name: `map` and `and_then` are kept in one place
abbrev pub is_by : Text → PostfixTransform → Bool
is_by word value = bytes_eq value.transformer.text word

abbrev pub map_call : FieldOpt PostfixTransform
map_call = record { name = Map; word = codes "map"; at = λ set. set.post_transform; read = transform_of; again = exclusive; alone = is_by (codes "map") }

abbrev pub and_then : FieldOpt PostfixTransform
and_then = record { name = AndThen; word = codes "and_then"; at = λ set. set.post_transform; read = transform_of; again = exclusive; alone = is_by (codes "and_then") }

abbrev pub default : FieldOpt DefaultExpression
default = record { name = Default; word = codes "default"; at = λ set. set.default; read = default_of; again = λ set. duplicate; alone = λ value. false }

abbrev pub flatten : FieldOpt Span
flatten = record { name = Flatten; word = codes "flatten"; at = λ set. set.flatten.0; read = present_of; again = λ set. duplicate; alone = λ value. false }

-- the table, in the order in which `flatten` names what may not stand beside it
abbrev pub field_table : List (OptionRow InputField FieldName)
field_table =
    once multiple ∷ once rename ∷ once with_call ∷ once skip ∷ once map_call ∷ once and_then ∷ once default ∷ once flatten ∷ []

-- the option that a word is
abbrev pub field_name_of : Text → FieldName
field_name_of word = name_in field_table Unknown word

abbrev pub field_row : FieldName → Option (OptionRow InputField FieldName)
field_row name = row_in same_field field_table name

-- the value of an option behind items: what is set, else the first that converts
abbrev pub taken : {A : Type 0} → FieldOpt A → InputField → List (Named FieldName) → Option A
taken option set items = first_of (option.at set) (values (same_field option.name) option.read items)

abbrev pub is_transform : FieldName → Bool
is_transform name = same_field Map name || same_field AndThen name

-- what stands behind items
abbrev pub field_options : InputField → List (Named FieldName) → InputField
field_options set items = record set {
  attr_name = taken rename set items;
  default = taken default set items;
  with = taken with_call set items;
  skip = taken skip set items;
  post_transform = first_of set.post_transform (values is_transform transform_of items);
  multiple = taken multiple set items;
  flatten = record { 0 = taken flatten set items };
}

-- what is wrong with reading an item behind what is set
abbrev pub read_faults : FieldName → InputField → Meta → List Fault
read_faults name set item = row_faults (field_row name) set item

-- `flatten` beside another option
unfoldable pub together : Text → Meta → Fault
together word item = at_span (Custom (codes "`flatten` and `" ++ word ++ codes "` cannot be used together")) (meta_span item)

-- whether `flatten` stands, and the option, which may not stand beside it
abbrev pub clash_of : InputField → Meta → FieldName → List Fault
clash_of set item name =
    cond (is_some set.flatten.0 && row_stands_alone (field_row name) set) (together (row_word (field_row name)) item ∷ []) []

-- an item of an option is held against `flatten`, one of `flatten` against all options in the table's order
abbrev pub clashes : InputField → FieldName → Meta → List Fault
clashes set Flatten item = flat_map (clash_of set item) (map (λ row. row.name) field_table)
clashes set name item = clash_of set item name

-- what is wrong with an item behind what is set: with reading it, else with what then stands beside it
abbrev pub field_faults : FieldName → InputField → Meta → List Fault
field_faults name set item = else_faults (read_faults name set item) (clashes (field_options set (one name item)) name item)

-- the same without the option
abbrev pub unset : FieldName → InputField → InputField
unset Multiple set = record set { multiple = None }
unset Rename set = record set { attr_name = None }
unset With set = record set { with = None }
unset Skip set = record set { skip = None }
unset Map set = record set { post_transform = None }
unset AndThen set = record set { post_transform = None }
unset Default set = record set { default = None }
unset Flatten set = record set { flatten = record { 0 = None } }
unset Unknown set = set

-- an item, with the option that it is of
abbrev pub field_named : Meta → Named FieldName
field_named item = record { name = field_name_of (word_of (path_of_meta item)); item = item }

-- what stands behind items, and what is wrong with one
abbrev pub of_field : InputField → List Meta → InputField
of_field set items = field_options set (map field_named items)

abbrev pub of_field_faults : InputField → Meta → List Fault
of_field_faults set item = field_faults (field_name_of (word_of (path_of_meta item))) set item
