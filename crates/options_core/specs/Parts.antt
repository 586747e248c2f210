-- The fields that take a part of the element, by their names, and those that are read from items.
use Rattle.std.specs.Prelude.{ℕ, ◌==◌, Bool, false, cond, List, [], flat_map, map, filter, Option, Some, None, is_none}
use Rattle.tok_types.specs.declared.ident.Ident.{Ident}
use Rattle.node_core.specs.declared.data.Field.{Field}
use Rattle.error_fault.specs.declared.fault.Fault.{Fault}
use Rattle.error_fault.specs.Outcome.{Outcome, faults_of, on_value, value_of}
use Rattle.codegen_program.specs.MagicFields.{is_forwarded, magic_of}
use Rattle.codegen_program.specs.declared.forwarded.Magic.{Magic}
use Rattle.codegen_program.specs.declared.forwarded.Magic.TheVariants as magic
use Rattle.codegen_program.specs.declared.program.Derive.{Derive}
use Rattle.options_rows.specs.Forwarded.{forwarded_meaning}
use Rattle.options_rows.specs.ForwardedField.{ForwardedField}
use Rattle.options_rows.specs.Rows.{last_of, list_of}
use Rattle.options_rows.specs.Values.{Rules}
use Rattle.options_members.specs.declared.container.Core.{Core}
use Rattle.options_meta.specs.Stages.{field_faults}

abbrev pub magic_number : Magic → ℕ
magic_number magic.Ident = 0
magic_number magic.Attrs = 1
magic_number magic.Vis = 2
magic_number magic.Generics = 3
magic_number magic.Body = 4
magic_number magic.Ty = 5
magic_number magic.Discriminant = 6
magic_number magic.Fields = 7
magic_number magic.Bounds = 8
magic_number magic.Default = 9

abbrev pub is_part : Magic → Option Magic → Bool
is_part what None = false
is_part what (Some it) = magic_number what == magic_number it

-- the fields that take this part
abbrev pub part_fields : Derive → Magic → List Field → List Field
part_fields derive what fields = filter (λ field. is_part what (magic_of derive field)) fields

-- the fields that take none
abbrev pub own_fields : Derive → List Field → List Field
own_fields derive fields = filter (λ field. is_none (magic_of derive field)) fields

-- what a field that takes a part says of it
abbrev pub part_said : Field → Outcome (Option ForwardedField)
part_said field = on_value Some (forwarded_meaning field)

-- what fields without fault say, in order
abbrev pub parts_said : List Field → List (Option ForwardedField)
parts_said fields = flat_map (λ field. list_of (value_of (part_said field))) fields

-- the last of the fields without fault that take this part, else what is there
abbrev pub forwarded_in : Derive → Magic → Option ForwardedField → List Field → Option ForwardedField
forwarded_in derive what set fields = last_of set (parts_said (part_fields derive what fields))

-- the name of the last of them, where their options are not read
abbrev pub given_in : Derive → Magic → Option Ident → List Field → Option Ident
given_in derive what set fields = last_of set (map (λ field. field.ident) (part_fields derive what fields))

-- what is wrong with a field that takes this part, or none
abbrev pub faults_as : Rules → Core → Option Magic → Field → List Fault
faults_as rules core None field = field_faults rules core field
faults_as rules core (Some what) field = cond (is_forwarded what) (faults_of (forwarded_meaning field)) []

-- what is wrong with a field under this container
abbrev pub member_faults : Rules → Derive → Core → Field → List Fault
member_faults rules derive core field = faults_as rules core (magic_of derive field) field
