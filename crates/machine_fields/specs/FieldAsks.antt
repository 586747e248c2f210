-- What a unit asks of the fields of a declaration.
use Rattle.std.specs.Prelude.{List, [], ◌∷◌, map}
use Rattle.node_core.specs.declared.data.«Data».{«Data»}
use Rattle.codegen_program.specs.declared.program.Derive.{Derive}
use Rattle.codegen_program.specs.declared.program.Derive.TheVariants as derives
use Rattle.codegen_program.specs.declared.program.«Unit».{«Unit» as Unit'}
use Rattle.machine_forms.specs.Asks.{Ask, SlotAsks, slot_asks, unit_asks}
use Rattle.machine_fields.specs.Fields.{places_in}
use Rattle.machine_fields.specs.Members.{members_in}
use Rattle.machine_fields.specs.declared.fields.FieldsAt.{FieldsAt}
use Rattle.machine_fields.specs.declared.members.MemberAt.{MemberAt}

-- of its slots, where it reads the fields of each variant, and where each field of a struct
pub record FieldAsks : Type 0 where
  pub slots : SlotAsks
  pub places : List FieldsAt
  pub members : List MemberAt

-- what a unit of the derive asks of the fields, that asks all this
abbrev pub field_asks : Derive → «Data» → List Ask → FieldAsks
field_asks derive it asks = record { slots = slot_asks asks; places = places_in it asks; members = members_in derive it asks }

abbrev pub asks_by : «Data» → Unit' → FieldAsks
asks_by it unit = field_asks unit.derive it (unit_asks unit)

-- what each of the units asks; a declaration without units has fields too, of which nothing is asked
abbrev pub readings : «Data» → List Unit' → List FieldAsks
readings it [] = field_asks derives.FromMeta it [] ∷ []
readings it (unit ∷ units) = asks_by it unit ∷ map (asks_by it) units
