-- Where a unit reads each field of a struct.
use Rattle.std.specs.Prelude.{ℕ, ◌+◌, List, [], ◌∷◌, Option, Some, None, is_some}
use Rattle.node_core.specs.Bodies.{field_list}
use Rattle.node_core.specs.declared.data.Field.{Field}
use Rattle.node_core.specs.declared.data.«Data».{«Data»}
use Rattle.node_core.specs.declared.data.«Data».TheVariants as body
use Rattle.codegen_program.specs.declared.forwarded.Forwarded.{Forwarded}
use Rattle.codegen_program.specs.declared.program.Derive.{Derive}
use Rattle.machine_forms.specs.Asks.{Ask}
use Rattle.machine_places.specs.Places.{part_place}
use Rattle.machine_fields.specs.Parts.{part_of, parts_asked}
use Rattle.machine_fields.specs.declared.members.MemberAt.{MemberAt}
use Rattle.machine_fields.specs.declared.members.MemberAt.TheVariants as member_at

-- a field takes its part, or it has the next slot
abbrev pub member_by : Derive → ℕ → Option Forwarded → MemberAt
member_by derive slot None = member_at.Slot slot
member_by derive slot (Some it) = member_at.Part (part_place derive it.what) (is_some it.with)

-- slots are numbered over the fields that take no part
abbrev pub slot_behind : ℕ → Option Forwarded → ℕ
slot_behind slot None = slot + 1
slot_behind slot (Some it) = slot

abbrev pub members_at : Derive → List Forwarded → ℕ → List Field → List MemberAt
members_at derive parts slot [] = []
members_at derive parts slot (field ∷ fields) =
    let part = part_of parts field in
    member_by derive slot part ∷ members_at derive parts (slot_behind slot part) fields

-- where a unit of the derive that asks this reads each field of a struct; what is no struct has no such fields
abbrev pub members_in : Derive → «Data» → List Ask → List MemberAt
members_in derive (body.Struct it) asks = members_at derive (parts_asked asks) 0 (field_list it.fields)
members_in derive (body.Enum it) asks = []
members_in derive (body.Union it) asks = []
