-- A struct of which no field takes a part of the element.
use Rattle.std.proofs.Common.{◌≡◌, ℕ, ◌+◌, zero, suc, List, [], ◌∷◌, Option, Some, None, refl, ap, arith, ◌∙◌}
use Rattle.std.specs.Prelude.{slice_get}
use Rattle.node_core.specs.declared.data.Field.{Field}
use Rattle.node_core.specs.declared.data.DataStruct.{DataStruct}
use Rattle.node_core.specs.Bodies.{field_list}
use Rattle.node_core.specs.declared.data.«Data».TheVariants as body
use Rattle.codegen_program.specs.declared.program.Derive.{Derive}
use Rattle.machine_forms.specs.Asks.{Ask}
use Rattle.machine_fields.specs.Fields.{slot_fields}
use Rattle.machine_fields.specs.Members.{members_at}
use Rattle.machine_fields.specs.Parts.{parts_asked, without_parts}
use Rattle.machine_fields.specs.declared.members.MemberAt.{MemberAt}
use Rattle.machine_fields.specs.declared.members.MemberAt.TheVariants as member_at

-- where no part is asked, all fields are left
all_left : (fields : List Field) → without_parts [] fields ≡ fields
all_left [] = refl
all_left (field ∷ fields) = ap (λ more. field ∷ more) (all_left fields)

-- each field of a struct has a slot
pub slot_fields-plain : (asks : List Ask) (it : DataStruct) → parts_asked asks ≡ [] → slot_fields asks (body.Struct it) ≡ field_list it.fields
slot_fields-plain asks it none = ap (λ parts. without_parts parts (field_list it.fields)) none ∙ all_left (field_list it.fields)

-- the slot of each is its number
pub members_at-plain : (derive : Derive) (first : ℕ) (fields : List Field) (number : ℕ) (field : Field) → slice_get fields number ≡ Some field
    → slice_get (members_at derive [] first fields) number ≡ Some (member_at.Slot (first + number))
members_at-plain derive first [] zero field is = absurd cc
members_at-plain derive first [] (suc number) field is = absurd cc
members_at-plain derive first (one ∷ more) zero field is =
    let same : first ≡ first + zero = omega arith in ap (λ number. let found : Option MemberAt = Some (member_at.Slot number) in found) same
members_at-plain derive first (one ∷ more) (suc number) field is =
    let same : first + 1 + number ≡ first + suc number = omega arith in
    members_at-plain derive (first + 1) more number field is ∙ ap (λ number. let found : Option MemberAt = Some (member_at.Slot number) in found) same
