-- Sets of slots, and what a unit asks of fields.
use Rattle.std.specs.Prelude.{ℕ, Bool}
use Rattle.std.specs.BTreeSet.{BTreeSet, contains}
use Rattle.std.specs.Ordering.{nat_cmp}
use Rattle.machine_forms.specs.Asks.{SlotAsks}
use Rattle.machine_fields.specs.FieldAsks.{FieldAsks}
use Rattle.machine_fields.specs.declared.reading.Reading.{Reading}
use Rattle.machine_fields.specs.declared.slots.Slots.{Slots}

-- the slot is in the set
abbrev pub has_slot : BTreeSet ℕ → ℕ → Bool
has_slot slots slot = contains nat_cmp slots slot

abbrev pub seen_slots : Slots → SlotAsks
seen_slots it = record { many = has_slot it.many; read = has_slot it.read; default = has_slot it.default }

abbrev pub seen_reading : Reading → FieldAsks
seen_reading it = record { slots = seen_slots it.slots; places = it.places; members = it.members }
