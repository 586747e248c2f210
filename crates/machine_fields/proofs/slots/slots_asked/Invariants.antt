use Rattle.std.proofs.Common.{◌≡◌, ◌||◌, ℕ, map, drop}
use Rattle.machine_forms.specs.Asks.{is_asked, seen}
use Rattle.machine_fields.specs.Slots.{has_slot}
use Rattle.machine_fields.proofs.slots.slots_asked.Given as goal

abbrev pub invariant-loop-ask : goal.invariant-loop-ask
invariant-loop-ask l =
    (slot : ℕ) → (has_slot l.slots slot || is_asked l.what (map seen (drop l.ask-index l.asks)) slot) ≡ is_asked l.what (map seen l.asks) slot
