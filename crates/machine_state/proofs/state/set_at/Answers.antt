use Rattle.std.proofs.Common.{ap, map, ◌∙◌}
use Rattle.std.proofs.lemmas.List.{map-set}
use Rattle.machine_state.specs.Seen.{slot_of}
use Rattle.machine_state.proofs.state.set_at.Goals as goal

pub returns-then-place-len : goal.returns-then-place-len
returns-then-place-len c = ap (map slot_of) c.set.ensures ∙ map-set slot_of c.args.slots.now c.args.place c.args.slot
