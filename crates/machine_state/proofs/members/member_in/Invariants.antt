use Rattle.std.proofs.Common.{◌≡◌, drop}
use Rattle.machine_value.specs.Members as spec
use Rattle.machine_state.proofs.members.member_in.Given as goal

abbrev pub invariant-loop-member : goal.invariant-loop-member
invariant-loop-member l = spec.member_in l.name (drop l.member-index l.members) ≡ spec.member_in l.name l.members
