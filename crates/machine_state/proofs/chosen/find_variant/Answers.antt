use Rattle.std.proofs.Common.{rules}
use Rattle.machine_state.proofs.Places.{found-at, found-none}
use Rattle.machine_state.proofs.chosen.find_variant.Goals as goal

pub returns-in_err-place : goal.returns-in_err-place
returns-in_err-place c = search (rules, found-none (λ arm. arm.name) c.args.name.now c.args.arms.now c.in_err-place.ensures.place)

pub returns : goal.returns
returns c =
    found-at (λ arm. arm.name) c.args.name.now c.args.arms.now c.in_ok-place.place c.get.result c.in_ok-place.ensures.place
    (rw c.as_slice.ensures at c.get.ensures.lookup)
