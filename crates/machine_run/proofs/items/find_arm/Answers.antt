use Rattle.std.proofs.Common.{◌≡◌, ◌∙◌, None, Some, rules}
use Rattle.std.specs.Prelude.{position}
use Rattle.std.specs.Str.{bytes_eq}
use Rattle.codegen_program.specs.Named.{arm_names}
use Rattle.machine_state.proofs.Places.{arm-found, found-at, found-none}
use Rattle.machine_run.proofs.items.find_arm.Goals as goal

pub returns-in_err-place : goal.returns-in_err-place
returns-in_err-place c =
    let name = c.args.name.now in
    let arms = c.args.arms.now in
    let none : None ≡ position (λ other. bytes_eq other name) (arm_names arms) = rw c.as_str.ensures at c.in_err-place.ensures.place in
    search (rules, found-none (λ arm. arm.name) name arms none ∙ arm-found name arms)

pub returns : goal.returns
returns c =
    let name = c.args.name.now in
    let arms = c.args.arms.now in
    let some : Some c.in_ok-place.place ≡ position (λ other. bytes_eq other name) (arm_names arms) = rw c.as_str.ensures at c.in_ok-place.ensures.place in
    found-at (λ arm. arm.name) name arms c.in_ok-place.place c.get.result some (rw c.as_slice.ensures at c.get.ensures.lookup) ∙ arm-found name arms
