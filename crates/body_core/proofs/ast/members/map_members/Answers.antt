use Rattle.std.proofs.Common.{◌≡◌, rules, of_calls, arith, length, ◌∷◌}
use Rattle.std.specs.Vec.Iter.{into_iter_items}
use Rattle.body_core.proofs.CallsLemmas.{answers-first, answers-behind, answers-none}
use Rattle.body_core.proofs.ast.members.map_members.Goals as goal

pub loop-member-preserved : goal.loop-member-preserved
loop-member-preserved g c = (
  search (rules, of_calls),
  tt,
  tt,
  λ more last calls.
      rw c.in_ok-push.ensures.ok
      (answers-behind _ _ _ _ _ c.map.result more
      (c.loop-member.invariant.3 (c.map.result ∷ more) last
      (answers-first _ _ _ _ _ _ _ c.map.result more c.in-Some.ensures.steps.0 c.map.ensures calls))),
)

pub returns : goal.returns
returns g c =
    let none : length (into_iter_items c.loop-member.member-iterator) ≡ 0 =
    omega (arith, c.loop-member.member-iterator.rest.ok, c.in-None.ensures.steps.0) in
    (c.loop-member.map, answers-none _ _ _ _ _ _ none c.loop-member.invariant.3)
