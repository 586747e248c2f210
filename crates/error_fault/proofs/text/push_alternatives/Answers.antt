use Rattle.std.proofs.Common.{◌≡◌, ◌<◌, ◌≤◌, length, arith}
use Rattle.error_fault.proofs.TextLemmas.{OnOk-append, alternatives_text-few}
use Rattle.error_fault.proofs.text.push_alternatives.Goals as goal

pub returns : goal.returns
returns c =
    let told : (c.in-Some.names ≡ c.args.alts.now) × (length c.in-Some.names.keys ≤ 9) = rw c.in-Some.is at c.in_ok-names.ensures in
    let names = c.in-Some.names.keys in
    let some : 0 < length names = grind (arith, c.if-is_empty.ensures) in
    let few : length names < 10 = omega (arith, told.1) in
    rw (← told.0, alternatives_text-few names some few) (OnOk-append _ _ _ _ _ _ c.in_ok-push_str.ensures.ok c.push_names.ensures)
