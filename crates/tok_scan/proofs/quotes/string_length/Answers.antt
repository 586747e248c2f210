use Rattle.std.proofs.Common.{◌≡◌, ◌+◌, ◌≤◌, eqb, get_or, true, false, length, drop, ap, ◌∙◌, arith}
use Rattle.std.proofs.lemmas.Bool.Decides.{nat_tests}
use Rattle.std.proofs.lemmas.List.{length-drop}
use Rattle.tok_scan.specs.Scan.{item_length}
use Rattle.tok_scan.proofs.Steps.{string_end-item}
use Rattle.tok_scan.proofs.quotes.string_length.Goals as goal

pub loop-i-preserved-then-c-eq92 : goal.loop-i-preserved-then-c-eq92
loop-i-preserved-then-c-eq92 c =
    let z = c.args.text.now in
    let n = c.item_length-more.result in
    let quote : eqb (get_or z c.loop-i.i 0) 34 ≡ false = grind (arith, nat_tests) in
    let back : eqb (get_or z c.loop-i.i 0) 92 ≡ true = grind (arith, nat_tests) in
    let more : eqb n 0 ≡ false = grind (arith, nat_tests) in
    let value : n ≡ item_length c.args.byte (drop (c.loop-i.i + 1) z) = c.item_length-more.ensures.value ∙ ap (item_length c.args.byte) c.rest.ensures in
    let within : n ≤ length (drop (c.loop-i.i + 1) z) = rw (← c.rest.ensures) c.item_length-more.ensures.within in
    record {
      same = string_end-item c.args.byte c.loop-i.i n z (omega arith) quote back value more within ∙ c.loop-i.invariant.same;
      within = omega (arith, within, length-drop (c.loop-i.i + 1) z);
      from = omega arith;
    }
