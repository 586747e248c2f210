use Rattle.std.proofs.Common.{◌≡◌, ◌<◌, ◌+◌, false, length, drop, sym, arith}
use Rattle.std.proofs.lemmas.List.{length-drop}
use Rattle.tok_scan.specs.Closings.{can_close}
use Rattle.tok_scan.proofs.Raws.{AreClosings-drop, raw_end-never}
use Rattle.tok_scan.proofs.quotes.raw_end.Goals as goal

pub returns-then-closes-clause-within : goal.returns-then-closes-clause-within
returns-then-closes-clause-within c =
    let behind : c.args.hashes < length (drop c.loop-i.i c.args.text.now) = rw (← c.rest.ensures) (c.closes.ensures.within c.if-closes.true) in
    omega (arith, behind, length-drop c.loop-i.i c.args.text.now)

pub returns-then-not-can_close-clause-value : goal.returns-then-not-can_close-clause-value
returns-then-not-can_close-clause-value c =
    let n = c.args.hashes + 1 in
    let known = AreClosings-drop n c.args.closings.now c.args.text.now c.requires.closings in
    let shut : can_close c.args.byte c.args.hashes (drop n c.args.closings.now) ≡ false = cc (c.if-not-can_close.true, c.can_close.ensures, c.behind.ensures) in
    sym (raw_end-never c.args.byte c.args.hashes n (drop n c.args.closings.now) (drop n c.args.text.now) c.requires.few known shut)
