use Rattle.std.proofs.Common.{◌≡◌, ◌+◌, None, get_or, drop, ap, refl, arith}
use Rattle.tok_scan.specs.Scan.{small, with_digit}
use Rattle.tok_scan.proofs.Steps.{digits_value-at, digits_value-past, small-digits_value}
use Rattle.tok_scan.proofs.numbers.digits_value.Goals as goal

pub returns-in_err-value : goal.returns-in_err-value
returns-in_err-value c =
    let z = c.args.digits.now in
    let i = c.loop-c.c-index in
    let d = c.c-item.result in
    let none : small (with_digit c.args.base c.loop-c.value (get_or z i d)) ≡ None =
    cc (c.c-item.is, c.with_digit.ensures, c.in_err-value.is, c.in_err-value.was, c.in_err-value.ensures, c.branch-value.ensures) in
    let stop = small-digits_value c.args.base (with_digit c.args.base c.loop-c.value (get_or z i d)) (drop (i + 1) z) c.requires none in
    let step = ap small (digits_value-at c.args.base c.loop-c.value i d z (omega arith)) in
    let same = ap small c.loop-c.invariant.same in
    cc (stop, step, same, c.from_residual.ensures)

pub returns : goal.returns
returns c =
    let past = digits_value-past c.args.base c.loop-c.value c.loop-c.c-index c.args.digits.now (omega arith) in
    rw (← c.loop-c.invariant.same, past, c.loop-c.invariant.fits) refl
