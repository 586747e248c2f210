use Rattle.meta_reads.proofs.Numerals.{unsigned_in-ok, unsigned_in-err}
use Rattle.meta_reads.proofs.integers.unsigned_in.Goals as goal

pub returns-in_default : goal.returns-in_default
returns-in_default c =
    unsigned_in-err c.args.most c.args.text.now c.parse.result _ c.parse.ensures.value.0 c.in_default.is c.ranges.most.fits

pub returns-then-number-most : goal.returns-then-number-most
returns-then-number-most c =
    unsigned_in-ok c.args.most c.args.text.now c.parse.result c.in-Ok.number c.parse.ensures.value.0 c.in-Ok.is c.if-number-most.true
