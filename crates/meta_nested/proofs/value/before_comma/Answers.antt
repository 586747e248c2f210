use Rattle.std.proofs.Common.{arith, ◌∙◌, ap, sym}
use Rattle.std.proofs.lemmas.List.{take_rest}
use Rattle.law_prefix.specs.SameLookahead.{stops}
use Rattle.meta_nested.proofs.Commas.{split_at-more}
use Rattle.meta_nested.proofs.value.before_comma.Goals as goal

pub loop-count-preserved : goal.loop-count-preserved
loop-count-preserved c =
    let more = split_at-more c.loop-count.count c.args.trees.now (ap stops (sym (take_rest c.args.trees.now c.loop-count.count)) ∙ sym c.stops.ensures ∙ c.loop-count-test.true) in
    (omega (arith, more.0), c.loop-count.invariant.1 ∙ more.1)
