use Rattle.std.proofs.Common.{◌≤◌, ◌+◌, ◌*◌, ◌-◌, ◌/◌, length, map, arith, ◌∙◌, sym, inr}
use Rattle.base_index.proofs.Search.{few-more, below-down, below-up, least-more, was, raised-up, raised-most, raised-last}
use Rattle.base_index.proofs.index.NameIndex.low.Goals as goal

pub loop-size-preserved-then-is_below : goal.loop-size-preserved-then-is_below
loop-size-preserved-then-is_below g c =
    let now = c.loop-size.invariant in
    let half = c.loop-size.size / 2 in
    let some : 1 ≤ c.loop-size.size = omega (arith, c.loop-size-test.true) in
    let halves : (c.loop-size.size - (half + 1)) * 2 ≤ c.loop-size.size = omega arith in
    record {
      within = omega (arith, now.within, some);
      before = λ i less. below-down c.args.self.now (map g.N.NameOf.name_of c.args.items.now) c.args.name.now c.requires i (c.loop-size.low + half) (omega (arith, less)) (omega (arith, now.within, some)) (sym c.is_below.ensures.answer ∙ c.if-is_below.true);
      behind = λ i up in_range. now.behind i (omega (arith, up, some)) in_range;
      few = few-more (length c.args.self.now) c.loop-size.size (c.loop-size.size - (half + 1)) c.loop-size.steps some halves now.few;
      falls = omega (arith, now.falls, some);
      most = omega (arith, now.most, c.is_below.ensures.count, raised-most c.loop-size.tally);
      grows = omega (arith, now.grows, c.is_below.ensures.count, raised-up c.loop-size.tally);
      stays = λ at_last. c.is_below.ensures.count ∙ raised-last c.loop-size.tally (now.stays at_last);
      least = inr (least-more c.args.tally.now c.loop-size.tally c.is_below.new.tally (was c.loop-size.tally c.args.tally.now now.least) c.is_below.ensures.count);
    }

pub loop-size-preserved : goal.loop-size-preserved
loop-size-preserved g c =
    let now = c.loop-size.invariant in
    let half = c.loop-size.size / 2 in
    let some : 1 ≤ c.loop-size.size = omega (arith, c.loop-size-test.true) in
    let halves : half * 2 ≤ c.loop-size.size = omega arith in
    record {
      within = omega (arith, now.within, some);
      before = now.before;
      behind = λ i up in_range. below-up c.args.self.now (map g.N.NameOf.name_of c.args.items.now) c.args.name.now c.requires (c.loop-size.low + half) i up in_range (sym c.is_below.ensures.answer ∙ c.if-is_below.false);
      few = few-more (length c.args.self.now) c.loop-size.size half c.loop-size.steps some halves now.few;
      falls = omega (arith, now.falls, some);
      most = omega (arith, now.most, c.is_below.ensures.count, raised-most c.loop-size.tally);
      grows = omega (arith, now.grows, c.is_below.ensures.count, raised-up c.loop-size.tally);
      stays = λ at_last. c.is_below.ensures.count ∙ raised-last c.loop-size.tally (now.stays at_last);
      least = inr (least-more c.args.tally.now c.loop-size.tally c.is_below.new.tally (was c.loop-size.tally c.args.tally.now now.least) c.is_below.ensures.count);
    }
