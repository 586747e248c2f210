use Rattle.std.proofs.Common.{arith}
use Rattle.syn_grammar.proofs.Deepest.{deepest-map-push}
use Rattle.syn_lists.proofs.list.DeepestReadItem.read.Goals as goal

pub returns-clause-knows : goal.returns-clause-knows
returns-clause-knows g c = λ begun found known.
    let push = deepest-map-push (g.P.ReadDeepItem.size begun.inner.now) found c.in_ok-item.item in
    let deep = rw known.same at c.in_ok-item.ensures in
    record {
      same = known.same;
      counted = omega (arith, push, known.counted, deep.1);
      within = omega (arith, known.within, deep.2);
    }
