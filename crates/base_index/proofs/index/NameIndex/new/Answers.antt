use Rattle.std.proofs.Common.{ap, ◌∙◌, map}
use Rattle.base_index.proofs.Sorting.{sorted_index}
use Rattle.base_index.proofs.index.NameIndex.new.Goals as goal

pub returns : goal.returns
returns g c =
    let made = c.in_ok-places.ensures ∙ ap (map (λ it. it.1)) c.as_slice.ensures.value in
    rw c.of_places.ensures (sorted_index (map g.N.NameOf.name_of c.args.items.now) c.in_ok-pairs.pairs.items c.sort.new.self.items c.in_ok-places.places c.in_ok-pairs.ensures c.sort.ensures.permutation c.in_ok-sort.ensures.sorted made)
