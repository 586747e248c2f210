use Rattle.std.proofs.Common.{◌≡◌, ◌<◌, length, map, get_or, arith, rules, ap, sym, ◌∙◌}
use Rattle.std.proofs.lemmas.List.{get_or-map, length-map}
use Rattle.base_index.proofs.Sorting.{paired_more}
use Rattle.base_index.proofs.make.paired.Goals as goal

pub loop-item-preserved : goal.loop-item-preserved
loop-item-preserved g c =
    let name_of = g.N.NameOf.name_of in
    let item = c.item-item.result in
    let i = c.loop-item.item-index in
    let within : i < length c.args.items.now = search rules in
    let named : i < length (map name_of c.args.items.now) = omega (arith, within, length-map c.args.items.now name_of) in
    let read : name_of item ≡ get_or (map name_of c.args.items.now) i (name_of item) =
    ap name_of c.item-item.is ∙ sym (get_or-map name_of c.args.items.now i item (name_of item) within) in (
      paired_more c.loop-item.pairs.items c.push.new.self.items c.name.result (name_of item) c.loop-item.at i (map name_of c.args.items.now)
          c.loop-item.invariant.0 c.loop-item.invariant.1 named read c.name.ensures c.in_ok-push.ensures.items,
      omega (arith, c.loop-item.invariant.1),
    )
