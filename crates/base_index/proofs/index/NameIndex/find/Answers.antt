use Rattle.std.proofs.Common.{rules, ◌≡◌, ◌<◌, length, map, arith, ◌∙◌, sym}
use Rattle.base_index.proofs.Search.{found, missing}
use Rattle.base_index.proofs.index.NameIndex.find.Goals.{else-low-len-via-then-low-len+else-is_named, else-low-len-via-else-low-len}
use Rattle.base_index.proofs.index.NameIndex.find.Goals as goal

pub returns-then-is_named-clause-place : goal.returns-then-is_named-clause-place
returns-then-is_named-clause-place g c =
    let within : c.low-low.result < length c.args.self.now = search rules in
    c.place.ensures within
    ∙ found c.args.self.now (map g.N.NameOf.name_of c.args.items.now) c.args.name.now c.requires c.low-low.result c.low-low.ensures.before within (sym c.is_named.ensures.answer ∙ c.if-is_named.true)

pub returns-clause-place : goal.returns-clause-place
returns-clause-place g c =
    let same : c.len.result ≡ length c.args.self.now = search rules in
    elim c.else-low-len.branch [
      | else-low-len-via-then-low-len+else-is_named w ↦ missing c.args.self.now (map g.N.NameOf.name_of c.args.items.now) c.args.name.now c.requires c.low-low.result c.low-low.ensures.before c.low-low.ensures.behind (λ _. sym w.is_named.ensures.answer ∙ w.if-is_named.false)
      | else-low-len-via-else-low-len w ↦ missing c.args.self.now (map g.N.NameOf.name_of c.args.items.now) c.args.name.now c.requires c.low-low.result c.low-low.ensures.before c.low-low.ensures.behind (λ h. absurd (omega (arith, h, w.if-low-len.false, same)))
    ]
