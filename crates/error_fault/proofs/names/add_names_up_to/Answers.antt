use Rattle.std.proofs.Common.{◌≡◌, ap, arith, length, fold, sym, ◌∙◌}
use Rattle.std.proofs.lemmas.Map.Iter.{rest_more}
use Rattle.std.specs.BTreeSet.{insert_key}
use Rattle.std.specs.Cmp.Lexicographic.{slice_cmp}
use Rattle.std.specs.Map.Iter.{deref}
use Rattle.std.specs.Ordering.{nat_cmp}
use Rattle.error_fault.proofs.NameLemmas.{insert_keys-grow}
use Rattle.error_fault.proofs.names.add_names_up_to.Goals as goal

pub returns-then-len-most : goal.returns-then-len-most
returns-then-len-most c =
    let step = insert_key (slice_cmp nat_cmp) in
    let keys = c.loop-name.names.keys in
    let rest = c.next.new.self in
    let left = rest_more deref _ _ _ _ c.in-Some.is c.next.ensures.steps in
    let whole : fold step c.insert.new.self.keys rest ≡ fold step c.args.names.keys c.args.more.now.keys =
    ap (λ keys. fold step keys rest) (c.in_ok-insert.ensures.keys ∙ ap (step keys) c.in_ok-name.ensures)
    ∙ ap (fold step keys) (sym left)
    ∙ c.loop-name.invariant.0 in
    omega (arith, insert_keys-grow (slice_cmp nat_cmp) c.insert.new.self.keys rest, ap length whole, c.len.ensures.len, c.if-len-most.true)
