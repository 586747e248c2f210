use Rattle.std.proofs.Common.{◌≡◌, ◌<◌, List, ap, ap₂, arith, length, take, fold, ◌≤◌, ◌∙◌}
use Rattle.std.specs.BTreeSet.{BTreeSet, insert_key}
use Rattle.std.specs.Cmp.Lexicographic.{slice_cmp}
use Rattle.std.specs.Ordering.{nat_cmp}
use Rattle.base_core.specs.declared.text.Text.{Text}
use Rattle.error_fault.proofs.NameLemmas.{fold-grows, fold-grows_past, insert_keys-grow}
use Rattle.error_fault.proofs.alts.Alts.up_to.Goals as goal

abbrev step : List Text → BTreeSet Text → List Text
step keys more = fold (insert_key (slice_cmp nat_cmp)) keys more.keys

step-grows : (keys : List Text) (more : BTreeSet Text) → length keys ≤ length (step keys more)
step-grows keys more = insert_keys-grow (slice_cmp nat_cmp) keys more.keys

pub returns-then-len-most : goal.returns-then-len-most
returns-then-len-most c =
    let wider = fold-grows step step-grows c.self.inside.own.keys c.self.inside.more in
    omega (arith, wider, ap (λ names. length names.keys) c.self.view_is, ap (λ names. length names.keys) c.get.ensures, c.len.ensures.len, c.if-len-most.true)

pub returns-in-None : goal.returns-in-None
returns-in-None c =
    let own = c.self.inside.own.keys in
    let items = c.as_slice-more-items.result.now in
    let seen = take c.loop-more.more-index items in
    let copied : c.in_ok-names.names.keys ≡ own = ap (λ names. names.keys) (c.in_ok-names.ensures ∙ c.get-2.ensures) in
    let grown : step c.loop-more.names.keys c.get-in-loop-more.result.now ≡ step (fold step own seen) c.more-item.result =
    ap₂ step (c.loop-more.invariant.0 ∙ ap (λ keys. fold step keys seen) copied) c.get-in-loop-more.ensures in
    let past = fold-grows_past step step-grows own items c.loop-more.more-index c.more-item.result _ c.loop-more-test.true c.more-item.is in
    let all : fold step own items ≡ c.args.self.now.keys =
    ap (fold step own) c.as_slice-more-items.ensures ∙ ap (λ names. names.keys) c.self.view_is in
    let many : c.args.most < length (step c.loop-more.names.keys c.get-in-loop-more.result.now) = rw c.in-None.is at c.in_ok-few.ensures in
    omega (arith, many, ap length grown, past, ap length all)
