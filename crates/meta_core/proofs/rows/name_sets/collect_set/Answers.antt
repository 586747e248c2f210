use Rattle.std.proofs.Common.{◌++◌, ◌+◌, ◌∙◌, ap, sym, refl, [], drop, append_assoc}
use Rattle.std.specs.HashSet.{contains, get}
use Rattle.std.specs.List.{find, list_any}
use Rattle.std.specs.Option.{option_or}
use Rattle.error_core.specs.ErrorView.{held}
use Rattle.meta_reads.specs.Maps.{with_key}
use Rattle.meta_core.specs.Sets.{kept_name, name_faults, names_of, set_faults}
use Rattle.meta_reads.proofs.MapLemmas.{left_here}
use Rattle.meta_core.proofs.SetLemmas.{knows-with}
use Rattle.meta_core.proofs.Stored.{find-append, option_or-regroup}
use Rattle.meta_core.proofs.rows.name_sets.collect_set.Goals as goal

pub loop-item-init : goal.loop-item-init
loop-item-init g c =
    let eq = g.T.PartialEq.eq in (
      λ name. sym (ap (λ keys. option_or (find (eq name) keys) (kept_name eq g.T.Name.of_item c.args.items.now name)) c.new-names.ensures.empty),
      (
        [],
        λ name. ap (list_any (eq name)) c.new-names.ensures.empty,
        refl,
      ),
    )

pub loop-item-preserved : goal.loop-item-preserved
loop-item-preserved g c =
    let eq = g.T.PartialEq.eq in
    let read = g.T.Name.of_item in
    let span_of = g.T.Spanned.span_of in
    let inv = c.loop-item.invariant in
    let before = inv.1.0 in
    let item = c.item-item.result in
    let rest = drop (c.loop-item.item-index + 1) c.args.items.now in
    let here = left_here c.args.items.now c.loop-item.item-index item c.loop-item-test.true c.item-item.is in
    let put = c.in_ok-put_item.ensures.names in
    let told = c.in_ok-put_item.ensures.faults before inv.1.1 in
    let here_faults = name_faults eq (λ name. g.T.KeyFromPath.text (g.T.KeyFromPath.seen name)) span_of before (read item) in
    let faults = set_faults eq (λ name. g.T.KeyFromPath.text (g.T.KeyFromPath.seen name)) span_of read in
    let old = held c.loop-item.errors in
    let after = with_key before (read item) in (
      λ name.
          let kept = get eq c.loop-item.names name in
          inv.0 name ∙ ap (λ items. option_or kept (find (eq name) (names_of read items))) here
          ∙ ap (option_or kept) (find-append (eq name) (with_key [] (read item)) (names_of read rest))
          ∙ option_or-regroup kept (find (eq name) (with_key [] (read item))) (find (eq name) (names_of read rest))
          ∙ ap (λ found. option_or found (find (eq name) (names_of read rest))) (sym (c.in_ok-put_item.ensures.stored name)),
      (
        after,
        knows-with eq (contains eq c.loop-item.names) (contains eq c.put_item.new.names) before (read item) put inv.1.1,
        inv.1.2 ∙ ap (λ items. old ++ faults before items) here
            ∙ sym (append_assoc old here_faults (faults after rest)) ∙ ap (λ them. them ++ faults after rest) (sym told),
      ),
    )
