use Rattle.std.proofs.Common.{rules, ◌≡◌, ◌++◌, ◌+◌, ◌∙◌, ap, sym, refl, [], drop, append_assoc}
use Rattle.error_core.specs.ErrorView.{held}
use Rattle.meta_reads.specs.Maps.{entries_of, entry_of, item_faults, keys_with, map_faults, pair_in, seen_entries}
use Rattle.meta_reads.proofs.MapLemmas.{left_here}
use Rattle.meta_reads.proofs.entries.collect_entries.Goals as goal

pub loop-item-init : goal.loop-item-init
loop-item-init g c =
    let k = g.K.KeyFromPath in
    let see = g.R.Reader.seen in
    let cells = g.R.Reader.cells c.args.inner.now in
    let none : c.new-entries.result.items ≡ [] = search rules in (
      ap (λ items. seen_entries k.seen see items ++ entries_of k.key cells c.args.items.now) (sym none),
      ([], c.empty-keys.ensures, refl),
    )

pub loop-item-preserved : goal.loop-item-preserved
loop-item-preserved g c =
    let k = g.K.KeyFromPath in
    let see = g.R.Reader.seen in
    let cells = g.R.Reader.cells c.args.inner.now in
    let inv = c.loop-item.invariant in
    let before = inv.1.0 in
    let item = c.item-item.result in
    let rest = drop (c.loop-item.item-index + 1) c.args.items.now in
    let here = left_here c.args.items.now c.loop-item.item-index item c.loop-item-test.true c.item-item.is in
    let known = c.in_ok-read_item.ensures.known before inv.1.1 in
    let told = c.in_ok-read_item.ensures.faults before inv.1.1 in
    let put = c.in_ok-read_item.ensures.entries in
    let keys = keys_with k.key before (pair_in cells item) in
    let here_faults = item_faults k.same k.text k.key before (pair_in cells item) in
    let faults = map_faults k.same k.text k.key cells in
    let old = held c.loop-item.errors in
    let entries = seen_entries k.seen see c.loop-item.entries.items in (
      inv.0 ∙ ap (λ items. entries ++ entries_of k.key cells items) here
          ∙ sym (append_assoc entries (entry_of k.key (pair_in cells item)) (entries_of k.key cells rest))
          ∙ ap (λ them. them ++ entries_of k.key cells rest) (sym put),
      (
        keys,
        known,
        inv.1.2 ∙ ap (λ items. old ++ faults before items) here
            ∙ sym (append_assoc old here_faults (faults keys rest)) ∙ ap (λ them. them ++ faults keys rest) (sym told),
      ),
    )
