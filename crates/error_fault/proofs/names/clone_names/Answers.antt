use Rattle.std.proofs.Common.{◌≡◌, ◌∷◌, ◌++◌, [], ap, sym, subst, ◌∙◌, append_assoc}
use Rattle.std.proofs.lemmas.Cmp.{nat_list_cmp_total}
use Rattle.std.proofs.lemmas.Map.Iter.{rest_more}
use Rattle.std.specs.Cmp.Lexicographic.{slice_cmp}
use Rattle.std.specs.List.Sorted.{IsStrictlySortedBy}
use Rattle.std.specs.Map.Iter.{deref}
use Rattle.std.specs.Ordering.{nat_cmp}
use Rattle.std.specs.BTreeSet.{insert_key}
use Rattle.error_fault.proofs.NameLemmas.{insert_key-next}
use Rattle.error_fault.proofs.names.clone_names.Goals as goal

pub loop-name-preserved : goal.loop-name-preserved
loop-name-preserved c =
    let done = c.loop-name.copy.keys in
    let name = c.in-Some.name.now in
    let rest = c.next.new.self in
    let left = rest_more deref _ _ _ _ c.in-Some.is c.next.ensures.steps in
    let whole : done ++ name ∷ rest ≡ c.args.names.now.keys =
    ap (λ keys. done ++ keys) (sym left) ∙ c.loop-name.invariant in
    let ordered = subst (IsStrictlySortedBy (slice_cmp nat_cmp)) (sym whole) c.into_iter-name-iterator.ensures.into_iter_gives.4 in
    let grown : c.insert.new.self.keys ≡ done ++ name ∷ [] =
    c.in_ok-insert.ensures.keys
    ∙ ap (insert_key (slice_cmp nat_cmp) done) c.in_ok-name.ensures
    ∙ insert_key-next (slice_cmp nat_cmp) nat_list_cmp_total done name rest ordered in
    ap (λ keys. keys ++ rest) grown ∙ append_assoc done (name ∷ []) rest ∙ whole
