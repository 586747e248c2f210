-- The keys of entries that are put in one after another rise.
use Rattle.std.proofs.Common.{◌≡◌, ◌∙◌, refl, ap, List, [], ◌∷◌, fold}
use Rattle.std.specs.BTreeMap.{insert_entry}
use Rattle.std.specs.Cmp.{IsTotalOrder}
use Rattle.std.specs.List.{AllByRecursion}
use Rattle.std.specs.List.Sorted.{IsStrictlySortedBy}
use Rattle.std.specs.Map.{keys_of}
use Rattle.std.specs.Ordering.{match_ordering, ordering_reverse}
use Rattle.std.specs.declared.cmp.Ordering.{Ordering}
use Rattle.std.specs.declared.cmp.Ordering.TheVariants.{Less, Equal, Greater}
use Rattle.meta_core.specs.Maps.{sorted}

weaker : {K : Type 0} {P Q : K → Type 0} → ((key : K) → P key → Q key) → (keys : List K) → AllByRecursion P keys → AllByRecursion Q keys
weaker gives [] all = tt
weaker gives (key ∷ keys) all = (gives key all.0, weaker gives keys all.1)

module _ {K A : Type 0} {order : K → K → Ordering} (total : IsTotalOrder order) where
  -- ---- what holds of the keys and of one more holds of all

  all-by : (P : K → Type 0) (entry : K × A) (entries : List (K × A)) (key : K) (value : A) → AllByRecursion P (keys_of (entry ∷ entries)) → P key
      → AllByRecursion P (keys_of (insert_entry order entries key value)) → (it : Ordering)
      → AllByRecursion P (keys_of (match_ordering it ((key, value) ∷ entry ∷ entries) ((entry.0, value) ∷ entries) (entry ∷ insert_entry order entries key value)))
  all-by P entry entries key value all here rest Less = (here, all)
  all-by P entry entries key value all here rest Equal = all
  all-by P entry entries key value all here rest Greater = (all.0, rest)

  all-put : (P : K → Type 0) (entries : List (K × A)) (key : K) (value : A) → AllByRecursion P (keys_of entries) → P key → AllByRecursion P (keys_of (insert_entry order entries key value))
  all-put P [] key value all here = (here, tt)
  all-put P (entry ∷ entries) key value all here = all-by P entry entries key value all here (all-put P entries key value all.1 here) (order key entry.0)

  -- ---- the keys rise

  rise-by : (entry : K × A) (entries : List (K × A)) (key : K) (value : A) → IsStrictlySortedBy order (keys_of (entry ∷ entries))
      → IsStrictlySortedBy order (keys_of (insert_entry order entries key value)) → (it : Ordering) → order key entry.0 ≡ it
      → IsStrictlySortedBy order (keys_of (match_ordering it ((key, value) ∷ entry ∷ entries) ((entry.0, value) ∷ entries) (entry ∷ insert_entry order entries key value)))
  unfolding IsStrictlySortedBy
  rise-by entry entries key value rise rest Less is = ((is, weaker (λ other above. total.trans key entry.0 other is above) (keys_of entries) rise.0), rise)
  rise-by entry entries key value rise rest Equal is = rise
  rise-by entry entries key value rise rest Greater is =
      (all-put (λ other. order entry.0 other ≡ Less) entries key value rise.0 (total.antisymm entry.0 key ∙ ap ordering_reverse is), rest)

  rise-put : (entries : List (K × A)) (key : K) (value : A) → IsStrictlySortedBy order (keys_of entries) → IsStrictlySortedBy order (keys_of (insert_entry order entries key value))
  unfolding IsStrictlySortedBy
  rise-put [] key value rise = (tt, tt)
  rise-put (entry ∷ entries) key value rise = rise-by entry entries key value rise (rise-put entries key value rise.1) (order key entry.0) refl

  rise-all : (before entries : List (K × A)) → IsStrictlySortedBy order (keys_of before)
      → IsStrictlySortedBy order (keys_of (fold (λ before entry. insert_entry order before entry.0 entry.1) before entries))
  rise-all before [] rise = rise
  rise-all before (entry ∷ entries) rise = rise-all (insert_entry order before entry.0 entry.1) entries (rise-put before entry.0 entry.1 rise)

  pub keys-rise : (entries : List (K × A)) → IsStrictlySortedBy order (keys_of (sorted order entries))
  unfolding IsStrictlySortedBy
  keys-rise entries = rise-all [] entries tt
