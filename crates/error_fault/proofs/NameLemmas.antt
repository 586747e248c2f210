-- Keys put into a list of keys.
use Rattle.std.proofs.Common.{◌≡◌, ◌<◌, ◌≤◌, ◌+◌, ℕ, List, [], ◌∷◌, ◌++◌, length, take, drop, refl, ap, sym, subst, arith, ◌∙◌, get_or, take-append-drop}
use Rattle.std.proofs.lemmas.List.Sums.{fold-append, fold_more}
use Rattle.std.specs.declared.cmp.Ordering.{Ordering}
use Rattle.std.specs.declared.cmp.Ordering.TheVariants.{Less, Equal, Greater}
use Rattle.std.specs.Ordering.{match_ordering, ordering_reverse}
use Rattle.std.specs.Cmp.{IsTotalOrder}
use Rattle.std.specs.List.{AllByRecursion, fold}
use Rattle.std.specs.List.Sorted.{IsStrictlySortedBy}
use Rattle.std.specs.BTreeSet.{insert_key}

module _ {K : Type 0} (cmp : K → K → Ordering) where
  -- what holds of all holds of one in the middle
  all_at : (P : K → Type 0) (xs : List K) (k : K) (rest : List K) → AllByRecursion P (xs ++ k ∷ rest) → P k
  all_at P [] k rest all = all.0
  all_at P (x ∷ xs) k rest all = all_at P xs k rest all.1

  -- the next key of an ordered list goes to the end of those before it
  pub insert_key-next : IsTotalOrder cmp → (xs : List K) (k : K) (rest : List K)
      → IsStrictlySortedBy cmp (xs ++ k ∷ rest) → insert_key cmp xs k ≡ xs ++ k ∷ []
  unfolding IsStrictlySortedBy
  insert_key-next total [] k rest sorted = refl
  insert_key-next total (x ∷ xs) k rest sorted =
      let above : cmp k x ≡ Greater = total.antisymm k x ∙ ap ordering_reverse (all_at (λ y. cmp x y ≡ Less) xs k rest sorted.0) in
      ap (λ order. match_ordering order (k ∷ x ∷ xs) (x ∷ xs) (x ∷ insert_key cmp xs k)) above
      ∙ ap (λ keys. x ∷ keys) (insert_key-next total xs k rest sorted.1)

-- steps of a fold that never make the list shorter
module _ {K A : Type 0} (step : List K → A → List K) (grows : (keys : List K) (x : A) → length keys ≤ length (step keys x)) where
  pub fold-grows : (keys : List K) (xs : List A) → length keys ≤ length (fold step keys xs)
  fold-grows keys [] = omega arith
  fold-grows keys (x ∷ xs) = omega (arith, grows keys x, fold-grows (step keys x) xs)

  -- the list is no shorter at the end than behind any step
  pub fold-grows_past : (keys : List K) (xs : List A) (i : ℕ) (x d : A) → i < length xs → x ≡ get_or xs i d
      → length (step (fold step keys (take i xs)) x) ≤ length (fold step keys xs)
  fold-grows_past keys xs i x d within is =
      let next : fold step keys (take (i + 1) xs) ≡ step (fold step keys (take i xs)) x =
      fold_more step keys xs i d within ∙ ap (step (fold step keys (take i xs))) (sym is) in
      let whole : fold step keys xs ≡ fold step (step (fold step keys (take i xs)) x) (drop (i + 1) xs) =
      ap (fold step keys) (sym (take-append-drop (i + 1) xs))
      ∙ fold-append step keys (take (i + 1) xs) (drop (i + 1) xs)
      ∙ ap (λ keys. fold step keys (drop (i + 1) xs)) next in
      subst (λ all. length (step (fold step keys (take i xs)) x) ≤ length all) (sym whole) (fold-grows _ (drop (i + 1) xs))

module _ {K : Type 0} (cmp : K → K → Ordering) where
  pub insert_key-grows : (keys : List K) (k : K) → length keys ≤ length (insert_key cmp keys k)
  insert_key-grows [] k = omega arith
  insert_key-grows (x ∷ keys) k = by (cmp k x) (insert_key-grows keys k)
    where
      by : (order : Ordering) → length keys ≤ length (insert_key cmp keys k)
          → length (x ∷ keys) ≤ length (match_ordering order (k ∷ x ∷ keys) (x ∷ keys) (x ∷ insert_key cmp keys k))
      by Less grows = omega arith
      by Equal grows = omega arith
      by Greater grows = omega (arith, grows)

  pub insert_keys-grow : (keys names : List K) → length keys ≤ length (fold (insert_key cmp) keys names)
  insert_keys-grow = fold-grows (insert_key cmp) insert_key-grows
