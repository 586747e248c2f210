-- A set of keys put into another: the same as its keys one after another, in any order and however often each stands.
use Rattle.std.proofs.Common.{◌≡◌, List, [], ◌∷◌, fold, refl, ap, sym, subst, ◌∙◌}
use Rattle.std.proofs.lemmas.Cmp.{tied_itself}
use Rattle.std.specs.declared.cmp.Ordering.{Ordering}
use Rattle.std.specs.declared.cmp.Ordering.TheVariants.{Less, Equal, Greater}
use Rattle.std.specs.Ordering.{match_ordering, ordering_reverse}
use Rattle.std.specs.Cmp.{IsTotalOrder}
use Rattle.std.specs.FinMap.{IsAntisymmetric}
use Rattle.std.specs.BTreeSet.{insert_key}

module _ {K : Type 0} {cmp : K → K → Ordering} (total : IsTotalOrder cmp) (exact : IsAntisymmetric cmp) where
  abbrev put : List K → K → List K
  put = insert_key cmp

  -- where a key goes, by what stands in front
  put-less : (k x : K) (xs : List K) → cmp k x ≡ Less → put (x ∷ xs) k ≡ k ∷ x ∷ xs
  put-less k x xs is = ap (λ order. match_ordering order (k ∷ x ∷ xs) (x ∷ xs) (x ∷ put xs k)) is

  put-equal : (k x : K) (xs : List K) → cmp k x ≡ Equal → put (x ∷ xs) k ≡ x ∷ xs
  put-equal k x xs is = ap (λ order. match_ordering order (k ∷ x ∷ xs) (x ∷ xs) (x ∷ put xs k)) is

  put-greater : (k x : K) (xs : List K) → cmp k x ≡ Greater → put (x ∷ xs) k ≡ x ∷ put xs k
  put-greater k x xs is = ap (λ order. match_ordering order (k ∷ x ∷ xs) (x ∷ xs) (x ∷ put xs k)) is

  above : (a b : K) → cmp a b ≡ Less → cmp b a ≡ Greater
  above a b less = total.antisymm b a ∙ ap ordering_reverse less

  below : (a b : K) → cmp a b ≡ Greater → cmp b a ≡ Less
  below a b greater = total.antisymm b a ∙ ap ordering_reverse greater

  -- a key put twice stands once
  put-again : (keys : List K) (k : K) → put (put keys k) k ≡ put keys k
  put-again [] k = put-equal k k [] (tied_itself total k)
  put-again (x ∷ xs) k = by (cmp k x) refl (put-again xs k)
    where
      by : (order : Ordering) → cmp k x ≡ order → put (put xs k) k ≡ put xs k → put (put (x ∷ xs) k) k ≡ put (x ∷ xs) k
      by Less is rest = ap (λ keys. put keys k) (put-less k x xs is) ∙ put-equal k k (x ∷ xs) (tied_itself total k) ∙ sym (put-less k x xs is)
      by Equal is rest = ap (λ keys. put keys k) (put-equal k x xs is)
      by Greater is rest =
          ap (λ keys. put keys k) (put-greater k x xs is) ∙ put-greater k x (put xs k) is ∙ ap (λ keys. x ∷ keys) rest ∙ sym (put-greater k x xs is)

  -- a key below the others goes in front of them
  put-in_front : (a b x : K) (xs : List K) → cmp a b ≡ Less → cmp a x ≡ Less → put (put (x ∷ xs) b) a ≡ a ∷ put (x ∷ xs) b
  put-in_front a b x xs less first = by (cmp b x) refl
    where
      by : (order : Ordering) → cmp b x ≡ order → put (put (x ∷ xs) b) a ≡ a ∷ put (x ∷ xs) b
      by Less is = ap (λ keys. put keys a) (put-less b x xs is) ∙ put-less a b (x ∷ xs) less ∙ ap (λ keys. a ∷ keys) (sym (put-less b x xs is))
      by Equal is = ap (λ keys. put keys a) (put-equal b x xs is) ∙ put-less a x xs first ∙ ap (λ keys. a ∷ keys) (sym (put-equal b x xs is))
      by Greater is = ap (λ keys. put keys a) (put-greater b x xs is) ∙ put-less a x (put xs b) first ∙ ap (λ keys. a ∷ keys) (sym (put-greater b x xs is))

  put-swap_less : (keys : List K) (a b : K) → cmp a b ≡ Less → put (put keys a) b ≡ put (put keys b) a
  put-swap_less [] a b less = put-greater b a [] (above a b less) ∙ sym (put-less a b [] less)
  put-swap_less (x ∷ xs) a b less = by (cmp a x) refl (put-swap_less xs a b less)
    where
      behind : cmp b x ≡ Greater → put (put (x ∷ xs) b) a ≡ put (x ∷ put xs b) a
      behind greater = ap (λ keys. put keys a) (put-greater b x xs greater)

      by : (order : Ordering) → cmp a x ≡ order → put (put xs a) b ≡ put (put xs b) a → put (put (x ∷ xs) a) b ≡ put (put (x ∷ xs) b) a
      by Less is rest =
          ap (λ keys. put keys b) (put-less a x xs is) ∙ put-greater b a (x ∷ xs) (above a b less) ∙ sym (put-in_front a b x xs less is)
      by Equal is rest =
          let greater = above x b (sym (total.congr a x b is) ∙ less) in
          ap (λ keys. put keys b) (put-equal a x xs is) ∙ put-greater b x xs greater ∙ sym (behind greater ∙ put-equal a x (put xs b) is)
      by Greater is rest =
          let greater = above x b (total.trans x a b (below a x is) less) in
          ap (λ keys. put keys b) (put-greater a x xs is) ∙ put-greater b x (put xs a) greater
          ∙ ap (λ keys. x ∷ keys) rest
          ∙ sym (behind greater ∙ put-greater a x (put xs b) is)

  -- two keys go in in any order
  put-swap : (keys : List K) (a b : K) → put (put keys a) b ≡ put (put keys b) a
  put-swap keys a b = by (cmp a b) refl
    where
      by : (order : Ordering) → cmp a b ≡ order → put (put keys a) b ≡ put (put keys b) a
      by Less is = put-swap_less keys a b is
      by Equal is = subst (λ b. put (put keys a) b ≡ put (put keys b) a) (exact a b is) refl
      by Greater is = sym (put-swap_less keys b a (below a b is))

  fold-put : (keys names : List K) (k : K) → fold put (put keys k) names ≡ put (fold put keys names) k
  fold-put keys [] k = refl
  fold-put keys (name ∷ names) k = ap (λ keys. fold put keys names) (put-swap keys k name) ∙ fold-put (put keys name) names k

  -- the names of a set with one name more
  fold-put_into : (set keys : List K) (k : K) → fold put keys (put set k) ≡ put (fold put keys set) k
  fold-put_into [] keys k = refl
  fold-put_into (x ∷ xs) keys k = by (cmp k x) refl (fold-put_into xs (put keys x) k)
    where
      by : (order : Ordering) → cmp k x ≡ order → fold put (put keys x) (put xs k) ≡ put (fold put (put keys x) xs) k
          → fold put keys (put (x ∷ xs) k) ≡ put (fold put keys (x ∷ xs)) k
      by Less is rest = ap (fold put keys) (put-less k x xs is) ∙ fold-put keys (x ∷ xs) k
      by Equal is rest =
          let again : fold put (put (put keys x) x) xs ≡ fold put (put keys x) xs = ap (λ keys. fold put keys xs) (put-again keys x) in
          ap (fold put keys) (put-equal k x xs is)
          ∙ sym again
          ∙ fold-put (put keys x) xs x
          ∙ ap (put (fold put (put keys x) xs)) (sym (exact k x is))
      by Greater is rest = ap (fold put keys) (put-greater k x xs is) ∙ rest

  pub fold-set : (keys set names : List K) → fold put keys (fold put set names) ≡ fold put (fold put keys set) names
  fold-set keys set [] = refl
  fold-set keys set (name ∷ names) = fold-set keys (put set name) names ∙ ap (λ keys. fold put keys names) (fold-put_into set keys name)
