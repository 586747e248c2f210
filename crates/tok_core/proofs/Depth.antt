-- The delimiters of trees close exactly where groups nest at most 128 deep.
use Rattle.std.proofs.Common.{◌≡◌, ⊎_elim, ℕ, ◌+◌, ◌<◌, ◌≤◌, true, false, nat_lt, List, [], ◌∷◌, ◌++◌, length, Some, None, refl, sym, ap, ◌∙◌, arith, append_assoc}
use Rattle.std.proofs.lemmas.Bool.{cases_lt}
use Rattle.std.proofs.lemmas.Bool.Decides.{nat_tests}
use Rattle.std.proofs.lemmas.List.{append-nil}
use Rattle.tok_types.specs.declared.tree.Delimiter.{Delimiter}
use Rattle.tok_core.specs.Endings.{limit, open_after}
use Rattle.tok_core.specs.Flat.{Flat, Tree, Trees, leaf, branch, no_trees, more_trees, closing, flat_of, flats_of, depth_of, depths_of, end_of}
use Rattle.tok_core.proofs.Nesting.{same_delimiter-self}

room : (n : ℕ) → n < limit → nat_lt n limit ≡ true
room n h = grind (arith, nat_tests)

no_room : (n : ℕ) → limit ≤ n → nat_lt n limit ≡ false
no_room n h = grind (arith, nat_tests)

mutual
  pub open_after-flat_of : (t : Tree) (fs : List Flat) (stack : List Delimiter) → depth_of t + length stack ≤ limit → open_after (flat_of t ++ fs) stack ≡ open_after fs stack
  open_after-flat_of (leaf it) fs stack h = refl
  open_after-flat_of (branch d ts span) fs stack h =
      let closed : List Flat = closing d (end_of span) ∷ fs in
      let inside : open_after (flats_of ts ++ closed) (d ∷ stack) ≡ open_after closed (d ∷ stack) = open_after-flats_of ts closed (d ∷ stack) (omega arith) in
      let split : (flats_of ts ++ closing d (end_of span) ∷ []) ++ fs ≡ flats_of ts ++ closed = append_assoc (flats_of ts) (closing d (end_of span) ∷ []) fs in
      rw (room (length stack) (omega arith)) (ap (λ r. open_after r (d ∷ stack)) split ∙ inside ∙ rw (same_delimiter-self d) refl)

  pub open_after-flats_of : (ts : Trees) (fs : List Flat) (stack : List Delimiter) → depths_of ts + length stack ≤ limit → open_after (flats_of ts ++ fs) stack ≡ open_after fs stack
  open_after-flats_of no_trees fs stack h = refl
  open_after-flats_of (more_trees t ts) fs stack h =
      ap (λ r. open_after r stack) (append_assoc (flat_of t) (flats_of ts) fs)
      ∙ open_after-flat_of t (flats_of ts ++ fs) stack (omega arith)
      ∙ open_after-flats_of ts fs stack (omega arith)

mutual
  pub open_after-flat_of_deep : (t : Tree) (fs : List Flat) (stack : List Delimiter) → length stack ≤ limit → limit < depth_of t + length stack → open_after (flat_of t ++ fs) stack ≡ None
  open_after-flat_of_deep (leaf it) fs stack l h = absurd (omega arith)
  open_after-flat_of_deep (branch d ts span) fs stack l h =
      let closed : List Flat = closing d (end_of span) ∷ fs in
      let split : (flats_of ts ++ closing d (end_of span) ∷ []) ++ fs ≡ flats_of ts ++ closed = append_assoc (flats_of ts) (closing d (end_of span) ∷ []) fs in
      ⊎_elim
      (λ small. rw (room (length stack) small) (ap (λ r. open_after r (d ∷ stack)) split ∙ open_after-flats_of_deep ts closed (d ∷ stack) (omega arith) (omega arith)))
      (λ full. rw (no_room (length stack) full) refl)
      (cases_lt (length stack) limit)

  pub open_after-flats_of_deep : (ts : Trees) (fs : List Flat) (stack : List Delimiter) → length stack ≤ limit → limit < depths_of ts + length stack → open_after (flats_of ts ++ fs) stack ≡ None
  open_after-flats_of_deep no_trees fs stack l h = absurd (omega arith)
  open_after-flats_of_deep (more_trees t ts) fs stack l h =
      ap (λ r. open_after r stack) (append_assoc (flat_of t) (flats_of ts) fs)
      ∙ ⊎_elim
      (λ deep. open_after-flat_of_deep t (flats_of ts ++ fs) stack l deep)
      (λ fine. open_after-flat_of t (flats_of ts ++ fs) stack fine ∙ open_after-flats_of_deep ts fs stack l (omega arith))
      (cases_lt limit (depth_of t + length stack))

pub closes_within : (ts : Trees) → depths_of ts ≤ limit → open_after (flats_of ts) [] ≡ Some []
closes_within ts h = ap (λ r. open_after r []) (sym (append-nil (flats_of ts))) ∙ open_after-flats_of ts [] [] (omega arith)

none_some : {A : Type 0} {x : A} → None ≡ Some x → ⊥
none_some h = cc

pub within_closes : (ts : Trees) → open_after (flats_of ts) [] ≡ Some [] → depths_of ts ≤ limit
within_closes ts h = ⊎_elim
    (λ deep. absurd (none_some (sym (open_after-flats_of_deep ts [] [] (omega arith) (omega (arith, deep))) ∙ ap (λ r. open_after r []) (append-nil (flats_of ts)) ∙ h)))
    (λ fine. fine)
    (cases_lt limit (depths_of ts))
