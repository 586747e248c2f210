-- What a stable sort by texts makes is the entries in the order of their texts.
use Rattle.std.proofs.Common.{◌≡◌, ℕ, zero, suc, ◌<◌, ◌≤◌, Bool, true, false, cond, List, [], ◌∷◌, ◌++◌, length, get_or, filter, is_lt, not, ◌&&◌, refl, sym, ap, ◌∙◌, append_assoc, append-nil, inl, inr, suc-le-suc, zero-le}
use Rattle.std.specs.Cmp.{IsTotalOrder, IsStrictWeakOrder, alike_right}
use Rattle.std.specs.Cmp.Lexicographic.{nat_list_cmp_total}
use Rattle.std.specs.List.{fold}
use Rattle.std.specs.List.Sorted.{ties, IsSortedBy, IsStableBy}
use Rattle.std.specs.Ordering.{is_gt, ordering_reverse}
use Rattle.std.specs.declared.cmp.Ordering.{Ordering}
use Rattle.std.specs.declared.cmp.Ordering.TheVariants.{Less, Equal, Greater}
use Rattle.std.proofs.lemmas.Bool.{cond-true, cond-false, cases_Bool}
use Rattle.std.proofs.lemmas.Cmp.{upto, tied_itself}
use Rattle.std.proofs.lemmas.List.Elements.{filter-append}
use Rattle.std.proofs.lemmas.List.Sorted.{ranks_by, sorted_far}
use Rattle.base_core.specs.declared.text.Text.{Text}
use Rattle.machine_cells.specs.MetaCoreMaps.{text_order}
use Rattle.machine_cells.specs.Texts.{put_by, put, by_text}

order : IsTotalOrder text_order
order = nat_list_cmp_total

turned : (a b : Text) (r : Ordering) → text_order a b ≡ r → text_order b a ≡ ordering_reverse r
turned a b r same = order.antisymm b a ∙ ap ordering_reverse same

is_gt-reverse : (r : Ordering) → is_gt (ordering_reverse r) ≡ is_lt r
is_gt-reverse Less = refl
is_gt-reverse Equal = refl
is_gt-reverse Greater = refl

less_or_equal : (r : Ordering) → is_gt r ≡ false → is_lt r ≡ false → r ≡ Equal
less_or_equal Less above below = cc
less_or_equal Equal above below = refl
less_or_equal Greater above below = cc

less-behind : (a b c : Text) (r : Ordering) → text_order b c ≡ r → text_order a b ≡ Less → is_gt r ≡ false → text_order a c ≡ Less
less-behind a b c Less same less behind = order.trans a b c less same
less-behind a b c Equal same less behind = sym (alike_right order b c a same) ∙ less
less-behind a b c Greater same less behind = cc

module _ {A : Type 0} where
  -- whether the text of the first is less
  abbrev pub is_before : (Text × A) → (Text × A) → Bool
  is_before a b = is_lt (text_order a.0 b.0)

  abbrev tie : (Text × A) → (Text × A) → Bool
  tie = ties is_before

  -- no entry is before this one
  abbrev AreBehind : (Text × A) → List (Text × A) → Type 0
  AreBehind entry [] = Unit {0}
  AreBehind entry (other ∷ more) = (is_gt (text_order entry.0 other.0) ≡ false) × AreBehind entry more

  abbrev Rises : List (Text × A) → Type 0
  Rises [] = Unit {0}
  Rises (entry ∷ more) = AreBehind entry more × Rises more

  AreBehind-first : (entry other : Text × A) (more : List (Text × A)) → is_gt (text_order entry.0 other.0) ≡ false → AreBehind other more → AreBehind entry more
  AreBehind-first entry other [] first behind = tt
  AreBehind-first entry other (next ∷ more) first behind =
      (upto order entry.0 other.0 next.0 first behind.0, AreBehind-first entry other more first behind.1)

  AreBehind-put : (first entry : Text × A) (all : List (Text × A)) → is_gt (text_order first.0 entry.0) ≡ false → AreBehind first all → AreBehind first (put entry all)
  AreBehind-put first entry [] last behind = (last, tt)
  AreBehind-put first entry (other ∷ more) last behind =
      let put_there = AreBehind-put first entry more last behind.1 in
      elim (text_order entry.0 other.0) as (λ r. AreBehind first (put_by r entry other (put entry more) (other ∷ more))) [
        | Less ↦ (last, behind)
        | Equal ↦ (behind.0, put_there)
        | Greater ↦ (behind.0, put_there)
      ]

  Rises-by : (entry other : Text × A) (more : List (Text × A)) → Rises (other ∷ more) → Rises (put entry more) → (r : Ordering) → text_order entry.0 other.0 ≡ r → Rises (put_by r entry other (put entry more) (other ∷ more))
  Rises-by entry other more up put_up Less same =
      let first : is_gt (text_order entry.0 other.0) ≡ false = ap is_gt same in
      ((first, AreBehind-first entry other more first up.0), up)
  Rises-by entry other more up put_up Equal same = (AreBehind-put other entry more (ap is_gt (turned entry.0 other.0 Equal same)) up.0, put_up)
  Rises-by entry other more up put_up Greater same = (AreBehind-put other entry more (ap is_gt (turned entry.0 other.0 Greater same)) up.0, put_up)

  Rises-put : (entry : Text × A) (all : List (Text × A)) → Rises all → Rises (put entry all)
  Rises-put entry [] up = (tt, tt)
  Rises-put entry (other ∷ more) up = Rises-by entry other more up (Rises-put entry more up.1) _ refl

  -- ---- those of one text

  tie-less : (a b : Text × A) → text_order a.0 b.0 ≡ Less → tie a b ≡ false
  tie-less a b less = ap (λ r. not (is_lt r) && not (is_lt (text_order b.0 a.0))) less

  equal-by : (a b : Text × A) (r : Ordering) → text_order a.0 b.0 ≡ r → tie a b ≡ true → text_order a.0 b.0 ≡ Equal
  equal-by a b Less same tied = let not_tied = tie-less a b same in cc
  equal-by a b Equal same tied = same
  equal-by a b Greater same tied =
      let other = turned a.0 b.0 Greater same in
      let not_tied : tie a b ≡ false = ap (λ r. not (is_lt r) && not (is_lt (text_order b.0 a.0))) same ∙ ap (λ r. not (is_lt r)) other in cc

  tie-equal : (a b : Text × A) → tie a b ≡ true → text_order a.0 b.0 ≡ Equal
  tie-equal a b tied = equal-by a b _ refl tied

  equal-tie : (a b : Text × A) → text_order a.0 b.0 ≡ Equal → tie a b ≡ true
  equal-tie a b same =
      ap (λ r. not (is_lt r) && not (is_lt (text_order b.0 a.0))) same ∙ ap (λ r. not (is_lt r)) (turned a.0 b.0 Equal same)

  -- the text of each is greater
  abbrev AreAbove : Text × A → List (Text × A) → Type 0
  AreAbove entry [] = Unit {0}
  AreAbove entry (other ∷ more) = (text_order entry.0 other.0 ≡ Less) × AreAbove entry more

  AreAbove-behind : (entry other : Text × A) (more : List (Text × A)) → text_order entry.0 other.0 ≡ Less → AreBehind other more → AreAbove entry more
  AreAbove-behind entry other [] less behind = tt
  AreAbove-behind entry other (next ∷ more) less behind =
      (less-behind entry.0 other.0 next.0 _ refl less behind.0, AreAbove-behind entry other more less behind.1)

  filter-kept : (p : Text × A → Bool) (entry : Text × A) (more : List (Text × A)) → p entry ≡ true → filter p (entry ∷ more) ≡ entry ∷ filter p more
  filter-kept p entry more h = cond-true _ _ _ h

  filter-dropped : (p : Text × A → Bool) (entry : Text × A) (more : List (Text × A)) → p entry ≡ false → filter p (entry ∷ more) ≡ filter p more
  filter-dropped p entry more h = cond-false _ _ _ h

  filter-above : (x entry : Text × A) (more : List (Text × A)) → text_order x.0 entry.0 ≡ Equal → AreAbove entry more → filter (tie x) more ≡ []
  filter-above x entry [] same above = refl
  filter-above x entry (other ∷ more) same above =
      filter-dropped (tie x) other more (tie-less x other (order.congr x.0 entry.0 other.0 same ∙ above.0))
      ∙ filter-above x entry more same above.1

  filter-put_by : (x entry other : Text × A) (more : List (Text × A)) → Rises (other ∷ more) → filter (tie x) (put entry more) ≡ filter (tie x) (more ++ entry ∷ [])
      → (r : Ordering) → text_order entry.0 other.0 ≡ r → filter (tie x) (put_by r entry other (put entry more) (other ∷ more)) ≡ filter (tie x) ((other ∷ more) ++ entry ∷ [])
  filter-put_by x entry other more up put_same Less same =
      let all = other ∷ more in
      elim (cases_Bool (tie x entry)) [
        | inl tied ↦
            let none = filter-above x entry all (tie-equal x entry tied) (same, AreAbove-behind entry other more same up.0) in
            filter-kept (tie x) entry all tied ∙ ap (λ l. entry ∷ l) none
            ∙ sym (filter-append (tie x) all (entry ∷ []) ∙ ap (λ l. l ++ filter (tie x) (entry ∷ [])) none ∙ filter-kept (tie x) entry [] tied)
        | inr apart ↦
            filter-dropped (tie x) entry all apart
            ∙ sym (filter-append (tie x) all (entry ∷ []) ∙ ap (λ l. filter (tie x) all ++ l) (filter-dropped (tie x) entry [] apart) ∙ append-nil (filter (tie x) all))
      ]
  filter-put_by x entry other more up put_same Equal same = ap (λ l. cond (tie x other) (other ∷ l) l) put_same
  filter-put_by x entry other more up put_same Greater same = ap (λ l. cond (tie x other) (other ∷ l) l) put_same

  filter-put : (x entry : Text × A) (all : List (Text × A)) → Rises all → filter (tie x) (put entry all) ≡ filter (tie x) (all ++ entry ∷ [])
  filter-put x entry [] up = refl
  filter-put x entry (other ∷ more) up = filter-put_by x entry other more up (filter-put x entry more up.1) _ refl

  -- ---- all entries

  Rises-all : (before entries : List (Text × A)) → Rises before → Rises (fold (λ before entry. put entry before) before entries)
  Rises-all before [] up = up
  Rises-all before (entry ∷ entries) up = Rises-all (put entry before) entries (Rises-put entry before up)

  filter-all : (x : Text × A) (before entries : List (Text × A)) → Rises before → filter (tie x) (fold (λ before entry. put entry before) before entries) ≡ filter (tie x) (before ++ entries)
  filter-all x before [] up = ap (filter (tie x)) (sym (append-nil before))
  filter-all x before (entry ∷ entries) up =
      filter-all x (put entry before) entries (Rises-put entry before up)
      ∙ filter-append (tie x) (put entry before) entries
      ∙ ap (λ l. l ++ filter (tie x) entries) (filter-put x entry before up)
      ∙ sym (filter-append (tie x) (before ++ entry ∷ []) entries)
      ∙ ap (filter (tie x)) (append_assoc before (entry ∷ []) entries)

  -- ---- one list rises with these among those of one text

  found-behind : (x entry : Text × A) (all : List (Text × A)) (first : Text × A) (more : List (Text × A)) → AreBehind entry all → filter (tie x) all ≡ first ∷ more → is_gt (text_order entry.0 x.0) ≡ false
  found-behind x entry [] first more behind found = cc
  found-behind x entry (other ∷ all) first more behind found =
      elim (cases_Bool (tie x other)) [
        | inl tied ↦ ap is_gt (alike_right order x.0 other.0 entry.0 (tie-equal x other tied)) ∙ behind.0
        | inr apart ↦ found-behind x entry all first more behind.1 (sym (filter-dropped (tie x) other all apart) ∙ found)
      ]

  AreBehind-itself : (entry : Text × A) → is_gt (text_order entry.0 entry.0) ≡ false
  AreBehind-itself entry = ap is_gt (tied_itself order entry.0)

  same_entries : (ys zs : List (Text × A)) → Rises ys → Rises zs → ((x : Text × A) → filter (tie x) ys ≡ filter (tie x) zs) → ys ≡ zs
  same_entries [] [] left right same = refl
  same_entries [] (z ∷ zs) left right same =
      let clash = same z ∙ filter-kept (tie z) z zs (equal-tie z z (tied_itself order z.0)) in cc
  same_entries (y ∷ ys) [] left right same =
      let clash = sym (same y) ∙ filter-kept (tie y) y ys (equal-tie y y (tied_itself order y.0)) in cc
  same_entries (y ∷ ys) (z ∷ zs) left right same =
      let at_y = filter-kept (tie y) y ys (equal-tie y y (tied_itself order y.0)) in
      let at_z = filter-kept (tie z) z zs (equal-tie z z (tied_itself order z.0)) in
      let up = found-behind y z (z ∷ zs) y _ (AreBehind-itself z, right.0) (sym (same y) ∙ at_y) in
      let down = found-behind z y (y ∷ ys) z _ (AreBehind-itself y, left.0) (same z ∙ at_z) in
      let level = less_or_equal (text_order y.0 z.0) down (sym (is_gt-reverse _) ∙ ap is_gt (sym (order.antisymm z.0 y.0)) ∙ up) in
      let heads = sym at_y ∙ same y ∙ filter-kept (tie y) z zs (equal-tie y z level) in
      let head : y ≡ z = cc in
      let tails : (x : Text × A) → filter (tie x) ys ≡ filter (tie x) zs =
      λ x. elim (cases_Bool (tie x y)) [
        | inl tied ↦
            let both = sym (filter-kept (tie x) y ys tied) ∙ same x ∙ filter-kept (tie x) z zs (ap (tie x) (sym head) ∙ tied) in cc
        | inr apart ↦
            sym (filter-dropped (tie x) y ys apart) ∙ same x ∙ filter-dropped (tie x) z zs (ap (tie x) (sym head) ∙ apart)
      ] in
      ap (λ w. w ∷ ys) head ∙ ap (λ l. z ∷ l) (same_entries ys zs left.1 right.1 tails)

  -- ---- a sort

  AreBehind-at : (entry : Text × A) (all : List (Text × A)) → ((j : ℕ) → j < length all → is_gt (text_order entry.0 (get_or all j entry).0) ≡ false) → AreBehind entry all
  AreBehind-at entry [] behind = tt
  AreBehind-at entry (other ∷ more) behind =
      (behind zero (suc-le-suc zero-le), AreBehind-at entry more (λ j lt. behind (suc j) (suc-le-suc lt)))

  Rises-from : (all : List (Text × A)) → ((i j : ℕ) (d : Text × A) → i ≤ j → j < length all → is_before (get_or all j d) (get_or all i d) ≡ false) → Rises all
  Rises-from [] far = tt
  Rises-from (entry ∷ more) far = (
    AreBehind-at entry more (λ j lt. ap is_gt (order.antisymm entry.0 (get_or more j entry).0) ∙ is_gt-reverse _ ∙ far zero (suc j) entry zero-le (suc-le-suc lt)),
    Rises-from more (λ i j d le lt. far (suc i) (suc j) d (suc-le-suc le) (suc-le-suc lt)),
  )

  pub before_ranks : IsStrictWeakOrder is_before
  before_ranks = ranks_by order (λ (entry : Text × A). entry.0)

  -- what a stable sort ensures
  pub by_text-sorted : (entries made : List (Text × A)) → IsSortedBy is_before made → IsStableBy is_before entries made → made ≡ by_text entries
  by_text-sorted entries made sorted stable =
      same_entries made (by_text entries) (Rises-from made (sorted_far is_before before_ranks made sorted)) (Rises-all [] entries tt)
      (λ x. stable x ∙ sym (filter-all x [] entries tt))
