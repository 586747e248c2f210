-- Lists: elements at places, lists that are mapped and filtered, and lists whose elements stand in a relation one by one.
use Rattle.std.proofs.Common.{◌≡◌, ◌∙◌, ℕ, zero, suc, Bool, true, false, cond, List, [], ◌∷◌, map, filter, slice_get, Option, Some, All, refl, sym, ap, subst, true≢false}
use Rattle.std.specs.List.{AllZip, cons_option, filter_map}
use Rattle.std.proofs.lemmas.Option.{get_or_from_slice_get, none-some, same_Some, slice_get_within}

-- what holds of each element holds of the one at a place
pub at_place : {A : Type 0} (P : A → Type 0) (xs : List A) (place : ℕ) (x : A) → All P xs → slice_get xs place ≡ Some x → P x
at_place P xs place x all stands = subst P (get_or_from_slice_get xs place x x stands) (all place x (slice_get_within xs place x stands))

pub filter_map-map : {A B C : Type 0} (choose : B → Option C) (make : A → B) (its : List A) → filter_map choose (map make its) ≡ filter_map (λ it. choose (make it)) its
filter_map-map choose make [] = refl
filter_map-map choose make (it ∷ its) = ap (cons_option (choose (make it))) (filter_map-map choose make its)

module _ {A B : Type 0} (test : B → Bool) (make : A → B) where
  pub filter-all : ((it : A) → test (make it) ≡ true) → (its : List A) → filter test (map make its) ≡ map make its
  filter-all passes [] = refl
  filter-all passes (it ∷ its) =
      ap (λ b. cond b (make it ∷ filter test (map make its)) (filter test (map make its))) (passes it)
      ∙ ap (λ rest. make it ∷ rest) (filter-all passes its)

  pub filter-none : ((it : A) → test (make it) ≡ false) → (its : List A) → filter test (map make its) ≡ []
  filter-none fails [] = refl
  filter-none fails (it ∷ its) =
      ap (λ b. cond b (make it ∷ filter test (map make its)) (filter test (map make its))) (fails it) ∙ filter-none fails its

module _ {A B : Type 0} (R : A → B → Type 0) where
  kept : (one other : Bool) (x : A) (y : B) (xs : List A) (ys : List B) → one ≡ other → R x y → AllZip R xs ys
      → AllZip R (cond one (x ∷ xs) xs) (cond other (y ∷ ys) ys)
  kept true true x y xs ys same is are = (is, are)
  kept true false x y xs ys same is are = absurd (true≢false same)
  kept false true x y xs ys same is are = absurd (true≢false (sym same))
  kept false false x y xs ys same is are = are

  -- tests that agree on related elements keep related elements
  pub AllZip-filter : (test : A → Bool) (other : B → Bool) → ((x : A) (y : B) → R x y → test x ≡ other y) → (xs : List A) (ys : List B) → AllZip R xs ys
      → AllZip R (filter test xs) (filter other ys)
  AllZip-filter test other agree [] [] are = tt
  AllZip-filter test other agree [] (y ∷ ys) are = absurd are
  AllZip-filter test other agree (x ∷ xs) [] are = absurd are
  AllZip-filter test other agree (x ∷ xs) (y ∷ ys) are =
      kept (test x) (other y) x y (filter test xs) (filter other ys) (agree x y are.0) are.0 (AllZip-filter test other agree xs ys are.1)

  pub AllZip-of_map : {C : Type 0} (S : C → B → Type 0) (make : C → A) → ((x : C) (y : B) → R (make x) y → S x y) → (xs : List C) (ys : List B)
      → AllZip R (map make xs) ys → AllZip S xs ys
  AllZip-of_map S make weaker [] [] are = tt
  AllZip-of_map S make weaker [] (y ∷ ys) are = absurd are
  AllZip-of_map S make weaker (x ∷ xs) [] are = absurd are
  AllZip-of_map S make weaker (x ∷ xs) (y ∷ ys) are = (weaker x y are.0, AllZip-of_map S make weaker xs ys are.1)

  -- at the place of an element stands one of the other list
  pub opposite : (xs : List A) (ys : List B) (place : ℕ) (y : B) → AllZip R xs ys → slice_get ys place ≡ Some y → (x : A) × (slice_get xs place ≡ Some x) × R x y
  opposite [] [] place y are stands = absurd (none-some y stands)
  opposite [] (other ∷ ys) place y are stands = absurd are
  opposite (x ∷ xs) [] place y are stands = absurd are
  opposite (x ∷ xs) (other ∷ ys) zero y are stands = (x, refl, subst (R x) (same_Some other y stands) are.0)
  opposite (x ∷ xs) (other ∷ ys) (suc place) y are stands = opposite xs ys place y are.1 stands
