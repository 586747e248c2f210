-- Lists that are compiled one by one.
use Rattle.std.proofs.Common.{◌≡◌, ◌∙◌, ℕ, ◌+◌, ◌<◌, List, [], ◌∷◌, ◌++◌, length, get_or, take, ap, sym, subst}
use Rattle.std.proofs.lemmas.List.{take_more}
use Rattle.std.specs.List.{AllZip}

module _ {A B : Type 0} (R : A → B → Type 0) where
  zip-more : (xs : List A) (ys : List B) (x : A) (y : B) → AllZip R xs ys → R x y → AllZip R (xs ++ x ∷ []) (ys ++ y ∷ [])
  zip-more [] [] x y zip is = (is, tt)
  zip-more [] (other ∷ ys) x y zip is = absurd zip
  zip-more (other ∷ xs) [] x y zip is = absurd zip
  zip-more (a ∷ xs) (b ∷ ys) x y zip is = (zip.0, zip-more xs ys x y zip.1 is)

  -- one turn of a loop that adds what is compiled from an item
  pub zip_next : (xs new : List A) (ys : List B) (i : ℕ) (x : A) (y : B) → i < length ys → y ≡ get_or ys i y → new ≡ xs ++ x ∷ []
      → AllZip R xs (take i ys) → R x y → AllZip R new (take (i + 1) ys)
  zip_next xs new ys i x y lt is made zip r =
      let P : List A → Type 0 = λ list. AllZip R list (take (i + 1) ys) in
      let Q : List B → Type 0 = λ list. AllZip R (xs ++ x ∷ []) list in
      subst P (sym made)
      (subst Q (sym (take_more ys i y lt ∙ ap (λ end. take i ys ++ end ∷ []) (sym is))) (zip-more xs (take i ys) x y zip r))
