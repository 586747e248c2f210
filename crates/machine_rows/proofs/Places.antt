-- The place of what passes a test, among what things are mapped to.
use Rattle.std.proofs.Common.{◌≡◌, ◌∙◌, ◌+◌, nat_lt, Bool, cond, not, List, [], ◌∷◌, length, map, Some, None, refl, ap, position}
use Rattle.std.specs.List.{prefix_len, position_or_len}
use Rattle.std.proofs.lemmas.List.{length-map}

module _ {A B : Type 0} (f : A → B) where
  prefix_len-map : (test : B → Bool) (items : List A) → prefix_len test (map f items) ≡ prefix_len (λ it. test (f it)) items
  prefix_len-map test [] = refl
  prefix_len-map test (it ∷ items) = ap (λ n. cond (test (f it)) (1 + n) 0) (prefix_len-map test items)

  pub position-map : (test : B → Bool) (items : List A) → position test (map f items) ≡ position (λ it. test (f it)) items
  position-map test items =
      ap (λ n. cond (nat_lt n (length (map f items))) (Some n) None) (prefix_len-map (λ it. not (test it)) items)
      ∙ ap (λ n. cond (nat_lt (position_or_len (λ it. test (f it)) items) n) (Some (position_or_len (λ it. test (f it)) items)) None) (length-map items f)
