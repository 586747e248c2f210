-- Lists of tokens that grow at their end.
use Rattle.std.proofs.Common.{◌≡◌, List, ◌++◌, ap, ◌∙◌, Result, Ok, Err, OnOk, append_assoc}

-- three pieces that were appended in turn are one
pub OnOk-three : {A T E : Type 0} (r : Result T E) (old one two new xs ys zs : List A)
    → one ≡ old ++ xs → two ≡ one ++ ys → OnOk r (new ≡ two ++ zs) → OnOk r (new ≡ old ++ (xs ++ (ys ++ zs)))
OnOk-three (Ok it) old one two new xs ys zs first second third =
    third ∙ ap (λ list. list ++ zs) (second ∙ ap (λ list. list ++ ys) first)
    ∙ append_assoc (old ++ xs) ys zs ∙ append_assoc old xs (ys ++ zs)
OnOk-three (Err e) old one two new xs ys zs first second third = tt
