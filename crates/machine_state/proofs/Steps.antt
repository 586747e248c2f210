-- What is seen of an answer.
use Rattle.std.proofs.Common.{◌≡◌, Result, Ok, Err, IfOk, ◌∙◌}

-- what is seen of an answer is that of an equation too
pub ok_same : {A B E : Type 0} (result : Result A E) (seen : A → B) (x y : B)
    → x ≡ y → IfOk result (λ it. seen it ≡ x) → IfOk result (λ it. seen it ≡ y)
ok_same (Ok it) seen x y e known = known ∙ e
ok_same (Err fail) seen x y e known = tt
