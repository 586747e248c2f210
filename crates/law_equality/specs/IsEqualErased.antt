-- That `==` tells apart whatever differs in more than its spans.
use Rattle.std.specs.Prelude.{◌≡◌, ◌↔◌, Bool, IsTrue}

-- Two values are equal exactly where they are the same without their places.
pub record IsEqualErased {A : Type 0} (eq : A → A → Bool) (erased : A → A) : Type 0 where
  pub at : (a b : A) → IsTrue (eq a b) ↔ (erased a ≡ erased b)
