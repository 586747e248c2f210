-- What a chain of optional values comes from.
use Rattle.std.proofs.Common.{◌≡◌, Option, Some, None, option_map, refl}

pub option_map-some : {A B P : Type 0} (f : A → B) (o : Option A) (y : B) → option_map f o ≡ Some y → ((x : A) → o ≡ Some x → f x ≡ y → P) → P
option_map-some f None y h use_it = absurd (cc)
option_map-some f (Some x) y h use_it = use_it x refl (cc)
