-- Sets of shapes.
use Rattle.std.proofs.Common.{◌≡◌, refl, Bool, true, false, IsTrue}
use Rattle.std.specs.Prelude.{◌||◌}
use Rattle.body_core.specs.Shape.{has, TuplesAreWider}
use Rattle.body_core.specs.declared.shape.Shape.{Shape}
use Rattle.body_core.specs.declared.shape.Shape.TheVariants as shape
use Rattle.body_core.specs.declared.shape.ShapeSet.{ShapeSet}

or-right : (a b : Bool) → IsTrue b → IsTrue (a || b)
or-right true b is = refl
or-right false b is = is

is-false : (a : Bool) → (IsTrue a → ⊥) → a ≡ false
is-false true never = absurd (never refl)
is-false false never = refl

pub tuples-are-wider : TuplesAreWider
tuples-are-wider = record {
  newtypes = λ set only. or-right set.newtype set.tuple ((only shape.Tuple).1 refl);
  tuples = λ set only. is-false set.tuple (λ is. let same : shape.Tuple ≡ shape.Newtype = (only shape.Tuple).0 is in cc (same));
}

-- a set in which no shape was put
pub nothing_in : (set : ShapeSet) → set.named ≡ false → set.tuple ≡ false → set.unit ≡ false → set.newtype ≡ false
    → (it : Shape) → has set it ≡ false
nothing_in set a b c d shape.Named = a
nothing_in set a b c d shape.Tuple = b
nothing_in set a b c d shape.Unit = c
nothing_in set a b c d shape.Newtype = d
