-- Each declaration is read with those of lower numbers.
use Rattle.std.specs.Prelude.{ℕ, zero, suc, ◌==◌, cond}

-- what the numbers below a number read, where `body` reads a number by those below it, and `none` is what no number reads
abbrev pub below : {A : Type 0} → A → ((ℕ → A) → ℕ → A) → ℕ → ℕ → A
below none body zero number = none
below none body (suc n) number = cond (number == n) (body (below none body n) n) (below none body n number)
