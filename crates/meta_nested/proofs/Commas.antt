-- The tokens up to the next comma, by a loop that counts them.
use Rattle.std.proofs.Common.{◌≡◌, ℕ, zero, suc, ◌+◌, ◌<◌, true, false, List, [], ◌∷◌, ◌++◌, length, take, drop, refl, arith, ap, add-one}
use Rattle.tok_types.specs.declared.tree.TokenTree.{TokenTree}
use Rattle.law_prefix.specs.SameLookahead.{stops}
use Rattle.meta_nested.specs.Values.{before_comma}

-- so many tokens, and those behind them
abbrev pub split_at : ℕ → List TokenTree → List TokenTree
split_at count trees = take count trees ++ before_comma (drop count trees)

-- where it stops, none is left
pub before_comma-stop : (trees : List TokenTree) → stops trees ≡ true → before_comma trees ≡ []
before_comma-stop [] h = refl
before_comma-stop (tree ∷ trees) h = rw h refl

turn : (count : ℕ) (trees : List TokenTree) → stops (drop count trees) ≡ false → (count < length trees) × (split_at count trees ≡ split_at (suc count) trees)
turn zero [] h = absurd cc
turn zero (tree ∷ trees) h = (omega arith, rw h refl)
turn (suc count) [] h = absurd cc
turn (suc count) (tree ∷ trees) h = let more = turn count trees h in (omega (arith, more.0), ap (λ rest. tree ∷ rest) more.1)

-- where it goes on, one more stands before the comma
pub split_at-more : (count : ℕ) (trees : List TokenTree) → stops (drop count trees) ≡ false → (count < length trees) × (split_at count trees ≡ split_at (count + 1) trees)
split_at-more count trees h = rw add-one (turn count trees h)
