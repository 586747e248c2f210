-- The words of a line, as `split_once` takes off the first.
use Rattle.std.proofs.Common.{◌≡◌, ℕ, ◌≤◌, lit<, eqb, List, [], ◌∷◌, length, Some, None, Bor, arith}
use Rattle.std.proofs.lemmas.List.Sums.{fails_before_first}
use Rattle.std.proofs.lemmas.List.Splits.{slice_split_none, slice_split_first, length-slice_split}
use Rattle.std.proofs.lemmas.Str.Pattern.{IsSplitOnceResult, split_once_first}
use Rattle.tok_types.specs.Ascii.{space}
use Rattle.util_table.specs.Table.{words_of}

-- a line without a space is one word
pub words_of_one : (line : List ℕ) → IsSplitOnceResult space line None → words_of line ≡ line ∷ []
words_of_one line cases =
    let none = split_once_first space line None cases (lit< tt) in
    slice_split_none (λ b. eqb b space) line (λ k d within. fails_before_first (λ b. eqb b space) line k d (omega (arith, none)))

-- another line is what stands before its first space, and the words of what stands behind it
pub words_of_more : (line : List ℕ) (first rest : Bor (List ℕ)) → IsSplitOnceResult space line (Some (first, rest))
    → words_of line ≡ first.now ∷ words_of rest.now
words_of_more line first rest cases =
    let at = split_once_first space line (Some (first, rest)) cases (lit< tt) in
    rw (at.1, at.2) (slice_split_first (λ b. eqb b space) line 0 at.0)

-- a line has a word at least
pub words_of_some : (line : List ℕ) → 1 ≤ length (words_of line)
words_of_some line = omega (arith, length-slice_split (λ b. eqb b space) line)
