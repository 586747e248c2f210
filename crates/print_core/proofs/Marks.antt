-- The characters of a mark, one by one.
use Rattle.std.proofs.Common.{◌≡◌, ◌<◌, ◌≤◌, ℕ, suc, ◌+◌, ◌-◌, nat_lt, List, [], ◌∷◌, length, drop, get_or, refl, sym, ◌∙◌, arith, length-drop, add-one}
use Rattle.std.proofs.lemmas.Bool.{lt-ltb}
use Rattle.std.proofs.lemmas.Bool.Decides.{nat_tests}
use Rattle.std.proofs.lemmas.List.{drop_all}
use Rattle.std.proofs.Math.Seq.{drop-cons}
use Rattle.tok_types.specs.declared.span.Span.{Span}
use Rattle.tok_types.specs.declared.tree.TokenTree.TheVariants as tree
use Rattle.print_core.specs.Marks.{mark, is_some}

-- what is left of a length is not 0 exactly where the index is below it
later : (i n : ℕ) → nat_lt 0 (n - i) ≡ nat_lt i n
later i n = grind (arith, nat_tests)

-- there is a first character exactly where the length is not 0
is_some-length : (chs : List ℕ) → is_some chs ≡ nat_lt 0 (length chs)
is_some-length [] = refl
is_some-length (ch ∷ chs) = sym (lt-ltb 0 (length (ch ∷ chs)) (omega arith))

-- another character comes exactly where the next index is within the list
is_some-later : (i : ℕ) (chs : List ℕ) → is_some (drop (suc i) chs) ≡ nat_lt (suc i) (length chs)
is_some-later i chs = is_some-length (drop (suc i) chs) ∙ rw (length-drop (suc i) chs) (later (suc i) (length chs))

-- a mark from its i-th character on
pub mark-from : (i : ℕ) (chs : List ℕ) (span : Span) → i < length chs
    → mark (drop i chs) span ≡ tree.Punct (record { ch = get_or chs i 0; joint = nat_lt (i + 1) (length chs); span = span }) ∷ mark (drop (i + 1) chs) span
unfolding mark
mark-from i chs span within = rw (add-one, drop-cons chs i 0, is_some-later i chs) refl

-- nothing is left behind its last character
pub mark-past : (i : ℕ) (chs : List ℕ) (span : Span) → length chs ≤ i → mark (drop i chs) span ≡ []
unfolding mark
mark-past i chs span past = rw (drop_all i chs past) refl
