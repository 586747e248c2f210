-- What stands before a place, by the two tokens there.
use Rattle.std.proofs.Common.{◌≡◌, ℕ, zero, suc, ◌-◌, ◌≤◌, ◌<◌, true, false, ◌&&◌, List, [], ◌∷◌, ◌++◌, length, drop, refl, arith}
use Rattle.std.proofs.Math.Bool.{and-false, and_assoc}
use Rattle.tok_types.specs.Ascii.{colon, minus}
use Rattle.tok_types.specs.declared.tree.TokenTree.{TokenTree}
use Rattle.syn_grammar.specs.Token.{is_colons, is_equals, is_joint, is_mark}
use Rattle.law_angles.specs.Ends.{Before, behind, nothing}
use Rattle.meta_nested.specs.Angles.{before_at}

colons-at : (before : Before) (count : ℕ) (trees : List TokenTree) → suc (suc count) ≤ length trees → (before_at before (suc (suc count)) trees).colons ≡ is_colons (drop count trees)
unfolding behind Rattle.syn_grammar.specs.Token.is_pair Rattle.syn_grammar.specs.Token.is_joint Rattle.syn_grammar.specs.Token.mark_of
colons-at before zero (one ∷ two ∷ trees) h = and_assoc (is_joint (one ∷ two ∷ trees)) (is_mark colon (one ∷ two ∷ trees)) (is_mark colon (two ∷ trees))
colons-at before (suc count) (tree ∷ trees) h = colons-at (behind before (tree ∷ trees)) count trees (omega arith)
colons-at before zero [] h = absurd (omega arith)
colons-at before zero (one ∷ []) h = absurd (omega arith)
colons-at before (suc count) [] h = absurd (omega arith)

minus-at : (before : Before) (count : ℕ) (trees : List TokenTree) → suc count ≤ length trees → (before_at before (suc count) trees).minus ≡ (is_joint (drop count trees) && is_mark minus (drop count trees))
unfolding behind
minus-at before zero (tree ∷ trees) h = refl
minus-at before (suc count) (tree ∷ trees) h = minus-at (behind before (tree ∷ trees)) count trees (omega arith)
minus-at before zero [] h = absurd (omega arith)
minus-at before (suc count) [] h = absurd (omega arith)

colons-none : (trees : List TokenTree) → (before_at nothing 1 trees).colons ≡ false
unfolding behind
colons-none [] = refl
colons-none (tree ∷ trees) = refl

-- behind a `=` stands nothing that matters
behind-equals : (before : Before) (trees : List TokenTree) → is_equals trees ≡ true → behind before trees ≡ nothing
unfolding behind
behind-equals before trees e =
    let colons : is_mark colon trees ≡ false = grind arith in
    let minus : is_mark minus trees ≡ false = grind arith in
    rw (colons, minus, and-false (is_joint trees), and-false before.colon) refl

-- two colons, behind two tokens
pub colons-behind : (count : ℕ) (trees : List TokenTree) → 2 ≤ count → count ≤ length trees → (before_at nothing count trees).colons ≡ is_colons (drop (count - 2) trees)
colons-behind zero trees h within = absurd (omega arith)
colons-behind (suc zero) trees h within = absurd (omega arith)
colons-behind (suc (suc count)) trees h within =
    let same : suc (suc count) - 2 ≡ count = omega arith in
    rw same (colons-at nothing count trees within)

-- a joint minus, behind one
pub minus-behind : (count : ℕ) (trees : List TokenTree) → 1 ≤ count → count ≤ length trees → (before_at nothing count trees).minus ≡ (is_joint (drop (count - 1) trees) && is_mark minus (drop (count - 1) trees))
minus-behind zero trees h within = absurd (omega arith)
minus-behind (suc count) trees h within =
    let same : suc count - 1 ≡ count = omega arith in
    rw same (minus-at nothing count trees within)

-- no two colons before that
pub colons-before : (count : ℕ) (trees : List TokenTree) → count < 2 → (before_at nothing count trees).colons ≡ false
colons-before zero trees h = refl
colons-before (suc zero) trees h = colons-none trees
colons-before (suc (suc count)) trees h = absurd (omega arith)

-- and no minus at the start
pub minus-before : (count : ℕ) (trees : List TokenTree) → count < 1 → (before_at nothing count trees).minus ≡ false
minus-before zero trees h = refl
minus-before (suc count) trees h = absurd (omega arith)

-- at a value, which stands behind a `=`
pub value-at : (before : Before) (front value : List TokenTree) (equals : TokenTree) → is_equals (equals ∷ value) ≡ true
    → (before_at before (suc (length front)) (front ++ equals ∷ value) ≡ nothing) × (drop (suc (length front)) (front ++ equals ∷ value) ≡ value)
value-at before [] value equals e = (behind-equals before (equals ∷ value) e, refl)
value-at before (tree ∷ front) value equals e = value-at (behind before (tree ∷ front ++ equals ∷ value)) front value equals e
