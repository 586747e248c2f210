-- The walk over the tokens that a rule takes, one to three at once.
use Rattle.std.proofs.Common.{◌≡◌, ℕ, zero, suc, ◌≤◌, Bool, true, false, ◌&&◌, ◌||◌, not, ◌==◌, if◌then◌else◌, List, [], ◌∷◌, refl, arith}
use Rattle.std.proofs.lemmas.Bool.{and_left, and_right, and_parts, eqb-true, ne_eqb, not-true}
use Rattle.tok_types.specs.declared.tree.TokenTree.{TokenTree}
use Rattle.syn_grammar.specs.Token.{after_one, is_arrow, is_colon, is_colons, is_greater, is_joint, is_less, is_mark, is_pair, is_turbofish, mark_of}
use Rattle.law_angles.specs.Ends.{Before, nothing, behind, angles_behind, ends, max_angles, too_many}

-- the angles that are open close again
abbrev pub Holds : ℕ → List TokenTree → Type 0
Holds angles trees = ends nothing angles trees ≡ true

-- ---- a token

choice : (a b x : Bool) → b ≡ false → x ≡ true → (if a then true else (if b then false else x)) ≡ true
choice true b x many h = refl
choice false b x many h = rw many h

-- where no token is left, none opens and none closes
angles-none : (before : Before) (angles : ℕ) → angles_behind before angles [] ≡ angles
unfolding angles_behind mark_of
angles-none before zero = rw (and_right before.colons false refl) refl
angles-none before (suc angles) = refl

step : (before : Before) (angles : ℕ) (trees : List TokenTree) → too_many angles trees ≡ false → ends (behind before trees) (angles_behind before angles trees) (after_one trees) ≡ true → ends before angles trees ≡ true
step before angles [] many h = rw (angles-none before angles) at h
step before angles (tree ∷ trees) many h = choice _ _ _ many h

-- a mark is no other one
pub other-mark : (ch other : ℕ) (trees : List TokenTree) → mark_of trees ≡ ch → (ch == other) ≡ false → is_mark other trees ≡ false
other-mark ch other trees is apart = rw is apart

pub mark-is : (ch : ℕ) (trees : List TokenTree) → is_mark ch trees ≡ true → mark_of trees ≡ ch
mark-is ch trees h = eqb-true (mark_of trees) ch h

few : (angles : ℕ) (trees : List TokenTree) → is_less trees ≡ false → too_many angles trees ≡ false
few angles trees h = and_right (angles == max_angles) _ h

enough : (angles : ℕ) (trees : List TokenTree) → suc angles ≤ max_angles → too_many angles trees ≡ false
enough angles trees fits = and_left (angles == max_angles) _ (ne_eqb angles max_angles (λ same. absurd (omega arith)))

same-angles : (before : Before) (angles : ℕ) (trees : List TokenTree) → is_less trees ≡ false → is_greater trees ≡ false → angles_behind before angles trees ≡ angles
unfolding angles_behind
same-angles before zero trees less greater = rw (less, and_right before.colons false refl) refl
same-angles before (suc angles) trees less greater = rw (less, greater) refl

-- behind other tokens nothing is told
pub behind-other : (before : Before) (trees : List TokenTree) → is_mark 58 trees ≡ false → is_mark 45 trees ≡ false → behind before trees ≡ nothing
unfolding behind
behind-other before trees colon minus = rw (colon, minus, and_right (is_joint trees) false refl, and_right before.colon false refl) refl

-- marks that open or close nothing, and that begin no `::` and no arrow
abbrev pub is_plain : ℕ → Bool
is_plain ch = not (ch == 58 || (ch == 45 || (ch == 60 || ch == 62)))

or-parts : (a b : Bool) → (a || b) ≡ false → (a ≡ false) × (b ≡ false)
or-parts true b h = absurd cc
or-parts false b h = (refl, h)

-- a token that is no such mark
pub plain-step : (angles : ℕ) (trees : List TokenTree) → is_plain (mark_of trees) ≡ true → Holds angles (after_one trees) → Holds angles trees
plain-step angles trees plain h =
    let colon = or-parts _ _ (not-true _ plain) in
    let minus = or-parts _ _ colon.1 in
    let less = or-parts _ _ minus.1 in
    step nothing angles trees (few angles trees less.0) (rw (behind-other nothing trees colon.0 minus.0, same-angles nothing angles trees less.0 less.1) h)

-- in an expression a `-` does not tell
minus-zero : (minus : Bool) (trees : List TokenTree) → Holds 0 trees → ends (record { colon = false; colons = false; minus = minus }) 0 trees ≡ true
unfolding behind angles_behind
minus-zero minus [] h = refl
minus-zero minus (tree ∷ trees) h = h

behind-no_colon : (trees : List TokenTree) → is_mark 58 trees ≡ false → behind nothing trees ≡ record { colon = false; colons = false; minus = is_joint trees && is_mark 45 trees }
unfolding behind
behind-no_colon trees colon = rw (colon, and_right (is_joint trees) false refl) refl

angles-zero : (trees : List TokenTree) → angles_behind nothing 0 trees ≡ 0
unfolding angles_behind
angles-zero trees = refl

-- in an expression: any token but a colon
pub zero-step : (trees : List TokenTree) → is_mark 58 trees ≡ false → Holds 0 (after_one trees) → Holds 0 trees
zero-step trees colon h =
    step nothing 0 trees refl (rw (behind-no_colon trees colon, angles-zero trees) (minus-zero (is_joint trees && is_mark 45 trees) (after_one trees) h))

-- ---- angles

-- how many are open behind a `<` of a type, which opens none in an expression
abbrev pub inner : ℕ → ℕ
inner zero = zero
inner (suc angles) = suc (suc angles)

less-angles : (before : Before) (angles : ℕ) (trees : List TokenTree) → is_less trees ≡ true → angles_behind before (suc angles) trees ≡ suc (suc angles)
unfolding angles_behind
less-angles before angles trees less = rw less refl

greater-angles : (angles : ℕ) (trees : List TokenTree) → is_less trees ≡ false → is_greater trees ≡ true → angles_behind nothing (suc angles) trees ≡ angles
unfolding angles_behind
greater-angles angles trees less greater = rw (less, greater) refl

pub less-step : (angles : ℕ) (trees : List TokenTree) → suc angles ≤ max_angles → is_less trees ≡ true → Holds (inner angles) (after_one trees) → Holds angles trees
less-step zero trees fits less h = zero-step trees (other-mark 60 58 trees (mark-is 60 trees less) refl) h
less-step (suc angles) trees fits less h =
    let is = mark-is 60 trees less in
    step nothing (suc angles) trees (enough (suc angles) trees fits)
    (rw (behind-other nothing trees (other-mark 60 58 trees is refl) (other-mark 60 45 trees is refl), less-angles nothing angles trees less) h)

pub greater-step : (angles : ℕ) (trees : List TokenTree) → is_greater trees ≡ true → Holds angles (after_one trees) → Holds (suc angles) trees
greater-step angles trees greater h =
    let is = mark-is 62 trees greater in
    let less = other-mark 62 60 trees is refl in
    step nothing (suc angles) trees (few (suc angles) trees less)
    (rw (behind-other nothing trees (other-mark 62 58 trees is refl) (other-mark 62 45 trees is refl), greater-angles angles trees less greater) h)

-- the `>` of a `<` of a type
pub close-step : (angles : ℕ) (trees : List TokenTree) → is_greater trees ≡ true → Holds angles (after_one trees) → Holds (inner angles) trees
close-step zero trees greater h = zero-step trees (other-mark 62 58 trees (mark-is 62 trees greater) refl) h
close-step (suc angles) trees greater h = greater-step (suc angles) trees greater h

-- ---- marks of several characters

pub record Pair (first second : ℕ) (trees : List TokenTree) : Type 0 where
  pub joint : is_joint trees ≡ true
  pub one : mark_of trees ≡ first
  pub two : mark_of (after_one trees) ≡ second

pub pair-is : (first second : ℕ) (trees : List TokenTree) → is_pair first second trees ≡ true → Pair first second trees
unfolding is_pair
pair-is first second trees h =
    let parts = and_parts (is_joint trees) _ h in
    let marks = and_parts (mark_of trees == first) (mark_of (after_one trees) == second) parts.1 in
    record { joint = parts.0; one = eqb-true _ _ marks.0; two = eqb-true _ _ marks.1 }

-- what a colon tells of those before it
behind-colon : (before : Before) (trees : List TokenTree) → mark_of trees ≡ 58 → behind before trees ≡ record { colon = is_joint trees; colons = before.colon; minus = false }
unfolding behind
behind-colon before trees is = rw (is, and_true (is_joint trees), and_true before.colon, and_right (is_joint trees) false refl) refl
  where
    and_true : (b : Bool) → (b && true) ≡ b
    and_true true = refl
    and_true false = refl

-- what no `:` and no `<` that comes next makes into `::` or `::<`
forget : (colon colons : Bool) (angles : ℕ) (trees : List TokenTree) → (colon && is_mark 58 trees) ≡ false → (colons && is_less trees) ≡ false → Holds angles trees
    → ends (record { colon = colon; colons = colons; minus = false }) angles trees ≡ true
unfolding behind angles_behind
forget colon colons angles [] one two h = h
forget colon colons zero (tree ∷ trees) one two h = rw (one, two) h
forget colon colons (suc angles) (tree ∷ trees) one two h = rw one h

-- `:` and no second one
pub colon-step : (angles : ℕ) (trees : List TokenTree) → is_colon trees ≡ true → Holds angles (after_one trees) → Holds angles trees
unfolding is_pair
colon-step angles trees colon h =
    let parts = and_parts (is_mark 58 trees) _ colon in
    let is = mark-is 58 trees parts.0 in
    let less = other-mark 58 60 trees is refl in
    let single : (is_joint trees && is_mark 58 (after_one trees)) ≡ false = (let off = not-true (is_colons trees) parts.1 in rw is at off) in
    step nothing angles trees (few angles trees less)
    (rw (behind-colon nothing trees is, same-angles nothing angles trees less (other-mark 58 62 trees is refl)) (forget (is_joint trees) false angles (after_one trees) single refl h))

-- two colons, whatever they make of what comes next
colons-step : (angles : ℕ) (trees : List TokenTree) → is_colons trees ≡ true
    → ends (record { colon = is_joint (after_one trees); colons = true; minus = false }) angles (after_one (after_one trees)) ≡ true → Holds angles trees
colons-step angles trees colons h =
    let pair = pair-is 58 58 trees colons in
    let next = after_one trees in
    let second = step (record { colon = true; colons = false; minus = false }) angles next (few angles next (other-mark 58 60 next pair.two refl))
    (rw (
      behind-colon (record { colon = true; colons = false; minus = false }) next pair.two,
      same-angles (record { colon = true; colons = false; minus = false }) angles next (other-mark 58 60 next pair.two refl) (other-mark 58 62 next pair.two refl),
    ) h) in
    step nothing angles trees (few angles trees (other-mark 58 60 trees pair.one refl))
    (rw (behind-colon nothing trees pair.one, pair.joint, same-angles nothing angles trees (other-mark 58 60 trees pair.one refl) (other-mark 58 62 trees pair.one refl)) second)

-- `::` before a word
pub join-step : (angles : ℕ) (trees : List TokenTree) → is_colons trees ≡ true → mark_of (after_one (after_one trees)) ≡ 0 → Holds angles (after_one (after_one trees)) → Holds angles trees
join-step angles trees colons word h =
    let rest = after_one (after_one trees) in
    colons-step angles trees colons
    (forget (is_joint (after_one trees)) true angles rest (and_right _ _ (other-mark 0 58 rest word refl)) (other-mark 0 60 rest word refl) h)

open-angles : (before : Before) (angles : ℕ) (trees : List TokenTree) → before.colons ≡ true → is_less trees ≡ true → angles_behind before angles trees ≡ suc angles
unfolding angles_behind
open-angles before zero trees colons less = rw (colons, less) refl
open-angles before (suc angles) trees colons less = rw less refl

-- `::<`
pub turbofish-step : (angles : ℕ) (trees : List TokenTree) → suc angles ≤ max_angles → is_turbofish trees ≡ true → Holds (suc angles) (after_one (after_one (after_one trees))) → Holds angles trees
turbofish-step angles trees fits fish h =
    let parts = and_parts (is_colons trees) _ fish in
    let rest = after_one (after_one trees) in
    let is = mark-is 60 rest parts.1 in
    let before : Before = record { colon = is_joint (after_one trees); colons = true; minus = false } in
    colons-step angles trees parts.0 (step before angles rest (enough angles rest fits)
    (rw (behind-other before rest (other-mark 60 58 rest is refl) (other-mark 60 45 rest is refl), open-angles before angles rest refl parts.1) h))

behind-minus : (trees : List TokenTree) → mark_of trees ≡ 45 → is_joint trees ≡ true → behind nothing trees ≡ record { colon = false; colons = false; minus = true }
unfolding behind
behind-minus trees is joint = rw (is, joint) refl

arrow-angles : (angles : ℕ) (trees : List TokenTree) → mark_of trees ≡ 62 → angles_behind (record { colon = false; colons = false; minus = true }) angles trees ≡ angles
unfolding angles_behind
arrow-angles zero trees is = refl
arrow-angles (suc angles) trees is = rw is refl

-- `->`
pub arrow-step : (angles : ℕ) (trees : List TokenTree) → is_arrow trees ≡ true → Holds angles (after_one (after_one trees)) → Holds angles trees
arrow-step angles trees arrow h =
    let pair = pair-is 45 62 trees arrow in
    let next = after_one trees in
    let before : Before = record { colon = false; colons = false; minus = true } in
    let second = step before angles next (few angles next (other-mark 62 60 next pair.two refl))
    (rw (behind-other before next (other-mark 62 58 next pair.two refl) (other-mark 62 45 next pair.two refl), arrow-angles angles next pair.two) h) in
    step nothing angles trees (few angles trees (other-mark 45 60 trees pair.one refl))
    (rw (behind-minus trees pair.one pair.joint, same-angles nothing angles trees (other-mark 45 60 trees pair.one refl) (other-mark 45 62 trees pair.one refl)) second)
