-- What the row of answers is before one more token.
use Rattle.std.proofs.Common.{◌≡◌, ℕ, zero, suc, ◌+◌, ◌≤◌, Bool, true, false, ◌&&◌, not, ◌==◌, if◌then◌else◌, List, [], ◌∷◌, take, drop, slice_index_or, refl, arith, sym, subst, ◌∙◌, length-drop}
use Rattle.std.proofs.lemmas.Grind.{get_or_after_one}
use Rattle.std.proofs.lemmas.List.{get_or_past, get_or-take, length-take}
use Rattle.std.proofs.Math.Bool.{and-false, and-true}
use Rattle.tok_types.specs.declared.tree.TokenTree.{TokenTree}
use Rattle.syn_grammar.specs.Token.{is_comma, is_greater, is_less}
use Rattle.law_angles.specs.Ends.{Before, behind, ends, max_angles}
use Rattle.meta_nested.specs.declared.angles.Role.{Role}
use Rattle.meta_nested.specs.declared.angles.Role.TheVariants as role
use Rattle.meta_nested.specs.declared.angles.Row.{Row}
use Rattle.meta_nested.specs.Angles.{RowTells, role_of}

-- ---- what a role says of the token

-- by whether it is a comma, a `<`, a `<` behind two colons, a `>` that ends no arrow
abbrev Says : Role → Bool → Bool → Bool → Bool → Type 0
Says role.Comma comma less colons greater = comma ≡ true
Says role.Turbofish comma less colons greater = (comma ≡ false) × (less ≡ true) × (colons ≡ true)
Says role.Less comma less colons greater = (comma ≡ false) × (less ≡ true) × (colons ≡ false)
Says role.Greater comma less colons greater = (comma ≡ false) × (less ≡ false) × (greater ≡ true)
Says role.Other comma less colons greater = (comma ≡ false) × (less ≡ false) × (greater ≡ false)

abbrev Seen : Role → Before → List TokenTree → Type 0
Seen it before trees = Says it (is_comma trees) (is_less trees) before.colons (is_greater trees && not before.minus)

seen : (before : Before) (trees : List TokenTree) → Seen (role_of before trees) before trees
seen before trees = go (is_comma trees) (is_less trees) before.colons (is_greater trees && not before.minus)
  where
    go : (comma less colons greater : Bool) → Says (if comma then role.Comma else if less then (if colons then role.Turbofish else role.Less) else if greater then role.Greater else role.Other) comma less colons greater
    go true less colons greater = refl
    go false true true greater = (refl, refl, refl)
    go false true false greater = (refl, refl, refl)
    go false false colons true = (refl, refl, refl)
    go false false colons false = (refl, refl, refl)

-- what is so of the token that has the role
seen-as : (it : Role) (before : Before) (trees : List TokenTree) → it ≡ role_of before trees → Seen it before trees
seen-as it before trees is = subst (λ it. Seen it before trees) (sym is) (seen before trees)

some-open : (angles : ℕ) → (suc angles == 0) ≡ false
some-open angles = grind arith

-- a comma is no angle
no_angle : (trees : List TokenTree) → is_comma trees ≡ true → (is_less trees ≡ false) × (is_greater trees ≡ false)
no_angle trees e = (grind arith, grind arith)

-- ---- the walk over one token

-- no angle is open
ends-none : (before : Before) (tree : TokenTree) (trees : List TokenTree) (comma turbofish : Bool) → is_comma (tree ∷ trees) ≡ comma → (before.colons && is_less (tree ∷ trees)) ≡ turbofish
    → ends before 0 (tree ∷ trees) ≡ (if comma then true else ends (behind before (tree ∷ trees)) (if turbofish then 1 else 0) trees)
unfolding Rattle.law_angles.specs.Ends.angles_behind
ends-none before tree trees comma turbofish e f = rw (e, f) refl

-- some are, and a `<` comes
less-on : (before : Before) (tree : TokenTree) (trees : List TokenTree) (angles : ℕ) → is_less (tree ∷ trees) ≡ true
    → ends before (suc angles) (tree ∷ trees) ≡ (if suc angles == max_angles then false else ends (behind before (tree ∷ trees)) (suc (suc angles)) trees)
unfolding Rattle.law_angles.specs.Ends.angles_behind
less-on before tree trees angles e = rw (some-open angles, e, and-true (suc angles == max_angles)) refl

-- some are, and no `<` comes
greater-on : (before : Before) (tree : TokenTree) (trees : List TokenTree) (angles : ℕ) (greater : Bool) → is_less (tree ∷ trees) ≡ false → (is_greater (tree ∷ trees) && not before.minus) ≡ greater
    → ends before (suc angles) (tree ∷ trees) ≡ ends (behind before (tree ∷ trees)) (if greater then angles else suc angles) trees
unfolding Rattle.law_angles.specs.Ends.angles_behind
greater-on before tree trees angles greater e f = rw (some-open angles, e, f, and-false (suc angles == max_angles)) refl

-- ---- the row before one more token

-- nothing is left
pub row-end : (before : Before) (trees : List TokenTree) → trees ≡ [] → RowTells before trees (record { none = true; some = [] })
row-end before trees e = rw e (record { fits = omega arith; each = each })
  where
    each : (angles : ℕ) → angles ≤ max_angles → slice_index_or (true ∷ []) angles false ≡ ends before angles []
    each zero h = refl
    each (suc angles) h = sym (some-open angles)

module _ (before : Before) (tree : TokenTree) (trees : List TokenTree) (row : Row) (tells : RowTells (behind before (tree ∷ trees)) trees row) where
  -- no angle: what is answered where some are open stays
  stays : is_less (tree ∷ trees) ≡ false → (is_greater (tree ∷ trees) && not before.minus) ≡ false → (angles : ℕ) → suc angles ≤ max_angles → slice_index_or row.some angles false ≡ ends before (suc angles) (tree ∷ trees)
  stays e f angles h = tells.each (suc angles) h ∙ sym (greater-on before tree trees angles false e f)

  -- a `<`: what was answered for one more
  shifts : is_less (tree ∷ trees) ≡ true → (angles : ℕ) → suc angles ≤ max_angles → slice_index_or (drop 1 row.some) angles false ≡ ends before (suc angles) (tree ∷ trees)
  shifts e angles h = get_or_after_one row.some angles false ∙ go (suc angles == max_angles) refl ∙ sym (less-on before tree trees angles e)
    where
      go : (b : Bool) → (suc angles == max_angles) ≡ b → slice_index_or row.some (1 + angles) false ≡ (if b then false else ends (behind before (tree ∷ trees)) (suc (suc angles)) trees)
      go true is = let same : suc angles ≡ max_angles = grind arith in get_or_past row.some (1 + angles) false (let fits = tells.fits in omega arith)
      go false is =
          let more : suc (suc angles) ≤ max_angles = grind arith in
          let same : 1 + angles ≡ suc angles = omega arith in
          rw same (tells.each (suc (suc angles)) more)

  -- each role
  pub row-comma : role.Comma ≡ role_of before (tree ∷ trees) → RowTells before (tree ∷ trees) (record { none = true; some = row.some })
  row-comma is = record { fits = tells.fits; each = each }
    where
      comma : is_comma (tree ∷ trees) ≡ true
      comma = seen-as role.Comma before (tree ∷ trees) is

      each : (angles : ℕ) → angles ≤ max_angles → slice_index_or (true ∷ row.some) angles false ≡ ends before angles (tree ∷ trees)
      each zero h = sym (ends-none before tree trees true _ comma refl)
      each (suc angles) h = let none = no_angle (tree ∷ trees) comma in stays none.0 (rw none.1 refl) angles h

  pub row-turbofish : role.Turbofish ≡ role_of before (tree ∷ trees) → RowTells before (tree ∷ trees) (record { none = slice_index_or row.some 0 false; some = drop 1 row.some })
  row-turbofish is = record { fits = let fits = tells.fits in omega (arith, length-drop 1 row.some); each = each }
    where
      is_so : Seen role.Turbofish before (tree ∷ trees)
      is_so = seen-as role.Turbofish before (tree ∷ trees) is

      each : (angles : ℕ) → angles ≤ max_angles → slice_index_or (slice_index_or row.some 0 false ∷ drop 1 row.some) angles false ≡ ends before angles (tree ∷ trees)
      each zero h = tells.each 1 (omega arith) ∙ sym (ends-none before tree trees false true is_so.0 (rw (is_so.1, is_so.2) refl))
      each (suc angles) h = shifts is_so.1 angles h

  pub row-less : role.Less ≡ role_of before (tree ∷ trees) → RowTells before (tree ∷ trees) (record { none = row.none; some = drop 1 row.some })
  row-less is = record { fits = let fits = tells.fits in omega (arith, length-drop 1 row.some); each = each }
    where
      is_so : Seen role.Less before (tree ∷ trees)
      is_so = seen-as role.Less before (tree ∷ trees) is

      each : (angles : ℕ) → angles ≤ max_angles → slice_index_or (row.none ∷ drop 1 row.some) angles false ≡ ends before angles (tree ∷ trees)
      each zero h = tells.each 0 h ∙ sym (ends-none before tree trees false false is_so.0 (rw is_so.2 refl))
      each (suc angles) h = shifts is_so.1 angles h

  pub row-greater : role.Greater ≡ role_of before (tree ∷ trees) → RowTells before (tree ∷ trees) (record { none = row.none; some = take max_angles (row.none ∷ row.some) })
  row-greater is = record { fits = omega (arith, length-take max_angles (row.none ∷ row.some)); each = each }
    where
      is_so : Seen role.Greater before (tree ∷ trees)
      is_so = seen-as role.Greater before (tree ∷ trees) is

      each : (angles : ℕ) → angles ≤ max_angles → slice_index_or (row.none ∷ take max_angles (row.none ∷ row.some)) angles false ≡ ends before angles (tree ∷ trees)
      each zero h = tells.each 0 h ∙ sym (ends-none before tree trees false false is_so.0 (rw (is_so.1, and-false before.colons) refl))
      each (suc angles) h =
          get_or-take max_angles (row.none ∷ row.some) angles false (omega arith) ∙ tells.each angles (omega arith) ∙ sym (greater-on before tree trees angles true is_so.1 is_so.2)

  pub row-other : role.Other ≡ role_of before (tree ∷ trees) → RowTells before (tree ∷ trees) row
  row-other is = record { fits = tells.fits; each = each }
    where
      is_so : Seen role.Other before (tree ∷ trees)
      is_so = seen-as role.Other before (tree ∷ trees) is

      each : (angles : ℕ) → angles ≤ max_angles → slice_index_or (row.none ∷ row.some) angles false ≡ ends before angles (tree ∷ trees)
      each zero h = tells.each 0 h ∙ sym (ends-none before tree trees false false is_so.0 (rw (is_so.1, and-false before.colons) refl))
      each (suc angles) h = stays is_so.1 is_so.2 angles h
