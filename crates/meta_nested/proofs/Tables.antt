-- What the table says at each place of a list.
use Rattle.std.proofs.Common.{◌≡◌, ◌⊎◌, inl, inr, ℕ, zero, suc, ◌+◌, ◌-◌, ◌≤◌, ◌<◌, Bool, true, List, [], ◌∷◌, ◌++◌, length, drop, Some, slice_get, refl, arith, sym, ap, ◌∙◌, add-one, length-append}
use Rattle.std.proofs.lemmas.Bool.{cases_lt}
use Rattle.std.proofs.lemmas.List.{drop_all}
use Rattle.tok_types.specs.declared.tree.TokenTree.{TokenTree}
use Rattle.law_angles.specs.Ends.{Before, behind, ends, nothing}
use Rattle.meta_nested.specs.declared.angles.Role.{Role}
use Rattle.meta_nested.specs.declared.angles.Row.{Row}
use Rattle.meta_nested.specs.Angles.{RowTells, Tells, before_at, role_of}
use Rattle.meta_nested.proofs.Before.{value-at}
use Rattle.meta_nested.proofs.Rows.{row-end}

-- whether the angles close from the place on where so many tokens are left
abbrev pub ends_at : List TokenTree → ℕ → Bool
ends_at trees left = ends (before_at nothing (length trees - left) trees) 0 (drop (length trees - left) trees)

-- the table says so at each place where at most so many are left
abbrev pub TellsUpTo : List Bool → List TokenTree → ℕ → Type 0
TellsUpTo table trees left = (count : ℕ) → count ≤ left → slice_get table count ≡ Some (ends_at trees count)

get-left : (table : List Bool) (end : Bool) (count : ℕ) → count < length table → slice_get (table ++ end ∷ []) count ≡ slice_get table count
get-left [] end count h = absurd (omega arith)
get-left (one ∷ table) end zero h = refl
get-left (one ∷ table) end (suc count) h = get-left table end count (omega arith)

get-last : (table : List Bool) (end : Bool) (count : ℕ) → count ≡ length table → slice_get (table ++ end ∷ []) count ≡ Some end
get-last [] end zero h = refl
get-last [] end (suc count) h = absurd (omega arith)
get-last (one ∷ table) end zero h = absurd (omega arith)
get-last (one ∷ table) end (suc count) h = get-last table end count (omega arith)

-- one place more
pub table-more : (table : List Bool) (trees : List TokenTree) (left : ℕ) (end : Bool) → length table ≡ suc left → TellsUpTo table trees left → end ≡ ends_at trees (suc left) → TellsUpTo (table ++ end ∷ []) trees (suc left)
table-more table trees left end size tells is count h = go (cases_lt left count)
  where
    go : (left < count) ⊎ (count ≤ left) → slice_get (table ++ end ∷ []) count ≡ Some (ends_at trees count)
    go (inl above) =
        let same : count ≡ suc left = omega arith in
        rw same (get-last table end (suc left) (omega arith) ∙ ap Some is)
    go (inr within) = get-left table end count (omega arith) ∙ tells count within

-- the end of the list
pub table-end : (trees : List TokenTree) → TellsUpTo (true ∷ []) trees 0
table-end trees zero h = ap Some (sym (none (before_at nothing (length trees - 0) trees) _ (drop_all (length trees - 0) trees (omega arith))))
  where
    none : (before : Before) (rest : List TokenTree) → rest ≡ [] → ends before 0 rest ≡ true
    none before rest e = rw e refl
table-end trees (suc count) h = absurd (omega arith)

-- what it says of values
pub tells-of : (table : List Bool) (trees : List TokenTree) → TellsUpTo table trees (length trees) → Tells table trees
tells-of table trees tells = record {
  each = λ front value equals is e.
      let sizes : length trees ≡ length front + suc (length value) = ap length is ∙ length-append front (equals ∷ value) in
      let place : length trees - length value ≡ suc (length front) = omega arith in
      let there = value-at nothing front value equals e in
      let here : ends_at trees (length value) ≡ ends nothing 0 value = rw place (rw is (rw (there.0, there.1) refl)) in
      tells (length value) (omega arith) ∙ ap Some here;
}

-- a row is that of the place before, if it is made so
pub row-before : (before : Before) (index : ℕ) (trees : List TokenTree) (it : Role) (row new : Row) → index < length trees → it ≡ role_of (before_at before index trees) (drop index trees)
    → ((before : Before) (tree : TokenTree) (trees : List TokenTree) → it ≡ role_of before (tree ∷ trees) → RowTells (behind before (tree ∷ trees)) trees row → RowTells before (tree ∷ trees) new)
    → RowTells (before_at before (suc index) trees) (drop (suc index) trees) row → RowTells (before_at before index trees) (drop index trees) new
row-before before index [] it row new h is step tells = absurd (omega arith)
row-before before zero (tree ∷ trees) it row new h is step tells = step before tree trees is tells
row-before before (suc index) (tree ∷ trees) it row new h is step tells = row-before (behind before (tree ∷ trees)) index trees it row new (omega arith) is step tells

-- the row and the table where so many tokens are left
pub record Reached (trees : List TokenTree) (left : ℕ) (row : Row) (table : List Bool) : Type 0 where
  pub tells : RowTells (before_at nothing (length trees - left) trees) (drop (length trees - left) trees) row
  pub size : length table ≡ suc left
  pub places : TellsUpTo table trees left

-- at the end of the list
pub reached-end : (trees : List TokenTree) → Reached trees 0 (record { none = true; some = [] }) (true ∷ [])
reached-end trees = record {
  tells = row-end (before_at nothing (length trees - 0) trees) (drop (length trees - 0) trees) (drop_all (length trees - 0) trees (omega arith));
  size = omega arith;
  places = table-end trees;
}

-- one token before
pub reached-more : (trees : List TokenTree) (left : ℕ) (it : Role) (row new : Row) (table : List Bool) → left < length trees
    → it ≡ role_of (before_at nothing (length trees - left - 1) trees) (drop (length trees - left - 1) trees)
    → ((before : Before) (tree : TokenTree) (trees : List TokenTree) → it ≡ role_of before (tree ∷ trees) → RowTells (behind before (tree ∷ trees)) trees row → RowTells before (tree ∷ trees) new)
    → Reached trees left row table → Reached trees (left + 1) new (table ++ new.none ∷ [])
reached-more trees left it row new table below is step reached =
    let on : suc (length trees - left - 1) ≡ length trees - left = omega (arith, below) in
    let place : length trees - suc left ≡ length trees - left - 1 = omega arith in
    let there : RowTells (before_at nothing (length trees - suc left) trees) (drop (length trees - suc left) trees) new =
    rw place (row-before nothing (length trees - left - 1) trees it row new (omega (arith, below)) is step (rw on reached.tells)) in
    rw add-one (record {
      tells = there;
      size = omega (arith, length-append table (new.none ∷ []), reached.size);
      places = table-more table trees left new.none reached.size reached.places (there.each 0 (omega arith));
    })
