-- The content of a string, step by step.
use Rattle.std.proofs.Common.{◌≡◌, ℕ, zero, suc, ◌+◌, ◌<◌, Bool, true, false, cond, eqb, List, [], ◌∷◌, ◌++◌, length, drop, slice_index, append_assoc, refl, sym, ap, ◌∙◌, arith, drop-drop}
use Rattle.tok_scan.specs.Scan.{item_length}
use Rattle.tok_scan.proofs.Lists.{drop-at}
use Rattle.tok_lit.specs.Reading.{escaped, unescaped}

-- what is read already is left out
pub unescaped-skip : (byte : Bool) (n : ℕ) (cs : List ℕ) → unescaped byte n cs ≡ unescaped byte 0 (drop n cs)
unescaped-skip byte zero cs = refl
unescaped-skip byte (suc n) [] = refl
unescaped-skip byte (suc n) (c ∷ cs) = unescaped-skip byte n cs

-- what is left behind the item whose backslash stands at a place
abbrev pub after_item : Bool → List ℕ → ℕ → List ℕ
after_item byte z i = unescaped byte 0 (drop (i + (1 + item_length byte (drop (i + 1) z))) z)

pub unescaped-at : (byte : Bool) (z : List ℕ) (i : ℕ) → i < length z → unescaped byte 0 (drop i z)
    ≡ cond (eqb (slice_index z i) 92)
    (cond (eqb (slice_index (drop (i + 1) z) 0) 10) (after_item byte z i) (escaped (drop (i + 1) z) ∷ after_item byte z i))
    (slice_index z i ∷ unescaped byte 0 (drop (i + 1) z))
unescaped-at byte z i h =
    let cs = drop (i + 1) z in
    let n = item_length byte cs in
    let places : i + 1 + n ≡ i + (1 + n) = omega arith in
    let skip : unescaped byte n cs ≡ after_item byte z i =
    unescaped-skip byte n cs ∙ ap (unescaped byte 0) (drop-drop n (i + 1) z) ∙ ap (λ k. unescaped byte 0 (drop k z)) places in
    ap (unescaped byte 0) (drop-at z i h)
    ∙ ap (λ u. cond (eqb (slice_index z i) 92) (cond (eqb (slice_index cs 0) 10) u (escaped cs ∷ u)) (slice_index z i ∷ unescaped byte 0 cs)) skip

module _ (byte : Bool) (z : List ℕ) (i : ℕ) (v whole : List ℕ) (h : i < length z) (before : v ++ unescaped byte 0 (drop i z) ≡ whole) where
  more : (x : ℕ) (rest : List ℕ) → unescaped byte 0 (drop i z) ≡ x ∷ rest → (v ++ x ∷ []) ++ rest ≡ whole
  more x rest e = append_assoc v (x ∷ []) rest ∙ ap (λ u. v ++ u) (sym e) ∙ before

  -- one step at a character that stands for itself
  pub unescaped-plain : eqb (slice_index z i) 92 ≡ false → (v ++ slice_index z i ∷ []) ++ unescaped byte 0 (drop (i + 1) z) ≡ whole
  unescaped-plain plain = more _ _ (unescaped-at byte z i h ∙ rw plain refl)

  -- one step at an escape
  pub unescaped-escape : eqb (slice_index z i) 92 ≡ true → eqb (slice_index (drop (i + 1) z) 0) 10 ≡ false
      → (v ++ escaped (drop (i + 1) z) ∷ []) ++ after_item byte z i ≡ whole
  unescaped-escape slash other = more _ _ (unescaped-at byte z i h ∙ rw (slash, other) refl)

  -- one step at a backslash before a line feed
  pub unescaped-dropped : eqb (slice_index z i) 92 ≡ true → eqb (slice_index (drop (i + 1) z) 0) 10 ≡ true → v ++ after_item byte z i ≡ whole
  unescaped-dropped slash line = ap (λ u. v ++ u) (sym (unescaped-at byte z i h ∙ rw (slash, line) refl)) ∙ before
