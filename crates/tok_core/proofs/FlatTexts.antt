-- The text of tokens, read from their flat tokens.
use Rattle.std.proofs.Common.{◌≡◌, ℕ, Bool, true, false, ◌||◌, List, [], ◌∷◌, ◌++◌, refl, sym, ap, ◌∙◌, append_assoc}
use Rattle.std.proofs.lemmas.List.{append-nil}
use Rattle.std.specs.Str.{encode_utf8_all}
use Rattle.tok_scan.specs.Characters as characters
use Rattle.tok_core.specs.Flat.{Flat, token, opening, closing, Tree, Trees, leaf, branch, no_trees, more_trees, flat_of, flats_of, end_of}
use Rattle.tok_core.specs.Printing.{token_text, joins, tree_joins, between, text_of, texts_of}

-- the bytes of a flat token
abbrev pub flat_bytes : Flat → List ℕ
flat_bytes (token it) = token_text it
flat_bytes (opening d place) = encode_utf8_all (characters.opening d)
flat_bytes (closing d place) = encode_utf8_all (characters.closing d)

-- no space stands before it, or after it
abbrev pub closes : Flat → Bool
closes (token it) = false
closes (opening d place) = false
closes (closing d place) = true

abbrev pub joins_next : Flat → Bool
joins_next (token it) = joins it
joins_next (opening d place) = true
joins_next (closing d place) = false

-- the text of flat tokens, the first of which is joined to what is before it, or not
abbrev pub flat_text : Bool → List Flat → List ℕ
flat_text joint [] = []
flat_text joint (f ∷ fs) = between (joint || closes f) ++ (flat_bytes f ++ flat_text (joins_next f) fs)

-- whether what follows trees is joined to them
abbrev last_joins : Bool → Trees → Bool
last_joins joint no_trees = joint
last_joins joint (more_trees t ts) = last_joins (tree_joins t) ts

or_false : (b : Bool) → (b || false) ≡ b
or_false true = refl
or_false false = refl

or_true : (b : Bool) → (b || true) ≡ true
or_true true = refl
or_true false = refl

mutual
  flat_text-tree : (t : Tree) (joint : Bool) (fs : List Flat)
      → flat_text joint (flat_of t ++ fs) ≡ between joint ++ (text_of t ++ flat_text (tree_joins t) fs)
  flat_text-tree (leaf it) joint fs = ap (λ b. between b ++ (token_text it ++ flat_text (joins it) fs)) (or_false joint)
  flat_text-tree (branch d ts span) joint fs =
      let closed = closing d (end_of span) in
      let left = encode_utf8_all (characters.opening d) in
      let right = encode_utf8_all (characters.closing d) in
      let inside : flat_text true ((flats_of ts ++ closed ∷ []) ++ fs) ≡ (texts_of true ts ++ right) ++ flat_text false fs =
      ap (flat_text true) (append_assoc (flats_of ts) (closed ∷ []) fs)
      ∙ flat_text-trees ts true (closed ∷ fs)
      ∙ ap (λ b. texts_of true ts ++ (between b ++ (right ++ flat_text false fs))) (or_true (last_joins true ts))
      ∙ sym (append_assoc (texts_of true ts) right (flat_text false fs)) in
      ap (λ b. between b ++ (left ++ flat_text true ((flats_of ts ++ closed ∷ []) ++ fs))) (or_false joint)
      ∙ ap (λ text. between joint ++ (left ++ text)) inside
      ∙ ap (λ text. between joint ++ text) (sym (append_assoc left (texts_of true ts ++ right) (flat_text false fs)))

  flat_text-trees : (ts : Trees) (joint : Bool) (fs : List Flat)
      → flat_text joint (flats_of ts ++ fs) ≡ texts_of joint ts ++ flat_text (last_joins joint ts) fs
  flat_text-trees no_trees joint fs = refl
  flat_text-trees (more_trees t ts) joint fs =
      let after = flat_text (last_joins (tree_joins t) ts) fs in
      ap (flat_text joint) (append_assoc (flat_of t) (flats_of ts) fs)
      ∙ flat_text-tree t joint (flats_of ts ++ fs)
      ∙ ap (λ text. between joint ++ (text_of t ++ text)) (flat_text-trees ts (tree_joins t) fs)
      ∙ ap (λ text. between joint ++ text) (sym (append_assoc (text_of t) (texts_of (tree_joins t) ts) after))
      ∙ sym (append_assoc (between joint) (text_of t ++ texts_of (tree_joins t) ts) after)

-- the text of trees is that of their flat tokens
pub texts_of-flat : (ts : Trees) → texts_of true ts ≡ flat_text true (flats_of ts)
texts_of-flat ts =
    sym (ap (flat_text true) (sym (append-nil (flats_of ts))) ∙ flat_text-trees ts true [] ∙ append-nil (texts_of true ts))
