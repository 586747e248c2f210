-- White space and delimiters are found, and what is found as such is.
use Rattle.std.proofs.Common.{◌≡◌, ℕ, ◌<◌, ◌≤◌, true, [], ◌∷◌, length, refl, sym, ap, ◌∙◌, arith}
use Rattle.tok_scan.specs.Characters.{Characters, is_white, opening, closing}
use Rattle.tok_scan.specs.Pieces.{IsPiece}
use Rattle.tok_scan.proofs.Answers.{Finds, Finds-one, Sound, front-head}
use Rattle.tok_scan.proofs.Heads.{head_of-white, head_of-open, head_of-close}
use Rattle.tok_types.specs.declared.tree.Delimiter.{Delimiter}
use Rattle.tok_types.specs.declared.tree.Delimiter.TheVariants as delimiter
use Rattle.tok_scan.specs.declared.kind.Kind.TheVariants as kind
use Rattle.tok_scan.specs.declared.scan.Head.TheVariants as head

pub Finds-white : (front after : Characters) → IsPiece kind.White front after → Finds kind.White front after
Finds-white front after h = Finds-one kind.White h.0 front after h.1 (front-head h.0 after head.White (head_of-white h.0 h.2))

pub Sound-white : (c : ℕ) (after : Characters) → is_white c ≡ true → Sound (c ∷ after) (record { kind = kind.White; length = 1 })
Sound-white c after h = record { front = c ∷ []; after = after; split = refl; size = refl; piece = (c, refl, h) }

-- a text that is not empty, and one character long at most
one : (front text : Characters) → front ≡ text → 0 < length front → length text ≤ 1 → (c : ℕ) × (front ≡ c ∷ [])
one [] text e h k = absurd (omega arith)
one (c ∷ []) text e h k = (c, refl)
one (c ∷ d ∷ front) text e h k = absurd (omega (arith, ap length e))

opening-short : (d : Delimiter) → length (opening d) ≤ 1
opening-short delimiter.Parenthesis = omega arith
opening-short delimiter.Bracket = omega arith
opening-short delimiter.Brace = omega arith
opening-short delimiter.None = omega arith

closing-short : (d : Delimiter) → length (closing d) ≤ 1
closing-short delimiter.Parenthesis = omega arith
closing-short delimiter.Bracket = omega arith
closing-short delimiter.Brace = omega arith
closing-short delimiter.None = omega arith

pub Finds-open : (d : Delimiter) (front after : Characters) → IsPiece (kind.Open d) front after → Finds (kind.Open d) front after
Finds-open d front after h =
    let f = one front (opening d) h.0 h.1 (opening-short d) in
    Finds-one (kind.Open d) f.0 front after f.1 (front-head f.0 after (head.Open d) (head_of-open d f.0 (sym f.1 ∙ h.0)))

pub Finds-close : (d : Delimiter) (front after : Characters) → IsPiece (kind.Close d) front after → Finds (kind.Close d) front after
Finds-close d front after h =
    let f = one front (closing d) h.0 h.1 (closing-short d) in
    Finds-one (kind.Close d) f.0 front after f.1 (front-head f.0 after (head.Close d) (head_of-close d f.0 (sym f.1 ∙ h.0)))

pub Sound-open : (d : Delimiter) (c : ℕ) (after : Characters) → c ∷ [] ≡ opening d → Sound (c ∷ after) (record { kind = kind.Open d; length = 1 })
Sound-open d c after h = record { front = c ∷ []; after = after; split = refl; size = refl; piece = (h, omega arith) }

pub Sound-close : (d : Delimiter) (c : ℕ) (after : Characters) → c ∷ [] ≡ closing d → Sound (c ∷ after) (record { kind = kind.Close d; length = 1 })
Sound-close d c after h = record { front = c ∷ []; after = after; split = refl; size = refl; piece = (h, omega arith) }
