-- The delimiters of a text are places of it.
use Rattle.std.proofs.Common.{◌≡◌, ℕ, List, [], ◌∷◌, ◌++◌, Some, refl}
use Rattle.std.specs.List.{AllByRecursion}
use Rattle.tok_scan.specs.Characters.{Characters}
use Rattle.tok_scan.specs.declared.kind.Kind.{Kind}
use Rattle.tok_scan.specs.declared.kind.Kind.TheVariants as kind
use Rattle.tok_core.specs.Flat.{Flat, token, opening, closing}
use Rattle.tok_core.specs.Spells.{Piece, kept, token_of, tokens_of}

-- A delimiter is at a place of the text with this number.
abbrev pub IsPlaced : ℕ → Flat → Type 0
IsPlaced source (token it) = Unit {0}
IsPlaced source (opening d place) = (start : ℕ) × (place ≡ Some (source, start))
IsPlaced source (closing d place) = (end : ℕ) × (place ≡ Some (source, end))

pub all_append : (P : Flat → Type 0) (fs gs : List Flat) → AllByRecursion P fs → AllByRecursion P gs → AllByRecursion P (fs ++ gs)
all_append P [] gs h k = k
all_append P (f ∷ fs) gs h k = (h.0, all_append P fs gs h.1 k)

IsPlaced-token_of : (source : ℕ) (k : Kind) (text : Characters) (start end : ℕ) → AllByRecursion (IsPlaced source) (token_of source k text start end)
IsPlaced-token_of source kind.White text start end = tt
IsPlaced-token_of source kind.Comment text start end = tt
IsPlaced-token_of source kind.Doc text start end = (tt, ((start, refl), (tt, (tt, (tt, ((end, refl), tt))))))
IsPlaced-token_of source kind.Ident text start end = (tt, tt)
IsPlaced-token_of source kind.RawIdent text start end = (tt, tt)
IsPlaced-token_of source kind.Lifetime text start end = (tt, tt)
IsPlaced-token_of source (kind.Mark joint) text start end = (tt, tt)
IsPlaced-token_of source kind.Literal text start end = (tt, tt)
IsPlaced-token_of source (kind.Open d) text start end = ((start, refl), tt)
IsPlaced-token_of source (kind.Close d) text start end = ((end, refl), tt)

pub IsPlaced-tokens_of : (source : ℕ) (ps : List Piece) → AllByRecursion (IsPlaced source) (tokens_of source ps)
IsPlaced-tokens_of source [] = tt
IsPlaced-tokens_of source (p ∷ ps) =
    all_append (IsPlaced source) (token_of source p.kind (kept p.kind p.text p.after) p.start p.end) (tokens_of source ps)
    (IsPlaced-token_of source p.kind (kept p.kind p.text p.after) p.start p.end) (IsPlaced-tokens_of source ps)
