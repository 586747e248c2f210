-- A text begins with one piece at most.
use Rattle.std.proofs.Common.{◌≡◌, ◌≤◌, [], ◌++◌, length, take, drop, sym, ap, ◌∙◌, subst, arith, length-append}
use Rattle.std.proofs.Math.Seq.{take-append_seam, drop-append_seam}
use Rattle.tok_scan.specs.Characters.{Characters}
use Rattle.tok_scan.specs.Pieces.{IsPieceAt}
use Rattle.tok_scan.specs.Scan.{found, piece}
use Rattle.tok_scan.proofs.Answers.{found-kind, found-length}
use Rattle.tok_scan.proofs.Pieces.{IsPiece-nonempty, piece-complete, piece-found}
use Rattle.tok_scan.specs.declared.kind.Kind.{Kind}

same-found : (k l : Kind) (text f a g b : Characters) → IsPieceAt k text f a → IsPieceAt l text g b → found k (length f) ≡ found l (length g)
same-found k l text f a g b i j = sym (piece-complete k text f a i) ∙ piece-complete l text g b j

pub same-kind : (k l : Kind) (text f a g b : Characters) → IsPieceAt k text f a → IsPieceAt l text g b → k ≡ l
same-kind k l text f a g b i j = found-kind k l (length f) (length g) (same-found k l text f a g b i j)

pub same-length : (k l : Kind) (text f a g b : Characters) → IsPieceAt k text f a → IsPieceAt l text g b → length f ≡ length g
same-length k l text f a g b i j = found-length k l (length f) (length g) (same-found k l text f a g b i j)

pub same-front : (k l : Kind) (text f a g b : Characters) → IsPieceAt k text f a → IsPieceAt l text g b → f ≡ g
same-front k l text f a g b i j =
    sym (take-append_seam f a)
    ∙ ap (take (length f)) (sym i.split ∙ j.split)
    ∙ ap (λ n. take n (g ++ b)) (same-length k l text f a g b i j)
    ∙ take-append_seam g b

pub same-after : (k l : Kind) (text f a g b : Characters) → IsPieceAt k text f a → IsPieceAt l text g b → a ≡ b
same-after k l text f a g b i j =
    sym (drop-append_seam f a)
    ∙ ap (drop (length f)) (sym i.split ∙ j.split)
    ∙ ap (λ n. drop n (g ++ b)) (same-length k l text f a g b i j)
    ∙ drop-append_seam g b

-- a piece has a character
pub IsPieceAt-nonempty : (k : Kind) (text front after : Characters) → IsPieceAt k text front after → 1 ≤ length front
IsPieceAt-nonempty k text front after i = IsPiece-nonempty k front after i.piece

-- no piece stands at the end of a text
pub no-IsPieceAt-nil : (k : Kind) (front after : Characters) → IsPieceAt k [] front after → ⊥
no-IsPieceAt-nil k front after i = omega (arith, IsPieceAt-nonempty k [] front after i, ap length i.split, length-append front after)

-- what is found is a piece there
pub IsPieceAt-found : (k : Kind) (front after : Characters) → piece (front ++ after) ≡ found k (length front) → IsPieceAt k (front ++ after) front after
IsPieceAt-found k front after h =
    let i = piece-found (front ++ after) (record { kind = k; length = length front }) h in
    let P : Characters → Type 0 = λ f. IsPieceAt k (front ++ after) f after in
    let Q : Characters → Type 0 = λ a. IsPieceAt k (front ++ after) (take (length front) (front ++ after)) a in
    subst P (take-append_seam front after) (subst Q (drop-append_seam front after) i)
