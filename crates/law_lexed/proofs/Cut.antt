-- The computed pieces of a text are those that stand in it.
use Rattle.std.proofs.Common.{◌≡◌, ℕ, zero, suc, ◌+◌, ◌≤◌, List, [], ◌∷◌, length, take, drop, Option, Some, option_map, option_and_then, refl, sym, ap, ◌∙◌, subst, arith, length-append}
use Rattle.std.proofs.Math.Seq.{take-append_seam, drop-append_seam}
use Rattle.std.proofs.lemmas.Option.{option_and_then_some}
use Rattle.std.specs.Str.{encode_utf8_all}
use Rattle.tok_scan.proofs.OnePiece.{IsPieceAt-nonempty, no-IsPieceAt-nil}
use Rattle.tok_scan.proofs.Pieces.{piece-complete, piece-found}
use Rattle.tok_scan.specs.Characters.{Characters}
use Rattle.tok_scan.specs.Pieces.{IsPieceAt}
use Rattle.tok_scan.specs.Scan.{piece}
use Rattle.tok_scan.specs.declared.kind.Kind.{Kind}
use Rattle.tok_core.specs.Spells.{Piece, Stand}
use Rattle.law_lexed.specs.Lexed.{found_piece, first_piece, pieces}
use Rattle.law_lexed.proofs.Options.{option_map-some}

-- the piece that stands first, and those after it
abbrev and_more : (ℕ → Characters → Option (List Piece)) → Piece → Option (List Piece)
and_more pieces first = option_map (λ more. first ∷ more) (pieces first.end first.after)

-- ---- what is computed stands there

first_piece-stands : (start : ℕ) (text : Characters) (p : Piece) → first_piece start text ≡ Some p
    → (p.start ≡ start) × (p.end ≡ start + length (encode_utf8_all p.text)) × IsPieceAt p.kind text p.text p.after
first_piece-stands start text p h =
    option_map-some (found_piece start text) (piece text) p h (λ found is same.
    let P : Piece → Type 0 = λ p. (p.start ≡ start) × (p.end ≡ start + length (encode_utf8_all p.text)) × IsPieceAt p.kind text p.text p.after in
    subst P same (refl, refl, piece-found text found is))

pub pieces-stand : (count start : ℕ) (text : Characters) (ps : List Piece) → pieces count start text ≡ Some ps → (end : ℕ) × Stand start text ps end []
pieces-stand count start [] [] h = (start, (refl, refl))
pieces-stand count start [] (p ∷ ps) h = absurd (cc)
pieces-stand zero start (c ∷ cs) ps h = absurd (cc)
pieces-stand (suc count) start (c ∷ cs) ps h =
    option_and_then_some (and_more (pieces count)) (first_piece start (c ∷ cs)) ps h (λ first is those.
    option_map-some (λ more. first ∷ more) (pieces count first.end first.after) ps those (λ more cut same.
    let here = first_piece-stands start (c ∷ cs) first is in
    let rest = pieces-stand count first.end first.after more cut in
    subst (λ (ps : List Piece). (end : ℕ) × Stand start (c ∷ cs) ps end []) same (rest.0, (here.0, here.1, here.2, rest.1))))

-- ---- what stands there is computed

same_piece : (k : Kind) (f g a b : Characters) (m n s t : ℕ) → f ≡ g → a ≡ b → m ≡ n → s ≡ t
    → ◌≡◌ {A = Piece} (record { kind = k; text = f; after = a; start = m; end = s }) (record { kind = k; text = g; after = b; start = n; end = t })
same_piece k f g a b m n s t front after start end = cc (front, after, start, end)

first_piece-is : (start : ℕ) (text : Characters) (p : Piece) → p.start ≡ start → p.end ≡ start + length (encode_utf8_all p.text) → IsPieceAt p.kind text p.text p.after
    → first_piece start text ≡ Some p
first_piece-is start text p s e i =
    let front : take (length p.text) text ≡ p.text = ap (take (length p.text)) i.split ∙ take-append_seam p.text p.after in
    let after : drop (length p.text) text ≡ p.after = ap (drop (length p.text)) i.split ∙ drop-append_seam p.text p.after in
    let end : start + length (encode_utf8_all (take (length p.text) text)) ≡ p.end = ap (λ f. start + length (encode_utf8_all f)) front ∙ sym e in
    ap (option_map (found_piece start text)) (piece-complete p.kind text p.text p.after i)
    ∙ ap Some (same_piece p.kind (take (length p.text) text) p.text (drop (length p.text) text) p.after start p.start _ p.end front after (sym s) end)

pub pieces-all : (ps : List Piece) (count from to : ℕ) (text : Characters) → length text ≤ count → Stand from text ps to [] → pieces count from text ≡ Some ps
pieces-all [] count from to text l s = ap (pieces count from) s.1
pieces-all (p ∷ ps) count from to [] l s = absurd (no-IsPieceAt-nil p.kind p.text p.after s.2)
pieces-all (p ∷ ps) zero from to (c ∷ cs) l s = absurd (omega arith)
pieces-all (p ∷ ps) (suc count) from to (c ∷ cs) l s =
    let less : length p.after ≤ count = omega (arith, l, ap length s.2.split, length-append p.text p.after, IsPieceAt-nonempty p.kind (c ∷ cs) p.text p.after s.2) in
    ap (option_and_then (and_more (pieces count))) (first_piece-is from (c ∷ cs) p s.0 s.1 s.2)
    ∙ ap (option_map (λ more. p ∷ more)) (pieces-all ps count p.end to p.after less s.3)
