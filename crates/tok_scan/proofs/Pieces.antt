-- The piece of a text is what is found there, and nothing else is.
use Rattle.std.proofs.Common.{◌≡◌, ℕ, ◌≤◌, inl, ⊎_elim, Bool, true, false, cond, [], ◌∷◌, ◌++◌, length, take, drop, Option, Some, None, IfSome, IfNone, refl, sym, ap, ◌∙◌, subst, arith, length-append}
use Rattle.std.proofs.Math.Seq.{take-append_seam, drop-append_seam}
use Rattle.std.proofs.lemmas.Bool.{false≢true}
use Rattle.tok_scan.specs.Characters.{Characters}
use Rattle.tok_scan.specs.Pieces.{IsPiece, IsPieceAt, may_precede}
use Rattle.tok_scan.specs.Scan.{found, head_of, headed, literal, string_length, slashed, ticked, ticked_length, front, allowed, piece}
use Rattle.tok_scan.proofs.Answers.{Reaches, Reaches-found, Sound, Sound-same, found-length, front-head}
use Rattle.tok_scan.proofs.Heads.{Says, head_of-says, head_of-quote}
use Rattle.tok_scan.proofs.Identifiers.{Finds-prefixed, Finds-raw_name, Reaches-name, Sound-worded, prefixed-nonempty, ticked-begins}
use Rattle.tok_scan.proofs.Items.{string_length-append, string-front}
use Rattle.tok_scan.proofs.Lifetimes.{Reaches-lifetime, Finds-character, Sound-ticked}
use Rattle.tok_scan.proofs.Numerals.{Reaches-number, Sound-number, number-nonempty}
use Rattle.tok_scan.proofs.Slashes.{Finds-mark, Sound-mark, Finds-line, Finds-comment, Sound-slashed}
use Rattle.tok_scan.proofs.White.{Finds-white, Sound-white, Finds-open, Finds-close, Sound-open, Sound-close}
use Rattle.tok_scan.specs.Strings.{IsString}
use Rattle.tok_scan.specs.declared.kind.Found.{Found}
use Rattle.tok_scan.specs.declared.kind.Kind.{Kind}
use Rattle.tok_scan.specs.declared.kind.Kind.TheVariants as kind
use Rattle.tok_scan.specs.declared.scan.Head.{Head}
use Rattle.tok_scan.specs.declared.scan.Head.TheVariants as head

-- ---- strings

Reaches-string : (text after : Characters) → IsString false text → Reaches kind.Literal text after
Reaches-string text after h =
    let at : front (text ++ after) ≡ literal (string_length false (text ++ after)) =
    subst (λ (t : Characters). front (t ++ after) ≡ literal (string_length false (t ++ after))) (sym h.1) (front-head 34 _ head.Quote head_of-quote) in
    Reaches-found kind.Literal text after (at ∙ ap literal (string_length-append false text after h))

Sound-string : (cs : Characters) (p : Found) → literal (string_length false (34 ∷ cs)) ≡ Some p → Sound (34 ∷ cs) p
Sound-string cs p h = cases (string_length false (34 ∷ cs)) refl h
  where
    cases : (o : Option ℕ) → string_length false (34 ∷ cs) ≡ o → literal o ≡ Some p → Sound (34 ∷ cs) p
    cases None e h = absurd (cc)
    cases (Some n) e h =
        let f = string-front false cs n e in Sound-same (34 ∷ cs) _ p h (record { front = f.0; after = f.1; split = f.2; size = f.3; piece = inl f.4 })

-- ---- by kind, and by head

-- where a piece begins a text, one at least as long is found
reaches : (k : Kind) (text after : Characters) → IsPiece k text after → Reaches k text after
reaches kind.White text after h = Reaches-found kind.White text after (Finds-white text after h)
reaches kind.Comment text after h = Reaches-found kind.Comment text after (Finds-comment text after h)
reaches kind.Doc text after h = Reaches-found kind.Doc text after (Finds-line true text after h)
reaches kind.Ident text after h = Reaches-name text after h
reaches kind.RawIdent text after h = Reaches-found kind.RawIdent text after (Finds-raw_name text after h)
reaches kind.Lifetime text after h = Reaches-lifetime text after h
reaches (kind.Mark joint) text after h = Reaches-found (kind.Mark joint) text after (Finds-mark joint text after h)
reaches kind.Literal text after h = ⊎_elim
    (Reaches-string text after)
    (λ h. ⊎_elim
    (λ p. Reaches-found kind.Literal text after (Finds-prefixed text after p))
    (λ h. ⊎_elim (λ t. Reaches-found kind.Literal text after (Finds-character text after t.0 t.1)) (Reaches-number text after) h) h) h
reaches (kind.Open d) text after h = Reaches-found (kind.Open d) text after (Finds-open d text after h)
reaches (kind.Close d) text after h = Reaches-found (kind.Close d) text after (Finds-close d text after h)

-- what is found is a piece
sound : (h : Head) (c : ℕ) (cs : Characters) (p : Found) → Says h c → headed h (c ∷ cs) ≡ Some p → Sound (c ∷ cs) p
sound head.Name c cs p s h = Sound-worded (c ∷ cs) p s h
sound head.White c cs p s h = Sound-same (c ∷ cs) _ p h (Sound-white c cs s)
sound head.Digit c cs p s h = Sound-number (c ∷ cs) p s h
sound head.Quote c cs p s h = subst (λ c. literal (string_length false (c ∷ cs)) ≡ Some p → Sound (c ∷ cs) p) (sym s) (Sound-string cs p) h
sound head.Tick c cs p s h = subst (λ c. ticked (c ∷ cs) (ticked_length false (c ∷ cs)) ≡ Some p → Sound (c ∷ cs) p) (sym s) (Sound-ticked cs p) h
sound head.Slash c cs p s h = subst (λ c. slashed (c ∷ cs) ≡ Some p → Sound (c ∷ cs) p) (sym s) (Sound-slashed cs p) h
sound head.Mark c cs p s h = Sound-same (c ∷ cs) _ p h (Sound-mark c cs s.0 s.1)
sound (head.Open d) c cs p s h = Sound-same (c ∷ cs) _ p h (Sound-open d c cs s)
sound (head.Close d) c cs p s h = Sound-same (c ∷ cs) _ p h (Sound-close d c cs s)
sound head.Other c cs p s h = absurd (cc)

front-sound : (text : Characters) (p : Found) → front text ≡ Some p → Sound text p
unfolding front
front-sound [] p h = absurd (cc)
front-sound (c ∷ cs) p h = sound (head_of c) c cs p (head_of-says c) h

-- what is allowed
allowed-some : (text : Characters) (o : Option Found) (p : Found) → allowed text o ≡ Some p → (o ≡ Some p) × (may_precede p.kind (drop p.length text) ≡ true)
allowed-some text None p h = absurd (cc)
allowed-some text (Some q) p h = cases (may_precede q.kind (drop q.length text)) refl h
  where
    cases : (b : Bool) → may_precede q.kind (drop q.length text) ≡ b → cond b (Some q) None ≡ Some p → (Some q ≡ Some p) × (may_precede p.kind (drop p.length text) ≡ true)
    cases false e h = absurd (cc)
    cases true e h = let same : q ≡ p = cc in (h, subst (λ (r : Found). may_precede r.kind (drop r.length text) ≡ true) same e)

-- a piece has a character
pub IsPiece-nonempty : (k : Kind) (text after : Characters) → IsPiece k text after → 1 ≤ length text
IsPiece-nonempty kind.White text after h = omega (arith, ap length h.1)
IsPiece-nonempty kind.Comment text after h = ⊎_elim (λ l. omega (arith, ap length l.1)) (λ b. omega (arith, ap length b.1)) h
IsPiece-nonempty kind.Doc text after h = omega (arith, ap length h.1)
IsPiece-nonempty kind.Ident [] after h = absurd (false≢true h)
IsPiece-nonempty kind.Ident (c ∷ cs) after h = omega arith
IsPiece-nonempty kind.RawIdent text after h = omega (arith, ap length h.1)
IsPiece-nonempty kind.Lifetime text after h = omega (arith, ap length h.1)
IsPiece-nonempty (kind.Mark joint) text after h = omega (arith, ap length h.1)
IsPiece-nonempty kind.Literal text after h = ⊎_elim
    (λ s. omega (arith, ap length s.1))
    (λ h. ⊎_elim (prefixed-nonempty text) (λ h. ⊎_elim
    (λ t. let b = ticked-begins false text t.0 in omega (arith, ap length b.1))
    (λ n. number-nonempty text after n) h) h) h
IsPiece-nonempty (kind.Open d) text after h = h.1
IsPiece-nonempty (kind.Close d) text after h = h.1

-- ---- a piece is found, and what is found is a piece

pub piece-complete : (k : Kind) (text front after : Characters) → IsPieceAt k text front after → piece text ≡ found k (length front)
piece-complete k text f a h =
    let r = reaches k f a h.piece in
    let p : Found = record { kind = r.kind; length = r.size } in
    let is : front text ≡ Some p = ap front h.split ∙ r.is in
    let s = front-sound text p is in
    let size : r.size ≡ length f = omega (arith, r.far, s.size, h.longest r.kind s.front s.after s.split s.piece) in
    let behind : drop (length f) text ≡ a = ap (drop (length f)) h.split ∙ drop-append_seam f a in
    let test : may_precede k (drop (length f) text) ≡ true = ap (may_precede k) behind ∙ h.follows in
    ap (allowed text) (is ∙ ap (λ n. found r.kind n) size ∙ ap (λ k. found k (length f)) (r.same size))
    ∙ ap (λ b. cond b (found k (length f)) None) test

pub piece-sound : (text : Characters) (p : Found) → piece text ≡ Some p → (front : Characters) × (after : Characters) × IsPieceAt p.kind text front after × (p.length ≡ length front)
piece-sound text p h =
    let is = allowed-some text (front text) p h in
    let s = front-sound text p is.0 in
    let behind : drop p.length text ≡ s.after = ap (λ n. drop n text) s.size ∙ ap (drop (length s.front)) s.split ∙ drop-append_seam s.front s.after in (
      s.front,
      s.after,
      record {
        split = s.split;
        piece = s.piece;
        longest = λ other f a e i.
            let r = reaches other f a i in
            let same = found-length r.kind p.kind r.size p.length (sym (ap front e ∙ r.is) ∙ is.0) in
            omega (arith, r.far, same, s.size);
        follows = ap (may_precede p.kind) (sym behind) ∙ is.1;
      },
      s.size,
    )

pub piece-found : (text : Characters) (p : Found) → piece text ≡ Some p → IsPieceAt p.kind text (take p.length text) (drop p.length text)
piece-found text p h =
    let s = piece-sound text p h in
    let f : take p.length text ≡ s.0 = ap (λ n. take n text) s.3 ∙ ap (take (length s.0)) s.2.split ∙ take-append_seam s.0 s.1 in
    let a : drop p.length text ≡ s.1 = ap (λ n. drop n text) s.3 ∙ ap (drop (length s.0)) s.2.split ∙ drop-append_seam s.0 s.1 in
    subst (λ (f : Characters). IsPieceAt p.kind text f (drop p.length text)) (sym f) (subst (IsPieceAt p.kind text s.0) (sym a) s.2)

-- ---- the clauses of `piece`

pub found_clause : (text : Characters) (o : Option Found) → o ≡ piece text → IfSome o (λ p. IsPieceAt p.kind text (take p.length text) (drop p.length text))
found_clause text None e = tt
found_clause text (Some p) e = piece-found text p (sym e)

pub none_clause : (text : Characters) (o : Option Found) → o ≡ piece text → IfNone o ((k : Kind) (front after : Characters) → IsPieceAt k text front after → ⊥)
none_clause text None e = λ k front after is. let f = piece-complete k text front after is in cc
none_clause text (Some p) e = tt

pub within_clause : (text : Characters) (o : Option Found) → o ≡ piece text → IfSome o (λ p. (1 ≤ p.length) × (p.length ≤ length text))
within_clause text None e = tt
within_clause text (Some p) e =
    let s = piece-sound text p (sym e) in
    (omega (arith, s.3, IsPiece-nonempty p.kind s.0 s.1 s.2.piece), omega (arith, s.3, ap length s.2.split, length-append s.0 s.1))
