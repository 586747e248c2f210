-- What was read before a place.
use Rattle.std.proofs.Common.{◌≡◌, inl, inr, ℕ, ◌+◌, ◌<◌, ◌≤◌, List, [], ◌∷◌, ◌++◌, length, Option, Some, None, option_and_then, Result, Ok, Err, IfOk, refl, sym, ap, ◌∙◌, subst, arith, append_assoc, length-append}
use Rattle.std.proofs.lemmas.List.{append-nil}
use Rattle.std.proofs.lemmas.Str.{encodes-append}
use Rattle.std.specs.Str.{encode_utf8_all}
use Rattle.tok_scan.specs.Characters.{Characters}
use Rattle.tok_scan.specs.Pieces.{IsPieceAt}
use Rattle.tok_scan.specs.declared.kind.Kind.{Kind}
use Rattle.tok_types.specs.declared.tree.Delimiter.{Delimiter}
use Rattle.tok_types.specs.declared.tree.TokenStream.{TokenStream}
use Rattle.tok_core.specs.Endings.{open_after, open_after_one, Closes, EndsAt, Refused, deep, wrong}
use Rattle.tok_core.specs.Flat.{Flat, flat_stream}
use Rattle.tok_core.specs.Nests.{flat_nest, open_in, Cause, IsFull, IsAmiss}
use Rattle.tok_core.specs.Spells.{Piece, Stand, kept, token_of, tokens_of, Spells}
use Rattle.tok_core.specs.declared.error.LexError.{LexError}
use Rattle.tok_core.specs.declared.error.LexError.TheVariants.{TooDeep, Syntax, NoMemory}
use Rattle.tok_core.specs.declared.nest.Nest.{Nest}

-- the pieces before byte `at`, and what they came to
pub record Before (source : ℕ) (text rest : Characters) (at : ℕ) (nest : Nest) : Type 0 where
  pub pieces : List Piece
  pub stand : Stand 0 text pieces at rest
  pub flat : flat_nest source nest ≡ tokens_of source pieces
  pub matched : open_after (tokens_of source pieces) [] ≡ Some (open_in nest)
  pub bytes : at + length (encode_utf8_all rest) ≡ length (encode_utf8_all text)

pub tokens_of-append : (source : ℕ) (ps qs : List Piece) → tokens_of source (ps ++ qs) ≡ tokens_of source ps ++ tokens_of source qs
tokens_of-append source [] qs = refl
tokens_of-append source (p ∷ ps) qs =
    let t = token_of source p.kind (kept p.kind p.text p.after) p.start p.end in
    ap (λ r. t ++ r) (tokens_of-append source ps qs) ∙ sym (append_assoc t (tokens_of source ps) (tokens_of source qs))

after_one : (fs gs : List Flat) → ((s : List Delimiter) → open_after (fs ++ gs) s ≡ option_and_then (open_after gs) (open_after fs s)) → (o : Option (List Delimiter))
    → option_and_then (open_after (fs ++ gs)) o ≡ option_and_then (open_after gs) (option_and_then (open_after fs) o)
after_one fs gs h None = refl
after_one fs gs h (Some s) = h s

pub open_after-append : (fs gs : List Flat) (stack : List Delimiter) → open_after (fs ++ gs) stack ≡ option_and_then (open_after gs) (open_after fs stack)
open_after-append [] gs stack = refl
open_after-append (f ∷ fs) gs stack = after_one fs gs (open_after-append fs gs) (open_after_one f stack)

-- one piece more stands there
pub Stand-push : (from at : ℕ) (text rest : Characters) (ps : List Piece) (p : Piece) → Stand from text ps at rest → p.start ≡ at → p.end ≡ at + length (encode_utf8_all p.text)
    → IsPieceAt p.kind rest p.text p.after → Stand from text (ps ++ p ∷ []) p.end p.after
Stand-push from at text rest [] p s e f i =
    let P : Characters → Type 0 = λ text. IsPieceAt p.kind text p.text p.after in
    (omega (arith, s.0, e), omega (arith, s.0, f), subst P (sym s.1) i, (refl, refl))
Stand-push from at text rest (q ∷ ps) p s e f i =
    (s.0, s.1, s.2, Stand-push q.end at q.after rest ps p s.3 e f i)

pub Before-start : (source : ℕ) (text : Characters) (nest : Nest) → flat_nest source nest ≡ [] → open_in nest ≡ [] → Before source text text 0 nest
Before-start source text nest f s = record { pieces = []; stand = (refl, refl); flat = f; matched = ap Some (sym s); bytes = omega arith }

pub Before-step : (source at end : ℕ) (text rest front after some : Characters) (k : Kind) (old new : Nest) → Before source text rest at old → IsPieceAt k rest front after
    → end ≡ at + length (encode_utf8_all front) → some ≡ kept k front after → flat_nest source new ≡ flat_nest source old ++ token_of source k some at end
    → open_after (token_of source k some at end) (open_in old) ≡ Some (open_in new) → Before source text after end new
Before-step source at end text rest front after some k old new b i e s given opened =
    let P : Characters → Type 0 = λ some. flat_nest source new ≡ flat_nest source old ++ token_of source k some at end in
    let Q : Characters → Type 0 = λ some. open_after (token_of source k some at end) (open_in old) ≡ Some (open_in new) in
    let f = subst P s given in
    let o = subst Q s opened in
    let p : Piece = record { kind = k; text = front; after = after; start = at; end = end } in
    let t = token_of source k (kept k front after) at end in
    let tokens : tokens_of source (b.pieces ++ p ∷ []) ≡ tokens_of source b.pieces ++ t =
    tokens_of-append source b.pieces (p ∷ []) ∙ ap (λ r. tokens_of source b.pieces ++ r) (append-nil t) in
    record {
      pieces = b.pieces ++ p ∷ [];
      stand = Stand-push 0 at text rest b.pieces p b.stand refl e i;
      flat = f ∙ ap (λ r. r ++ t) b.flat ∙ sym tokens;
      matched = ap (λ r. open_after r []) tokens ∙ open_after-append (tokens_of source b.pieces) t [] ∙ ap (option_and_then (open_after t)) b.matched ∙ o;
      bytes = omega (arith, b.bytes, e, ap (λ r. length (encode_utf8_all r)) i.split, ap length (encodes-append front after), length-append (encode_utf8_all front) (encode_utf8_all after));
    }

-- no more bytes than there are
pub Before-fits : (source at : ℕ) (text rest front after : Characters) (nest : Nest) → Before source text rest at nest → length (encode_utf8_all text) ≤ 16777216 → rest ≡ front ++ after
    → at + length (encode_utf8_all front) ≤ 16777216
Before-fits source at text rest front after nest b h e =
    omega (arith, b.bytes, ap (λ r. length (encode_utf8_all r)) e, ap length (encodes-append front after), length-append (encode_utf8_all front) (encode_utf8_all after))

pub piece_moved : (k : Kind) (text front after f a : Characters) → IsPieceAt k text front after → f ≡ front → a ≡ after → IsPieceAt k text f a
piece_moved k text front after f a i e g =
    let P : Characters → Type 0 = λ f. IsPieceAt k text f a in
    let Q : Characters → Type 0 = λ a. IsPieceAt k text front a in
    subst P (sym e) (subst Q (sym g) i)

pub piece_there : (k : Kind) (text rest front after f a : Characters) → IsPieceAt k text front after → text ≡ rest → f ≡ front → a ≡ after → IsPieceAt k rest f a
piece_there k text rest front after f a i e g h =
    let P : Characters → Type 0 = λ text. IsPieceAt k text f a in
    subst P e (piece_moved k text front after f a i g h)

-- the three ways in which the reading ends with an error
pub Refused-none : (source at : ℕ) (text rest : Characters) (nest : Nest) → Before source text rest at nest → 0 < length rest
    → ((k : Kind) (front after : Characters) → IsPieceAt k rest front after → ⊥) → Refused source text (Syntax at)
Refused-none source at text rest nest b l none =
    record { pieces = b.pieces; rest = rest; stack = open_in nest; stand = b.stand; matched = b.matched; stops = inr (inl (l, none)) }

pub Refused-step : (source at : ℕ) (text rest front after : Characters) (k : Kind) (nest : Nest) (e : LexError) → Before source text rest at nest → IsPieceAt k rest front after
    → Cause e at (IsFull k (open_in nest)) (IsAmiss k (open_in nest)) → Refused source text e
Refused-step source at text rest front after k nest (TooDeep n) b i c =
    let Q : ℕ → Type 0 = λ n. EndsAt source text n deep in
    subst Q (sym c.0) (record {
      pieces = b.pieces;
      rest = rest;
      stack = open_in nest;
      stand = b.stand;
      matched = b.matched;
      stops = (k, front, after, i, c.1.0, c.1.1);
    })
Refused-step source at text rest front after k nest (Syntax n) b i c =
    let P : Kind → Type 0 = λ k. IsPieceAt k rest front after in
    let Q : ℕ → Type 0 = λ n. EndsAt source text n wrong in
    subst Q (sym c.0) (record {
      pieces = b.pieces;
      rest = rest;
      stack = open_in nest;
      stand = b.stand;
      matched = b.matched;
      stops = inr (inr (c.1.0, front, after, subst P c.1.1 i, c.1.2));
    })
Refused-step source at text rest front after k nest NoMemory b i c = tt

empty_is : (cs : Characters) → length cs ≡ 0 → cs ≡ []
empty_is [] h = refl
empty_is (c ∷ cs) h = absurd (omega arith)

pub Refused-end : (source at : ℕ) (text rest : Characters) (nest : Nest) (e : LexError) → Before source text rest at nest → length rest ≡ 0
    → (e ≡ Syntax at) × (0 < length (open_in nest)) → Refused source text e
Refused-end source at text rest nest e b l h =
    let P : LexError → Type 0 = λ e. Refused source text e in
    subst P (sym h.0) (record {
      pieces = b.pieces;
      rest = rest;
      stack = open_in nest;
      stand = b.stand;
      matched = b.matched;
      stops = inl (empty_is rest l, h.1);
    })

-- the reading ends well
pub Spells-end : (source at : ℕ) (text rest : Characters) (nest : Nest) (s : TokenStream) → Before source text rest at nest → length rest ≡ 0
    → flat_stream s ≡ flat_nest source nest → Spells source text s
Spells-end source at text rest nest s b l f =
    let P : Characters → Type 0 = λ rest. Stand 0 text b.pieces at rest in
    record { pieces = b.pieces; end = at; stand = subst P (empty_is rest l) b.stand; same = f ∙ b.flat }

pub Spells-finish : (source at : ℕ) (text rest : Characters) (nest : Nest) (r : Result TokenStream LexError) → Before source text rest at nest → length rest ≡ 0
    → IfOk r (λ s. (source : ℕ) → flat_stream s ≡ flat_nest source nest) → IfOk r (Spells source text)
Spells-finish source at text rest nest (Ok s) b l f = Spells-end source at text rest nest s b l (f source)
Spells-finish source at text rest nest (Err e) b l f = tt

pub Closes-end : (source at : ℕ) (text rest : Characters) (nest : Nest) (s : TokenStream) → Before source text rest at nest
    → open_in nest ≡ [] → flat_stream s ≡ flat_nest source nest → Closes s
Closes-end source at text rest nest s b e f = ap (λ r. open_after r []) (f ∙ b.flat) ∙ b.matched ∙ ap Some e
