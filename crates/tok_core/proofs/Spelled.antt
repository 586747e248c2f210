-- Tokens that texts spell: their characters, and how they are read.
use Rattle.std.proofs.Common.{◌≡◌, inl, inr, ℕ, ◌+◌, ◌<◌, Bool, true, false, cond, ◌&&◌, ◌||◌, eqb, List, [], ◌∷◌, ◌++◌, length, map, refl, sym, ap, ◌∙◌, subst, arith}
use Rattle.std.proofs.lemmas.List.{append-nil, map-append}
use Rattle.std.proofs.lemmas.Str.{encodes-append}
use lib.Utf8.{encode}
use Rattle.std.specs.List.{AllByRecursion}
use Rattle.std.specs.Str.{encode_utf8_all}
use Rattle.tok_scan.proofs.Apart.{IsPieceAt-Finds, name_kind, IsPieceAt-name, IsPieceAt-literal, IsPieceAt-lifetime, begins_mark-apart, begins_mark-joined, IsPieceAt-mark_apart, IsPieceAt-mark_joined, name-plain, name-raw}
use Rattle.tok_scan.proofs.Breaks.{IsApart}
use Rattle.tok_scan.proofs.White.{Finds-white, Finds-open, Finds-close}
use Rattle.tok_scan.specs.Characters as characters
use Rattle.tok_scan.specs.Characters.{Characters, is_mark}
use Rattle.tok_scan.specs.Pieces.{begins_mark, IsPieceAt}
use Rattle.tok_scan.specs.declared.kind.Kind.{Kind}
use Rattle.tok_scan.specs.declared.kind.Kind.TheVariants as kind
use Rattle.tok_types.specs.declared.ident.Ident.{Ident}
use Rattle.tok_types.specs.declared.span.Span.{Span}
use Rattle.tok_types.specs.declared.span.Span.TheVariants.{CallSite, At}
use Rattle.tok_types.specs.declared.tree.Delimiter.{Delimiter}
use Rattle.tok_types.specs.declared.tree.Delimiter.TheVariants as delimiter
use Rattle.tok_types.specs.declared.tree.Punct.{Punct}
use Rattle.tok_core.specs.Erased.{flat_at}
use Rattle.tok_core.specs.Flat.{Flat, token, ident, lifetime, punct, literal, opening, closing}
use Rattle.tok_core.specs.Printing.{between}
use Rattle.tok_core.specs.Readable.{IsSpelled, IsVisible, mark_next, IsJoined, begins_comment, EachWithRest}
use Rattle.tok_core.specs.Spells.{Piece, Stand, kept, ident_of, token_of, tokens_of}
use Rattle.tok_core.proofs.FlatTexts.{flat_bytes, closes, joins_next, flat_text}

-- ---- the characters of tokens

abbrev pub flat_kind : Flat → Kind
flat_kind (token (ident it)) = name_kind it.raw
flat_kind (token (lifetime it)) = kind.Lifetime
flat_kind (token (punct it)) = kind.Mark it.joint
flat_kind (token (literal it)) = kind.Literal
flat_kind (opening d place) = kind.Open d
flat_kind (closing d place) = kind.Close d

abbrev pub flat_chars : (f : Flat) → IsSpelled f → Characters
flat_chars (token (ident it)) h = h.0
flat_chars (token (lifetime it)) h = 39 ∷ h.0
flat_chars (token (punct it)) h = it.ch ∷ []
flat_chars (token (literal it)) h = h.0
flat_chars (opening d place) h = characters.opening d
flat_chars (closing d place) h = characters.closing d

abbrev pub all_chars : Bool → (fs : List Flat) → AllByRecursion IsSpelled fs → Characters
all_chars joint [] h = []
all_chars joint (f ∷ fs) h = between (joint || closes f) ++ (flat_chars f h.0 ++ all_chars (joins_next f) fs h.1)

encodes-flat_chars : (f : Flat) (h : IsSpelled f) → encode_utf8_all (flat_chars f h) ≡ flat_bytes f
unfolding encode
encodes-flat_chars (token (ident it)) h = sym h.1
encodes-flat_chars (token (lifetime it)) h = ap (λ text. 39 ∷ text) (sym h.1)
encodes-flat_chars (token (punct it)) h = append-nil (encode it.ch)
encodes-flat_chars (token (literal it)) h = sym h.1
encodes-flat_chars (opening d place) h = refl
encodes-flat_chars (closing d place) h = refl

encodes-between : (b : Bool) (text : Characters) → encode_utf8_all (between b ++ text) ≡ between b ++ encode_utf8_all text
unfolding encode
encodes-between true text = refl
encodes-between false text = refl

-- the bytes of the characters are the tokens' text
pub encodes-all_chars : (joint : Bool) (fs : List Flat) (h : AllByRecursion IsSpelled fs) → encode_utf8_all (all_chars joint fs h) ≡ flat_text joint fs
encodes-all_chars joint [] h = refl
encodes-all_chars joint (f ∷ fs) h =
    let gap = between (joint || closes f) in
    let after = all_chars (joins_next f) fs h.1 in
    encodes-between (joint || closes f) (flat_chars f h.0 ++ after)
    ∙ ap (λ text. gap ++ text) (encodes-append (flat_chars f h.0) after)
    ∙ ap (λ text. gap ++ (text ++ encode_utf8_all after)) (encodes-flat_chars f h.0)
    ∙ ap (λ text. gap ++ (flat_bytes f ++ text)) (encodes-all_chars (joins_next f) fs h.1)

-- what follows a token that is not joined to it stands apart
all_chars-apart : (fs : List Flat) (h : AllByRecursion IsSpelled fs) → AllByRecursion IsVisible fs → IsApart (all_chars false fs h)
all_chars-apart [] h v = inl refl
all_chars-apart (token it ∷ fs) h v = inr (inl (flat_chars (token it) h.0 ++ all_chars (joins_next (token it)) fs h.1, refl))
all_chars-apart (opening d place ∷ fs) h v = inr (inl (characters.opening d ++ all_chars true fs h.1, refl))
all_chars-apart (closing d place ∷ fs) h v = inr (inr (d, all_chars false fs h.1, v.0, refl))

-- ---- marks

-- a mark begins where a mark and what follows it are printed
mark_begins : (it : Punct) (fs : List Flat) (h : AllByRecursion IsSpelled fs) → is_mark it.ch ≡ true → AllByRecursion IsVisible fs
    → IsJoined (token (punct it)) fs → begins_comment (token (punct it)) fs ≡ false → begins_mark (it.ch ∷ all_chars it.joint fs h) ≡ true
mark_begins it fs h m v j n = by_joint it.joint refl fs h v j n
  where
    by_next : (b : Bool) → it.joint ≡ b → b ≡ true → (fs : List Flat) (h : AllByRecursion IsSpelled fs) → mark_next fs ≡ true
        → begins_comment (token (punct it)) fs ≡ false → begins_mark (it.ch ∷ all_chars true fs h) ≡ true
    by_next b e t [] h j n = absurd (cc)
    by_next b e t (token (ident next) ∷ fs) h j n = absurd (cc)
    by_next b e t (token (lifetime next) ∷ fs) h j n = absurd (cc)
    by_next b e t (token (literal next) ∷ fs) h j n = absurd (cc)
    by_next b e t (opening d place ∷ fs) h j n = absurd (cc)
    by_next b e t (closing d place ∷ fs) h j n = absurd (cc)
    by_next b e t (token (punct next) ∷ fs) h j n =
        let joint : it.joint ≡ true = e ∙ t in
        begins_mark-joined it.ch next.ch (all_chars next.joint fs h.1) m
        (ap (λ b. b && eqb it.ch 47 && (eqb next.ch 47 || eqb next.ch 42)) (sym joint) ∙ n)

    by_joint : (b : Bool) → it.joint ≡ b → (fs : List Flat) (h : AllByRecursion IsSpelled fs) → AllByRecursion IsVisible fs
        → (b ≡ true → mark_next fs ≡ true) → begins_comment (token (punct it)) fs ≡ false → begins_mark (it.ch ∷ all_chars b fs h) ≡ true
    by_joint false e fs h v j n = begins_mark-apart it.ch (all_chars false fs h) m (all_chars-apart fs h v)
    by_joint true e fs h v j n = by_next true e refl fs h (j refl) n

-- ---- pieces

-- what follows a joint mark is the mark that it stands before
joint_mark : (it : Punct) (fs : List Flat) (h : AllByRecursion IsSpelled fs) → is_mark it.ch ≡ true → AllByRecursion IsVisible fs
    → EachWithRest IsJoined (token (punct it) ∷ fs) → EachWithRest (λ f fs. begins_comment f fs ≡ false) (token (punct it) ∷ fs)
    → IsPieceAt (kind.Mark it.joint) (it.ch ∷ all_chars it.joint fs h) (it.ch ∷ []) (all_chars it.joint fs h)
joint_mark it fs h m v j n = by_joint it.joint refl fs h v j n
  where
    by_next : (b : Bool) → it.joint ≡ b → b ≡ true → (fs : List Flat) (h : AllByRecursion IsSpelled fs) → AllByRecursion IsVisible fs → mark_next fs ≡ true
        → EachWithRest IsJoined fs → EachWithRest (λ f fs. begins_comment f fs ≡ false) (token (punct it) ∷ fs)
        → IsPieceAt (kind.Mark true) (it.ch ∷ all_chars true fs h) (it.ch ∷ []) (all_chars true fs h)
    by_next b e t [] h v s j n = absurd (cc)
    by_next b e t (token (ident next) ∷ fs) h v s j n = absurd (cc)
    by_next b e t (token (lifetime next) ∷ fs) h v s j n = absurd (cc)
    by_next b e t (token (literal next) ∷ fs) h v s j n = absurd (cc)
    by_next b e t (opening d place ∷ fs) h v s j n = absurd (cc)
    by_next b e t (closing d place ∷ fs) h v s j n = absurd (cc)
    by_next b e t (token (punct next) ∷ fs) h v s j n =
        let joint : it.joint ≡ true = e ∙ t in
        IsPieceAt-mark_joined it.ch next.ch (all_chars next.joint fs h.1) m
        (ap (λ b. b && eqb it.ch 47 && (eqb next.ch 47 || eqb next.ch 42)) (sym joint) ∙ n.0)
        (mark_begins next fs h.1 h.0 v.1 j.0 n.1.0)

    by_joint : (b : Bool) → it.joint ≡ b → (fs : List Flat) (h : AllByRecursion IsSpelled fs) → AllByRecursion IsVisible fs
        → (b ≡ true → mark_next fs ≡ true) × EachWithRest IsJoined fs → EachWithRest (λ f fs. begins_comment f fs ≡ false) (token (punct it) ∷ fs)
        → IsPieceAt (kind.Mark b) (it.ch ∷ all_chars b fs h) (it.ch ∷ []) (all_chars b fs h)
    by_joint false e fs h v j n = IsPieceAt-mark_apart it.ch (all_chars false fs h) m (all_chars-apart fs h v)
    by_joint true e fs h v j n = by_next true e refl fs h v (j.0 refl) j.1 n

visible_length : (d : Delimiter) → (d ≡ delimiter.None → ⊥) → (0 < length (characters.opening d)) × (0 < length (characters.closing d))
visible_length delimiter.Parenthesis v = (omega arith, omega arith)
visible_length delimiter.Bracket v = (omega arith, omega arith)
visible_length delimiter.Brace v = (omega arith, omega arith)
visible_length delimiter.None v = absurd (v refl)

-- a token is a piece of its text
piece_of : (f : Flat) (fs : List Flat) (h : AllByRecursion IsSpelled (f ∷ fs)) → AllByRecursion IsVisible (f ∷ fs)
    → EachWithRest IsJoined (f ∷ fs) → EachWithRest (λ f fs. begins_comment f fs ≡ false) (f ∷ fs)
    → IsPieceAt (flat_kind f) (flat_chars f h.0 ++ all_chars (joins_next f) fs h.1) (flat_chars f h.0) (all_chars (joins_next f) fs h.1)
piece_of (token (ident it)) fs h v j n = IsPieceAt-name it.raw h.0.0 (all_chars false fs h.1) h.0.2 (all_chars-apart fs h.1 v.1)
piece_of (token (lifetime it)) fs h v j n = IsPieceAt-lifetime it.ident.raw h.0.0 (all_chars false fs h.1) h.0.2 (all_chars-apart fs h.1 v.1)
piece_of (token (punct it)) fs h v j n = joint_mark it fs h.1 h.0 v.1 j n
piece_of (token (literal it)) fs h v j n = IsPieceAt-literal h.0.0 (all_chars false fs h.1) h.0.2 (all_chars-apart fs h.1 v.1)
piece_of (opening d place) fs h v j n =
    let after = all_chars true fs h.1 in
    IsPieceAt-Finds (kind.Open d) (characters.opening d) after (Finds-open d (characters.opening d) after (refl, (visible_length d v.0).0)) refl
piece_of (closing d place) fs h v j n =
    let after = all_chars false fs h.1 in
    IsPieceAt-Finds (kind.Close d) (characters.closing d) after (Finds-close d (characters.closing d) after (refl, (visible_length d v.0).1)) refl

-- ---- the same tokens

-- an identifier is read as it is written
same_name : (raw : Bool) (bytes : List ℕ) (text : Characters) (s : Span) → (cond raw (114 ∷ 35 ∷ []) []) ++ bytes ≡ encode_utf8_all text → IsPieceAt (name_kind raw) text text []
    → record (ident_of text s) { span = CallSite } ≡ record { text = bytes; raw = raw; span = CallSite }
unfolding encode
same_name false bytes text s e i =
    let plain = name-plain text i in
    rw plain (ap (λ (bytes : List ℕ). let it : Ident = record { text = bytes; raw = false; span = CallSite } in it) (sym e))
same_name true bytes text s e i =
    let name = name-raw text i in
    let P : Characters → Type 0 = λ text. record (ident_of text s) { span = CallSite } ≡ record { text = bytes; raw = true; span = CallSite } in
    let whole : 114 ∷ 35 ∷ bytes ≡ 114 ∷ 35 ∷ encode_utf8_all name.0 = e ∙ ap encode_utf8_all name.1 in
    let same : bytes ≡ encode_utf8_all name.0 = cc in
    subst P (sym name.1) (ap (λ (bytes : List ℕ). let it : Ident = record { text = bytes; raw = true; span = CallSite } in it) (sym same))

-- the token of a piece is the one that it was
same_token : (f : Flat) (h : IsSpelled f) (source start end : ℕ) (after : Characters)
    → map (flat_at CallSite) (token_of source (flat_kind f) (kept (flat_kind f) (flat_chars f h) after) start end) ≡ flat_at CallSite f ∷ []
same_token (token (ident it)) h source start end after = by_raw it.raw it.text h.0 h.1 h.2
  where
    by_raw : (raw : Bool) (bytes : List ℕ) (text : Characters) → (cond raw (114 ∷ 35 ∷ []) []) ++ bytes ≡ encode_utf8_all text → IsPieceAt (name_kind raw) text text []
        → map (flat_at CallSite) (token_of source (name_kind raw) (kept (name_kind raw) text after) start end) ≡ token (ident (record { text = bytes; raw = raw; span = CallSite })) ∷ []
    by_raw true bytes text e i = ap (λ it. token (ident it) ∷ []) (same_name true bytes text (At source start end) e i)
    by_raw false bytes text e i = ap (λ it. token (ident it) ∷ []) (same_name false bytes text (At source start end) e i)
same_token (token (lifetime it)) h source start end after =
    ap (λ (it : Ident). token (lifetime (record { ident = it })) ∷ []) (same_name it.ident.raw it.ident.text h.0 (At source start end) h.1 h.2)
same_token (token (punct it)) h source start end after = refl
same_token (token (literal it)) h source start end after =
    ap (λ (bytes : List ℕ). token (literal (record { text = bytes; span = CallSite })) ∷ []) (sym h.1)
same_token (opening d place) h source start end after = refl
same_token (closing d place) h source start end after = refl

-- the pieces of a text, and their tokens, all but their spans
abbrev pub Reads : ℕ → ℕ → Characters → List Flat → Type 0
Reads source from text fs = (ps : List Piece) × (to : ℕ) × Stand from text ps to [] × (map (flat_at CallSite) (tokens_of source ps) ≡ map (flat_at CallSite) fs)

with_token : (source from : ℕ) (f : Flat) (h : IsSpelled f) (fs : List Flat) (after : Characters) → IsPieceAt (flat_kind f) (flat_chars f h ++ after) (flat_chars f h) after
    → Reads source (from + length (encode_utf8_all (flat_chars f h))) after fs → Reads source from (flat_chars f h ++ after) (f ∷ fs)
with_token source from f h fs after i more =
    let to = from + length (encode_utf8_all (flat_chars f h)) in
    let p : Piece = record { kind = flat_kind f; text = flat_chars f h; after = after; start = from; end = to } in
    let tokens = token_of source (flat_kind f) (kept (flat_kind f) (flat_chars f h) after) from to in (
      p ∷ more.0,
      more.1,
      (refl, refl, i, more.2),
      map-append (flat_at CallSite) tokens (tokens_of source more.0)
          ∙ ap (λ one. one ++ map (flat_at CallSite) (tokens_of source more.0)) (same_token f h source from to after)
          ∙ ap (λ others. flat_at CallSite f ∷ others) more.3,
    )

with_space : (source from : ℕ) (fs : List Flat) (after : Characters) → Reads source (from + 1) after fs → Reads source from (32 ∷ after) fs
unfolding encode
with_space source from fs after more =
    let p : Piece = record { kind = kind.White; text = 32 ∷ []; after = after; start = from; end = from + 1 } in
    (p ∷ more.0, more.1, (refl, refl, IsPieceAt-Finds kind.White (32 ∷ []) after (Finds-white (32 ∷ []) after (32, refl, refl)) refl, more.2), more.3)

-- what is printed is read as these tokens
pub reads_all : (source from : ℕ) (joint : Bool) (fs : List Flat) (h : AllByRecursion IsSpelled fs) → AllByRecursion IsVisible fs → EachWithRest IsJoined fs
    → EachWithRest (λ f fs. begins_comment f fs ≡ false) fs → Reads source from (all_chars joint fs h) fs
reads_all source from joint [] h v j n = ([], from, (refl, refl), refl)
reads_all source from joint (f ∷ fs) h v j n =
    after_gap (joint || closes f) (λ from.
    with_token source from f h.0 fs (all_chars (joins_next f) fs h.1) (piece_of f fs h v j n)
    (reads_all source (from + length (encode_utf8_all (flat_chars f h.0))) (joins_next f) fs h.1 v.1 j.1 n.1))
  where
    after_gap : (b : Bool) → ((from : ℕ) → Reads source from (flat_chars f h.0 ++ all_chars (joins_next f) fs h.1) (f ∷ fs))
        → Reads source from (between b ++ (flat_chars f h.0 ++ all_chars (joins_next f) fs h.1)) (f ∷ fs)
    after_gap true one = one from
    after_gap false one = with_space source from (f ∷ fs) (flat_chars f h.0 ++ all_chars (joins_next f) fs h.1) (one (from + 1))
