-- The tokens of a text are words: an identifier among them has a name that an identifier can have.
use Rattle.std.proofs.Common.{◌≡◌, ℕ, Bool, true, false, ◌&&◌, ◌==◌, List, [], ◌∷◌, refl, ap, sym, ◌∙◌, subst, codes, rules}
use Rattle.std.proofs.lemmas.Bool.{and_parts, and_right, eqb-true, both_ways}
use Rattle.std.specs.List.{AllByRecursion, list_all, slice_index}
use Rattle.std.specs.Str.{chars}
use Rattle.unicode_ident.proofs.Computing.{unicode_ident}
use Rattle.tok_types.specs.Ascii.{hash, letter_r}
use Rattle.tok_types.specs.Ident.{IsToken}
use Rattle.tok_types.specs.Names.{continues_name, is_name, starts_name}
use Rattle.tok_types.specs.declared.span.Span.{Span}
use Rattle.tok_types.specs.declared.span.Span.TheVariants.{At}
use Rattle.tok_types.specs.declared.tree.TokenStream.{TokenStream, out-TokenStream, the_lemmas}
use Rattle.tok_scan.proofs.Heads.{hash-continues}
use Rattle.tok_scan.specs.Characters.{Characters}
use Rattle.tok_scan.specs.Pieces.{IsPiece, IsRawName}
use Rattle.tok_scan.specs.declared.kind.Kind.{Kind}
use Rattle.tok_scan.specs.declared.kind.Kind.TheVariants as kind
use Rattle.tok_core.specs.Flat.{Flat, token, ident, lifetime, punct, literal, opening, closing, flat_stream, flat_trees}
use Rattle.tok_core.specs.Spells.{Piece, Spells, Stand, ident_of, kept, token_of, tokens_of}
use Rattle.law_lexed.proofs.Placed.{all_append}
use Rattle.law_fields.proofs.Characters.{name-chars}

-- nothing is said of other tokens than identifiers
abbrev pub IsWord : Flat → Type 0
IsWord (token (ident it)) = IsToken it
IsWord (token (lifetime it)) = Unit {0}
IsWord (token (punct it)) = Unit {0}
IsWord (token (literal it)) = Unit {0}
IsWord (opening d place) = Unit {0}
IsWord (closing d place) = Unit {0}

abbrev pub AreWords : List Flat → Type 0
AreWords = AllByRecursion IsWord

-- ---- one piece

continues-other : (c : ℕ) → continues_name c ≡ true → (c == hash) ≡ false
continues-other c h = by (c == hash) refl
  where
    by : (b : Bool) → (c == hash) ≡ b → b ≡ false
    by true e = absurd (both_ways _ hash-continues (ap continues_name (sym (eqb-true c hash e)) ∙ h))
    by false e = refl

-- a name does not begin with `r#`
name-plain : (name : Characters) → is_name name ≡ true → (slice_index name 0 == letter_r && slice_index name 1 == hash) ≡ false
name-plain [] h = refl
name-plain (c ∷ []) h = and_right _ _ refl
name-plain (c ∷ d ∷ cs) h =
    let parts = and_parts (starts_name c) (list_all continues_name (d ∷ cs)) h in
    and_right _ _ (continues-other d (and_parts (continues_name d) (list_all continues_name cs) parts.1).0)

name-token : (name : Characters) (span : Span) → is_name name ≡ true → IsToken (ident_of name span)
name-token name span h = rw (name-plain name h, name-chars name h, h) refl

raw_name-token : (text after : Characters) (span : Span) → IsRawName text after → IsToken (ident_of text span)
raw_name-token text after span h = rw (h.1, name-chars h.0 h.2, h.2, h.3) refl

doc-token : (span : Span) → IsToken (record { text = codes "doc"; raw = false; span = span })
unfolding chars unicode_ident
doc-token span = refl

piece-words : (source : ℕ) (k : Kind) (text after : Characters) (start end : ℕ) → IsPiece k text after → AreWords (token_of source k (kept k text after) start end)
piece-words source kind.White text after start end h = tt
piece-words source kind.Comment text after start end h = tt
piece-words source kind.Doc text after start end h = (tt, (tt, (doc-token (At source start end), (tt, (tt, (tt, tt))))))
piece-words source kind.Ident text after start end h = (name-token text (At source start end) h, tt)
piece-words source kind.RawIdent text after start end h = (raw_name-token text after (At source start end) h, tt)
piece-words source kind.Lifetime text after start end h = (tt, tt)
piece-words source (kind.Mark joint) text after start end h = (tt, tt)
piece-words source kind.Literal text after start end h = (tt, tt)
piece-words source (kind.Open d) text after start end h = (tt, tt)
piece-words source (kind.Close d) text after start end h = (tt, tt)

-- ---- all pieces

pieces-words : (source : ℕ) (ps : List Piece) (from to : ℕ) (text rest : Characters) → Stand from text ps to rest → AreWords (tokens_of source ps)
pieces-words source [] from to text rest s = tt
pieces-words source (p ∷ ps) from to text rest s =
    all_append IsWord (token_of source p.kind (kept p.kind p.text p.after) p.start p.end) (tokens_of source ps)
    (piece-words source p.kind p.text p.after p.start p.end s.2.piece) (pieces-words source ps p.end to p.after rest s.3)

stream-trees : (tokens : TokenStream) → flat_stream tokens ≡ flat_trees (out-TokenStream tokens).trees
stream-trees tokens = search (rules, the_lemmas)

-- of all that a text spells
pub spelled-words : (source : ℕ) (text : Characters) (tokens : TokenStream) → Spells source text tokens → AreWords (flat_trees (out-TokenStream tokens).trees)
spelled-words source text tokens h = subst AreWords (sym h.same ∙ stream-trees tokens) (pieces-words source h.pieces 0 h.end text [] h.stand)
