-- The pieces of a text: what each is, and not where a scan ends.
use Rattle.std.specs.Prelude.{◌≡◌, ◌⊎◌, ◌<◌, ◌≤◌, ℕ, Bool, true, false, not, ◌&&◌, ◌||◌, ◌==◌, [], ◌∷◌, ◌++◌, length, slice_index}
use Rattle.tok_types.specs.Ascii.{double_quote, hash, letter_r, single_quote, slash, star}
use Rattle.tok_types.specs.Names.{is_name, is_reserved}
use Rattle.tok_scan.specs.Characters.{Characters, is_white, is_mark, continues, opening, closing}
use Rattle.tok_scan.specs.Comments.{IsLineComment, IsBlockComment, begins_doc}
use Rattle.tok_scan.specs.Strings.{IsString, IsPrefixed, IsTicked}
use Rattle.tok_scan.specs.Numbers.{IsNumber}
use Rattle.tok_scan.specs.declared.kind.Kind.{Kind}
use Rattle.tok_scan.specs.declared.kind.Kind.TheVariants as kind

-- a mark begins here: no `/` that begins a comment
abbrev pub begins_mark : Characters → Bool
begins_mark text = is_mark (slice_index text 0) && not (slice_index text 0 == slash && (slice_index text 1 == slash || slice_index text 1 == star))

-- the next token is a mark, as the `#` is for which a documentation comment stands
abbrev pub goes_on : Characters → Bool
goes_on text = begins_mark text || begins_doc text

-- `r#` and an identifier that has a raw form, whole where `after` follows
abbrev pub IsRawName : Characters → Characters → Type 0
IsRawName text after = (name : Characters) × (text ≡ letter_r ∷ hash ∷ name) × (is_name name ≡ true) × (is_reserved name ≡ false) × (continues after ≡ false)

-- `front` is a piece of this kind where `after` follows; a character that is followed by more of a name is none
abbrev pub IsPiece : Kind → Characters → Characters → Type 0
IsPiece kind.White front after = (c : ℕ) × (front ≡ c ∷ []) × (is_white c ≡ true)
IsPiece kind.Comment front after = IsLineComment false front after ⊎ IsBlockComment front
IsPiece kind.Doc front after = IsLineComment true front after
IsPiece kind.Ident front after = is_name front ≡ true
IsPiece kind.RawIdent front after = IsRawName front after
IsPiece kind.Lifetime front after = (name : Characters) × (front ≡ single_quote ∷ name) × ((is_name name ≡ true) ⊎ IsRawName name after)
IsPiece (kind.Mark joint) front after = (c : ℕ) × (front ≡ c ∷ []) × (begins_mark (c ∷ after) ≡ true) × (joint ≡ goes_on after)
IsPiece kind.Literal front after = IsString false front ⊎ (IsPrefixed front ⊎ ((IsTicked false front × (continues after ≡ false)) ⊎ IsNumber front after))
IsPiece (kind.Open d) front after = (front ≡ opening d) × (0 < length front)
IsPiece (kind.Close d) front after = (front ≡ closing d) × (0 < length front)

-- what may follow a piece of this kind directly
abbrev pub may_precede : Kind → Characters → Bool
may_precede kind.Ident after = not (slice_index after 0 == double_quote)
may_precede kind.RawIdent after = not (slice_index after 0 == double_quote)
may_precede kind.Literal after = not (continues after)
may_precede _ after = true

-- The text begins with this piece: the longest that starts there, and what follows may follow it.
pub record IsPieceAt (k : Kind) (text front after : Characters) : Type 0 where
  pub split : text ≡ front ++ after
  pub piece : IsPiece k front after
  pub longest : (other : Kind) (f a : Characters) → text ≡ f ++ a → IsPiece other f a → length f ≤ length front
  pub follows : may_precede k after ≡ true
