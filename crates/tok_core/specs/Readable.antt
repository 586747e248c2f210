-- When the text of tokens is read as the same tokens.
use Rattle.std.specs.Prelude.{◌≡◌, ℕ, Bool, true, false, ◌&&◌, ◌||◌, ◌==◌, if◌then◌else◌, List, [], ◌∷◌}
use Rattle.std.specs.List.{AllByRecursion}
use Rattle.std.specs.Str.{encode_utf8_all}
use Rattle.tok_types.specs.Ascii.{slash, star}
use Rattle.tok_scan.specs.Characters.{Characters, is_mark}
use Rattle.tok_scan.specs.Pieces.{IsPieceAt}
use Rattle.tok_scan.specs.declared.kind.Kind.{Kind}
use Rattle.tok_scan.specs.declared.kind.Kind.TheVariants as kind
use Rattle.tok_types.specs.Ident.{ident_text}
use Rattle.tok_types.specs.declared.ident.Ident.{Ident}
use Rattle.tok_types.specs.declared.tree.Delimiter.TheVariants as delimiter
use Rattle.tok_types.specs.declared.tree.TokenStream.{TokenStream}
use Rattle.tok_core.specs.Endings.{IsWithin}
use Rattle.tok_core.specs.Flat.{Flat, token, ident, lifetime, punct, literal, opening, closing, flat_stream}

-- The bytes are a text that alone is one piece of this kind.
abbrev pub IsTextOf : Kind → List ℕ → Type 0
IsTextOf k bytes = (text : Characters) × (bytes ≡ encode_utf8_all text) × IsPieceAt k text text []

-- The identifier is written as one, raw or not.
abbrev pub IsIdentifier : Ident → Type 0
IsIdentifier it = IsTextOf (if it.raw then kind.RawIdent else kind.Ident) (ident_text it)

-- A text spells the token.
abbrev pub IsSpelled : Flat → Type 0
IsSpelled (token (ident it)) = IsIdentifier it
IsSpelled (token (lifetime it)) = IsIdentifier it.ident
IsSpelled (token (punct it)) = is_mark it.ch ≡ true
IsSpelled (token (literal it)) = IsTextOf kind.Literal it.text
IsSpelled (opening d place) = Unit {0}
IsSpelled (closing d place) = Unit {0}

-- The delimiter has characters.
abbrev pub IsVisible : Flat → Type 0
IsVisible (token it) = Unit {0}
IsVisible (opening d place) = d ≡ delimiter.None → ⊥
IsVisible (closing d place) = d ≡ delimiter.None → ⊥

-- a mark that the next token follows directly
abbrev pub is_joint : Flat → Bool
is_joint (token (punct it)) = it.joint
is_joint _ = false

-- a mark stands next
abbrev pub mark_next : List Flat → Bool
mark_next (token (punct it) ∷ fs) = true
mark_next _ = false

-- A joint mark stands directly before a mark of its own list.
abbrev pub IsJoined : Flat → List Flat → Type 0
IsJoined f fs = is_joint f ≡ true → mark_next fs ≡ true

-- a joint `/` stands before `/` or `*`
abbrev pub begins_comment : Flat → List Flat → Bool
begins_comment (token (punct it)) (token (punct next) ∷ fs) = it.joint && it.ch == slash && (next.ch == slash || next.ch == star)
begins_comment _ _ = false

-- It holds of each token, with those after it.
abbrev pub EachWithRest : (Flat → List Flat → Type 0) → List Flat → Type 0
EachWithRest P [] = Unit {0}
EachWithRest P (f ∷ fs) = P f fs × EachWithRest P fs

-- The text of the tokens, where it is short enough to be read, is read as these tokens: each is spelled by a text, each
-- joint mark stands directly before a mark of its own list and begins no comment with it, no group is invisible, and
-- groups keep the limit.
pub record IsReadable (tokens : TokenStream) : Type 0 where
  pub spelled : AllByRecursion IsSpelled (flat_stream tokens)
  pub joined : EachWithRest IsJoined (flat_stream tokens)
  pub no_comment : EachWithRest (λ f fs. begins_comment f fs ≡ false) (flat_stream tokens)
  pub visible : AllByRecursion IsVisible (flat_stream tokens)
  pub within : IsWithin tokens
