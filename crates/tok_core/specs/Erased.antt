-- Tokens without their places.
use Rattle.std.specs.Prelude.{◌≡◌}
use Rattle.tok_types.specs.declared.span.Span.{Span}
use Rattle.tok_types.specs.declared.span.Span.TheVariants.{CallSite}
use Rattle.tok_types.specs.declared.tree.TokenStream.{TokenStream}
use Rattle.tok_core.specs.Flat.{Flat, Token, ident, lifetime, punct, literal, token, opening, closing, start_of, end_of}
use Rattle.tok_types.specs.Respan.{stream_at}

-- The streams are the same, all but their spans.
abbrev pub SameButSpans : TokenStream → TokenStream → Type 0
SameButSpans a b = stream_at CallSite a ≡ stream_at CallSite b

-- the token with this span
abbrev pub token_at : Span → Token → Token
token_at s (ident it) = ident (record it { span = s })
token_at s (lifetime it) = lifetime (record { ident = record it.ident { span = s } })
token_at s (punct it) = punct (record it { span = s })
token_at s (literal it) = literal (record it { span = s })

-- the flat token with this span
abbrev pub flat_at : Span → Flat → Flat
flat_at s (token it) = token (token_at s it)
flat_at s (opening d place) = opening d (start_of s)
flat_at s (closing d place) = closing d (end_of s)
