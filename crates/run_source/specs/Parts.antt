-- What a text is read to: items, or where it is refused.
use Rattle.std.specs.Prelude.{◌≡◌, ℕ, ◌⊎◌, List, drop, chars, Some, None}
use Rattle.tok_types.specs.declared.tree.TokenStream.{TokenStream, out-TokenStream}
use Rattle.tok_types.specs.declared.tree.TokenTree.{TokenTree}
use Rattle.tok_core.specs.Spells.{Spells}
use Rattle.tok_core.specs.Endings.{EndsAt, IsWithin, deep, wrong}
use Rattle.syn_grammar.specs.Input.{first_span}
use Rattle.syn_items.specs.Trees.{IsItemPrefix, items_of}
use Rattle.law_options.specs.Places.{start_of}
use Rattle.run_source.specs.declared.part.Part.{Part}
use Rattle.run_source.specs.declared.part.Part.TheVariants as part

-- the text, which has the number `source`, spells these tokens, and they keep the limit
abbrev pub HasTokens : ℕ → List ℕ → TokenStream → Type 0
HasTokens source text tokens = Spells source (chars text) tokens × IsWithin tokens

-- the byte at which the first of the tokens starts
abbrev pub start_at : List TokenTree → ℕ
start_at trees = start_of (first_span trees)

-- The tokens are no items, and the first token behind the longest front that is items starts at this byte.
abbrev pub StopsAt : TokenStream → ℕ → Type 0
StopsAt tokens at =
    (items_of tokens ≡ None) × ((count : ℕ) × IsItemPrefix tokens count × (at ≡ start_at (drop count (out-TokenStream tokens).trees)))

-- what tokens are read to
abbrev pub IsOf : TokenStream → Part → Type 0
IsOf tokens (part.TooDeep at) = ⊥
IsOf tokens (part.Syntax at) = StopsAt tokens at
IsOf tokens (part.Items items) = items_of tokens ≡ Some items

-- its tokens are read to that
abbrev pub HasTokensOf : ℕ → List ℕ → Part → Type 0
HasTokensOf source text it = (tokens : TokenStream) × HasTokens source text tokens × IsOf tokens it

-- what the text of this number is read to
abbrev pub IsPart : ℕ → List ℕ → Part → Type 0
IsPart source text (part.TooDeep at) = EndsAt source (chars text) at deep
IsPart source text (part.Syntax at) = EndsAt source (chars text) at wrong ⊎ HasTokensOf source text (part.Syntax at)
IsPart source text (part.Items items) = HasTokensOf source text (part.Items items)
