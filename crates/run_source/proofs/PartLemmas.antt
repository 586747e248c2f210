-- A text is one part.
use Rattle.std.proofs.Common.{◌≡◌, ◌<◌, ℕ, List, drop, Result, Ok, Err, sym, ap, ◌∙◌, subst, inl, inr, arith}
use Rattle.std.specs.Str.{chars}
use Rattle.tok_types.specs.declared.tree.TokenStream.{TokenStream, out-TokenStream}
use Rattle.tok_core.specs.Endings.{Answers, EndsAt, deep, wrong}
use Rattle.tok_core.proofs.OneReading.{EndsAt-same, Spells-same}
use Rattle.tok_core.proofs.Outcomes.{only}
use Rattle.tok_core.specs.declared.error.LexError.{LexError}
use Rattle.tok_core.specs.declared.error.LexError.TheVariants as lex
use Rattle.syn_items.specs.Trees.{IsItemPrefix}
use Rattle.run_source.specs.declared.part.Part.{Part}
use Rattle.run_source.specs.declared.part.Part.TheVariants as part
use Rattle.run_source.specs.Parts.{HasTokens, HasTokensOf, IsOf, IsPart, StopsAt, start_at}

-- ---- the longest front of items has one length

not_longer : (tokens : TokenStream) (one other : ℕ) → IsItemPrefix tokens one → IsItemPrefix tokens other → one < other → ⊥
not_longer tokens one other a b less = a.longest other less b.within b.items

pub IsItemPrefix-unique : (tokens : TokenStream) (one other : ℕ) → IsItemPrefix tokens one → IsItemPrefix tokens other → one ≡ other
IsItemPrefix-unique tokens one other a b =
    let less = not_longer tokens one other a b in
    let more = not_longer tokens other one b a in
    omega (arith, less, more)

-- ---- tokens are one part

same_place : (tokens : TokenStream) (one other : ℕ) → StopsAt tokens one → StopsAt tokens other → one ≡ other
same_place tokens one other a b =
    a.1.2 ∙ ap (λ count. start_at (drop count (out-TokenStream tokens).trees)) (IsItemPrefix-unique tokens a.1.0 b.1.0 a.1.1 b.1.1) ∙ sym b.1.2

pub IsOf-unique : (tokens : TokenStream) (one other : Part) → IsOf tokens one → IsOf tokens other → other ≡ one
IsOf-unique tokens (part.TooDeep at) other a b = absurd a
IsOf-unique tokens (part.Syntax at) (part.TooDeep to) a b = absurd b
IsOf-unique tokens (part.Syntax at) (part.Syntax to) a b = ap part.Syntax (same_place tokens to at b a)
IsOf-unique tokens (part.Syntax at) (part.Items items) a b = let clash = sym a.0 ∙ b in cc
IsOf-unique tokens (part.Items items) (part.TooDeep to) a b = absurd b
IsOf-unique tokens (part.Items items) (part.Syntax to) a b = let clash = sym b.0 ∙ a in cc
IsOf-unique tokens (part.Items items) (part.Items others) a b = let same = sym a ∙ b in cc

pub IsPart-of : (source : ℕ) (text : List ℕ) (tokens : TokenStream) (it : Part) → HasTokens source text tokens → IsOf tokens it → IsPart source text it
IsPart-of source text tokens (part.TooDeep at) has is = absurd is
IsPart-of source text tokens (part.Syntax at) has is = inr (tokens, has, is)
IsPart-of source text tokens (part.Items items) has is = (tokens, has, is)

-- ---- a text is one part

clash : (fail : LexError) (found : TokenStream) → (fail ≡ lex.NoMemory → ⊥) → Answers (Err fail) (Ok found) → ⊥
clash fail found some (inl same) = cc
clash fail found some (inr same) = some (fail_is same)
  where
    fail_is : ◌≡◌ {A = Result TokenStream LexError} (Err fail) (Err lex.NoMemory) → fail ≡ lex.NoMemory
    fail_is same = cc

-- a text that spells tokens is not refused
not_deep : (source : ℕ) (text : List ℕ) (it : Part) (at : ℕ) → HasTokensOf source text it → EndsAt source (chars text) at deep → ⊥
not_deep source text it at has ends = clash (lex.TooDeep at) has.0 (λ same. cc) (only source (chars text) has.0 (Err (lex.TooDeep at)) tt ends has.1.0 has.1.1)

not_wrong : (source : ℕ) (text : List ℕ) (it : Part) (at : ℕ) → HasTokensOf source text it → EndsAt source (chars text) at wrong → ⊥
not_wrong source text it at has ends = clash (lex.Syntax at) has.0 (λ same. cc) (only source (chars text) has.0 (Err (lex.Syntax at)) tt ends has.1.0 has.1.1)

-- the text ends in one way
not_both : (source : ℕ) (text : List ℕ) (at to : ℕ) → EndsAt source (chars text) at deep → EndsAt source (chars text) to wrong → ⊥
not_both source text at to a b = let same : deep ≡ wrong = (EndsAt-same source (chars text) at to deep wrong a b).1 in absurd (cc)

same_tokens : (source : ℕ) (text : List ℕ) (one other : Part) → HasTokensOf source text one → HasTokensOf source text other → one ≡ other
same_tokens source text one other a b =
    let same = Spells-same source (chars text) a.0 b.0 a.1.0 b.1.0 in
    IsOf-unique b.0 other one b.2 (subst (λ tokens. IsOf tokens one) same a.2)

pub IsPart-unique : (source : ℕ) (text : List ℕ) (one other : Part) → IsPart source text one → IsPart source text other → one ≡ other
IsPart-unique source text (part.TooDeep at) (part.TooDeep to) a b = ap part.TooDeep (EndsAt-same source (chars text) at to deep deep a b).0
IsPart-unique source text (part.TooDeep at) (part.Syntax to) a (inl b) = absurd (not_both source text at to a b)
IsPart-unique source text (part.TooDeep at) (part.Syntax to) a (inr b) = absurd (not_deep source text (part.Syntax to) at b a)
IsPart-unique source text (part.TooDeep at) (part.Items items) a b = absurd (not_deep source text (part.Items items) at b a)
IsPart-unique source text (part.Syntax at) (part.TooDeep to) (inl a) b = absurd (not_both source text to at b a)
IsPart-unique source text (part.Syntax at) (part.TooDeep to) (inr a) b = absurd (not_deep source text (part.Syntax at) to a b)
IsPart-unique source text (part.Syntax at) (part.Syntax to) (inl a) (inl b) = ap part.Syntax (EndsAt-same source (chars text) at to wrong wrong a b).0
IsPart-unique source text (part.Syntax at) (part.Syntax to) (inl a) (inr b) = absurd (not_wrong source text (part.Syntax to) at b a)
IsPart-unique source text (part.Syntax at) (part.Syntax to) (inr a) (inl b) = absurd (not_wrong source text (part.Syntax at) to a b)
IsPart-unique source text (part.Syntax at) (part.Syntax to) (inr a) (inr b) = same_tokens source text (part.Syntax at) (part.Syntax to) a b
IsPart-unique source text (part.Syntax at) (part.Items items) (inl a) b = absurd (not_wrong source text (part.Items items) at b a)
IsPart-unique source text (part.Syntax at) (part.Items items) (inr a) b = same_tokens source text (part.Syntax at) (part.Items items) a b
IsPart-unique source text (part.Items items) (part.TooDeep to) a b = absurd (not_deep source text (part.Items items) to a b)
IsPart-unique source text (part.Items items) (part.Syntax to) a (inl b) = absurd (not_wrong source text (part.Items items) to a b)
IsPart-unique source text (part.Items items) (part.Syntax to) a (inr b) = same_tokens source text (part.Items items) (part.Syntax to) a b
IsPart-unique source text (part.Items items) (part.Items others) a b = same_tokens source text (part.Items items) (part.Items others) a b
