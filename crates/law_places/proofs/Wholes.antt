-- What is read of some tokens stands where they do.
use Rattle.std.proofs.Common.{◌≡◌, ◌⊎◌, inl, inr, ◌<◌, true, if◌then◌else◌, List, [], ◌∷◌, ◌++◌, length, map, Option, Some, None, refl, arith, ap, sym, ◌∙◌, append-nil, length-append}
use Rattle.tok_types.specs.Span.{joined}
use Rattle.tok_types.specs.declared.span.Span.{Span}
use Rattle.tok_types.specs.declared.span.Span.TheVariants.{CallSite}
use Rattle.tok_types.specs.declared.tree.TokenStream.{TokenStream, out-TokenStream}
use Rattle.tok_types.specs.declared.tree.TokenTree.{TokenTree}
use Rattle.tok_types.specs.declared.ident.Ident.{Ident}
use Rattle.node_expr.specs.declared.expr.Expr.{Expr}
use Rattle.node_expr.specs.declared.path.Path.{Path}
use Rattle.node_expr.specs.declared.ty.«Type».{«Type» as Ty}
use Rattle.node_span.specs.Spanned.{expr_span, last_of, list_span, path_span, stream_span, tree_span, type_span}
use Rattle.syn_grammar.specs.Grammar.{within, max_depth}
use Rattle.syn_grammar.specs.Input.{Input, Outcome, Parser, first_span, is_end, start_of}
use Rattle.syn_grammar.specs.Readers.{any_level}
use Rattle.syn_grammar.specs.Token.{span_of}
use Rattle.syn_grammar.specs.Trees.{all, whole, type_of, expr_of, path_of, ident_of}
use Rattle.law_places.specs.Stands.{ReadThere, Stands, StandsOrNowhere}
use Rattle.law_places.proofs.Onward.{Stood, StoodHere, StoodOrNowhere}
use Rattle.law_places.proofs.Paths.{path-here}
use Rattle.law_places.proofs.Steps.{Moved, GoesAt, From, StandsHere, same_place}
use Rattle.law_places.proofs.Tokens.{name-here}
use Rattle.law_places.proofs.Within.{within-stand}

-- From the first token that was read to the last. Where none was, the place is nowhere only if none was left.
between : (rest read behind : List TokenTree) (old new : Span) → rest ≡ read ++ behind → new ≡ last_of old (map tree_span read) → 0 < length read → joined (first_span rest) new ≡ list_span tree_span read
unfolding first_span
between rest [] behind old new is last some = absurd (omega arith)
between rest (tree ∷ trees) behind old new is last some = rw (is, last, same_place tree) refl

pub read-there : {A : Type 0} {span_of : A → Span} (input after : Input) (found : A) → Moved input after → Stood span_of (first_span input.rest) (length input.rest) found after → ReadThere span_of input after found
read-there input after found moved h =
    let sizes = ap length moved.is in
    let less = h.less in
    let some : 0 < length moved.read = omega (arith, length-append moved.read after.rest) in
    record {
      read = moved.read;
      is = moved.is;
      last = moved.last;
      there = record { some = some; stands = h.is ∙ between input.rest moved.read after.rest input.last after.last moved.is moved.last some };
    }

-- a parser that takes a token
pub stands-of : {A : Type 0} {span_of : A → Span} {parser : Parser A} → StoodHere span_of parser → Stands span_of parser
stands-of h = record { of = λ input after found e. let went = (h input).of after found e in read-there input after found went.0 went.1 }

-- a parser of what may be left out
pub stands_or_nowhere-of : {A : Type 0} {span_of : A → Span} {parser : Parser A} → StoodOrNowhere span_of parser → StandsOrNowhere span_of parser
stands_or_nowhere-of {A} {span_of} h = record { of = λ input after found e. let went = (h input).of after found e in by input after found went.0 went.1 }
  where
    by : (input after : Input) (found : A) → Moved input after → Stood span_of (first_span input.rest) (length input.rest) found after ⊎ ((after ≡ input) × (span_of found ≡ CallSite))
        → ReadThere span_of input after found ⊎ ((after ≡ input) × (span_of found ≡ CallSite))
    by input after found moved (inl h) = inl (read-there input after found moved h)
    by input after found moved (inr h) = inr h

-- ---- all tokens

pub all-parts : {A : Type 0} (outcome : Outcome A) (found : A) → all outcome ≡ Some found → (after : Input) × (outcome ≡ Some (found, after)) × (after.rest ≡ [])
all-parts None found e = absurd cc
all-parts {A} (Some pair) found e = by pair.1.rest refl e
  where
    by : (rest : List TokenTree) → pair.1.rest ≡ rest → ◌≡◌ {A = Option A} (if is_end rest then Some pair.0 else None) (Some found) → (after : Input) × (◌≡◌ {A = Outcome A} (Some pair) (Some (found, after))) × (after.rest ≡ [])
    by [] is e = let same : pair.0 ≡ found = cc in (pair.1, ap (λ value. Some (value, pair.1)) same, is)
    by (tree ∷ trees) is e = absurd cc

-- all of the tokens that were read
everything : (trees read : List TokenTree) (new : Span) → trees ≡ read → new ≡ last_of (start_of trees).last (map tree_span read) → joined (first_span trees) new ≡ list_span tree_span trees
unfolding first_span
everything [] read new is last = refl
everything (tree ∷ trees) read new is last = rw (last, ← is, same_place tree) refl

all-place : (trees : List TokenTree) (after : Input) → Moved (start_of trees) after → after.rest ≡ [] → joined (first_span trees) after.last ≡ list_span tree_span trees
all-place trees after moved none =
    let is : trees ≡ moved.read = moved.is ∙ ap (λ rest. moved.read ++ rest) none ∙ append-nil moved.read in
    everything trees moved.read after.last is moved.last

-- what is read of all tokens stands where they all do
pub all-stands : {A : Type 0} {span_of : A → Span} {parser : Parser A} (trees : List TokenTree) → GoesAt (From span_of (first_span trees)) parser (start_of trees) → (found : A) → all (parser (start_of trees)) ≡ Some found
    → span_of found ≡ list_span tree_span trees
all-stands {parser = parser} trees h found e =
    let source = all-parts (parser (start_of trees)) found e in
    let went = h.of source.0 found source.1 in
    went.1.is ∙ all-place trees source.0 went.0 source.2

-- the same of what may be left out
pub all-stand_or_nowhere : {A : Type 0} {span_of : A → Span} {parser : Parser A} → StoodOrNowhere span_of parser → (trees : List TokenTree) (found : A) → all (parser (start_of trees)) ≡ Some found → span_of found ≡ list_span tree_span trees
all-stand_or_nowhere {A} {span_of} {parser} h trees found e =
    let source = all-parts (parser (start_of trees)) found e in
    let went = (h (start_of trees)).of source.0 found source.1 in
    by source.0 went.0 source.2 went.1
  where
    by : (after : Input) → Moved (start_of trees) after → after.rest ≡ [] → Stood span_of (first_span trees) (length trees) found after ⊎ ((after ≡ start_of trees) × (span_of found ≡ CallSite)) → span_of found ≡ list_span tree_span trees
    by after moved none (inl h) = h.is ∙ all-place trees after moved none
    by after moved none (inr h) =
        let empty : trees ≡ [] = ap (λ (input : Input). input.rest) (sym h.0) ∙ none in
        h.1 ∙ ap (list_span tree_span) (sym empty)

pub whole-stands : {A : Type 0} {span_of : A → Span} {parser : Parser A} → StandsHere span_of parser → (tokens : TokenStream) (found : A) → whole parser tokens ≡ Some found → span_of found ≡ stream_span tokens
whole-stands h tokens found e = all-stands (out-TokenStream tokens).trees (h (start_of (out-TokenStream tokens).trees)) found e

pub type_of-stands : (tokens : TokenStream) (found : Ty) → type_of tokens ≡ Some found → type_span found ≡ stream_span tokens
unfolding type_of
type_of-stands = whole-stands ((within-stand max_depth).ty true)

pub expr_of-stands : (tokens : TokenStream) (found : Expr) → expr_of tokens ≡ Some found → expr_span found ≡ stream_span tokens
unfolding expr_of
expr_of-stands = whole-stands ((within-stand max_depth).expr any_level)

pub path_of-stands : (tokens : TokenStream) (found : Path) → path_of tokens ≡ Some found → path_span found ≡ stream_span tokens
unfolding path_of
path_of-stands = whole-stands (path-here (within max_depth) (within-stand max_depth) true)

pub ident_of-stands : (tokens : TokenStream) (found : Ident) → ident_of tokens ≡ Some found → found.span ≡ stream_span tokens
unfolding ident_of
ident_of-stands = whole-stands name-here
