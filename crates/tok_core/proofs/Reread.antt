-- The text of tokens is read as these tokens.
use Rattle.std.proofs.Common.{◌≡◌, ℕ, true, List, [], ◌∷◌, map, Option, Some, None, option_and_then, Result, Ok, Err, IfOk, IfErr, MatchResult, chars, refl, sym, ap, ◌∙◌, subst}
use Rattle.std.proofs.lemmas.Str.{encodes-chars, encodes_same}
use Rattle.std.specs.Str.{IsUtf8}
use Rattle.tok_scan.specs.Characters.{Characters}
use Rattle.tok_types.specs.declared.span.Span.{Span}
use Rattle.tok_types.specs.declared.span.Span.TheVariants.{CallSite}
use Rattle.tok_types.specs.declared.tree.Delimiter.{Delimiter}
use Rattle.tok_types.specs.declared.tree.TokenStream.{TokenStream}
use Rattle.tok_core.specs.Erased.{SameButSpans, flat_at}
use Rattle.tok_core.specs.Endings.{open_after, open_after_one, done, deep, wrong, EndsAt, Refused}
use Rattle.tok_core.specs.Flat.{Flat, token, opening, closing, flat_stream, stream_view}
use Rattle.tok_core.specs.Printing.{stream_text}
use Rattle.tok_core.specs.Readable.{IsReadable}
use Rattle.tok_core.specs.Spells.{Piece, Stand, tokens_of, Spells}
use Rattle.tok_core.specs.declared.error.LexError.{LexError}
use Rattle.tok_core.specs.declared.error.LexError.TheVariants.{TooDeep, Syntax, NoMemory}
use Rattle.tok_core.proofs.Depth.{closes_within}
use Rattle.tok_core.proofs.FlatTexts.{texts_of-flat}
use Rattle.tok_core.proofs.OneReading.{EndsAt-same, tokens_of-same}
use Rattle.tok_core.proofs.Respanned.{same_but_spans}
use Rattle.tok_core.proofs.Spelled.{all_chars, encodes-all_chars, reads_all}

-- spans open and close nothing
open_after_one-flat_at : (s : Span) (f : Flat) (stack : List Delimiter) → open_after_one (flat_at s f) stack ≡ open_after_one f stack
open_after_one-flat_at s (token it) stack = refl
open_after_one-flat_at s (opening d place) stack = refl
open_after_one-flat_at s (closing d place) stack = refl

open_after-flat_at : (s : Span) (fs : List Flat) (stack : List Delimiter) → open_after (map (flat_at s) fs) stack ≡ open_after fs stack
open_after-flat_at s [] stack = refl
open_after-flat_at s (f ∷ fs) stack =
    ap (option_and_then (open_after (map (flat_at s) fs))) (open_after_one-flat_at s f stack) ∙ after_one (open_after_one f stack) (open_after-flat_at s fs)
  where
    after_one : (o : Option (List Delimiter)) → ((stack : List Delimiter) → open_after (map (flat_at s) fs) stack ≡ open_after fs stack)
        → option_and_then (open_after (map (flat_at s) fs)) o ≡ option_and_then (open_after fs) o
    after_one None h = refl
    after_one (Some stack) h = h stack

-- the characters of the text
pub chars-stream_text : (s : TokenStream) (r : IsReadable s) (text : List ℕ) → IsUtf8 text → text ≡ stream_text s → chars text ≡ all_chars true (flat_stream s) r.spelled
chars-stream_text s r text u e =
    encodes_same (chars text) (all_chars true (flat_stream s) r.spelled)
    (encodes-chars text u ∙ e ∙ texts_of-flat (stream_view s) ∙ sym (encodes-all_chars true (flat_stream s) r.spelled))

-- a reading of the text gives the same tokens, and no error but want of memory
pub read_again : (source : ℕ) (text : Characters) (s : TokenStream) (r : IsReadable s) (result : Result TokenStream LexError) → text ≡ all_chars true (flat_stream s) r.spelled
    → IfOk result (Spells source text) → IfErr result (Refused source text) → MatchResult result (λ t. SameButSpans t s) (λ e. e ≡ NoMemory)
read_again source text s r result e ok err =
    let fs = flat_stream s in
    let reads = reads_all source 0 true fs r.spelled r.visible r.joined r.no_comment in
    let P : Characters → Type 0 = λ text. Stand 0 text reads.0 reads.1 [] in
    let stand : Stand 0 text reads.0 reads.1 [] = subst P (sym e) reads.2 in
    let matched : open_after (tokens_of source reads.0) [] ≡ Some [] =
    sym (open_after-flat_at CallSite (tokens_of source reads.0) []) ∙ ap (λ fs. open_after fs []) reads.3 ∙ open_after-flat_at CallSite fs [] ∙ closes_within (stream_view s) r.within in
    by_result result reads.0 reads.1 stand matched reads.3 ok err
  where
    by_result : (result : Result TokenStream LexError) (ps : List Piece) (to : ℕ) → Stand 0 text ps to [] → open_after (tokens_of source ps) [] ≡ Some []
        → map (flat_at CallSite) (tokens_of source ps) ≡ map (flat_at CallSite) (flat_stream s)
        → IfOk result (Spells source text) → IfErr result (Refused source text) → MatchResult result (λ t. SameButSpans t s) (λ e. e ≡ NoMemory)
    by_result (Ok t) ps to stand matched same ok err =
        same_but_spans t s
        (ap (map (flat_at CallSite)) (ok.same ∙ tokens_of-same source ok.pieces ps 0 text ok.end to ok.stand stand) ∙ same)
    by_result (Err (TooDeep at)) ps to stand matched same ok err =
        let ends : EndsAt source text to done = record { pieces = ps; rest = []; stack = []; stand = stand; matched = matched; stops = (refl, refl) } in
        let e : deep ≡ done = (EndsAt-same source text at to deep done err ends).1 in absurd (cc)
    by_result (Err (Syntax at)) ps to stand matched same ok err =
        let ends : EndsAt source text to done = record { pieces = ps; rest = []; stack = []; stand = stand; matched = matched; stops = (refl, refl) } in
        let e : wrong ≡ done = (EndsAt-same source text at to wrong done err ends).1 in absurd (cc)
    by_result (Err NoMemory) ps to stand matched same ok err = refl
