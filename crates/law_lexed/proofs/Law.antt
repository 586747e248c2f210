-- The computed tokens of a text are the stream that it spells, within the limit.
use Rattle.std.proofs.Common.{◌≡◌, ℕ, List, [], length, Some, option_map, option_and_then, sym, ap, ◌∙◌, subst, arith}
use Rattle.std.proofs.lemmas.List.{append-nil}
use Rattle.std.proofs.lemmas.Option.{option_and_then_some}
use Rattle.tok_scan.specs.Characters.{Characters}
use Rattle.tok_types.specs.declared.tree.TokenStream.{TokenStream}
use Rattle.tok_types.specs.declared.tree.TokenTree.{TokenTree}
use Rattle.tok_core.specs.Endings.{IsWithin, open_after}
use Rattle.tok_core.specs.Flat.{flat_stream, stream_view}
use Rattle.tok_core.specs.Spells.{Piece, Spells, tokens_of}
use Rattle.tok_core.proofs.Depth.{within_closes}
use Rattle.tok_core.proofs.Trees.{flat_stream-same}
use Rattle.tok_types.specs.Stream.{stream_of}
use Rattle.law_lexed.specs.Lexed.{pieces, trees_in, lexed}
use Rattle.law_lexed.proofs.Cut.{pieces-stand, pieces-all}
use Rattle.law_lexed.proofs.Grouped.{trees_in-flat, trees_in-closes, passes_trees}
use Rattle.law_lexed.proofs.Options.{option_map-some}
use Rattle.law_lexed.proofs.Placed.{IsPlaced-tokens_of}
use Rattle.law_lexed.proofs.Views.{flat_stream-trees}

-- the stream of the trees has the tokens that they are made of
same_tokens : (source : ℕ) (ps : List Piece) (ts : List TokenTree) → trees_in [] [] (tokens_of source ps) ≡ Some ts → flat_stream (stream_of ts) ≡ tokens_of source ps
same_tokens source ps ts h = flat_stream-trees ts ∙ trees_in-flat source (tokens_of source ps) [] [] ts tt (IsPlaced-tokens_of source ps) h

pub lexed-spells : (source : ℕ) (text : Characters) (tokens : TokenStream) → lexed source text ≡ Some tokens → Spells source text tokens × IsWithin tokens
unfolding lexed
lexed-spells source text tokens h =
    option_map-some stream_of (option_and_then (λ ps. trees_in [] [] (tokens_of source ps)) (pieces (length text) 0 text)) tokens h (λ ts built same.
    option_and_then_some (λ ps. trees_in [] [] (tokens_of source ps)) (pieces (length text) 0 text) ts built (λ ps cut trees.
    let stand = pieces-stand (length text) 0 text ps cut in
    let flat = same_tokens source ps ts trees in
    let closes = ap (λ fs. open_after fs []) flat ∙ trees_in-closes (tokens_of source ps) [] [] ts trees in
    let P : TokenStream → Type 0 = λ tokens. Spells source text tokens × IsWithin tokens in
    subst P same (record { pieces = ps; end = stand.0; stand = stand.1; same = flat }, within_closes (stream_view (stream_of ts)) closes)))

pub spells-lexed : (source : ℕ) (text : Characters) (tokens : TokenStream) → Spells source text tokens → IsWithin tokens → lexed source text ≡ Some tokens
unfolding lexed
spells-lexed source text tokens h within =
    let through = passes_trees (stream_view tokens) [] [] [] (omega (arith, within)) in
    let built : trees_in [] [] (tokens_of source h.pieces) ≡ Some through.0 =
    ap (trees_in [] []) (sym h.same ∙ sym (append-nil (flat_stream tokens))) ∙ through.1 in
    let cut = pieces-all h.pieces (length text) 0 h.end text (omega arith) h.stand in
    ap (λ o. option_map stream_of (option_and_then (λ ps. trees_in [] [] (tokens_of source ps)) o)) cut
    ∙ ap (option_map stream_of) built
    ∙ ap Some (flat_stream-same (stream_of through.0) tokens (same_tokens source h.pieces through.0 built ∙ sym h.same))
