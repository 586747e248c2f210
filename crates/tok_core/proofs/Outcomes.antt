-- What a reading answers, by how the text ends.
use Rattle.std.proofs.Common.{◌≡◌, inl, inr, ℕ, [], Result, Ok, Err, IfOk, IfErr, refl, sym, ap, ◌∙◌}
use Rattle.tok_scan.specs.Characters.{Characters}
use Rattle.tok_types.specs.declared.tree.TokenStream.{TokenStream}
use Rattle.tok_core.specs.Endings.{open_after, Closes, IsWithin, Ending, done, deep, wrong, EndsAt, Refused, Answers}
use Rattle.tok_core.specs.Flat.{stream_view}
use Rattle.tok_core.specs.Spells.{Spells}
use Rattle.tok_core.specs.declared.error.LexError.{LexError}
use Rattle.tok_core.specs.declared.error.LexError.TheVariants.{TooDeep, Syntax, NoMemory}
use Rattle.tok_core.proofs.Depth.{closes_within, within_closes}
use Rattle.tok_core.proofs.OneReading.{EndsAt-same, Spells-same}

spelled_ends : (source : ℕ) (text : Characters) (s : TokenStream) → Spells source text s → Closes s → (n : ℕ) × EndsAt source text n done
spelled_ends source text s h w =
    (h.end, record { pieces = h.pieces; rest = []; stack = []; stand = h.stand; matched = ap (λ f. open_after f []) (sym h.same) ∙ w; stops = (refl, refl) })

-- a text that ends well at one place does not end otherwise
not_other : (source : ℕ) (text : Characters) (s : TokenStream) (n : ℕ) (e : Ending) → Spells source text s → Closes s → EndsAt source text n e → done ≡ e
not_other source text s n e h w k = let d = spelled_ends source text s h w in (EndsAt-same source text d.0 n done e d.1 k).1

pub only : (source : ℕ) (text : Characters) (s : TokenStream) (r : Result TokenStream LexError) → IfOk r (Spells source text) → IfErr r (Refused source text)
    → Spells source text s → IsWithin s → Answers r (Ok s)
only source text s (Ok t) ok err h w = inl (ap Ok (Spells-same source text t s ok h))
only source text s (Err (TooDeep at)) ok err h w = let e = not_other source text s at deep h (closes_within (stream_view s) w) err in absurd (cc)
only source text s (Err (Syntax at)) ok err h w = let e = not_other source text s at wrong h (closes_within (stream_view s) w) err in absurd (cc)
only source text s (Err NoMemory) ok err h w = inr refl

pub only_deep : (source : ℕ) (text : Characters) (at : ℕ) (r : Result TokenStream LexError) → IfOk r (Spells source text) → IfOk r Closes → IfErr r (Refused source text)
    → EndsAt source text at deep → Answers r (Err (TooDeep at))
only_deep source text at (Ok t) ok closed err h = let e = not_other source text t at deep ok closed h in absurd (cc)
only_deep source text at (Err (TooDeep n)) ok closed err h = inl (ap (λ n. Err (TooDeep n)) (EndsAt-same source text n at deep deep err h).0)
only_deep source text at (Err (Syntax n)) ok closed err h = let e : wrong ≡ deep = (EndsAt-same source text n at wrong deep err h).1 in absurd (cc)
only_deep source text at (Err NoMemory) ok closed err h = inr refl

pub only_wrong : (source : ℕ) (text : Characters) (at : ℕ) (r : Result TokenStream LexError) → IfOk r (Spells source text) → IfOk r Closes → IfErr r (Refused source text)
    → EndsAt source text at wrong → Answers r (Err (Syntax at))
only_wrong source text at (Ok t) ok closed err h = let e = not_other source text t at wrong ok closed h in absurd (cc)
only_wrong source text at (Err (TooDeep n)) ok closed err h = let e : deep ≡ wrong = (EndsAt-same source text n at deep wrong err h).1 in absurd (cc)
only_wrong source text at (Err (Syntax n)) ok closed err h = inl (ap (λ n. Err (Syntax n)) (EndsAt-same source text n at wrong wrong err h).0)
only_wrong source text at (Err NoMemory) ok closed err h = inr refl

pub closed_within : (r : Result TokenStream LexError) → IfOk r Closes → IfOk r IsWithin
closed_within (Ok s) h = within_closes (stream_view s) h
closed_within (Err e) h = tt
