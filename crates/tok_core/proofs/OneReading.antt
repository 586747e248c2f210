-- A text has one reading.
use Rattle.std.proofs.Common.{◌≡◌, ⊎_elim, ℕ, ◌+◌, true, false, nat_lt, List, [], ◌∷◌, ◌++◌, length, Option, Some, None, option_and_then, refl, sym, ap, ◌∙◌, subst, arith}
use Rattle.std.specs.Str.{encode_utf8_all}
use Rattle.tok_scan.proofs.OnePiece.{same-kind, same-front, same-after, no-IsPieceAt-nil}
use Rattle.tok_scan.specs.Characters.{Characters}
use Rattle.tok_scan.specs.Pieces.{IsPieceAt}
use Rattle.tok_scan.specs.declared.kind.Kind.{Kind}
use Rattle.tok_scan.specs.declared.kind.Kind.TheVariants as kind
use Rattle.tok_types.specs.declared.tree.Delimiter.{Delimiter}
use Rattle.tok_types.specs.declared.tree.TokenStream.{TokenStream}
use Rattle.tok_core.specs.Endings.{limit, is_top, open_after, starts_group, Ending, done, deep, wrong, Stops, EndsAt}
use Rattle.tok_core.specs.Flat.{Flat}
use Rattle.tok_core.specs.Spells.{Piece, Stand, kept, token_of, tokens_of, Spells}
use Rattle.tok_core.proofs.Before.{open_after-append}
use Rattle.tok_core.proofs.Trees.{flat_stream-same}

not_at_end : (k : Kind) (text front after : Characters) → text ≡ [] → IsPieceAt k text front after → ⊥
not_at_end k text front after e i = let P : Characters → Type 0 = λ text. IsPieceAt k text front after in no-IsPieceAt-nil k front after (subst P e i)

-- ---- one ending at one place

close_starts_none : (k : Kind) (d : Delimiter) → starts_group k ≡ true → k ≡ kind.Close d → ⊥
close_starts_none k d h e = let e : starts_group (kind.Close d) ≡ true = subst (λ k. starts_group k ≡ true) e h in cc

done_deep : (s : List Delimiter) (r : Characters) → Stops s r done → Stops s r deep → ⊥
done_deep s r h k = not_at_end k.0 r k.1 k.2 h.0 k.3

done_wrong : (s : List Delimiter) (r : Characters) → Stops s r done → Stops s r wrong → ⊥
done_wrong s r h k = ⊎_elim
    (λ w. omega (arith, w.1, ap length h.1))
    (⊎_elim (λ w. omega (arith, w.0, ap length h.0)) (λ w. not_at_end (kind.Close w.0) r w.1 w.2 h.0 w.3))
    k

deep_wrong : (s : List Delimiter) (r : Characters) → Stops s r deep → Stops s r wrong → ⊥
deep_wrong s r h k = ⊎_elim
    (λ w. not_at_end h.0 r h.1 h.2 w.0 h.3)
    (⊎_elim
    (λ w. w.1 h.0 h.1 h.2 h.3)
    (λ w. close_starts_none h.0 w.0 h.4 (same-kind h.0 (kind.Close w.0) r h.1 h.2 w.1 w.2 h.3 w.3)))
    k

same_ending : (s : List Delimiter) (r : Characters) (e f : Ending) → Stops s r e → Stops s r f → e ≡ f
same_ending s r done done h k = refl
same_ending s r done deep h k = absurd (done_deep s r h k)
same_ending s r done wrong h k = absurd (done_wrong s r h k)
same_ending s r deep done h k = absurd (done_deep s r k h)
same_ending s r deep deep h k = refl
same_ending s r deep wrong h k = absurd (deep_wrong s r h k)
same_ending s r wrong done h k = absurd (done_wrong s r k h)
same_ending s r wrong deep h k = absurd (deep_wrong s r k h)
same_ending s r wrong wrong h k = refl

-- ---- no piece goes on where a reading ends

fails_open : (source : ℕ) (k : Kind) (front : Characters) (start end : ℕ) (s : List Delimiter) → starts_group k ≡ true → nat_lt (length s) limit ≡ false
    → open_after (token_of source k front start end) s ≡ None
fails_open source (kind.Open d) front start end s e h = rw h refl
fails_open source kind.Doc front start end s e h = rw h refl
fails_open source k front start end s e h = absurd (cc)

fails_close : (source : ℕ) (d : Delimiter) (k : Kind) (front : Characters) (start end : ℕ) (s : List Delimiter) → k ≡ kind.Close d → is_top d s ≡ false
    → open_after (token_of source k front start end) s ≡ None
fails_close source d k front start end s e h =
    let P : Kind → Type 0 = λ k. open_after (token_of source k front start end) s ≡ None in
    subst P (sym e) (rw h refl)

stays_failed : (fs gs : List Flat) (s t : List Delimiter) → open_after fs s ≡ None → open_after (fs ++ gs) s ≡ Some t → ⊥
stays_failed fs gs s t n h = let e : Some t ≡ None = sym h ∙ open_after-append fs gs s ∙ ap (option_and_then (open_after gs)) n in cc

stuck : (source : ℕ) (s t : List Delimiter) (text front after : Characters) (k : Kind) (some : Characters) (start end : ℕ) (more : List Flat) (e : Ending) → Stops s text e → IsPieceAt k text front after
    → open_after (token_of source k some start end ++ more) s ≡ Some t → ⊥
stuck source s t text front after k some start end more done h i o = not_at_end k text front after h.0 i
stuck source s t text front after k some start end more deep h i o =
    let same = same-kind h.0 k text h.1 h.2 front after h.3 i in
    stays_failed (token_of source k some start end) more s t (fails_open source k some start end s (subst (λ k. starts_group k ≡ true) same h.4) h.5) o
stuck source s t text front after k some start end more wrong h i o = ⊎_elim
    (λ w. not_at_end k text front after w.0 i)
    (⊎_elim
    (λ w. w.1 k front after i)
    (λ w. stays_failed (token_of source k some start end) more s t
    (fails_close source w.0 k some start end s (same-kind k (kind.Close w.0) text front after w.1 w.2 i w.3) w.4) o))
    h

-- ---- one reading

-- the tokens of a piece
abbrev tokens_at : ℕ → Piece → List Flat
tokens_at source p = token_of source p.kind (kept p.kind p.text p.after) p.start p.end

-- the tokens of one piece at one place are the same
same_tokens : (source : ℕ) (v w : Piece) (from : ℕ) (text : Characters) → v.start ≡ from → v.end ≡ from + length (encode_utf8_all v.text) → IsPieceAt v.kind text v.text v.after
    → w.start ≡ from → w.end ≡ from + length (encode_utf8_all w.text) → IsPieceAt w.kind text w.text w.after
    → (v.end ≡ w.end) × (v.after ≡ w.after) × (tokens_at source v ≡ tokens_at source w)
same_tokens source v w from text vs ve vi ws we wi =
    let kinds = same-kind v.kind w.kind text v.text v.after w.text w.after vi wi in
    let texts = same-front v.kind w.kind text v.text v.after w.text w.after vi wi in
    let afters = same-after v.kind w.kind text v.text v.after w.text w.after vi wi in
    let ends : v.end ≡ w.end = ve ∙ ap (λ t. from + length (encode_utf8_all t)) texts ∙ sym we in
    (ends, afters, cc (kinds, texts, afters, ends, vs, ws))

-- first the tokens of a piece, then those after it
in_turn : (fs gs : List Flat) (s t : List Delimiter) → open_after (fs ++ gs) s ≡ Some t → (u : List Delimiter) × (open_after fs s ≡ Some u) × (open_after gs u ≡ Some t)
in_turn fs gs s t h = by_first (open_after fs s) refl (sym (open_after-append fs gs s) ∙ h)
  where
    by_first : (o : Option (List Delimiter)) → open_after fs s ≡ o → option_and_then (open_after gs) o ≡ Some t → (u : List Delimiter) × (open_after fs s ≡ Some u) × (open_after gs u ≡ Some t)
    by_first None e h = absurd (cc)
    by_first (Some u) e h = (u, e, h)

-- Two readings have the same end, ending and tokens.
abbrev pub IsSame : ℕ → ℕ → ℕ → Ending → Ending → List Piece → List Piece → Type 0
IsSame source m n e f ps qs = (m ≡ n) × (e ≡ f) × (tokens_of source ps ≡ tokens_of source qs)

pub one_reading : (source : ℕ) (ps qs : List Piece) (from : ℕ) (text : Characters) (stack : List Delimiter) (m n : ℕ) (r q : Characters) (s t : List Delimiter) (e f : Ending)
    → Stand from text ps m r → Stand from text qs n q → open_after (tokens_of source ps) stack ≡ Some s → open_after (tokens_of source qs) stack ≡ Some t
    → Stops s r e → Stops t q f → IsSame source m n e f ps qs
one_reading source [] [] from text stack m n r q s t e f a b o p h k =
    let rests : r ≡ q = sym a.1 ∙ b.1 in
    let stacks : s ≡ t = cc in
    let P : Characters → Type 0 = λ r. Stops t r f in
    let Q : List Delimiter → Type 0 = λ t. Stops t r f in
    (sym a.0 ∙ b.0, same_ending s r e f h (subst Q (sym stacks) (subst P (sym rests) k)), refl)
one_reading source [] (w ∷ qs) from text stack m n r q s t e f a b o p h k =
    let P : Characters → Type 0 = λ r. Stops s r e in
    let stacks : stack ≡ s = cc in
    let Q : List Delimiter → Type 0 = λ s. open_after (tokens_at source w ++ tokens_of source qs) s ≡ Some t in
    absurd (stuck source s t text w.text w.after w.kind (kept w.kind w.text w.after) w.start w.end (tokens_of source qs) e (subst P (sym a.1) h) b.2 (subst Q stacks p))
one_reading source (v ∷ ps) [] from text stack m n r q s t e f a b o p h k =
    let P : Characters → Type 0 = λ q. Stops t q f in
    let stacks : stack ≡ t = cc in
    let Q : List Delimiter → Type 0 = λ t. open_after (tokens_at source v ++ tokens_of source ps) t ≡ Some s in
    absurd (stuck source t s text v.text v.after v.kind (kept v.kind v.text v.after) v.start v.end (tokens_of source ps) f (subst P (sym b.1) k) a.2 (subst Q stacks o))
one_reading source (v ∷ ps) (w ∷ qs) from text stack m n r q s t e f a b o p h k =
    let same = same_tokens source v w from text a.0 a.1 a.2 b.0 b.1 b.2 in
    let one = tokens_at source v in
    let two = tokens_at source w in
    let u = in_turn one (tokens_of source ps) stack s o in
    let x = in_turn two (tokens_of source qs) stack t p in
    let stacks : x.0 ≡ u.0 = some_same x.0 u.0 (sym x.1 ∙ ap (λ f. open_after f stack) (sym same.2) ∙ u.1) in
    let P : ℕ → Type 0 = λ e. Stand e w.after qs n q in
    let Q : Characters → Type 0 = λ z. Stand v.end z qs n q in
    let R : List Delimiter → Type 0 = λ u. open_after (tokens_of source qs) u ≡ Some t in
    let more = one_reading source ps qs v.end v.after u.0 m n r q s t e f a.3 (subst Q (sym same.1) (subst P (sym same.0) b.3)) u.2 (subst R stacks x.2) h k in
    (more.0, more.1, ap (λ f. f ++ tokens_of source ps) same.2 ∙ ap (λ r. two ++ r) more.2)
  where
    some_same : (x y : List Delimiter) → Some x ≡ Some y → x ≡ y
    some_same x y h = cc

-- a text ends at one place in one way
pub EndsAt-same : (source : ℕ) (text : Characters) (m n : ℕ) (e f : Ending) → EndsAt source text m e → EndsAt source text n f → (m ≡ n) × (e ≡ f)
EndsAt-same source text m n e f a b =
    let one = one_reading source a.pieces b.pieces 0 text [] m n a.rest b.rest a.stack b.stack e f a.stand b.stand a.matched b.matched a.stops b.stops in
    (one.0, one.1)

-- the pieces of a text have the same tokens, however deep they nest
pub tokens_of-same : (source : ℕ) (ps qs : List Piece) (from : ℕ) (text : Characters) (m n : ℕ) → Stand from text ps m [] → Stand from text qs n [] → tokens_of source ps ≡ tokens_of source qs
tokens_of-same source [] [] from text m n a b = refl
tokens_of-same source [] (w ∷ qs) from text m n a b = absurd (not_at_end w.kind text w.text w.after a.1 b.2)
tokens_of-same source (v ∷ ps) [] from text m n a b = absurd (not_at_end v.kind text v.text v.after b.1 a.2)
tokens_of-same source (v ∷ ps) (w ∷ qs) from text m n a b =
    let same = same_tokens source v w from text a.0 a.1 a.2 b.0 b.1 b.2 in
    let P : ℕ → Type 0 = λ e. Stand e w.after qs n [] in
    let Q : Characters → Type 0 = λ z. Stand v.end z qs n [] in
    let more = tokens_of-same source ps qs v.end v.after m n a.3 (subst Q (sym same.1) (subst P (sym same.0) b.3)) in
    ap (λ f. f ++ tokens_of source ps) same.2 ∙ ap (λ r. tokens_at source w ++ r) more

-- a text spells one stream at most
pub Spells-same : (source : ℕ) (text : Characters) (a b : TokenStream) → Spells source text a → Spells source text b → a ≡ b
Spells-same source text a b h k =
    flat_stream-same a b (h.same ∙ tokens_of-same source h.pieces k.pieces 0 text h.end k.end h.stand k.stand ∙ sym k.same)
