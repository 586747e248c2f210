-- Escapes are read whole, and what is read as such is one.
use Rattle.std.proofs.Common.{◌≡◌, ℕ, suc, ◌+◌, ◌<◌, inl, inr, ⊎_elim, Bool, true, false, not, cond, ◌&&◌, eqb, [], ◌∷◌, ◌++◌, length, take, drop, get_or, slice_index, refl, sym, ap, ◌∙◌, subst, arith, length-append, append_assoc}
use Rattle.std.proofs.Math.Seq.{take-append_seam}
use Rattle.std.proofs.lemmas.Bool.{and_parts, and_from, not-true, eqb-true, true≢false, false≢true}
use Rattle.std.proofs.lemmas.List.{take-append-drop}
use Rattle.std.proofs.lemmas.List.Folds.{length-prefix_len}
use Rattle.std.specs.Char.{is_ascii_hexdigit}
use Rattle.std.specs.List.{list_all, prefix_len}
use Rattle.tok_scan.specs.Characters.{Characters, begins}
use Rattle.tok_scan.specs.Escapes.{IsEscape, is_short, is_pair, in_hex, is_number_of_character}
use Rattle.tok_scan.specs.Scan.{escape_length, unicode_length}
use Rattle.tok_scan.proofs.Lists.{prefix_len-run, get_or-append_length, drop-get}

-- ---- an escape is read whole

pub digits-in_hex : (digits : Characters) → is_number_of_character digits ≡ true → list_all in_hex digits ≡ true
digits-in_hex digits h = (and_parts (begins is_ascii_hexdigit digits) _ (and_parts _ _ (and_parts _ _ h).0).0).1

-- escapes with `u`, where the digits are run through
unicode_length-append : (digits rest : Characters) → is_number_of_character digits ≡ true → unicode_length (117 ∷ 123 ∷ ((digits ++ 125 ∷ []) ++ rest)) ≡ length (117 ∷ 123 ∷ (digits ++ 125 ∷ []))
unicode_length-append digits rest h =
    let text : Characters = digits ++ 125 ∷ rest in
    let run : prefix_len in_hex text ≡ length digits = prefix_len-run in_hex digits (125 ∷ rest) (digits-in_hex digits h) refl in
    let size : 3 + length digits ≡ length (117 ∷ 123 ∷ (digits ++ 125 ∷ [])) = omega (arith, length-append digits (125 ∷ [])) in
    let place : 2 + length digits ≡ suc (suc (length digits)) = omega arith in
    let brace : slice_index (117 ∷ 123 ∷ text) (2 + length digits) ≡ 125 = ap (slice_index (117 ∷ 123 ∷ text)) place ∙ get_or-append_length digits (125 ∷ rest) in
    let test : (eqb (slice_index (117 ∷ 123 ∷ text) (2 + length digits)) 125 && is_number_of_character (take (length digits) text)) ≡ true =
    and_from _ _ (ap (λ c. eqb c 125) brace) (ap is_number_of_character (take-append_seam digits (125 ∷ rest)) ∙ h) in
    ap (λ z. unicode_length (117 ∷ 123 ∷ z)) (append_assoc digits (125 ∷ []) rest)
    ∙ ap (λ n. cond (eqb (slice_index (117 ∷ 123 ∷ text) (2 + n)) 125 && is_number_of_character (take n text)) (3 + n) 0) run
    ∙ ap (λ b. cond b (3 + length digits) 0) test
    ∙ size

-- an escape is read whole, whatever follows
pub escape_length-append : (byte : Bool) (e rest : Characters) → IsEscape byte e → escape_length byte (e ++ rest) ≡ length e
unfolding escape_length
escape_length-append byte e rest h = ⊎_elim
    (λ s. subst P (sym s.1) (rw (s.2) refl))
    (λ h. ⊎_elim (λ x. subst P (sym x.2) (rw (x.3) refl)) (λ u. subst P (sym u.1) (by_digits u.0 u.2 u.3)) h) h
  where
    P : Characters → Type 0
    P e = escape_length byte (e ++ rest) ≡ length e

    by_digits : (digits : Characters) → byte ≡ false → is_number_of_character digits ≡ true → P (117 ∷ 123 ∷ (digits ++ 125 ∷ []))
    by_digits digits b h = ap (λ b. cond (not b && true) (unicode_length (117 ∷ 123 ∷ ((digits ++ 125 ∷ []) ++ rest))) 0) b ∙ unicode_length-append digits rest h

pub escape-nonempty : (byte : Bool) (e : Characters) → IsEscape byte e → 0 < length e
escape-nonempty byte e h = ⊎_elim (λ s. omega (arith, ap length s.1)) (λ h. ⊎_elim (λ x. omega (arith, ap length x.2)) (λ u. omega (arith, ap length u.1)) h) h

-- ---- what is read is an escape

-- the front of a text of this length is an escape
abbrev pub EscapeFront : Bool → ℕ → Characters → Type 0
EscapeFront byte n text = (e : Characters) × (rest : Characters) × (text ≡ e ++ rest) × (n ≡ length e) × IsEscape byte e

pair-front : (byte : Bool) (c : ℕ) (cs : Characters) → (eqb c 120 && is_pair byte (slice_index cs 0) (slice_index cs 1)) ≡ true → EscapeFront byte 3 (c ∷ cs)
pair-front byte c [] h = absurd (false≢true (and_parts (eqb c 120) _ h).1)
pair-front byte c (a ∷ []) h =
    let pair = and_parts (is_ascii_hexdigit a && false) _ (and_parts (eqb c 120) _ h).1 in absurd (false≢true (and_parts (is_ascii_hexdigit a) false pair.0).1)
pair-front byte c (a ∷ b ∷ cs) h =
    let parts = and_parts (eqb c 120) (is_pair byte a b) h in
    (c ∷ a ∷ b ∷ [], cs, refl, refl, inr (inl (a, b, ap (λ c. c ∷ a ∷ b ∷ []) (eqb-true c 120 parts.0), parts.1)))

unicode-front : (byte : Bool) (cs : Characters) → byte ≡ false → eqb (unicode_length (117 ∷ 123 ∷ cs)) 0 ≡ false → EscapeFront byte (unicode_length (117 ∷ 123 ∷ cs)) (117 ∷ 123 ∷ cs)
unicode-front byte cs b h = cases (eqb (slice_index (117 ∷ 123 ∷ cs) (2 + n)) 125 && is_number_of_character (take n cs)) refl h
  where
    n : ℕ
    n = prefix_len in_hex cs

    cases : (t : Bool) → (eqb (slice_index (117 ∷ 123 ∷ cs) (2 + prefix_len in_hex cs)) 125 && is_number_of_character (take (prefix_len in_hex cs) cs)) ≡ t
        → eqb (cond t (3 + prefix_len in_hex cs) 0) 0 ≡ false → EscapeFront byte (cond t (3 + prefix_len in_hex cs) 0) (117 ∷ 123 ∷ cs)
    cases false e h = absurd (true≢false h)
    cases true e h =
        let m = prefix_len in_hex cs in
        let parts = and_parts (eqb (slice_index (117 ∷ 123 ∷ cs) (2 + m)) 125) _ e in
        let place : 2 + m ≡ suc (suc m) = omega arith in
        let brace : eqb (get_or cs m 0) 125 ≡ true = ap (λ n. eqb (slice_index (117 ∷ 123 ∷ cs) n) 125) (sym place) ∙ parts.0 in
        let digits : Characters = take m cs in
        let rest : Characters = drop (m + 1) cs in
        let split : cs ≡ (digits ++ 125 ∷ []) ++ rest = sym (take-append-drop m cs) ∙ ap (λ r. digits ++ r) (drop-get cs 124 m brace) ∙ sym (append_assoc digits (125 ∷ []) rest) in (
          117 ∷ 123 ∷ (digits ++ 125 ∷ []),
          rest,
          ap (λ z. 117 ∷ 123 ∷ z) split,
          omega (arith, length-append digits (125 ∷ []), length-prefix_len in_hex cs),
          inr (inr (digits, refl, b, parts.1)),
        )

escape-cases : (byte : Bool) (c : ℕ) (cs : Characters) (b d f : Bool) → is_short c ≡ b → (eqb c 120 && is_pair byte (slice_index cs 0) (slice_index cs 1)) ≡ d
    → (not byte && (eqb c 117 && eqb (slice_index cs 0) 123)) ≡ f → eqb (cond b 1 (cond d 3 (cond f (unicode_length (c ∷ cs)) 0))) 0 ≡ false
    → EscapeFront byte (cond b 1 (cond d 3 (cond f (unicode_length (c ∷ cs)) 0))) (c ∷ cs)
escape-cases byte c cs true d f p q r h = (c ∷ [], cs, refl, refl, inl (c, refl, p))
escape-cases byte c cs false true f p q r h = pair-front byte c cs q
escape-cases byte c cs false false true p q r h = by_text c cs (and_parts (not byte) _ r) h
  where
    by_text : (c : ℕ) (cs : Characters) → (not byte ≡ true) × ((eqb c 117 && eqb (slice_index cs 0) 123) ≡ true) → eqb (unicode_length (c ∷ cs)) 0 ≡ false → EscapeFront byte (unicode_length (c ∷ cs)) (c ∷ cs)
    by_text c [] r h = absurd (false≢true (and_parts (eqb c 117) false r.1).1)
    by_text c (d ∷ cs) r h =
        let parts = and_parts (eqb c 117) (eqb d 123) r.1 in
        let P : ℕ → ℕ → Type 0 = λ c d. eqb (unicode_length (c ∷ d ∷ cs)) 0 ≡ false → EscapeFront byte (unicode_length (c ∷ d ∷ cs)) (c ∷ d ∷ cs) in
        subst (λ c. P c d) (sym (eqb-true c 117 parts.0)) (subst (P 117) (sym (eqb-true d 123 parts.1)) (unicode-front byte cs (not-true byte r.0))) h
escape-cases byte c cs false false false p q r h = absurd (true≢false h)

pub escape-front : (byte : Bool) (text : Characters) → eqb (escape_length byte text) 0 ≡ false → EscapeFront byte (escape_length byte text) text
unfolding escape_length
escape-front byte [] h = absurd (true≢false (sym (none byte) ∙ h))
  where
    none : (byte : Bool) → eqb (cond (not byte && false) (unicode_length []) 0) 0 ≡ true
    none true = refl
    none false = refl
escape-front byte (c ∷ cs) h = escape-cases byte c cs _ _ _ refl refl refl h
