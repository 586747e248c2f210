-- Numbers are found, and what is found as such is.
use Rattle.std.proofs.Common.{◌≡◌, ℕ, zero, suc, ◌+◌, ◌^◌, ◌<◌, ◌≤◌, ◌⊎◌, inl, inr, ⊎_elim, Bool, true, false, not, cond, ◌&&◌, ◌||◌, eqb, nat_lt, [], ◌∷◌, ◌++◌, length, take, drop, slice_index, Some, None, refl, sym, ap, ◌∙◌, subst, arith, length-append, append_assoc}
use Rattle.std.proofs.Math.Seq.{take-append_seam, drop-append_seam}
use Rattle.std.proofs.lemmas.Bool.{and_parts, and_from, or_cases, or_parts, not-true, eqb-true, true≢false, false≢true, ltb-true, lt-ltb, or_left, or_right, or_from}
use Rattle.std.proofs.lemmas.List.{take-append-drop}
use Rattle.std.proofs.lemmas.List.Folds.{length-prefix_len}
use Rattle.std.specs.Char.{is_digit}
use Rattle.std.specs.List.{list_any, prefix_len}
use Rattle.tok_types.specs.Names.{starts_name, continues_name, is_name}
use Rattle.tok_scan.specs.Characters.{Characters, begins}
use Rattle.tok_scan.specs.Escapes.{digits_value}
use Rattle.tok_scan.specs.Numbers.{is_decimal, in_digits, IsDecimalRun, is_after_dot, begins_fraction, IsFraction, is_exponent_letter, is_sign, IsExponentRun, IsSomeExponent, IsExponent, is_suffix, base_of, begins_base, IsDecimalNumber, IsBasedNumber}
use Rattle.tok_scan.specs.Scan.{found, front, fraction_length, sign_length, exponent_digits, exponent_length, suffix_length, decimal, decimal_number, based_number, number}
use Rattle.tok_scan.proofs.Answers.{Reaches, Sound, Sound-same, front-head}
use Rattle.tok_scan.proofs.Heads.{head_of-digit, head_of-zero, decimal-starts}
use Rattle.tok_scan.proofs.Identifiers.{list_all-name, begins-name, name-front}
use Rattle.tok_scan.proofs.Lists.{prefix_len-run, length-le-prefix_len, list_all-take_prefix, begins-drop_prefix, drop-get}
use Rattle.tok_scan.specs.declared.kind.Found.{Found}
use Rattle.tok_scan.specs.declared.kind.Kind.TheVariants as kind
use Rattle.tok_scan.specs.declared.scan.Head.TheVariants as head

-- ---- runs of decimal digits

-- what begins with no digit and no `_` begins with no digit
no_digit : (text : Characters) → begins (in_digits 10) text ≡ false → begins is_decimal text ≡ false
no_digit [] h = refl
no_digit (c ∷ cs) h = (or_parts (is_digit c 10) (eqb c 95) h).0

pub decimal_run : (text after : Characters) → IsDecimalRun text after → prefix_len (in_digits 10) (text ++ after) ≡ length text
decimal_run text after h = prefix_len-run (in_digits 10) text after h.digits h.ends

-- the run of a text that begins with a digit
begins-take : (p q : ℕ → Bool) → ((c : ℕ) → p c ≡ true → q c ≡ true) → (text : Characters) → begins p text ≡ true → begins p (take (prefix_len q text) text) ≡ true
begins-take p q i [] h = absurd (false≢true h)
begins-take p q i (c ∷ cs) h =
    let n : prefix_len q (c ∷ cs) ≡ suc (prefix_len q cs) = rw (i c h) (omega arith) in
    subst (λ n. begins p (take n (c ∷ cs)) ≡ true) (sym n) h

digit-in_digits : (c : ℕ) → is_decimal c ≡ true → in_digits 10 c ≡ true
digit-in_digits c h = or_left (is_digit c 10) (eqb c 95) h

decimal_run-front : (text : Characters) → begins is_decimal text ≡ true → IsDecimalRun (take (prefix_len (in_digits 10) text) text) (drop (prefix_len (in_digits 10) text) text)
decimal_run-front text h = record {
  first = begins-take is_decimal (in_digits 10) digit-in_digits text h;
  digits = list_all-take_prefix (in_digits 10) text;
  ends = begins-drop_prefix (in_digits 10) text;
}

-- ---- fractions

-- a digit may follow the `.`
digit-after_dot : (c : ℕ) → is_decimal c ≡ true → is_after_dot c ≡ false
digit-after_dot c h = or_from (eqb c 46) (starts_name c) (cases (eqb c 46) refl) (decimal-starts c h)
  where
    cases : (b : Bool) → eqb c 46 ≡ b → b ≡ false
    cases true e = absurd (true≢false (sym h ∙ ap is_decimal (eqb-true c 46 e)))
    cases false e = refl

pub fraction_length-append : (text after : Characters) → IsFraction text after → fraction_length (text ++ after) ≡ length text
fraction_length-append text after h = ⊎_elim
    (λ n. subst P (sym n.0) (ap (λ b. cond b (cond (begins is_decimal (drop 1 after)) (1 + prefix_len (in_digits 10) (drop 1 after)) 1) 0) n.1))
    (λ h. ⊎_elim
    (λ d. subst P (sym d.0) (ap (λ b. cond (not b) (cond (begins is_decimal after) (1 + prefix_len (in_digits 10) after) 1) 0) d.1 ∙ ap (λ b. cond b (1 + prefix_len (in_digits 10) after) 1) d.2))
    (λ d. subst P (sym d.1) (by_digits d.0 d.2)) h) h
  where
    P : Characters → Type 0
    P text = fraction_length (text ++ after) ≡ length text

    by_digits : (digits : Characters) → IsDecimalRun digits after → P (46 ∷ digits)
    by_digits [] r = absurd (false≢true r.first)
    by_digits (c ∷ cs) r =
        let run = decimal_run (c ∷ cs) after r in
        ap (λ b. cond (not b) (cond (is_decimal c) (1 + prefix_len (in_digits 10) (c ∷ (cs ++ after))) 1) 0) (digit-after_dot c r.first)
        ∙ ap (λ b. cond b (1 + prefix_len (in_digits 10) (c ∷ (cs ++ after))) 1) r.first
        ∙ omega (arith, run)

-- what a text begins with, of this length, and what follows
abbrev FrontOf : (Characters → Characters → Type 0) → ℕ → Characters → Type 0
FrontOf P n text = (front : Characters) × (after : Characters) × (text ≡ front ++ after) × (n ≡ length front) × P front after

fraction-front : (text : Characters) → FrontOf IsFraction (fraction_length text) text
fraction-front text = cases (begins_fraction text) refl
  where
    Q : ℕ → Characters → Type 0
    Q n text = FrontOf IsFraction n text

    dotted : (cs : Characters) → begins is_after_dot cs ≡ false → (b : Bool) → begins is_decimal cs ≡ b → Q (cond b (1 + prefix_len (in_digits 10) cs) 1) (46 ∷ cs)
    dotted cs d false e = (46 ∷ [], cs, refl, refl, inr (inl (refl, d, e)))
    dotted cs d true e =
        let n = prefix_len (in_digits 10) cs in (
          46 ∷ take n cs,
          drop n cs,
          ap (λ z. 46 ∷ z) (sym (take-append-drop n cs)),
          omega (arith, length-prefix_len (in_digits 10) cs),
          inr (inr (take n cs, refl, decimal_run-front cs e)),
        )

    dot : begins_fraction text ≡ true → Q (cond (begins is_decimal (drop 1 text)) (1 + prefix_len (in_digits 10) (drop 1 text)) 1) text
    dot h =
        let parts = and_parts (eqb (slice_index text 0) 46) _ h in
        let same : text ≡ 46 ∷ drop 1 text = drop-get text 45 0 parts.0 in
        subst (Q (cond (begins is_decimal (drop 1 text)) (1 + prefix_len (in_digits 10) (drop 1 text)) 1)) (sym same) (dotted (drop 1 text) (not-true _ parts.1) _ refl)

    cases : (b : Bool) → begins_fraction text ≡ b → Q (cond b (cond (begins is_decimal (drop 1 text)) (1 + prefix_len (in_digits 10) (drop 1 text)) 1) 0) text
    cases true h = dot h
    cases false h = ([], text, refl, refl, inl (refl, h))

-- ---- exponents

-- digits and `_` begin with no sign
no_sign : (c : ℕ) → in_digits 10 c ≡ true → is_sign c ≡ false
no_sign c h = or_from (eqb c 43) (eqb c 45) (other 43 refl) (other 45 refl)
  where
    other : (n : ℕ) → in_digits 10 n ≡ false → eqb c n ≡ false
    other n k = cases (eqb c n) refl
      where
        cases : (b : Bool) → eqb c n ≡ b → b ≡ false
        cases true e = absurd (true≢false (sym h ∙ ap (in_digits 10) (eqb-true c n e) ∙ k))
        cases false e = refl

exponent_run : (digits after : Characters) → IsExponentRun digits after → exponent_digits (digits ++ after) ≡ length digits
exponent_run digits after h =
    let text : Characters = digits ++ after in
    let run : prefix_len (in_digits 10) text ≡ length digits = prefix_len-run (in_digits 10) digits after h.digits h.ends in
    let some : list_any is_decimal (take (length digits) text) ≡ true = ap (list_any is_decimal) (take-append_seam digits after) ∙ h.some in
    ap (λ n. cond (list_any is_decimal (take n text)) n 0) run ∙ ap (λ b. cond b (length digits) 0) some

run-nonempty : (digits after : Characters) → IsExponentRun digits after → 0 < length digits
run-nonempty [] after h = absurd (false≢true h.some)
run-nonempty (c ∷ digits) after h = omega arith

run-no_sign : (digits after : Characters) → IsExponentRun digits after → sign_length (digits ++ after) ≡ 0
run-no_sign [] after h = absurd (false≢true h.some)
run-no_sign (c ∷ digits) after h = ap (λ b. cond b 1 0) (no_sign c (and_parts (in_digits 10 c) _ h.digits).0)

-- an exponent by its parts
exponent_length-parts : (letter : ℕ) (rest : Characters) (sign digits : ℕ) → is_exponent_letter letter ≡ true → sign_length rest ≡ sign
    → exponent_digits (drop (1 + sign) (letter ∷ rest)) ≡ digits → 0 < digits → exponent_length (letter ∷ rest) ≡ 1 + sign + digits
exponent_length-parts letter rest sign digits l s d some =
    let text : Characters = letter ∷ rest in
    ap (λ s. cond (is_exponent_letter letter && nat_lt 0 (exponent_digits (drop (1 + s) text))) (1 + s + exponent_digits (drop (1 + s) text)) 0) s
    ∙ ap (λ d. cond (is_exponent_letter letter && nat_lt 0 d) (1 + sign + d) 0) d
    ∙ ap (λ b. cond b (1 + sign + digits) 0) (and_from _ _ l (lt-ltb 0 digits some))

exponent_length-append : (text after : Characters) → IsSomeExponent text after → (exponent_length (text ++ after) ≡ length text) × (0 < length text)
exponent_length-append text after h =
    let letter = h.0 in
    let digits : Characters = h.2 in
    let some = run-nonempty digits after h.6 in
    let run = exponent_run digits after h.6 in
    subst P (sym h.3) (⊎_elim
    (λ n. let q : Q [] = (exponent_length-parts letter (digits ++ after) 0 (length digits) h.4 (run-no_sign digits after h.6) run some ∙ omega arith, omega arith) in subst Q (sym n) q)
    (λ s. let q : Q (s.0 ∷ []) = (exponent_length-parts letter (s.0 ∷ (digits ++ after)) 1 (length digits) h.4 (ap (λ b. cond b 1 0) s.2) run some ∙ omega arith, omega arith) in subst Q (sym s.1) q) h.5)
  where
    P : Characters → Type 0
    P text = (exponent_length (text ++ after) ≡ length text) × (0 < length text)

    Q : Characters → Type 0
    Q sign = P (h.0 ∷ (sign ++ h.2))

-- the digits of an exponent, and what follows
exponent_digits-front : (text : Characters) → 0 < exponent_digits text → FrontOf IsExponentRun (exponent_digits text) text
exponent_digits-front text h = cases (list_any is_decimal (take (prefix_len (in_digits 10) text) text)) refl h
  where
    cases : (b : Bool) → list_any is_decimal (take (prefix_len (in_digits 10) text) text) ≡ b → 0 < cond b (prefix_len (in_digits 10) text) 0
        → FrontOf IsExponentRun (cond b (prefix_len (in_digits 10) text) 0) text
    cases false e h = absurd (omega arith)
    cases true e h =
        let n = prefix_len (in_digits 10) text in (
          take n text,
          drop n text,
          sym (take-append-drop n text),
          sym (length-prefix_len (in_digits 10) text),
          record { some = e; digits = list_all-take_prefix (in_digits 10) text; ends = begins-drop_prefix (in_digits 10) text },
        )

-- an exponent whose sign is known
signed-front : (letter : ℕ) (sign rest : Characters) → is_exponent_letter letter ≡ true → (sign ≡ []) ⊎ ((c : ℕ) × (sign ≡ c ∷ []) × (is_sign c ≡ true))
    → 0 < exponent_digits rest → FrontOf IsSomeExponent (1 + length sign + exponent_digits rest) (letter ∷ (sign ++ rest))
signed-front letter sign rest l s some =
    let f = exponent_digits-front rest some in (
      letter ∷ (sign ++ f.0),
      f.1,
      ap (λ z. letter ∷ z) (ap (λ z. sign ++ z) f.2 ∙ sym (append_assoc sign f.0 f.1)),
      omega (arith, f.3, length-append sign f.0),
      (letter, sign, f.0, refl, l, s, f.4),
    )

some_exponent-front : (text : Characters) → 0 < exponent_length text → FrontOf IsSomeExponent (exponent_length text) text
some_exponent-front [] h = absurd (omega arith)
some_exponent-front (c ∷ cs) h = by_sign (begins is_sign cs) refl h
  where
    by_digits : (sign rest : Characters) → cs ≡ sign ++ rest → (sign ≡ []) ⊎ ((c : ℕ) × (sign ≡ c ∷ []) × (is_sign c ≡ true)) → (b : Bool) → (is_exponent_letter c && nat_lt 0 (exponent_digits rest)) ≡ b
        → 0 < cond b (1 + length sign + exponent_digits rest) 0 → FrontOf IsSomeExponent (cond b (1 + length sign + exponent_digits rest) 0) (c ∷ cs)
    by_digits sign rest e s false t h = absurd (omega arith)
    by_digits sign rest e s true t h =
        let parts = and_parts (is_exponent_letter c) _ t in
        subst (λ z. FrontOf IsSomeExponent (1 + length sign + exponent_digits rest) (c ∷ z)) (sym e) (signed-front c sign rest parts.0 s (ltb-true 0 _ parts.1))

    signed : (cs' : Characters) → cs ≡ cs' → begins is_sign cs' ≡ true → 0 < cond (is_exponent_letter c && nat_lt 0 (exponent_digits (drop 1 cs'))) (1 + 1 + exponent_digits (drop 1 cs')) 0
        → FrontOf IsSomeExponent (cond (is_exponent_letter c && nat_lt 0 (exponent_digits (drop 1 cs'))) (1 + 1 + exponent_digits (drop 1 cs')) 0) (c ∷ cs)
    signed [] e s h = absurd (false≢true s)
    signed (d ∷ ds) e s h = by_digits (d ∷ []) ds e (inr (d, refl, s)) _ refl h

    by_sign : (b : Bool) → begins is_sign cs ≡ b
        → 0 < cond (is_exponent_letter c && nat_lt 0 (exponent_digits (drop (1 + cond b 1 0) (c ∷ cs)))) (1 + cond b 1 0 + exponent_digits (drop (1 + cond b 1 0) (c ∷ cs))) 0
        → FrontOf IsSomeExponent (cond (is_exponent_letter c && nat_lt 0 (exponent_digits (drop (1 + cond b 1 0) (c ∷ cs)))) (1 + cond b 1 0 + exponent_digits (drop (1 + cond b 1 0) (c ∷ cs))) 0) (c ∷ cs)
    by_sign false e h = by_digits [] cs refl (inl refl) _ refl h
    by_sign true e h = signed cs refl e h

-- an exponent that is there, or that none is
pub exponent-append : (text after : Characters) → IsExponent text after → exponent_length (text ++ after) ≡ length text
exponent-append text after h = ⊎_elim (λ n. subst (λ (t : Characters). exponent_length (t ++ after) ≡ length t) (sym n.0) (none n.1 (exponent_length after) refl)) (λ s. (exponent_length-append text after s).0) h
  where
    none : ((front rest : Characters) → after ≡ front ++ rest → IsSomeExponent front rest → ⊥) → (n : ℕ) → exponent_length after ≡ n → exponent_length after ≡ 0
    none never zero e = e
    none never (suc n) e = let f = some_exponent-front after (omega arith) in absurd (never f.0 f.1 f.2 f.4)

exponent-front : (text : Characters) → FrontOf IsExponent (exponent_length text) text
exponent-front text = cases (exponent_length text) refl
  where
    cases : (n : ℕ) → exponent_length text ≡ n → FrontOf IsExponent n text
    cases zero e = ([], text, refl, refl, inl (refl, λ front rest s i. let a = exponent_length-append front rest i in omega (arith, a.0, a.1, ap exponent_length s, e)))
    cases (suc n) e = let f = some_exponent-front text (omega arith) in (f.0, f.1, f.2, sym e ∙ f.3, inr f.4)

-- ---- suffixes

suffix-le : (suffix after : Characters) → is_suffix suffix ≡ true → length suffix ≤ suffix_length (suffix ++ after)
suffix-le [] after h = omega arith
suffix-le (c ∷ cs) after h =
    let starts = begins-name (c ∷ cs) after h in
    let least = length-le-prefix_len continues_name (c ∷ cs) after (list_all-name (c ∷ cs) h) in
    rw starts least

name-suffix : (name : Characters) → is_name name ≡ true → is_suffix name ≡ true
name-suffix [] h = absurd (false≢true h)
name-suffix (c ∷ cs) h = h

suffix-front : (text : Characters) → FrontOf (λ suffix after. is_suffix suffix ≡ true) (suffix_length text) text
suffix-front text = cases (begins starts_name text) refl
  where
    cases : (b : Bool) → begins starts_name text ≡ b → FrontOf (λ suffix after. is_suffix suffix ≡ true) (cond b (prefix_len continues_name text) 0) text
    cases false e = ([], text, refl, refl, refl)
    cases true e =
        let n = prefix_len continues_name text in
        (take n text, drop n text, sym (take-append-drop n text), sym (length-prefix_len continues_name text), name-suffix (take n text) (name-front text e))

-- ---- numbers in decimal digits

decimal_number-parts : (text r s t : Characters) (whole fraction exponent : ℕ) → prefix_len (in_digits 10) text ≡ whole → drop whole text ≡ r → fraction_length r ≡ fraction
    → drop fraction r ≡ s → exponent_length s ≡ exponent → drop exponent s ≡ t → decimal_number text ≡ decimal text whole (fraction + exponent) (suffix_length t)
decimal_number-parts text r s t whole fraction exponent a b c d e f =
    ap (λ w. decimal text w (fraction_length (drop w text) + exponent_length (drop (fraction_length (drop w text)) (drop w text)))
    (suffix_length (drop (exponent_length (drop (fraction_length (drop w text)) (drop w text))) (drop (fraction_length (drop w text)) (drop w text))))) a
    ∙ ap (λ r. decimal text whole (fraction_length r + exponent_length (drop (fraction_length r) r)) (suffix_length (drop (exponent_length (drop (fraction_length r) r)) (drop (fraction_length r) r)))) b
    ∙ ap (λ n. decimal text whole (n + exponent_length (drop n r)) (suffix_length (drop (exponent_length (drop n r)) (drop n r)))) c
    ∙ ap (λ s. decimal text whole (fraction + exponent_length s) (suffix_length (drop (exponent_length s) s))) d
    ∙ ap (λ n. decimal text whole (fraction + n) (suffix_length (drop n s))) e
    ∙ ap (λ t. decimal text whole (fraction + exponent) (suffix_length t)) f

decimal-allowed : (text : Characters) (whole more suffix : ℕ) → (0 < more) ⊎ (digits_value 10 0 (take whole text) < 2 ^ 128) → decimal text whole more suffix ≡ found kind.Literal (whole + more + suffix)
decimal-allowed text whole more suffix h = ap (λ b. cond b (found kind.Literal (whole + more + suffix)) None) (⊎_elim
    (λ m. or_left _ _ (lt-ltb 0 more m))
    (λ v. or_right (nat_lt 0 more) _ (lt-ltb (digits_value 10 0 (take whole text)) (2 ^ 128) v)) h)

-- what begins with a digit
front-digit : (text : Characters) → begins is_decimal text ≡ true → front text ≡ number text
front-digit [] h = absurd (false≢true h)
front-digit (c ∷ cs) h = front-head c cs head.Digit (head_of-digit c h)

begins-append : (p : ℕ → Bool) (front back : Characters) → begins p front ≡ true → begins p (front ++ back) ≡ true
begins-append p [] back h = absurd (false≢true h)
begins-append p (c ∷ front) back h = h

Reaches-decimal : (text after : Characters) → IsDecimalNumber text after → Reaches kind.Literal text after
Reaches-decimal text after h =
    let t : Characters = h.suffix ++ after in
    let s : Characters = h.exponent ++ t in
    let r : Characters = h.fraction ++ s in
    let z : Characters = h.whole ++ r in
    let split : text ++ after ≡ z =
    ap (λ x. x ++ after) h.parts ∙ append_assoc h.whole (h.fraction ++ (h.exponent ++ h.suffix)) after
    ∙ ap (λ x. h.whole ++ x) (append_assoc h.fraction (h.exponent ++ h.suffix) after ∙ ap (λ x. h.fraction ++ x) (append_assoc h.exponent h.suffix after)) in
    let number_is : decimal_number z ≡ decimal z (length h.whole) (length h.fraction + length h.exponent) (suffix_length t) =
    decimal_number-parts z r s t (length h.whole) (length h.fraction) (length h.exponent) (decimal_run h.whole r h.is_whole) (drop-append_seam h.whole r)
    (fraction_length-append h.fraction s h.is_fraction) (drop-append_seam h.fraction s) (exponent-append h.exponent t h.is_exponent) (drop-append_seam h.exponent t) in
    let small : (0 < length h.fraction + length h.exponent) ⊎ (digits_value 10 0 (take (length h.whole) z) < 2 ^ 128) = ⊎_elim
    (λ m. inl (omega (arith, m, length-append h.fraction h.exponent)))
    (λ v. inr (subst (λ w. digits_value 10 0 w < 2 ^ 128) (sym (take-append_seam h.whole r)) v)) h.is_small in
    let base : begins_base z ≡ false = ap begins_base (sym split) ∙ h.is_decimal in
    record {
      kind = kind.Literal;
      size = length h.whole + (length h.fraction + length h.exponent) + suffix_length t;
      is =
          ap front split ∙ front-digit z (begins-append is_decimal h.whole r h.is_whole.first)
          ∙ ap (λ b. cond b (based_number (base_of (slice_index z 1)) z) (decimal_number z)) base ∙ number_is
          ∙ decimal-allowed z (length h.whole) (length h.fraction + length h.exponent) (suffix_length t) small;
      far = omega (
        arith,
        ap length h.parts,
        length-append h.whole (h.fraction ++ (h.exponent ++ h.suffix)),
        length-append h.fraction (h.exponent ++ h.suffix),
        length-append h.exponent h.suffix,
        suffix-le h.suffix after h.is_suffixed,
      );
      same = λ _. refl;
    }

-- a number by its parts
Sound-parts : (z whole r fraction s exponent t suffix after : Characters) (p : Found) → z ≡ whole ++ r → r ≡ fraction ++ s → s ≡ exponent ++ t → t ≡ suffix ++ after
    → IsDecimalRun whole r → IsFraction fraction s → IsExponent exponent t → is_suffix suffix ≡ true → begins_base z ≡ false
    → decimal z (length whole) (length fraction + length exponent) (length suffix) ≡ Some p → Sound z p
Sound-parts z whole r fraction s exponent t suffix after p a b c d w f e u base h =
    cases (nat_lt 0 (length fraction + length exponent) || nat_lt (digits_value 10 0 (take (length whole) z)) (2 ^ 128)) refl h
  where
    text : Characters
    text = whole ++ (fraction ++ (exponent ++ suffix))

    split : z ≡ text ++ after
    split =
        a
        ∙ ap (λ x. whole ++ x) (b ∙ ap (λ x. fraction ++ x) (c ∙ ap (λ x. exponent ++ x) d ∙ sym (append_assoc exponent suffix after)) ∙ sym (append_assoc fraction (exponent ++ suffix) after))
        ∙ sym (append_assoc whole (fraction ++ (exponent ++ suffix)) after)

    behind : r ≡ fraction ++ (exponent ++ (suffix ++ after))
    behind = b ∙ ap (λ x. fraction ++ x) (c ∙ ap (λ x. exponent ++ x) d)

    small : (0 < length fraction + length exponent) ⊎ (digits_value 10 0 (take (length whole) z) < 2 ^ 128) → (0 < length (fraction ++ exponent)) ⊎ (digits_value 10 0 whole < 2 ^ 128)
    small h = ⊎_elim
        (λ m. inl (omega (arith, m, length-append fraction exponent)))
        (λ v. inr (subst (λ w. digits_value 10 0 w < 2 ^ 128) (ap (take (length whole)) a ∙ take-append_seam whole r) v)) h

    cases : (b : Bool) → (nat_lt 0 (length fraction + length exponent) || nat_lt (digits_value 10 0 (take (length whole) z)) (2 ^ 128)) ≡ b
        → cond b (found kind.Literal (length whole + (length fraction + length exponent) + length suffix)) None ≡ Some p → Sound z p
    cases false k h = absurd (cc)
    cases true k h = Sound-same z _ p h (record {
      front = text;
      after = after;
      split = split;
      size = omega (arith, length-append whole (fraction ++ (exponent ++ suffix)), length-append fraction (exponent ++ suffix), length-append exponent suffix);
      piece = inr (inr (inr (inl (record {
        whole = whole;
        fraction = fraction;
        exponent = exponent;
        suffix = suffix;
        parts = refl;
        is_whole = subst (IsDecimalRun whole) behind w;
        is_fraction = subst (IsFraction fraction) (c ∙ ap (λ x. exponent ++ x) d) f;
        is_exponent = subst (IsExponent exponent) d e;
        is_suffixed = u;
        is_decimal = ap begins_base (sym split) ∙ base;
        is_small = small (⊎_elim (λ m. inl (ltb-true 0 _ m)) (λ v. inr (ltb-true _ (2 ^ 128) v)) (or_cases (nat_lt 0 (length fraction + length exponent)) _ k));
      }))));
    })

Sound-decimal : (z : Characters) (p : Found) → begins is_decimal z ≡ true → begins_base z ≡ false → decimal_number z ≡ Some p → Sound z p
Sound-decimal z p digit base h =
    let n = prefix_len (in_digits 10) z in
    let whole : Characters = take n z in
    let r : Characters = drop n z in
    let size : n ≡ length whole = sym (length-prefix_len (in_digits 10) z) in
    let f = fraction-front r in
    let e = exponent-front f.1 in
    let s = suffix-front e.1 in
    let behind : drop (length f.0) r ≡ f.1 = ap (drop (length f.0)) f.2 ∙ drop-append_seam f.0 f.1 in
    let last : drop (length e.0) f.1 ≡ e.1 = ap (drop (length e.0)) e.2 ∙ drop-append_seam e.0 e.1 in
    let parts = decimal_number-parts z r f.1 e.1 (length whole) (length f.0) (length e.0) size (ap (λ n. drop n z) (sym size)) f.3 behind e.3 last in
    let same : decimal z (length whole) (length f.0 + length e.0) (length s.0) ≡ Some p =
    ap (decimal z (length whole) (length f.0 + length e.0)) (sym s.3) ∙ sym parts ∙ h in
    Sound-parts z whole r f.0 f.1 e.0 e.1 s.0 s.1 p (sym (take-append-drop n z)) f.2 e.2 s.2 (decimal_run-front z digit) f.4 e.4 s.4 base same

-- ---- numbers in another base

Reaches-based : (text after : Characters) → IsBasedNumber text after → Reaches kind.Literal text after
Reaches-based text after h =
    let base = base_of h.letter in
    let t : Characters = h.suffix ++ after in
    let r : Characters = h.digits ++ t in
    let z : Characters = 48 ∷ h.letter ∷ r in
    let split : text ++ after ≡ z = ap (λ x. x ++ after) h.parts ∙ ap (λ x. 48 ∷ h.letter ∷ x) (append_assoc h.digits h.suffix after) in
    let run : prefix_len (in_digits base) r ≡ length h.digits = prefix_len-run (in_digits base) h.digits t h.are_digits h.ends in
    let test : (list_any (λ c. is_digit c base) (take (length h.digits) r) && nat_lt (digits_value base 0 (take (length h.digits) r)) (2 ^ 128)) ≡ true =
    ap (λ x. list_any (λ c. is_digit c base) x && nat_lt (digits_value base 0 x) (2 ^ 128)) (take-append_seam h.digits t)
    ∙ and_from _ _ h.some (lt-ltb (digits_value base 0 h.digits) (2 ^ 128) h.is_small) in
    let number_is : based_number base z ≡ found kind.Literal (2 + length h.digits + suffix_length t) =
    ap (λ n. cond (list_any (λ c. is_digit c base) (take n r) && nat_lt (digits_value base 0 (take n r)) (2 ^ 128)) (found kind.Literal (2 + n + suffix_length (drop n r))) None) run
    ∙ ap (λ b. cond b (found kind.Literal (2 + length h.digits + suffix_length (drop (length h.digits) r))) None) test
    ∙ ap (λ x. found kind.Literal (2 + length h.digits + suffix_length x)) (drop-append_seam h.digits t) in
    record {
      kind = kind.Literal;
      size = 2 + length h.digits + suffix_length t;
      is = ap front split ∙ front-head 48 (h.letter ∷ r) head.Digit head_of-zero ∙ ap (λ b. cond b (based_number base z) (decimal_number z)) (lt-ltb 0 base h.is_base) ∙ number_is;
      far = omega (arith, ap length h.parts, length-append h.digits h.suffix, suffix-le h.suffix after h.is_suffixed);
      same = λ _. refl;
    }

Sound-based : (letter : ℕ) (cs : Characters) (p : Found) → 0 < base_of letter → based_number (base_of letter) (48 ∷ letter ∷ cs) ≡ Some p → Sound (48 ∷ letter ∷ cs) p
Sound-based letter cs p b h =
    cases (list_any (λ c. is_digit c (base_of letter)) (take n cs) && nat_lt (digits_value (base_of letter) 0 (take n cs)) (2 ^ 128)) refl h
  where
    n : ℕ
    n = prefix_len (in_digits (base_of letter)) cs

    cases : (t : Bool) → (list_any (λ c. is_digit c (base_of letter)) (take n cs) && nat_lt (digits_value (base_of letter) 0 (take n cs)) (2 ^ 128)) ≡ t
        → cond t (found kind.Literal (2 + n + suffix_length (drop n cs))) None ≡ Some p → Sound (48 ∷ letter ∷ cs) p
    cases false e h = absurd (cc)
    cases true e h =
        let base = base_of letter in
        let parts = and_parts (list_any (λ c. is_digit c base) (take n cs)) _ e in
        let digits : Characters = take n cs in
        let s = suffix-front (drop n cs) in
        let split : cs ≡ (digits ++ s.0) ++ s.1 = sym (take-append-drop n cs) ∙ ap (λ z. digits ++ z) s.2 ∙ sym (append_assoc digits s.0 s.1) in
        Sound-same (48 ∷ letter ∷ cs) _ p h (record {
          front = 48 ∷ letter ∷ (digits ++ s.0);
          after = s.1;
          split = ap (λ z. 48 ∷ letter ∷ z) split;
          size = omega (arith, length-append digits s.0, length-prefix_len (in_digits base) cs, s.3);
          piece = inr (inr (inr (inr (record {
            letter = letter;
            digits = digits;
            suffix = s.0;
            parts = refl;
            is_base = b;
            some = parts.0;
            are_digits = list_all-take_prefix (in_digits base) cs;
            ends = ap (begins (in_digits base)) (sym s.2) ∙ begins-drop_prefix (in_digits base) cs;
            is_suffixed = s.4;
            is_small = ltb-true _ (2 ^ 128) parts.1;
          }))));
        })

-- ---- what begins with a digit

pub Reaches-number : (text after : Characters) → IsDecimalNumber text after ⊎ IsBasedNumber text after → Reaches kind.Literal text after
Reaches-number text after h = ⊎_elim (Reaches-decimal text after) (Reaches-based text after) h

pub number-nonempty : (text after : Characters) → IsDecimalNumber text after ⊎ IsBasedNumber text after → 1 ≤ length text
number-nonempty text after h = ⊎_elim
    (λ d. omega (arith, ap length d.parts, length-append d.whole (d.fraction ++ (d.exponent ++ d.suffix)), digit d.whole d.is_whole.first))
    (λ b. omega (arith, ap length b.parts)) h
  where
    digit : (whole : Characters) → begins is_decimal whole ≡ true → 1 ≤ length whole
    digit [] e = absurd (false≢true e)
    digit (c ∷ cs) e = omega arith

pub Sound-number : (text : Characters) (p : Found) → begins is_decimal text ≡ true → number text ≡ Some p → Sound text p
Sound-number text p digit h = cases (begins_base text) refl h
  where
    based : (text : Characters) → begins_base text ≡ true → based_number (base_of (slice_index text 1)) text ≡ Some p → Sound text p
    based [] e h = absurd (false≢true e)
    based (c ∷ []) e h = absurd (false≢true (and_parts (eqb c 48) false e).1)
    based (c ∷ d ∷ cs) e h =
        let parts = and_parts (eqb c 48) (nat_lt 0 (base_of d)) e in
        subst (λ c. based_number (base_of d) (c ∷ d ∷ cs) ≡ Some p → Sound (c ∷ d ∷ cs) p) (sym (eqb-true c 48 parts.0)) (Sound-based d cs p (ltb-true 0 (base_of d) parts.1)) h

    cases : (b : Bool) → begins_base text ≡ b → cond b (based_number (base_of (slice_index text 1)) text) (decimal_number text) ≡ Some p → Sound text p
    cases true e h = based text e h
    cases false e h = Sound-decimal text p digit e h
