-- Strings are read whole, and what is read as such is one.
use Rattle.std.proofs.Common.{◌≡◌, ℕ, zero, suc, ◌+◌, ◌<◌, ◌≤◌, ◌⊎◌, inl, inr, ⊎_elim, Bool, true, false, cond, eqb, List, [], ◌∷◌, ◌++◌, length, take, drop, slice_index, Some, None, refl, sym, ap, ◌∙◌, subst, arith, length-append, append_assoc}
use Rattle.std.proofs.Math.Seq.{drop-append_seam}
use Rattle.std.proofs.lemmas.Bool.{and_parts, or_parts, not-true, eqb-true, true≢false}
use Rattle.std.proofs.lemmas.Bool.Decides.{nat_tests}
use Rattle.std.proofs.lemmas.List.{take-append-drop}
use Rattle.std.proofs.lemmas.List.Folds.{length-prefix_len}
use Rattle.std.specs.List.{concat, list_all, prefix_len}
use Rattle.tok_scan.specs.Characters.{Characters, begins}
use Rattle.tok_scan.specs.Escapes.{IsEscape, is_short}
use Rattle.tok_scan.specs.Strings.{IsItem, AreItems, IsString, fits, is_plain, is_blank}
use Rattle.tok_scan.specs.Scan.{escape_length, item_length, string_end, string_length}
use Rattle.tok_scan.proofs.Escapes.{escape_length-append, escape-nonempty, escape-front}
use Rattle.tok_scan.proofs.Lists.{prefix_len-run, list_all-take_prefix, begins-drop_prefix}
use Rattle.tok_scan.proofs.Steps.{string_end-skip}

-- ---- a string is read whole

plain-at : (byte : Bool) (c from : ℕ) (rest : Characters) → is_plain byte c ≡ true → string_end byte 0 from (c ∷ rest) ≡ string_end byte 0 (from + 1) rest
plain-at byte c from rest h =
    let parts = and_parts (fits byte c) _ h in
    let other = or_parts (eqb c 34) (eqb c 92) (not-true _ parts.1) in
    rw (other.0, other.1, parts.0) refl

-- a backslash and what is read behind it
backslash-at : (byte : Bool) (e rest : Characters) (from : ℕ) → item_length byte (e ++ rest) ≡ length e → 0 < length e
    → string_end byte 0 from (92 ∷ (e ++ rest)) ≡ string_end byte 0 (from + length (92 ∷ e)) rest
backslash-at byte e rest from h k =
    let more : eqb (length e) 0 ≡ false = positive (length e) k in
    ap (λ n. cond (eqb n 0) None (string_end byte n (from + 1) (e ++ rest))) h
    ∙ ap (λ b. cond b None (string_end byte (length e) (from + 1) (e ++ rest))) more
    ∙ string_end-skip byte (length e) (from + 1) (e ++ rest) (omega (arith, length-append e rest))
    ∙ ap (string_end byte 0 (from + 1 + length e)) (drop-append_seam e rest)
    ∙ ap (λ n. string_end byte 0 n rest) (omega arith)
  where
    positive : (n : ℕ) → 0 < n → eqb n 0 ≡ false
    positive n h = grind (arith, nat_tests)

-- no escape begins with a line feed
escape-line_feed : (byte : Bool) (e rest : Characters) → IsEscape byte e → eqb (slice_index (e ++ rest) 0) 10 ≡ false
escape-line_feed byte e rest h = ⊎_elim
    (λ s. subst P (sym s.1) (short s.0 s.2))
    (λ h. ⊎_elim (λ x. subst P (sym x.2) refl) (λ u. subst P (sym u.1) refl) h) h
  where
    P : Characters → Type 0
    P e = eqb (slice_index (e ++ rest) 0) 10 ≡ false

    short : (c : ℕ) → is_short c ≡ true → eqb c 10 ≡ false
    short c h = cases (eqb c 10) refl
      where
        cases : (b : Bool) → eqb c 10 ≡ b → b ≡ false
        cases true e = absurd (true≢false (sym h ∙ ap is_short (eqb-true c 10 e)))
        cases false e = refl

-- blanks behind a line feed are run through
begins-append : (p : ℕ → Bool) (front back : Characters) (c : ℕ) → begins p front ≡ false → p c ≡ false → begins p (front ++ c ∷ back) ≡ false
begins-append p [] back c h k = k
begins-append p (d ∷ front) back c h k = h

item-at : (byte : Bool) (item after back : Characters) (from : ℕ) → IsItem byte item after
    → string_end byte 0 from (item ++ (after ++ 34 ∷ back)) ≡ string_end byte 0 (from + length item) (after ++ 34 ∷ back)
item-at byte item after back from h = ⊎_elim
    (λ p. subst P (sym p.1) (plain-at byte p.0 from rest p.2))
    (λ h. ⊎_elim
    (λ e. subst P (sym e.1) (backslash-at byte e.0 rest from (escape e.0 e.2) (escape-nonempty byte e.0 e.2)))
    (λ l. subst P (sym l.1) (backslash-at byte (10 ∷ l.0) rest from (blanks l.0 l.2 l.3) (omega arith))) h) h
  where
    rest : Characters
    rest = after ++ 34 ∷ back

    P : Characters → Type 0
    P item = string_end byte 0 from (item ++ (after ++ 34 ∷ back)) ≡ string_end byte 0 (from + length item) (after ++ 34 ∷ back)

    escape : (e : Characters) → IsEscape byte e → item_length byte (e ++ (after ++ 34 ∷ back)) ≡ length e
    escape e i =
        let text : Characters = e ++ (after ++ 34 ∷ back) in
        ap (λ b. cond b (1 + prefix_len is_blank (drop 1 text)) (escape_length byte text)) (escape-line_feed byte e (after ++ 34 ∷ back) i)
        ∙ escape_length-append byte e (after ++ 34 ∷ back) i

    blanks : (blanks : Characters) → list_all is_blank blanks ≡ true → begins is_blank after ≡ false → item_length byte (10 ∷ (blanks ++ (after ++ 34 ∷ back))) ≡ length (10 ∷ blanks)
    blanks b all ends =
        let run = prefix_len-run is_blank b (after ++ 34 ∷ back) all (begins-append is_blank after back 34 ends refl) in
        omega (arith, run)

string_end-items : (byte : Bool) (items : List Characters) (back : Characters) (from : ℕ) → AreItems byte items
    → string_end byte 0 from (concat items ++ 34 ∷ back) ≡ Some (from + length (concat items) + 1)
string_end-items byte [] back from h = ap Some (omega arith)
string_end-items byte (item ∷ items) back from h =
    let n : from + length item + length (concat items) + 1 ≡ from + length (item ++ concat items) + 1 = omega (arith, length-append item (concat items)) in
    ap (string_end byte 0 from) (append_assoc item (concat items) (34 ∷ back))
    ∙ item-at byte item (concat items) back from h.0
    ∙ string_end-items byte items back (from + length item) h.1
    ∙ ap Some n

pub string_length-append : (byte : Bool) (text after : Characters) → IsString byte text → string_length byte (text ++ after) ≡ Some (length text)
string_length-append byte text after h =
    let content : Characters = concat h.0 in
    let size : 1 + length content + 1 ≡ length (34 ∷ (content ++ 34 ∷ [])) = omega (arith, length-append content (34 ∷ [])) in
    subst (λ (t : Characters). string_length byte (t ++ after) ≡ Some (length t)) (sym h.1) (
    ap (string_end byte 0 1) (append_assoc content (34 ∷ []) after) ∙ string_end-items byte h.0 after 1 h.2 ∙ ap Some size
    )

-- ---- what is read is a string

-- the items of a string's rest, which begins at `from`, up to the end `n`
abbrev Items : Bool → ℕ → ℕ → Characters → Type 0
Items byte from n text = (items : List Characters) × (rest : Characters) × (text ≡ concat items ++ 34 ∷ rest) × AreItems byte items × (n ≡ from + length (concat items) + 1)

-- what is read behind a backslash
abbrev BackslashFront : Bool → ℕ → Characters → Type 0
BackslashFront byte n text =
    (e : Characters) × (rest : Characters) × (text ≡ e ++ rest) × (n ≡ length e) × (IsEscape byte e ⊎ ((blanks : Characters) × (e ≡ 10 ∷ blanks) × (list_all is_blank blanks ≡ true) × (begins is_blank rest ≡ false)))

item-front : (byte : Bool) (text : Characters) → eqb (item_length byte text) 0 ≡ false → BackslashFront byte (item_length byte text) text
item-front byte [] h = let f = escape-front byte [] h in (f.0, f.1, f.2, f.3, inl f.4)
item-front byte (c ∷ cs) h = cases (eqb c 10) refl h
  where
    cases : (b : Bool) → eqb c 10 ≡ b → eqb (cond b (1 + prefix_len is_blank cs) (escape_length byte (c ∷ cs))) 0 ≡ false
        → BackslashFront byte (cond b (1 + prefix_len is_blank cs) (escape_length byte (c ∷ cs))) (c ∷ cs)
    cases false e h = let f = escape-front byte (c ∷ cs) h in (f.0, f.1, f.2, f.3, inl f.4)
    cases true e h =
        let n = prefix_len is_blank cs in
        let first = eqb-true c 10 e in (
          10 ∷ take n cs,
          drop n cs,
          ap (λ c. c ∷ cs) first ∙ ap (λ z. 10 ∷ z) (sym (take-append-drop n cs)),
          omega (arith, length-prefix_len is_blank cs),
          inr (take n cs, refl, list_all-take_prefix is_blank cs, begins-drop_prefix is_blank cs),
        )

begins-front : (p : ℕ → Bool) (front back : Characters) → begins p (front ++ back) ≡ false → begins p front ≡ false
begins-front p [] back h = refl
begins-front p (c ∷ front) back h = h

-- an item, and the items behind it
items-more : (byte : Bool) (from n m : ℕ) (c : ℕ) (cs : Characters) → eqb c 92 ≡ true → BackslashFront byte m cs
    → ((rest : Characters) → cs ≡ take m cs ++ rest → string_end byte 0 (from + 1 + m) rest ≡ Some n → Items byte (from + 1 + m) n rest)
    → string_end byte m (from + 1) cs ≡ Some n → Items byte from n (c ∷ cs)
items-more byte from n m c cs b f more h =
    let size = f.3 in
    let split : cs ≡ f.0 ++ f.1 = f.2 in
    let fits : m ≤ length cs = omega (arith, size, ap length split, length-append f.0 f.1) in
    let behind : drop m cs ≡ f.1 = ap (λ n. drop n cs) size ∙ ap (drop (length f.0)) split ∙ drop-append_seam f.0 f.1 in
    let next : string_end byte 0 (from + 1 + m) f.1 ≡ Some n = ap (string_end byte 0 (from + 1 + m)) (sym behind) ∙ sym (string_end-skip byte m (from + 1) cs fits) ∙ h in
    let w = more f.1 (sym (take-append-drop m cs) ∙ ap (λ r. take m cs ++ r) behind) next in
    let item : Characters = 92 ∷ f.0 in (
      item ∷ w.0,
      w.1,
      ap (λ c. c ∷ cs) (eqb-true c 92 b) ∙ ap (λ z. 92 ∷ z) (split ∙ ap (λ r. f.0 ++ r) w.2) ∙ sym (append_assoc item (concat w.0) (34 ∷ w.1)),
      (⊎_elim (λ e. inr (inl (f.0, refl, e))) (λ l. inr (inr (l.0, ap (λ e. 92 ∷ e) l.1, l.2, begins-front is_blank (concat w.0) (34 ∷ w.1) (sym (ap (begins is_blank) w.2) ∙ l.3)))) f.4, w.3),
      omega (arith, w.4, size, length-append item (concat w.0)),
    )

string-items : (byte : Bool) (fuel : ℕ) (text : Characters) (from n : ℕ) → length text ≤ fuel → string_end byte 0 from text ≡ Some n → Items byte from n text
string-items byte fuel [] from n l h = absurd (cc)
string-items byte zero (c ∷ cs) from n l h = absurd (omega arith)
string-items byte (suc fuel) (c ∷ cs) from n l h =
    cases (eqb c 34) (eqb c 92) (eqb (item_length byte cs) 0) (fits byte c) refl refl refl refl (λ rest from l h. string-items byte fuel rest from n l h) h
  where
    cases : (q b z f : Bool) → eqb c 34 ≡ q → eqb c 92 ≡ b → eqb (item_length byte cs) 0 ≡ z → fits byte c ≡ f
        → ((rest : Characters) (from : ℕ) → length rest ≤ fuel → string_end byte 0 from rest ≡ Some n → Items byte from n rest)
        → cond q (Some (from + 1)) (cond b (cond z None (string_end byte (item_length byte cs) (from + 1) cs)) (cond f (string_end byte 0 (from + 1) cs) None)) ≡ Some n
        → Items byte from n (c ∷ cs)
    cases true b z f p r s t more h = let end : from + 1 ≡ n = cc in ([], cs, ap (λ c. c ∷ cs) (eqb-true c 34 p), tt, omega arith)
    cases false true true f p r s t more h = absurd (cc)
    cases false true false f p r s t more h =
        items-more byte from n (item_length byte cs) c cs r (item-front byte cs s)
        (λ rest e k. more rest (from + 1 + item_length byte cs) (omega (arith, ap length e, length-append (take (item_length byte cs) cs) rest)) k) h
    cases false false z true p r s t more h =
        let w = more cs (from + 1) (omega arith) h in
        ((c ∷ []) ∷ w.0, w.1, ap (λ r. c ∷ r) w.2, (inl (c, refl, rw (p, r, t) refl), w.3), omega (arith, w.4))
    cases false false z false p r s t more h = absurd (cc)

pub string-front : (byte : Bool) (cs : Characters) (n : ℕ) → string_length byte (34 ∷ cs) ≡ Some n
    → (text : Characters) × (after : Characters) × (34 ∷ cs ≡ text ++ after) × (n ≡ length text) × IsString byte text
string-front byte cs n h =
    let w = string-items byte (length cs) cs 1 n (omega arith) h in
    let content : Characters = concat w.0 in (
      34 ∷ (content ++ 34 ∷ []),
      w.1,
      ap (λ z. 34 ∷ z) (w.2 ∙ sym (append_assoc content (34 ∷ []) w.1)),
      omega (arith, w.4, length-append content (34 ∷ [])),
      (w.0, refl, w.3),
    )
