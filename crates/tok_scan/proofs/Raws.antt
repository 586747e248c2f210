-- Raw forms are read whole, and what is read as such is one.
use Rattle.std.proofs.Common.{◌≡◌, ℕ, zero, suc, ◌+◌, ◌≤◌, Bool, true, false, not, cond, ◌&&◌, eqb, nat_le, [], ◌∷◌, ◌++◌, length, drop, slice_index, Some, None, refl, sym, ap, ◌∙◌, subst, arith, length-append, append_assoc, ◌<◌, inl, inr, ⊎_elim, min, max, List}
use Rattle.std.proofs.Math.Seq.{drop-append_seam}
use Rattle.std.proofs.lemmas.Bool.{and_parts, and_from, not-true, eqb-true, leb-true, le-leb, lt-leb, leb-false, and_left, and_right, true≢false, false≢true}
use Rattle.std.proofs.lemmas.List.{length-replicate}
use Rattle.std.specs.List.{list_all, prefix_len}
use Rattle.tok_scan.specs.Characters.{Characters}
use Rattle.tok_scan.specs.Closings.{most_hashes, closing_of, closings_of, most_of, AreClosings, can_close}
use Rattle.tok_scan.specs.declared.ends.Closing.{Closing}
use Rattle.tok_scan.specs.Strings.{IsRaw, fits, is_hash, hashes, closes, stays_open}
use Rattle.tok_scan.specs.Scan.{raw_end, raw_length}
use Rattle.tok_scan.proofs.Lists.{prefix_len-append_all, prefix_len-begins, get_or-append_length, drop-get}

pub length-hashes : (n : ℕ) → length (hashes n) ≡ n
length-hashes n = length-replicate n (let hash : ℕ = 35 in hash)

pub all-hashes : (n : ℕ) → list_all is_hash (hashes n) ≡ true
all-hashes zero = refl
all-hashes (suc n) = all-hashes n

-- the number signs of a list go on no further where what follows begins with another character
prefix_len-hash_append : (front : Characters) (c : ℕ) (back : Characters) → is_hash c ≡ false → prefix_len is_hash (front ++ c ∷ back) ≡ prefix_len is_hash front
prefix_len-hash_append [] c back h = rw h refl
prefix_len-hash_append (d ∷ front) c back h = ap (λ n. cond (is_hash d) (1 + n) 0) (prefix_len-hash_append front c back h)

closes-append : (n : ℕ) (c : ℕ) (front back : Characters) → closes n (c ∷ (front ++ 34 ∷ back)) ≡ closes n (c ∷ front)
closes-append n c front back = ap (λ m. eqb c 34 && nat_le n m) (prefix_len-hash_append front 34 back refl)

-- ---- a raw form is read whole

raw_end-content : (byte : Bool) (n from : ℕ) (content after : Characters) → stays_open byte n content ≡ true
    → raw_end byte n from (content ++ 34 ∷ (hashes n ++ after)) ≡ Some (from + length content + (1 + n))
raw_end-content byte n from [] after h =
    let run = prefix_len-append_all is_hash (hashes n) after (all-hashes n) in
    let enough : nat_le n (prefix_len is_hash (hashes n ++ after)) ≡ true = le-leb n _ (omega (arith, run, length-hashes n)) in
    ap (λ b. cond b (Some (from + (1 + n))) (cond (fits byte 34) (raw_end byte n (from + 1) (hashes n ++ after)) None)) enough ∙ ap Some (omega arith)
raw_end-content byte n from (c ∷ content) after h =
    let parts = and_parts (fits byte c && not (closes n (c ∷ content))) _ h in
    let first = and_parts (fits byte c) _ parts.0 in
    let shut : closes n (c ∷ (content ++ 34 ∷ (hashes n ++ after))) ≡ false = closes-append n c content (hashes n ++ after) ∙ not-true _ first.1 in
    rw (shut, first.0) (raw_end-content byte n (from + 1) content after parts.1 ∙ ap Some (omega arith))

pub raw_length-append : (byte : Bool) (text after : Characters) → IsRaw byte text → raw_length byte (text ++ after) ≡ Some (length text)
raw_length-append byte text after h =
    let n = h.0 in
    let content : Characters = h.1 in
    let behind : Characters = content ++ 34 ∷ (hashes n ++ after) in
    let rest : Characters = 34 ∷ (content ++ 34 ∷ hashes n) in
    let whole : (hashes n ++ rest) ++ after ≡ hashes n ++ 34 ∷ behind =
    append_assoc (hashes n) rest after ∙ ap (λ z. hashes n ++ 34 ∷ z) (append_assoc content (34 ∷ hashes n) after) in
    let count : prefix_len is_hash (hashes n ++ 34 ∷ behind) ≡ n =
    omega (arith, prefix_len-append_all is_hash (hashes n) (34 ∷ behind) (all-hashes n), prefix_len-begins is_hash (34 ∷ behind) refl, length-hashes n) in
    let quote : slice_index (hashes n ++ 34 ∷ behind) n ≡ 34 = ap (slice_index (hashes n ++ 34 ∷ behind)) (sym (length-hashes n)) ∙ get_or-append_length (hashes n) (34 ∷ behind) in
    let size : n + 1 + length content + (1 + n) ≡ length (hashes n ++ rest) =
    omega (arith, length-append (hashes n) rest, length-append content (34 ∷ hashes n), length-hashes n) in
    let few : nat_le n 255 ≡ true = le-leb n 255 h.3 in
    let test : (eqb (slice_index (hashes n ++ 34 ∷ behind) n) 34 && nat_le n 255) ≡ true = and_from _ _ (ap (λ c. eqb c 34) quote) few in
    subst (λ (t : Characters). raw_length byte (t ++ after) ≡ Some (length t)) (sym h.2) (
    ap (raw_length byte) whole
    ∙ ap (λ m. cond (eqb (slice_index (hashes n ++ 34 ∷ behind) m) 34 && nat_le m 255) (raw_end byte m (m + 1) (drop (m + 1) (hashes n ++ 34 ∷ behind))) None) count
    ∙ ap (λ b. cond b (raw_end byte n (n + 1) (drop (n + 1) (hashes n ++ 34 ∷ behind))) None) test
    ∙ ap (raw_end byte n (n + 1)) (drop-past n behind)
    ∙ raw_end-content byte n (n + 1) content after h.4
    ∙ ap Some size
    )
  where
    drop-past : (n : ℕ) (behind : Characters) → drop (n + 1) (hashes n ++ 34 ∷ behind) ≡ behind
    drop-past zero behind = refl
    drop-past (suc n) behind = let e : suc n + 1 ≡ suc (n + 1) = omega arith in rw e (drop-past n behind)

-- ---- what is read is a raw form

-- a run of number signs
hashes-front : (n : ℕ) (text : Characters) → n ≤ prefix_len is_hash text → (rest : Characters) × (text ≡ hashes n ++ rest)
hashes-front zero text h = (text, refl)
hashes-front (suc n) [] h = absurd (omega arith)
hashes-front (suc n) (c ∷ text) h = cases (is_hash c) refl (hashes-front n text) h
  where
    cases : (b : Bool) → is_hash c ≡ b → (n ≤ prefix_len is_hash text → (rest : Characters) × (text ≡ hashes n ++ rest)) → suc n ≤ cond b (1 + prefix_len is_hash text) 0 → (rest : Characters) × (c ∷ text ≡ hashes (suc n) ++ rest)
    cases false e more h = absurd (omega arith)
    cases true e more h = let w = more (omega arith) in (w.0, ap (λ c. c ∷ text) (eqb-true c 35 e) ∙ ap (λ z. 35 ∷ z) w.1)

-- the content of a raw form's rest, which begins at `from`, up to the end `m`
abbrev Content : Bool → ℕ → ℕ → ℕ → Characters → Type 0
Content byte n from m text = (content : Characters) × (rest : Characters) × (text ≡ content ++ 34 ∷ (hashes n ++ rest)) × (stays_open byte n content ≡ true) × (m ≡ from + length content + (1 + n))

raw-content : (byte : Bool) (n from m : ℕ) (text : Characters) → raw_end byte n from text ≡ Some m → Content byte n from m text
raw-content byte n from m [] h = absurd (cc)
raw-content byte n from m (c ∷ cs) h = cases (closes n (c ∷ cs)) (fits byte c) refl refl (raw-content byte n (from + 1) m cs) h
  where
    cases : (b f : Bool) → closes n (c ∷ cs) ≡ b → fits byte c ≡ f → (raw_end byte n (from + 1) cs ≡ Some m → Content byte n (from + 1) m cs)
        → cond b (Some (from + (1 + n))) (cond f (raw_end byte n (from + 1) cs) None) ≡ Some m → Content byte n from m (c ∷ cs)
    cases true f p q more h =
        let parts = and_parts (eqb c 34) _ p in
        let w = hashes-front n cs (leb-true n _ parts.1) in
        let end : from + (1 + n) ≡ m = cc in
        ([], w.0, ap (λ c. c ∷ cs) (eqb-true c 34 parts.0) ∙ ap (λ z. 34 ∷ z) w.1, refl, omega arith)
    cases false true p q more h =
        let w = more h in
        let shut : closes n (c ∷ w.0) ≡ false = sym (closes-append n c w.0 (hashes n ++ w.1)) ∙ ap (λ z. closes n (c ∷ z)) (sym w.2) ∙ p in
        (c ∷ w.0, w.1, ap (λ z. c ∷ z) w.2, and_from _ _ (and_from _ _ q (ap not shut)) w.3, omega (arith, w.4))
    cases false false p q more h = absurd (cc)

-- the run of number signs, and the `"` behind it
opening-front : (text : Characters) → eqb (slice_index text (prefix_len is_hash text)) 34 ≡ true
    → text ≡ hashes (prefix_len is_hash text) ++ 34 ∷ drop (prefix_len is_hash text + 1) text
opening-front text h =
    let m = prefix_len is_hash text in
    let f = hashes-front m text (omega arith) in
    let behind : drop m text ≡ f.0 = ap (drop m) f.1 ∙ ap (λ n. drop n (hashes m ++ f.0)) (sym (length-hashes m)) ∙ drop-append_seam (hashes m) f.0 in
    f.1 ∙ ap (λ z. hashes m ++ z) (sym behind ∙ drop-get text 33 m h)

pub raw-front : (byte : Bool) (text : Characters) (n : ℕ) → raw_length byte text ≡ Some n
    → (raw : Characters) × (after : Characters) × (text ≡ raw ++ after) × (n ≡ length raw) × IsRaw byte raw
raw-front byte text n h = cases (eqb (slice_index text (prefix_len is_hash text)) 34 && nat_le (prefix_len is_hash text) 255) refl h
  where
    cases : (b : Bool) → (eqb (slice_index text (prefix_len is_hash text)) 34 && nat_le (prefix_len is_hash text) 255) ≡ b
        → cond b (raw_end byte (prefix_len is_hash text) (prefix_len is_hash text + 1) (drop (prefix_len is_hash text + 1) text)) None ≡ Some n
        → (raw : Characters) × (after : Characters) × (text ≡ raw ++ after) × (n ≡ length raw) × IsRaw byte raw
    cases false e h = absurd (cc)
    cases true e h =
        let m = prefix_len is_hash text in
        let parts = and_parts (eqb (slice_index text m) 34) _ e in
        let w = raw-content byte m (m + 1) n (drop (m + 1) text) h in
        let content : Characters = w.0 in
        let rest : Characters = 34 ∷ (content ++ 34 ∷ hashes m) in
        let split : text ≡ (hashes m ++ rest) ++ w.1 =
        opening-front text parts.0 ∙ ap (λ z. hashes m ++ 34 ∷ z) (w.2 ∙ sym (append_assoc content (34 ∷ hashes m) w.1)) ∙ sym (append_assoc (hashes m) rest w.1) in (
          hashes m ++ rest,
          w.1,
          split,
          omega (arith, w.4, length-append (hashes m) rest, length-append content (34 ∷ hashes m), length-hashes m),
          (m, content, refl, leb-true m 255 parts.1, w.3),
        )

-- ---- a raw form that never ends

-- one with more `#` than stand behind any `"`
raw_end-most : (byte : Bool) (n from : ℕ) (text : Characters) → n ≤ 255 → most_hashes byte text < n → raw_end byte n from text ≡ None
raw_end-most byte n from [] few h = refl
raw_end-most byte n from (c ∷ cs) few h = cases (eqb c 34) (fits byte c) refl refl (raw_end-most byte n (from + 1) cs few) h
  where
    goes_on : (f : Bool) → fits byte c ≡ f → (eqb c 34 && nat_le n (prefix_len is_hash cs)) ≡ false → (f ≡ true → raw_end byte n (from + 1) cs ≡ None) → raw_end byte n from (c ∷ cs) ≡ None
    goes_on true q shut more = rw (shut, q) (more refl)
    goes_on false q shut more = rw (shut, q) refl

    cases : (b f : Bool) → eqb c 34 ≡ b → fits byte c ≡ f → (most_hashes byte cs < n → raw_end byte n (from + 1) cs ≡ None)
        → cond b (max (min (prefix_len is_hash cs) 255) (most_hashes byte cs)) (cond f (most_hashes byte cs) 0) < n → raw_end byte n from (c ∷ cs) ≡ None
    cases true f p q more h = goes_on f q (and_right (eqb c 34) _ (lt-leb n (prefix_len is_hash cs) (omega arith))) (λ _. more (omega arith))
    cases false true p q more h = goes_on true q (and_left (eqb c 34) _ p) (λ _. more h)
    cases false false p q more h = goes_on false q (and_left (eqb c 34) _ p) (λ e. absurd (false≢true e))

most_of-closing : (byte : Bool) (text : Characters) → most_of byte (closing_of text) ≡ most_hashes byte text
most_of-closing true text = refl
most_of-closing false text = refl

drop-closings_of : (n : ℕ) (text : Characters) → drop n (closings_of text) ≡ closings_of (drop n text)
drop-closings_of zero text = refl
drop-closings_of (suc n) [] = refl
drop-closings_of (suc n) (c ∷ cs) = drop-closings_of n cs

-- what is known of a text is known of its parts
pub AreClosings-drop : (n : ℕ) (closings : List Closing) (text : Characters) → AreClosings closings text → AreClosings (drop n closings) (drop n text)
AreClosings-drop n closings text h = ⊎_elim
    (λ none. inl (ap (drop n) none ∙ nothing n))
    (λ all. inr (ap (drop n) all ∙ drop-closings_of n text)) h
  where
    nothing : (n : ℕ) → drop {A = Closing} n [] ≡ []
    nothing zero = refl
    nothing (suc n) = refl

-- one that cannot close
pub raw_end-never : (byte : Bool) (n from : ℕ) (closings : List Closing) (text : Characters) → n ≤ 255 → AreClosings closings text → can_close byte n closings ≡ false
    → raw_end byte n from text ≡ None
raw_end-never byte n from closings text few h shut = ⊎_elim
    (λ none. absurd (true≢false (sym (ap (can_close byte n) none) ∙ shut)))
    (λ all. by_text text (sym (ap (can_close byte n) all) ∙ shut)) h
  where
    by_text : (text : Characters) → can_close byte n (closings_of text) ≡ false → raw_end byte n from text ≡ None
    by_text [] e = absurd (true≢false e)
    by_text (c ∷ cs) e = raw_end-most byte n from (c ∷ cs) few (leb-false n _ (ap (nat_le n) (sym (most_of-closing byte (c ∷ cs))) ∙ e))
