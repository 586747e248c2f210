-- The values of strings, raw forms, characters and bytes are read.
use Rattle.std.proofs.Common.{◌≡◌, ℕ, suc, ◌+◌, ◌-◌, ◌<◌, ⊎_elim, Bool, true, false, not, cond, ◌&&◌, eqb, List, [], ◌∷◌, ◌++◌, length, take, drop, map, slice_index, refl, sym, ap, ◌∙◌, subst, arith, length-append}
use Rattle.std.proofs.Math.Seq.{drop-append-add, drop-append_seam, take-append_seam}
use Rattle.std.proofs.lemmas.Bool.{and_parts, lt-ltb, ltb-true, not-true, or_parts}
use Rattle.std.proofs.lemmas.List.{append-nil, map-append}
use Rattle.std.specs.List.{concat, list_all, prefix_len}
use Rattle.tok_scan.specs.Characters.{Characters, begins}
use Rattle.tok_scan.specs.Escapes.{IsEscape}
use Rattle.tok_scan.specs.Scan.{item_length}
use Rattle.tok_scan.specs.Strings.{AreItems, IsItem, fits, hashes, is_blank, is_hash, is_plain, is_single, stays_open, closes}
use Rattle.tok_scan.proofs.Escapes.{escape_length-append}
use Rattle.tok_scan.proofs.Lists.{prefix_len-run}
use Rattle.tok_scan.proofs.Raws.{all-hashes, length-hashes}
use Rattle.tok_lit.specs.Quoted.{escape_value, item_value, IsRawOf, IsStringOf, IsTickedOf}
use Rattle.tok_lit.specs.Reading.{content, escaped, or_zero, ticked, unescaped}
use Rattle.tok_lit.proofs.Content.{unescaped-skip}
use Rattle.tok_lit.proofs.Escapes.{escape-below, escape-not_line, escaped-append}

-- ---- the content of a string

unescaped-item : (byte : Bool) (item rest : Characters) → IsItem byte item rest → unescaped byte 0 (item ++ rest) ≡ item_value item ++ unescaped byte 0 rest
unescaped-item byte item rest h = ⊎_elim
    (λ p. subst P (sym p.1) (plain p.0 p.2))
    (λ h. ⊎_elim (λ e. subst P (sym e.1) (escape e.0 e.2)) (λ d. subst P (sym d.1) (dropped d.0 d.2 d.3)) h) h
  where
    P : Characters → Type 0
    P item = unescaped byte 0 (item ++ rest) ≡ item_value item ++ unescaped byte 0 rest

    plain : (c : ℕ) → is_plain byte c ≡ true → P (c ∷ [])
    plain c h =
        let slash : eqb c 92 ≡ false = (or_parts (eqb c 34) (eqb c 92) (not-true _ (and_parts (fits byte c) _ h).1)).1 in
        rw slash refl

    escape : (e : Characters) → IsEscape byte e → P (92 ∷ e)
    escape e h =
        let u : Characters = unescaped byte (item_length byte (e ++ rest)) (e ++ rest) in
        let line : eqb (slice_index (e ++ rest) 0) 10 ≡ false = escape-not_line byte e rest h in
        let alone : eqb (slice_index e 0) 10 ≡ false = ap (λ (z : Characters). eqb (slice_index z 0) 10) (sym (append-nil e)) ∙ escape-not_line byte e [] h in
        let size : item_length byte (e ++ rest) ≡ length e = rw line (escape_length-append byte e rest h) in
        let skip : u ≡ unescaped byte 0 rest =
        ap (λ n. unescaped byte n (e ++ rest)) size ∙ unescaped-skip byte (length e) (e ++ rest) ∙ ap (unescaped byte 0) (drop-append_seam e rest) in
        ap (λ b. cond b u (escaped (e ++ rest) ∷ u)) line
        ∙ ap (λ x. x ∷ u) (escaped-append byte e rest h)
        ∙ ap (λ (z : Characters). escape_value e ∷ z) skip
        ∙ sym (ap (λ b. cond b [] (escape_value e ∷ []) ++ unescaped byte 0 rest) alone)

    dropped : (blanks : Characters) → list_all is_blank blanks ≡ true → begins is_blank rest ≡ false → P (92 ∷ 10 ∷ blanks)
    dropped blanks h k =
        let size : 1 + prefix_len is_blank (blanks ++ rest) ≡ suc (length blanks) = omega (arith, prefix_len-run is_blank blanks rest h k) in
        ap (λ n. unescaped byte n (10 ∷ (blanks ++ rest))) size ∙ unescaped-skip byte (length blanks) (blanks ++ rest) ∙ ap (unescaped byte 0) (drop-append_seam blanks rest)

unescaped-items : (byte : Bool) (items : List Characters) → AreItems byte items → unescaped byte 0 (concat items) ≡ concat (map item_value items)
unescaped-items byte [] h = refl
unescaped-items byte (item ∷ items) h = unescaped-item byte item (concat items) h.0 ∙ ap (λ z. item_value item ++ z) (unescaped-items byte items h.1)

-- ---- between quotes

content-string : (body : Characters) → content (34 ∷ (body ++ 34 ∷ [])) ≡ body
content-string body =
    let size : length (body ++ 34 ∷ []) - 1 ≡ length body = omega (arith, length-append body (34 ∷ [])) in
    ap (λ n. take n (body ++ 34 ∷ [])) size ∙ take-append_seam body (34 ∷ [])

content-raw : (n : ℕ) (body : Characters) → content (hashes n ++ 34 ∷ (body ++ 34 ∷ hashes n)) ≡ body
content-raw n body =
    let behind : Characters = body ++ 34 ∷ hashes n in
    let text : Characters = hashes n ++ 34 ∷ behind in
    let run : prefix_len is_hash text ≡ n = prefix_len-run is_hash (hashes n) (34 ∷ behind) (all-hashes n) refl ∙ length-hashes n in
    let cut : drop (n + 1) text ≡ behind = ap (λ k. drop (k + 1) text) (sym (length-hashes n)) ∙ drop-append-add (hashes n) (34 ∷ behind) 1 in
    let size : length behind - (n + 1) ≡ length body = omega (arith, length-append body (34 ∷ hashes n), length-hashes n) in
    ap (λ m. take (length (drop (m + 1) text) - (m + 1)) (drop (m + 1) text)) run
    ∙ ap (λ (z : Characters). take (length z - (n + 1)) z) cut
    ∙ ap (λ k. take k behind) size
    ∙ take-append_seam body (34 ∷ hashes n)

pub string-value : (byte : Bool) (text value : Characters) → IsStringOf byte text value → unescaped byte 0 (content text) ≡ value
string-value byte text value h =
    let items : List Characters = h.0.0 in
    ap (λ (t : Characters). unescaped byte 0 (content t)) h.0.1 ∙ ap (unescaped byte 0) (content-string (concat items)) ∙ unescaped-items byte items h.0.2 ∙ sym h.1

pub raw-value : (byte : Bool) (text value : Characters) → IsRawOf byte text value → content text ≡ value
raw-value byte text value h = ap content h.0.2 ∙ content-raw h.0.0 h.0.1 ∙ sym h.1

single-not_slash : (byte : Bool) (c : ℕ) → is_single byte c ≡ true → eqb c 92 ≡ false
single-not_slash byte c h =
    let none = not-true _ (and_parts (fits byte c) _ h).1 in
    (or_parts (eqb c 92) _ (or_parts (eqb c 39) _ none).1).0

pub ticked-value : (byte : Bool) (text : Characters) (value : ℕ) → IsTickedOf byte text value → ticked text ≡ value
ticked-value byte text value h = ⊎_elim
    (λ p. ap ticked p.0 ∙ rw (single-not_slash byte value p.1) refl)
    (λ e. ap ticked e.1 ∙ escaped-append byte e.0 (39 ∷ []) e.2 ∙ sym e.3) h

-- ---- forms of bytes

or_zero-below : (n : ℕ) → n < 256 → or_zero n ≡ n
or_zero-below n h = rw (lt-ltb n 256 h) refl

fits-below : (c : ℕ) → fits true c ≡ true → or_zero c ≡ c
fits-below c h = or_zero-below c (omega (arith, ltb-true c 128 h))

item-below : (item rest : Characters) → IsItem true item rest → map or_zero (item_value item) ≡ item_value item
item-below item rest h = ⊎_elim
    (λ p. subst P (sym p.1) (plain p.0 p.2))
    (λ h. ⊎_elim (λ e. subst P (sym e.1) (escape e.0 e.2)) (λ d. subst P (sym d.1) refl) h) h
  where
    P : Characters → Type 0
    P item = map or_zero (item_value item) ≡ item_value item

    plain : (c : ℕ) → is_plain true c ≡ true → P (c ∷ [])
    plain c h =
        let parts = and_parts (fits true c) _ h in
        let slash : eqb c 92 ≡ false = (or_parts (eqb c 34) (eqb c 92) (not-true _ parts.1)).1 in
        ap (λ b. map or_zero (cond b (cond (eqb (slice_index [] 0) 10) [] (escape_value [] ∷ [])) (c ∷ []))) slash
        ∙ ap (λ x. x ∷ []) (fits-below c parts.0)
        ∙ sym (ap (λ b. cond b (cond (eqb (slice_index [] 0) 10) [] (escape_value [] ∷ [])) (c ∷ [])) slash)

    escape : (e : Characters) → IsEscape true e → P (92 ∷ e)
    escape e h =
        let alone : eqb (slice_index e 0) 10 ≡ false = ap (λ (z : Characters). eqb (slice_index z 0) 10) (sym (append-nil e)) ∙ escape-not_line true e [] h in
        ap (λ b. map or_zero (cond b [] (escape_value e ∷ []))) alone
        ∙ ap (λ x. x ∷ []) (or_zero-below (escape_value e) (escape-below e h))
        ∙ sym (ap (λ b. cond b [] (escape_value e ∷ [])) alone)

items-below : (items : List Characters) → AreItems true items → map or_zero (concat (map item_value items)) ≡ concat (map item_value items)
items-below [] h = refl
items-below (item ∷ items) h =
    map-append or_zero (item_value item) (concat (map item_value items))
    ∙ ap (λ z. z ++ map or_zero (concat (map item_value items))) (item-below item (concat items) h.0)
    ∙ ap (λ z. item_value item ++ z) (items-below items h.1)

open-below : (n : ℕ) (content : Characters) → stays_open true n content ≡ true → map or_zero content ≡ content
open-below n [] h = refl
open-below n (c ∷ cs) h =
    let parts = and_parts (fits true c && not (closes n (c ∷ cs))) (stays_open true n cs) h in
    let first = fits-below c (and_parts (fits true c) (not (closes n (c ∷ cs))) parts.0).0 in
    ap (λ x. x ∷ map or_zero cs) first ∙ ap (λ (z : Characters). c ∷ z) (open-below n cs parts.1)

pub string-bytes : (text value : Characters) → IsStringOf true text value → map or_zero (unescaped true 0 (content text)) ≡ value
string-bytes text value h = ap (map or_zero) (string-value true text value h) ∙ subst (λ (v : Characters). map or_zero v ≡ v) (sym h.1) (items-below h.0.0 h.0.2)

pub raw-bytes : (text value : Characters) → IsRawOf true text value → map or_zero (content text) ≡ value
raw-bytes text value h = ap (map or_zero) (raw-value true text value h) ∙ subst (λ (v : Characters). map or_zero v ≡ v) (sym h.1) (open-below h.0.0 h.0.1 h.0.4)

pub ticked-byte : (text : Characters) (value : ℕ) → IsTickedOf true text value → or_zero (ticked text) ≡ value
ticked-byte text value h = ap or_zero (ticked-value true text value h) ∙ below
  where
    below : or_zero value ≡ value
    below = ⊎_elim
        (λ p. fits-below value (and_parts (fits true value) _ p.1).0)
        (λ e. subst (λ (v : ℕ). or_zero v ≡ v) (sym e.3) (or_zero-below (escape_value e.0) (escape-below e.0 e.2))) h
