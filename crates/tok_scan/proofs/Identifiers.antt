-- Identifiers, and literals with a prefix, are found, and what is found as such is.
use Rattle.std.proofs.Common.{◌≡◌, ℕ, zero, suc, ◌+◌, ◌<◌, ◌≤◌, inl, inr, ⊎_elim, Bool, true, false, not, cond, ◌&&◌, eqb, nat_le, [], ◌∷◌, ◌++◌, length, take, drop, slice_index, Option, Some, None, refl, sym, ap, ◌∙◌, subst, arith}
use Rattle.std.proofs.Math.Seq.{take-append_seam}
use Rattle.std.proofs.lemmas.Bool.{and_parts, and_from, not-true, eqb-true, false≢true}
use Rattle.std.proofs.lemmas.List.{take-append-drop}
use Rattle.std.proofs.lemmas.List.Folds.{length-prefix_len}
use Rattle.std.specs.List.{concat, list_all, prefix_len}
use Rattle.tok_types.specs.Names.{starts_name, continues_name, is_name, is_reserved}
use Rattle.tok_scan.specs.Characters.{Characters, begins}
use Rattle.tok_scan.specs.Strings.{IsString, IsRaw, IsTicked, IsPrefixed, is_hash, hashes}
use Rattle.tok_scan.specs.Pieces.{IsRawName}
use Rattle.tok_scan.specs.Scan.{front, plus, raw_end, raw_length, string_length, ticked_length, prefixed_length, raw_name_length, named, worded}
use Rattle.tok_scan.proofs.Answers.{Finds, Reaches, Sound, Sound-same, front-head}
use Rattle.tok_scan.proofs.Heads.{head_of-name, head_of-r, head_of-b, starts-continues, starts-other, hash-starts, quote-starts, hash-continues, quote-continues, tick-continues}
use Rattle.tok_scan.proofs.Items.{string_length-append, string-front}
use Rattle.tok_scan.proofs.Lists.{prefix_len-run, prefix_len-le_one, prefix_len-le_two, length-le-prefix_len, list_all-take_prefix, begins-drop_prefix}
use Rattle.tok_scan.proofs.Raws.{raw_length-append, raw-front}
use Rattle.tok_scan.proofs.Ticks.{ticked_length-append, ticked-front}
use Rattle.tok_scan.specs.declared.kind.Found.{Found}
use Rattle.tok_scan.specs.declared.kind.Kind.TheVariants as kind
use Rattle.tok_scan.specs.declared.scan.Head.TheVariants as head

-- ---- names

-- each character of an identifier could go on with one
pub list_all-name : (name : Characters) → is_name name ≡ true → list_all continues_name name ≡ true
list_all-name [] h = refl
list_all-name (c ∷ cs) h =
    let parts = and_parts (starts_name c) (list_all continues_name cs) h in
    and_from _ _ (starts-continues c parts.0) parts.1

pub begins-name : (name after : Characters) → is_name name ≡ true → begins starts_name (name ++ after) ≡ true
begins-name [] after h = absurd (false≢true h)
begins-name (c ∷ cs) after h = (and_parts (starts_name c) (list_all continues_name cs) h).0

-- what an identifier begins, the run of its characters is one
pub name-front : (text : Characters) → begins starts_name text ≡ true → is_name (take (prefix_len continues_name text) text) ≡ true
name-front [] h = absurd (false≢true h)
name-front (c ∷ cs) h =
    let m = prefix_len continues_name cs in
    let n : prefix_len continues_name (c ∷ cs) ≡ suc m = rw (starts-continues c h) (omega arith) in
    subst (λ n. is_name (take n (c ∷ cs)) ≡ true) (sym n) (and_from _ _ h (list_all-take_prefix continues_name cs))

pub raw_name_length-append : (text after : Characters) → IsRawName text after → raw_name_length (text ++ after) ≡ Some (length text)
raw_name_length-append text after h =
    let name : Characters = h.0 in
    let rest : Characters = name ++ after in
    let run : prefix_len continues_name rest ≡ length name = prefix_len-run continues_name name after (list_all-name name h.2) h.4 in
    let test : (begins starts_name rest && not (is_reserved (take (length name) rest))) ≡ true =
    and_from _ _ (begins-name name after h.2) (ap (λ z. not (is_reserved z)) (take-append_seam name after) ∙ ap not h.3) in
    let size : 2 + length name ≡ length (114 ∷ 35 ∷ name) = omega arith in
    subst (λ (t : Characters). raw_name_length (t ++ after) ≡ Some (length t)) (sym h.1) (
    ap (λ n. cond (begins starts_name rest && not (is_reserved (take n rest))) (Some (2 + n)) None) run
    ∙ ap (λ b. cond b (Some (2 + length name)) None) test
    ∙ ap Some size
    )

-- a raw identifier of this length begins the text
abbrev pub RawNameFront : ℕ → Characters → Type 0
RawNameFront n text = (raw : Characters) × (after : Characters) × (text ≡ raw ++ after) × (n ≡ length raw) × IsRawName raw after

pub raw_name-front : (text : Characters) (n : ℕ) → raw_name_length text ≡ Some n → RawNameFront n text
raw_name-front [] n h = absurd (cc)
raw_name-front (c ∷ []) n h = cases (eqb c 114) h
  where
    cases : (b : Bool) → cond (((b && false) && false) && not (is_reserved [])) (Some (2 + 0)) None ≡ Some n → RawNameFront n (c ∷ [])
    cases true h = absurd (cc)
    cases false h = absurd (cc)
raw_name-front (c ∷ d ∷ cs) n h = cases (((eqb c 114 && eqb d 35) && begins starts_name cs) && not (is_reserved (take (prefix_len continues_name cs) cs))) refl h
  where
    cases : (b : Bool) → (((eqb c 114 && eqb d 35) && begins starts_name cs) && not (is_reserved (take (prefix_len continues_name cs) cs))) ≡ b
        → cond b (Some (2 + prefix_len continues_name cs)) None ≡ Some n → RawNameFront n (c ∷ d ∷ cs)
    cases false e h = absurd (cc)
    cases true e h =
        let m = prefix_len continues_name cs in
        let all = and_parts ((eqb c 114 && eqb d 35) && begins starts_name cs) _ e in
        let most = and_parts (eqb c 114 && eqb d 35) (begins starts_name cs) all.0 in
        let two = and_parts (eqb c 114) (eqb d 35) most.0 in
        let first : c ≡ 114 = eqb-true c 114 two.0 in
        let second : d ≡ 35 = eqb-true d 35 two.1 in
        let end : 2 + m ≡ n = cc in
        let split : c ∷ d ∷ cs ≡ 114 ∷ 35 ∷ (take m cs ++ drop m cs) = ap (λ c. c ∷ d ∷ cs) first ∙ ap (λ d. 114 ∷ d ∷ cs) second ∙ ap (λ z. 114 ∷ 35 ∷ z) (sym (take-append-drop m cs)) in (
          114 ∷ 35 ∷ take m cs,
          drop m cs,
          split,
          omega (arith, length-prefix_len continues_name cs),
          (take m cs, refl, name-front cs most.1, not-true _ all.1, begins-drop_prefix continues_name cs),
        )

-- a raw identifier is longer than the run of its first characters
pub raw_name-longer : (n : ℕ) (text : Characters) → RawNameFront n text → prefix_len continues_name text < n
raw_name-longer n text f =
    let name : Characters = f.4.0 in
    let split : text ≡ 114 ∷ 35 ∷ (name ++ f.1) = f.2 ∙ ap (λ z. z ++ f.1) f.4.1 in
    omega (arith, prefix_len-le_one continues_name 114 35 (name ++ f.1) hash-continues, ap (prefix_len continues_name) split, f.3, ap length f.4.1)

-- ---- literals with a prefix

-- a raw form begins with `#` or `"`
raw-begins : (byte : Bool) (raw : Characters) → IsRaw byte raw → (c : ℕ) × (cs : Characters) × (raw ≡ c ∷ cs) × (continues_name c ≡ false)
raw-begins byte raw h = by_count h.0 h.2
  where
    by_count : (n : ℕ) → raw ≡ hashes n ++ 34 ∷ (h.1 ++ 34 ∷ hashes n) → (c : ℕ) × (cs : Characters) × (raw ≡ c ∷ cs) × (continues_name c ≡ false)
    by_count zero e = (34, h.1 ++ 34 ∷ [], e, quote-continues)
    by_count (suc n) e = (35, hashes n ++ 34 ∷ (h.1 ++ 34 ∷ hashes (suc n)), e, hash-continues)

pub ticked-begins : (byte : Bool) (text : Characters) → IsTicked byte text → (cs : Characters) × (text ≡ 39 ∷ cs)
ticked-begins byte text h = ⊎_elim (λ s. (s.0 ∷ 39 ∷ [], s.1)) (λ e. (92 ∷ (e.0 ++ 39 ∷ []), e.1)) h

-- it is longer than the run of its first characters
prefixed-longer : (text after : Characters) → IsPrefixed text → prefix_len continues_name (text ++ after) < length text
prefixed-longer text after h = ⊎_elim
    (λ r. let b = raw-begins false r.0 r.2 in after_one 114 b.0 b.1 (r.1 ∙ ap (λ z. 114 ∷ z) b.2) b.3)
    (λ h. ⊎_elim
    (λ s. after_one 98 34 (content s.2) (s.1 ∙ ap (λ z. 98 ∷ z) s.2.1) quote-continues)
    (λ h. ⊎_elim
    (λ r. let b = raw-begins true r.0 r.2 in after_two b.0 b.1 (r.1 ∙ ap (λ z. 98 ∷ 114 ∷ z) b.2) b.3)
    (λ t. let b = ticked-begins true t.0 t.2 in after_one 98 39 b.0 (t.1 ∙ ap (λ z. 98 ∷ z) b.1) tick-continues) h) h) h
  where
    content : {s : Characters} → IsString true s → Characters
    content i = concat i.0 ++ 34 ∷ []

    after_one : (a c : ℕ) (cs : Characters) → text ≡ a ∷ c ∷ cs → continues_name c ≡ false → prefix_len continues_name (text ++ after) < length text
    after_one a c cs e h = omega (arith, ap length e, ap (λ z. prefix_len continues_name (z ++ after)) e, prefix_len-le_one continues_name a c (cs ++ after) h)

    after_two : (c : ℕ) (cs : Characters) → text ≡ 98 ∷ 114 ∷ c ∷ cs → continues_name c ≡ false → prefix_len continues_name (text ++ after) < length text
    after_two c cs e h = omega (arith, ap length e, ap (λ z. prefix_len continues_name (z ++ after)) e, prefix_len-le_two continues_name 98 114 c (cs ++ after) h)

pub prefixed-nonempty : (text : Characters) → IsPrefixed text → 1 ≤ length text
prefixed-nonempty text h = omega (arith, prefixed-longer text [] h)

-- it is read whole
pub prefixed_length-append : (text after : Characters) → IsPrefixed text → prefixed_length (text ++ after) ≡ Some (length text)
prefixed_length-append text after h = ⊎_elim
    (λ r. subst P (sym r.1) (ap (plus 1) (raw_length-append false r.0 after r.2) ∙ ap Some (omega arith)))
    (λ h. ⊎_elim
    (λ s. subst P (sym s.1) (string s.0 s.2))
    (λ h. ⊎_elim
    (λ r. subst P (sym r.1) (ap (plus 2) (raw_length-append true r.0 after r.2) ∙ ap Some (omega arith)))
    (λ t. subst P (sym t.1) (ticked t.0 t.2)) h) h) h
  where
    P : Characters → Type 0
    P text = prefixed_length (text ++ after) ≡ Some (length text)

    string : (s : Characters) → IsString true s → P (98 ∷ s)
    string s i =
        subst (λ (z : Characters). string_length true (z ++ after) ≡ Some (length z) → P (98 ∷ z)) (sym i.1)
        (λ e. ap (plus 1) e ∙ ap Some (omega arith)) (string_length-append true s after i)

    ticked : (t : Characters) → IsTicked true t → P (98 ∷ t)
    ticked t i =
        let b = ticked-begins true t i in
        subst (λ (z : Characters). ticked_length true (z ++ after) ≡ Some (length z) → P (98 ∷ z)) (sym b.1)
        (λ e. ap (plus 1) e ∙ ap Some (omega arith)) (ticked_length-append true t after i)

-- a literal with a prefix, of this length, begins the text
abbrev pub PrefixedFront : ℕ → Characters → Type 0
PrefixedFront n text = (front : Characters) × (after : Characters) × (text ≡ front ++ after) × (n ≡ length front) × IsPrefixed front

plus-some : (m n : ℕ) (o : Option ℕ) → plus m o ≡ Some n → (k : ℕ) × (o ≡ Some k) × (n ≡ m + k)
plus-some m n None h = absurd (cc)
plus-some m n (Some k) h = (k, refl, cc)

raw-prefixed : (cs : Characters) (n : ℕ) → plus 1 (raw_length false cs) ≡ Some n → PrefixedFront n (114 ∷ cs)
raw-prefixed cs n h =
    let s = plus-some 1 n (raw_length false cs) h in
    let f = raw-front false cs s.0 s.1 in
    (114 ∷ f.0, f.1, ap (λ z. 114 ∷ z) f.2, omega (arith, s.2, f.3), inl (f.0, refl, f.4))

string-prefixed : (cs : Characters) (n : ℕ) → plus 1 (string_length true (34 ∷ cs)) ≡ Some n → PrefixedFront n (98 ∷ 34 ∷ cs)
string-prefixed cs n h =
    let s = plus-some 1 n (string_length true (34 ∷ cs)) h in
    let f = string-front true cs s.0 s.1 in
    (98 ∷ f.0, f.1, ap (λ z. 98 ∷ z) f.2, omega (arith, s.2, f.3), inr (inl (f.0, refl, f.4)))

ticked-prefixed : (cs : Characters) (n : ℕ) → plus 1 (ticked_length true (39 ∷ cs)) ≡ Some n → PrefixedFront n (98 ∷ 39 ∷ cs)
ticked-prefixed cs n h =
    let s = plus-some 1 n (ticked_length true (39 ∷ cs)) h in
    let f = ticked-front true cs s.0 s.1 in
    (98 ∷ f.0, f.1, ap (λ z. 98 ∷ z) f.2, omega (arith, s.2, f.3), inr (inr (inr (f.0, refl, f.4))))

raw_bytes-prefixed : (cs : Characters) (n : ℕ) → plus 2 (raw_length true cs) ≡ Some n → PrefixedFront n (98 ∷ 114 ∷ cs)
raw_bytes-prefixed cs n h =
    let s = plus-some 2 n (raw_length true cs) h in
    let f = raw-front true cs s.0 s.1 in
    (98 ∷ 114 ∷ f.0, f.1, ap (λ z. 98 ∷ 114 ∷ z) f.2, omega (arith, s.2, f.3), inr (inr (inl (f.0, refl, f.4))))

byte-prefixed : (cs : Characters) (n : ℕ) → prefixed_length (98 ∷ cs) ≡ Some n → PrefixedFront n (98 ∷ cs)
byte-prefixed [] n h = absurd (cc)
byte-prefixed (d ∷ cs) n h = cases (eqb d 34) (eqb d 39) (eqb d 114) refl refl refl h
  where
    cases : (b e f : Bool) → eqb d 34 ≡ b → eqb d 39 ≡ e → eqb d 114 ≡ f
        → cond b (plus 1 (string_length true (d ∷ cs))) (cond e (plus 1 (ticked_length true (d ∷ cs))) (cond f (plus 2 (raw_length true cs)) None)) ≡ Some n → PrefixedFront n (98 ∷ d ∷ cs)
    cases true e f p q r h = subst (λ d. plus 1 (string_length true (d ∷ cs)) ≡ Some n → PrefixedFront n (98 ∷ d ∷ cs)) (sym (eqb-true d 34 p)) (string-prefixed cs n) h
    cases false true f p q r h = subst (λ d. plus 1 (ticked_length true (d ∷ cs)) ≡ Some n → PrefixedFront n (98 ∷ d ∷ cs)) (sym (eqb-true d 39 q)) (ticked-prefixed cs n) h
    cases false false true p q r h = subst (λ d. PrefixedFront n (98 ∷ d ∷ cs)) (sym (eqb-true d 114 r)) (raw_bytes-prefixed cs n h)
    cases false false false p q r h = absurd (cc)

prefixed-front : (text : Characters) (n : ℕ) → prefixed_length text ≡ Some n → PrefixedFront n text
prefixed-front [] n h = absurd (cc)
prefixed-front (c ∷ cs) n h = cases (eqb c 114) (eqb c 98) refl refl h
  where
    bytes : Option ℕ
    bytes = cond (eqb (slice_index cs 0) 34) (plus 1 (string_length true cs)) (cond (eqb (slice_index cs 0) 39) (plus 1 (ticked_length true cs)) (cond (eqb (slice_index cs 0) 114) (plus 2 (raw_length true (drop 1 cs))) None))

    cases : (b e : Bool) → eqb c 114 ≡ b → eqb c 98 ≡ e → cond b (plus 1 (raw_length false cs)) (cond e bytes None) ≡ Some n → PrefixedFront n (c ∷ cs)
    cases true e p q h = subst (λ c. PrefixedFront n (c ∷ cs)) (sym (eqb-true c 114 p)) (raw-prefixed cs n h)
    cases false true p q h = subst (λ c. PrefixedFront n (c ∷ cs)) (sym (eqb-true c 98 q)) (byte-prefixed cs n h)
    cases false false p q h = absurd (cc)

-- ---- what begins with a letter or `_`

pub Finds-prefixed : (text after : Characters) → IsPrefixed text → Finds kind.Literal text after
Finds-prefixed text after h =
    let whole = prefixed_length-append text after h in
    let at : front (text ++ after) ≡ worded (text ++ after) (prefixed_length (text ++ after)) = ⊎_elim
    (λ r. subst P (sym r.1) (front-head 114 (r.0 ++ after) head.Name head_of-r))
    (λ h. ⊎_elim
    (λ s. subst P (sym s.1) (front-head 98 (s.0 ++ after) head.Name head_of-b))
    (λ h. ⊎_elim
    (λ r. subst P (sym r.1) (front-head 98 (114 ∷ (r.0 ++ after)) head.Name head_of-b))
    (λ t. subst P (sym t.1) (front-head 98 (t.0 ++ after) head.Name head_of-b)) h) h) h in
    at ∙ ap (worded (text ++ after)) whole
  where
    P : Characters → Type 0
    P text = front (text ++ after) ≡ worded (text ++ after) (prefixed_length (text ++ after))

-- no raw form begins with `#` and what begins an identifier
raw_length-name : (c : ℕ) (cs : Characters) → starts_name c ≡ true → raw_length false (35 ∷ c ∷ cs) ≡ None
raw_length-name c cs h =
    let z : Characters = 35 ∷ c ∷ cs in
    let count : prefix_len is_hash z ≡ 1 = rw (starts-other c 35 h hash-starts) refl in
    ap (λ n. cond (eqb (slice_index z n) 34 && nat_le n 255) (raw_end false n (n + 1) (drop (n + 1) z)) None) count
    ∙ ap (λ b. cond (b && true) (raw_end false 1 2 (drop 2 z)) None) (starts-other c 34 h quote-starts)

pub Finds-raw_name : (text after : Characters) → IsRawName text after → Finds kind.RawIdent text after
Finds-raw_name text after h =
    let whole = raw_name_length-append text after h in
    subst (λ (t : Characters). raw_name_length (t ++ after) ≡ Some (length t) → Finds kind.RawIdent t after) (sym h.1) (by_name h.0 h.2) whole
  where
    by_name : (name : Characters) → is_name name ≡ true → raw_name_length (114 ∷ 35 ∷ (name ++ after)) ≡ Some (length (114 ∷ 35 ∷ name)) → Finds kind.RawIdent (114 ∷ 35 ∷ name) after
    by_name [] i whole = absurd (false≢true i)
    by_name (c ∷ cs) i whole =
        let z : Characters = 114 ∷ 35 ∷ c ∷ (cs ++ after) in
        front-head 114 (35 ∷ c ∷ (cs ++ after)) head.Name head_of-r
        ∙ ap (λ o. worded z (plus 1 o)) (raw_length-name c (cs ++ after) (and_parts (starts_name c) (list_all continues_name cs) i).0)
        ∙ ap (named z) whole

pub Reaches-name : (text after : Characters) → is_name text ≡ true → Reaches kind.Ident text after
Reaches-name [] after h = absurd (false≢true h)
Reaches-name (c ∷ cs) after h =
    by_literal (prefixed_length z) refl
  where
    z : Characters
    z = c ∷ (cs ++ after)

    text : Characters
    text = c ∷ cs

    least : length text ≤ prefix_len continues_name z
    least = length-le-prefix_len continues_name text after (list_all-name text h)

    at : front z ≡ worded z (prefixed_length z)
    at = front-head c (cs ++ after) head.Name (head_of-name c (and_parts (starts_name c) (list_all continues_name cs) h).0)

    by_raw : (o : Option ℕ) → raw_name_length z ≡ o → front z ≡ named z o → Reaches kind.Ident text after
    by_raw None e f = record { kind = kind.Ident; size = prefix_len continues_name z; is = f; far = least; same = λ _. refl }
    by_raw (Some n) e f =
        let longer = raw_name-longer n z (raw_name-front z n e) in
        record { kind = kind.RawIdent; size = n; is = f; far = omega (arith, longer, least); same = λ e. absurd (omega (arith, longer, least)) }

    by_literal : (o : Option ℕ) → prefixed_length z ≡ o → Reaches kind.Ident text after
    by_literal None e = by_raw (raw_name_length z) refl (at ∙ ap (worded z) e)
    by_literal (Some n) e =
        let f = prefixed-front z n e in
        let longer : prefix_len continues_name z < n = omega (arith, prefixed-longer f.0 f.1 f.4, ap (prefix_len continues_name) f.2, f.3) in
        record { kind = kind.Literal; size = n; is = at ∙ ap (worded z) e; far = omega (arith, longer, least); same = λ e. absurd (omega (arith, longer, least)) }

pub Sound-worded : (text : Characters) (p : Found) → begins starts_name text ≡ true → worded text (prefixed_length text) ≡ Some p → Sound text p
Sound-worded text p s h = by_literal (prefixed_length text) refl h
  where
    by_raw : (o : Option ℕ) → raw_name_length text ≡ o → named text o ≡ Some p → Sound text p
    by_raw None e h =
        let n = prefix_len continues_name text in
        Sound-same text _ p h (record { front = take n text; after = drop n text; split = sym (take-append-drop n text); size = sym (length-prefix_len continues_name text); piece = name-front text s })
    by_raw (Some n) e h =
        let f = raw_name-front text n e in
        Sound-same text _ p h (record { front = f.0; after = f.1; split = f.2; size = f.3; piece = f.4 })

    by_literal : (o : Option ℕ) → prefixed_length text ≡ o → worded text o ≡ Some p → Sound text p
    by_literal None e h = by_raw (raw_name_length text) refl h
    by_literal (Some n) e h =
        let f = prefixed-front text n e in
        Sound-same text _ p h (record { front = f.0; after = f.1; split = f.2; size = f.3; piece = inr (inl f.4) })
