-- A token does not go on with a space or a closing delimiter: no piece is longer.
use Rattle.std.proofs.Common.{◌≡◌, inl, inr, ⊎_elim, ◌⊎◌, ℕ, zero, suc, ◌+◌, ◌<◌, ◌≤◌, Bool, true, false, not, eqb, [], ◌∷◌, ◌++◌, length, Option, Some, None, refl, sym, ap, ◌∙◌, subst, arith, length-append, lit<}
use Rattle.std.proofs.lemmas.Bool.{and_parts, and_from, true≢false, false≢true}
use Rattle.std.proofs.lemmas.List.{append-nil}
use Rattle.std.specs.List.{list_all, list_any, concat}
use Rattle.unicode_ident.proofs.IdentLemmas.{is_xid_continue-ascii}
use Rattle.tok_types.specs.declared.tree.Delimiter.{Delimiter}
use Rattle.tok_types.specs.declared.tree.Delimiter.TheVariants as delimiter
use Rattle.tok_types.specs.Names.{starts_name, continues_name, is_name}
use Rattle.tok_scan.specs.Characters.{Characters, begins, opening, closing}
use Rattle.tok_scan.specs.Numbers.{is_decimal, IsNumber}
use Rattle.tok_scan.specs.Pieces.{IsRawName, IsPiece}
use Rattle.tok_scan.specs.Scan.{string_length, prefixed_length, ticked_length}
use Rattle.tok_scan.specs.Strings.{IsString, IsRaw, IsTicked, IsPrefixed, hashes}
use Rattle.tok_scan.specs.declared.kind.Kind.{Kind}
use Rattle.tok_scan.specs.declared.kind.Kind.TheVariants as kind
use Rattle.tok_scan.proofs.Heads.{starts-continues, backslash-starts, quote-continues, tick-continues, hash-continues}
use Rattle.tok_scan.proofs.Identifiers.{list_all-name, ticked-begins, prefixed_length-append}
use Rattle.tok_scan.proofs.Items.{string_length-append}
use Rattle.tok_scan.proofs.Lists.{any_has}
use Rattle.tok_scan.proofs.Ticks.{ticked_length-append}
use Rattle.tok_scan.proofs.Breaks.{first_same, rest_same, letters, is_break, at_break, Spares-continues, starts-false, longer, keeps, keeps_no_break, keeps-name, keeps-raw_name, keeps-number}

-- ---- how literals with quotes begin

abbrev is_quote : ℕ → Bool
is_quote c = list_any (λ q. eqb c q) (34 ∷ 35 ∷ 39 ∷ [])

quote_stops : (c : ℕ) → is_quote c ≡ true → (continues_name c ≡ false) × (is_break c ≡ false)
quote_stops c h =
    any_has (λ c. (continues_name c ≡ false) × (is_break c ≡ false)) c (34 ∷ 35 ∷ 39 ∷ [])
    ((quote-continues, refl), ((hash-continues, refl), ((tick-continues, refl), tt))) h

-- letters of a name, and then a quote or a number sign
abbrev Quotes : Characters → Type 0
Quotes text = (run : Characters) × (q : ℕ) × (rest : Characters) × (text ≡ run ++ q ∷ rest) × (list_all continues_name run ≡ true) × (is_quote q ≡ true)

raw_quotes : (byte : Bool) (raw : Characters) → IsRaw byte raw → (q : ℕ) × (rest : Characters) × (raw ≡ q ∷ rest) × (is_quote q ≡ true)
raw_quotes byte raw h = by_count h.0 h.2
  where
    by_count : (n : ℕ) → raw ≡ hashes n ++ 34 ∷ (h.1 ++ 34 ∷ hashes n) → (q : ℕ) × (rest : Characters) × (raw ≡ q ∷ rest) × (is_quote q ≡ true)
    by_count zero e = (34, h.1 ++ 34 ∷ [], e, refl)
    by_count (suc n) e = (35, hashes n ++ 34 ∷ (h.1 ++ 34 ∷ hashes (suc n)), e, refl)

-- after the `#` that it begins with too
raw_quotes_twice : (byte : Bool) (cs : Characters) → IsRaw byte (35 ∷ cs) → (q : ℕ) × (rest : Characters) × (cs ≡ q ∷ rest) × (is_quote q ≡ true)
raw_quotes_twice byte cs h = by_count h.0 h.2
  where
    by_more : (n : ℕ) (behind : Characters) → cs ≡ hashes n ++ 34 ∷ behind → (q : ℕ) × (rest : Characters) × (cs ≡ q ∷ rest) × (is_quote q ≡ true)
    by_more zero behind e = (34, behind, e, refl)
    by_more (suc n) behind e = (35, hashes n ++ 34 ∷ behind, e, refl)

    by_count : (n : ℕ) → 35 ∷ cs ≡ hashes n ++ 34 ∷ (h.1 ++ 34 ∷ hashes n) → (q : ℕ) × (rest : Characters) × (cs ≡ q ∷ rest) × (is_quote q ≡ true)
    by_count zero e = let clash : 35 ≡ 34 = first_same 35 34 cs (h.1 ++ 34 ∷ []) e in absurd (omega (arith, clash))
    by_count (suc n) e = by_more n (h.1 ++ 34 ∷ hashes (suc n)) (rest_same 35 35 cs (hashes n ++ 34 ∷ (h.1 ++ 34 ∷ hashes (suc n))) e)

Quotes-string : (byte : Bool) (text : Characters) → IsString byte text → Quotes text
Quotes-string byte text h = ([], 34, concat h.0 ++ 34 ∷ [], h.1, refl, refl)

Quotes-ticked : (byte : Bool) (text : Characters) → IsTicked byte text → Quotes text
Quotes-ticked byte text h = let b = ticked-begins byte text h in ([], 39, b.0, b.1, refl, refl)

Quotes-prefixed : (text : Characters) → IsPrefixed text → Quotes text
Quotes-prefixed text h = ⊎_elim
    (λ r. let q = raw_quotes false r.0 r.2 in (114 ∷ [], q.0, q.1, r.1 ∙ ap (λ z. 114 ∷ z) q.2, and_from _ _ r_continues refl, q.3))
    (λ h. ⊎_elim
    (λ s. (98 ∷ [], 34, concat s.2.0 ++ 34 ∷ [], s.1 ∙ ap (λ z. 98 ∷ z) s.2.1, and_from _ _ b_continues refl, refl))
    (λ h. ⊎_elim
    (λ r. let q = raw_quotes true r.0 r.2 in
    (98 ∷ 114 ∷ [], q.0, q.1, r.1 ∙ ap (λ z. 98 ∷ 114 ∷ z) q.2, and_from _ _ b_continues (and_from _ _ r_continues refl), q.3))
    (λ t. let b = ticked-begins true t.0 t.2 in (98 ∷ [], 39, b.0, t.1 ∙ ap (λ z. 98 ∷ z) b.1, and_from _ _ b_continues refl, refl)) h) h) h
  where
    r_continues : continues_name 114 ≡ true
    r_continues = is_xid_continue-ascii 114 (lit< tt)

    b_continues : continues_name 98 ≡ true
    b_continues = is_xid_continue-ascii 98 (lit< tt)

-- what a run of letters stops at is told by the text
same_stop : (p : ℕ → Bool) (xs ys : Characters) (x y : ℕ) (us vs : Characters) → list_all p xs ≡ true → list_all p ys ≡ true → p x ≡ false → p y ≡ false
    → xs ++ x ∷ us ≡ ys ++ y ∷ vs → x ≡ y
same_stop p [] [] x y us vs h k f g e = cc
same_stop p [] (b ∷ ys) x y us vs h k f g e =
    let same : x ≡ b = first_same x b us (ys ++ y ∷ vs) e in absurd (true≢false (sym (and_parts (p b) _ k).0 ∙ ap p (sym same) ∙ f))
same_stop p (a ∷ xs) [] x y us vs h k f g e =
    let same : a ≡ y = first_same a y (xs ++ x ∷ us) vs e in absurd (true≢false (sym (and_parts (p a) _ h).0 ∙ ap p same ∙ g))
same_stop p (a ∷ xs) (b ∷ ys) x y us vs h k f g e =
    same_stop p xs ys x y us vs (and_parts (p a) _ h).1 (and_parts (p b) _ k).1 f g (rest_same a b (xs ++ x ∷ us) (ys ++ y ∷ vs) e)

-- a name does not go on with a break and then quote
name_quotes : (text : Characters) (x : ℕ) (more : Characters) → is_break x ≡ true → is_name text ≡ true → Quotes (text ++ x ∷ more) → ⊥
name_quotes text x more b h q =
    let stops = quote_stops q.1 q.5 in
    let same : x ≡ q.1 = same_stop continues_name text q.0 x q.1 more q.2 (list_all-name text h) q.4 (at_break continues_name Spares-continues x b) stops.0 q.3 in
    true≢false (sym b ∙ ap is_break same ∙ stops.1)

-- ---- a token does not go on with a break

-- the first characters of a text and of a longer one are the same
clash : (text more : Characters) (c d : ℕ) (cs ds : Characters) → text ≡ c ∷ cs → text ++ more ≡ d ∷ ds → c ≡ d
clash text more c d cs ds e f = first_same c d (cs ++ more) ds (ap (λ t. t ++ more) (sym e) ∙ f)

-- a text of which a scan takes all, and a longer one of which it takes all
two_ends : (end : Characters → Option ℕ) (text : Characters) (x : ℕ) (more : Characters) → end (text ++ x ∷ more) ≡ Some (length text)
    → end ((text ++ x ∷ more) ++ []) ≡ Some (length (text ++ x ∷ more)) → ⊥
two_ends end text x more h k =
    let same : length text ≡ length (text ++ x ∷ more) = some_same (length text) (length (text ++ x ∷ more)) (sym h ∙ ap end (sym (append-nil (text ++ x ∷ more))) ∙ k) in
    omega (arith, same, length-append text (x ∷ more))
  where
    some_same : (m n : ℕ) → Some m ≡ Some n → m ≡ n
    some_same m n e = cc

pub prefixed_first : (text : Characters) → IsPrefixed text → (c : ℕ) × (cs : Characters) × (text ≡ c ∷ cs) × ((c ≡ 114) ⊎ (c ≡ 98))
prefixed_first text h = ⊎_elim
    (λ r. (114, r.0, r.1, inl refl))
    (λ h. ⊎_elim (λ s. (98, s.0, s.1, inr refl)) (λ h. ⊎_elim (λ r. (98, 114 ∷ r.0, r.1, inr refl)) (λ t. (98, t.0, t.1, inr refl)) h) h) h

pub number_first : (text after : Characters) → IsNumber text after → (c : ℕ) × (cs : Characters) × (text ≡ c ∷ cs) × (is_decimal c ≡ true)
number_first text after h = ⊎_elim (λ n. decimal n.whole (n.fraction ++ (n.exponent ++ n.suffix)) n.is_whole.first n.parts) (λ n. (48, n.letter ∷ (n.digits ++ n.suffix), n.parts, refl)) h
  where
    decimal : (whole more : Characters) → begins is_decimal whole ≡ true → text ≡ whole ++ more → (c : ℕ) × (cs : Characters) × (text ≡ c ∷ cs) × (is_decimal c ≡ true)
    decimal [] more b e = absurd (false≢true b)
    decimal (c ∷ cs) more b e = (c, cs ++ more, e, b)

-- a number does not begin so
no_number : (text more after : Characters) (d : ℕ) (ds : Characters) → is_decimal d ≡ false → IsNumber text after → text ++ more ≡ d ∷ ds → ⊥
no_number text more after d ds n h e =
    let f = number_first text after h in
    false≢true (sym n ∙ ap is_decimal (sym (clash text more f.0 d f.1 ds f.2 e)) ∙ f.3)

-- a form with a prefix does not begin so
no_prefixed : (text more : Characters) (d : ℕ) (ds : Characters) → (114 ≡ d → ⊥) → (98 ≡ d → ⊥) → IsPrefixed text → text ++ more ≡ d ∷ ds → ⊥
no_prefixed text more d ds r b h e =
    let f = prefixed_first text h in
    let same = clash text more f.0 d f.1 ds f.2 e in
    ⊎_elim (λ g. r (sym g ∙ same)) (λ g. b (sym g ∙ same)) f.3

-- what a token is, alone
abbrev pub is_word : Kind → Bool
is_word kind.Ident = true
is_word kind.RawIdent = true
is_word kind.Lifetime = true
is_word kind.Literal = true
is_word _ = false

string_longer : (k : Kind) (text : Characters) (x : ℕ) (more : Characters) → is_break x ≡ true → is_word k ≡ true → IsPiece k text [] → IsString false (text ++ x ∷ more) → ⊥
string_longer kind.Ident text x more b w h s = name_quotes text x more b h (Quotes-string false _ s)
string_longer kind.RawIdent text x more b w h s = let e = clash text (x ∷ more) 114 34 _ _ h.1 s.1 in absurd (omega (arith, e))
string_longer kind.Lifetime text x more b w h s = let e = clash text (x ∷ more) 39 34 _ _ h.1 s.1 in absurd (omega (arith, e))
string_longer kind.Literal text x more b w h s = ⊎_elim
    (λ t. two_ends (string_length false) text x more (string_length-append false text (x ∷ more) t) (string_length-append false (text ++ x ∷ more) [] s))
    (λ h. ⊎_elim
    (λ p. no_prefixed text (x ∷ more) 34 _ (λ e. omega (arith, e)) (λ e. omega (arith, e)) p s.1)
    (λ h. ⊎_elim
    (λ t. let c = ticked-begins false text t.0 in let e = clash text (x ∷ more) 39 34 _ _ c.1 s.1 in absurd (omega (arith, e)))
    (λ n. no_number text (x ∷ more) [] 34 _ refl n s.1) h) h) h
string_longer kind.White text x more b w h s = absurd (false≢true w)
string_longer kind.Comment text x more b w h s = absurd (false≢true w)
string_longer kind.Doc text x more b w h s = absurd (false≢true w)
string_longer (kind.Mark joint) text x more b w h s = absurd (false≢true w)
string_longer (kind.Open d) text x more b w h s = absurd (false≢true w)
string_longer (kind.Close d) text x more b w h s = absurd (false≢true w)

-- a raw identifier is no raw string
raw_longer : (text : Characters) (x : ℕ) (more : Characters) → IsRawName text [] → IsPrefixed (text ++ x ∷ more) → ⊥
raw_longer text x more h p = ⊎_elim
    (λ r. by_name h.0 h.2 (rest_same 114 114 _ _ (ap (λ t. t ++ x ∷ more) (sym h.1) ∙ r.1)) r.2)
    (λ p. ⊎_elim
    (λ s. let e = clash text (x ∷ more) 114 98 _ _ h.1 s.1 in absurd (omega (arith, e)))
    (λ p. ⊎_elim
    (λ r. let e = clash text (x ∷ more) 114 98 _ _ h.1 r.1 in absurd (omega (arith, e)))
    (λ t. let e = clash text (x ∷ more) 114 98 _ _ h.1 t.1 in absurd (omega (arith, e))) p) p) p
  where
    by_name : (name : Characters) {raw : Characters} → is_name name ≡ true → 35 ∷ (name ++ x ∷ more) ≡ raw → IsRaw false raw → ⊥
    by_name [] h e r = false≢true h
    by_name (c ∷ cs) h e r =
        let q = raw_quotes_twice false (c ∷ (cs ++ x ∷ more)) (subst (IsRaw false) (sym e) r) in
        let same : c ≡ q.0 = first_same c q.0 (cs ++ x ∷ more) q.1 q.2 in
        let stops = quote_stops q.0 q.3 in
        true≢false (sym (starts-continues c (and_parts (starts_name c) _ h).0) ∙ ap continues_name same ∙ stops.0)

prefixed_longer : (k : Kind) (text : Characters) (x : ℕ) (more : Characters) → is_break x ≡ true → is_word k ≡ true → IsPiece k text [] → IsPrefixed (text ++ x ∷ more) → ⊥
prefixed_longer kind.Ident text x more b w h p = name_quotes text x more b h (Quotes-prefixed _ p)
prefixed_longer kind.RawIdent text x more b w h p = raw_longer text x more h p
prefixed_longer kind.Lifetime text x more b w h p = let f = prefixed_first _ p in
    let e = clash text (x ∷ more) 39 f.0 _ f.1 h.1 f.2 in ⊎_elim (λ g. omega (arith, e, g)) (λ g. omega (arith, e, g)) f.3
prefixed_longer kind.Literal text x more b w h p =
    let f = prefixed_first _ p in
    let no_digit : is_decimal f.0 ≡ false = ⊎_elim (λ g. ap is_decimal g) (λ g. ap is_decimal g) f.3 in
    ⊎_elim
    (λ s. let e = clash text (x ∷ more) 34 f.0 _ f.1 s.1 f.2 in ⊎_elim (λ g. omega (arith, e, g)) (λ g. omega (arith, e, g)) f.3)
    (λ h. ⊎_elim
    (λ q. two_ends prefixed_length text x more (prefixed_length-append text (x ∷ more) q) (prefixed_length-append (text ++ x ∷ more) [] p))
    (λ h. ⊎_elim
    (λ t. let c = ticked-begins false text t.0 in
    let e = clash text (x ∷ more) 39 f.0 _ f.1 c.1 f.2 in ⊎_elim (λ g. omega (arith, e, g)) (λ g. omega (arith, e, g)) f.3)
    (λ n. no_number text (x ∷ more) [] f.0 f.1 no_digit n f.2) h) h) h
prefixed_longer kind.White text x more b w h p = absurd (false≢true w)
prefixed_longer kind.Comment text x more b w h p = absurd (false≢true w)
prefixed_longer kind.Doc text x more b w h p = absurd (false≢true w)
prefixed_longer (kind.Mark joint) text x more b w h p = absurd (false≢true w)
prefixed_longer (kind.Open d) text x more b w h p = absurd (false≢true w)
prefixed_longer (kind.Close d) text x more b w h p = absurd (false≢true w)

-- a lifetime is no character
lifetime_longer : (name : Characters) (x : ℕ) (more : Characters) → is_break x ≡ true → (is_name name ≡ true) ⊎ IsRawName name [] → IsTicked false (39 ∷ (name ++ x ∷ more)) → ⊥
lifetime_longer name x more b h t = ⊎_elim (λ s. single name h (rest_same 39 39 _ _ s.1)) (λ e. escape name h (rest_same 39 39 _ _ e.1)) t
  where
    break_tick : x ≡ 39 → ⊥
    break_tick e = true≢false (sym b ∙ ap is_break e)

    one_more : (rest : Characters) → list_all continues_name rest ≡ true → rest ++ x ∷ more ≡ 39 ∷ [] → ⊥
    one_more [] h e = break_tick (first_same x 39 more [] e)
    one_more (c ∷ rest) h e =
        true≢false (sym (and_parts (continues_name c) _ h).0 ∙ ap continues_name (first_same c 39 (rest ++ x ∷ more) [] e) ∙ tick-continues)

    single : (name : Characters) {c : ℕ} → (is_name name ≡ true) ⊎ IsRawName name [] → name ++ x ∷ more ≡ c ∷ 39 ∷ [] → ⊥
    single [] (inl h) e = false≢true h
    single (d ∷ name) (inl h) e = one_more name (and_parts (starts_name d) _ h).1 (rest_same d _ (name ++ x ∷ more) (39 ∷ []) e)
    single name (inr h) e =
        let both : 35 ∷ (h.0 ++ x ∷ more) ≡ 39 ∷ [] = rest_same 114 _ _ _ (ap (λ t. t ++ x ∷ more) (sym h.1) ∙ e) in
        let same : 35 ≡ 39 = first_same 35 39 (h.0 ++ x ∷ more) [] both in omega (arith, same)

    escape : (name : Characters) {z : Characters} → (is_name name ≡ true) ⊎ IsRawName name [] → name ++ x ∷ more ≡ 92 ∷ z → ⊥
    escape [] (inl h) e = false≢true h
    escape (d ∷ name) {z} (inl h) e =
        true≢false (sym (and_parts (starts_name d) _ h).0 ∙ ap starts_name (first_same d 92 (name ++ x ∷ more) z e) ∙ backslash-starts)
    escape name {z} (inr h) e =
        let same : 114 ≡ 92 = clash name (x ∷ more) 114 92 (35 ∷ h.0) z h.1 e in omega (arith, same)

ticked_longer : (k : Kind) (text : Characters) (x : ℕ) (more : Characters) → is_break x ≡ true → is_word k ≡ true → IsPiece k text [] → IsTicked false (text ++ x ∷ more) → ⊥
ticked_longer kind.Ident text x more b w h t = name_quotes text x more b h (Quotes-ticked false _ t)
ticked_longer kind.RawIdent text x more b w h t =
    let c = ticked-begins false _ t in let e = clash text (x ∷ more) 114 39 _ _ h.1 c.1 in absurd (omega (arith, e))
ticked_longer kind.Lifetime text x more b w h t =
    lifetime_longer h.0 x more b h.2 (subst (λ (t : Characters). IsTicked false (t ++ x ∷ more)) h.1 t)
ticked_longer kind.Literal text x more b w h t =
    let c = ticked-begins false _ t in
    ⊎_elim
    (λ s. let e = clash text (x ∷ more) 34 39 _ _ s.1 c.1 in absurd (omega (arith, e)))
    (λ h. ⊎_elim
    (λ p. no_prefixed text (x ∷ more) 39 _ (λ e. omega (arith, e)) (λ e. omega (arith, e)) p c.1)
    (λ h. ⊎_elim
    (λ u. two_ends (ticked_length false) text x more (ticked_length-append false text (x ∷ more) u.0) (ticked_length-append false (text ++ x ∷ more) [] t))
    (λ n. no_number text (x ∷ more) [] 39 _ refl n c.1) h) h) h
ticked_longer kind.White text x more b w h t = absurd (false≢true w)
ticked_longer kind.Comment text x more b w h t = absurd (false≢true w)
ticked_longer kind.Doc text x more b w h t = absurd (false≢true w)
ticked_longer (kind.Mark joint) text x more b w h t = absurd (false≢true w)
ticked_longer (kind.Open d) text x more b w h t = absurd (false≢true w)
ticked_longer (kind.Close d) text x more b w h t = absurd (false≢true w)

slash-starts : starts_name 47 ≡ false
slash-starts = starts-false 47 (is_xid_continue-ascii 47 (lit< tt))

-- what begins a token is no `/`
no_slash : (k : Kind) (text more ds : Characters) → is_word k ≡ true → IsPiece k text [] → text ++ more ≡ 47 ∷ ds → ⊥
no_slash kind.Ident [] more ds w h e = false≢true h
no_slash kind.Ident (c ∷ cs) more ds w h e =
    true≢false (sym (and_parts (starts_name c) _ h).0 ∙ ap starts_name (first_same c 47 (cs ++ more) ds e) ∙ slash-starts)
no_slash kind.RawIdent text more ds w h e = let same = clash text more 114 47 _ ds h.1 e in omega (arith, same)
no_slash kind.Lifetime text more ds w h e = let same = clash text more 39 47 _ ds h.1 e in omega (arith, same)
no_slash kind.Literal text more ds w h e = ⊎_elim
    (λ s. let same = clash text more 34 47 _ ds s.1 e in omega (arith, same))
    (λ h. ⊎_elim
    (λ p. no_prefixed text more 47 ds (λ e. omega (arith, e)) (λ e. omega (arith, e)) p e)
    (λ h. ⊎_elim
    (λ t. let c = ticked-begins false text t.0 in let same = clash text more 39 47 _ ds c.1 e in omega (arith, same))
    (λ n. no_number text more [] 47 ds refl n e) h) h) h
no_slash kind.White text more ds w h e = false≢true w
no_slash kind.Comment text more ds w h e = false≢true w
no_slash kind.Doc text more ds w h e = false≢true w
no_slash (kind.Mark joint) text more ds w h e = false≢true w
no_slash (kind.Open d) text more ds w h e = false≢true w
no_slash (kind.Close d) text more ds w h e = false≢true w

-- what is longer than a token has two characters at least
not_one : (text : Characters) (x : ℕ) (more : Characters) → 0 < length text → length (text ++ x ∷ more) ≤ 1 → ⊥
not_one text x more l h = omega (arith, length-append text (x ∷ more))

opening_one : (d : Delimiter) → length (opening d) ≤ 1
opening_one delimiter.Parenthesis = omega arith
opening_one delimiter.Bracket = omega arith
opening_one delimiter.Brace = omega arith
opening_one delimiter.None = omega arith

closing_one : (d : Delimiter) → length (closing d) ≤ 1
closing_one delimiter.Parenthesis = omega arith
closing_one delimiter.Bracket = omega arith
closing_one delimiter.Brace = omega arith
closing_one delimiter.None = omega arith

-- no piece is a token and what stands apart of it
pub none_longer : (k : Kind) (text : Characters) (x : ℕ) (more : Characters) (other : Kind) (a : Characters) → is_break x ≡ true → is_word k ≡ true → 0 < length text → IsPiece k text []
    → IsPiece other (text ++ x ∷ more) a → ⊥
none_longer k text x more kind.White a b w l h i = not_one text x more l (omega (arith, ap length i.1))
none_longer k text x more kind.Comment a b w l h i = ⊎_elim
    (λ c. no_slash k text (x ∷ more) _ w h c.1) (λ c. no_slash k text (x ∷ more) _ w h c.1) i
none_longer k text x more kind.Doc a b w l h i = no_slash k text (x ∷ more) _ w h i.1
none_longer k text x more kind.Ident a b w l h i = keeps_no_break text x more b (keeps-name _ i)
none_longer k text x more kind.RawIdent a b w l h i = keeps_no_break text x more b (keeps-raw_name _ a i)
none_longer k text x more kind.Lifetime a b w l h i =
    let name : list_all keeps i.0 ≡ true = ⊎_elim (λ n. keeps-name i.0 n) (λ n. keeps-raw_name i.0 a n) i.2 in
    keeps_no_break text x more b (ap (list_all keeps) i.1 ∙ name)
none_longer k text x more (kind.Mark joint) a b w l h i = not_one text x more l (omega (arith, ap length i.1))
none_longer k text x more kind.Literal a b w l h i = ⊎_elim
    (λ s. string_longer k text x more b w h s)
    (λ i. ⊎_elim
    (λ p. prefixed_longer k text x more b w h p)
    (λ i. ⊎_elim (λ t. ticked_longer k text x more b w h t.0) (λ n. keeps_no_break text x more b (keeps-number _ a n)) i) i) i
none_longer k text x more (kind.Open d) a b w l h i = not_one text x more l (omega (arith, ap length i.0, opening_one d))
none_longer k text x more (kind.Close d) a b w l h i = not_one text x more l (omega (arith, ap length i.0, closing_one d))
