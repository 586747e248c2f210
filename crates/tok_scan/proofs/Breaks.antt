-- A space and the closing delimiters: what stands apart, and what has none of them.
use Rattle.std.proofs.Common.{◌≡◌, inl, inr, ⊎_elim, ◌⊎◌, ℕ, ◌+◌, ◌<◌, Bool, true, false, not, cond, eqb, [], ◌∷◌, ◌++◌, length, slice_index, None, refl, sym, ap, ◌∙◌, subst, arith, lit<}
use Rattle.std.proofs.lemmas.Bool.{and_parts, and_from, eqb-true, true≢false}
use Rattle.std.specs.List.{list_all, list_any, AllByRecursion}
use Rattle.unicode_ident.proofs.IdentLemmas.{is_xid_continue-ascii}
use Rattle.tok_types.specs.declared.tree.Delimiter.{Delimiter}
use Rattle.tok_types.specs.declared.tree.Delimiter.TheVariants as delimiter
use Rattle.tok_types.specs.Names.{starts_name, continues_name, is_name}
use Rattle.tok_scan.specs.Characters.{Characters, begins, closing}
use Rattle.tok_scan.specs.Numbers.{in_digits, is_after_dot, IsFraction, is_exponent_letter, is_sign, IsSomeExponent, IsExponent, is_suffix, base_of, IsDecimalNumber, IsBasedNumber, IsNumber}
use Rattle.tok_scan.specs.Pieces.{IsRawName}
use Rattle.tok_scan.specs.declared.kind.Kind.TheVariants as kind
use Rattle.tok_scan.proofs.Heads.{starts-continues}
use Rattle.tok_scan.proofs.Identifiers.{list_all-name}
use Rattle.tok_scan.proofs.Lists.{any_has}

pub first_same : (c d : ℕ) (cs ds : Characters) → c ∷ cs ≡ d ∷ ds → c ≡ d
first_same c d cs ds e = cc

pub rest_same : (c d : ℕ) (cs ds : Characters) → c ∷ cs ≡ d ∷ ds → cs ≡ ds
rest_same c d cs ds e = cc

-- the letters that announce a base
pub letters : (c : ℕ) → 0 < base_of c → (c ≡ 120) ⊎ ((c ≡ 111) ⊎ (c ≡ 98))
letters c h = by_letter (eqb c 120) refl (eqb c 111) refl (eqb c 98) refl h
  where
    by_letter : (x : Bool) → eqb c 120 ≡ x → (o : Bool) → eqb c 111 ≡ o → (b : Bool) → eqb c 98 ≡ b → 0 < cond x 16 (cond o 8 (cond b 2 0))
        → (c ≡ 120) ⊎ ((c ≡ 111) ⊎ (c ≡ 98))
    by_letter true e o f b g h = inl (eqb-true c 120 e)
    by_letter false e true f b g h = inr (inl (eqb-true c 111 f))
    by_letter false e false f true g h = inr (inr (eqb-true c 98 g))
    by_letter false e false f false g h = absurd (omega arith)

-- the end of the text, a space or a closing delimiter
abbrev pub IsApart : Characters → Type 0
IsApart after =
    (after ≡ [])
    ⊎ (((more : Characters) × (after ≡ 32 ∷ more))
    ⊎ ((d : Delimiter) × (more : Characters) × (d ≡ delimiter.None → ⊥) × (after ≡ closing d ++ more)))

-- ---- a space and the closing delimiters

abbrev breaks : Characters
breaks = 32 ∷ 41 ∷ 93 ∷ 125 ∷ []

abbrev pub is_break : ℕ → Bool
is_break c = list_any (λ b. eqb c b) breaks

-- a test that holds of none of them
abbrev Spares : (ℕ → Bool) → Type 0
Spares p = AllByRecursion (λ c. p c ≡ false) breaks

pub spares : (p : ℕ → Bool) → p 32 ≡ false → p 41 ≡ false → p 93 ≡ false → p 125 ≡ false → Spares p
spares p a b c d = (a, (b, (c, (d, tt))))

pub at_break : (p : ℕ → Bool) → Spares p → (c : ℕ) → is_break c ≡ true → p c ≡ false
at_break p s c h = any_has (λ c. p c ≡ false) c breaks s h

pub Spares-continues : Spares continues_name
Spares-continues =
    spares continues_name
    (is_xid_continue-ascii 32 (lit< tt))
    (is_xid_continue-ascii 41 (lit< tt))
    (is_xid_continue-ascii 93 (lit< tt))
    (is_xid_continue-ascii 125 (lit< tt))

pub starts-false : (c : ℕ) → continues_name c ≡ false → starts_name c ≡ false
starts-false c h = cases (starts_name c) refl
  where
    cases : (b : Bool) → starts_name c ≡ b → b ≡ false
    cases true e = absurd (true≢false (sym (starts-continues c e) ∙ h))
    cases false e = refl

Spares-starts : Spares starts_name
Spares-starts =
    let none = Spares-continues in
    spares starts_name (starts-false 32 none.0) (starts-false 41 none.1.0) (starts-false 93 none.1.1.0) (starts-false 125 none.1.1.1.0)

pub Spares-after_dot : Spares is_after_dot
Spares-after_dot = Spares-starts

pub Spares-decimal : Spares (in_digits 10)
Spares-decimal = spares (in_digits 10) refl refl refl refl

-- no digit of a base that is announced
pub Spares-base : (letter : ℕ) → Spares (in_digits (base_of letter))
Spares-base letter = by_letter (eqb letter 120) (eqb letter 111) (eqb letter 98)
  where
    by_letter : (x o b : Bool) → Spares (in_digits (cond x 16 (cond o 8 (cond b 2 0))))
    by_letter true o b = (refl, (refl, (refl, (refl, tt))))
    by_letter false true b = (refl, (refl, (refl, (refl, tt))))
    by_letter false false true = (refl, (refl, (refl, (refl, tt))))
    by_letter false false false = (refl, (refl, (refl, (refl, tt))))

pub apart-cases : (after : Characters) → IsApart after → (after ≡ []) ⊎ ((x : ℕ) × (more : Characters) × (after ≡ x ∷ more) × (is_break x ≡ true))
apart-cases after (inl e) = inl e
apart-cases after (inr (inl s)) = inr (32, s.0, s.1, refl)
apart-cases after (inr (inr s)) = by_delimiter s.0 s.2 s.3
  where
    by_delimiter : (d : Delimiter) → (d ≡ delimiter.None → ⊥) → after ≡ closing d ++ s.1
        → (after ≡ []) ⊎ ((x : ℕ) × (more : Characters) × (after ≡ x ∷ more) × (is_break x ≡ true))
    by_delimiter delimiter.Parenthesis v e = inr (41, s.1, e, refl)
    by_delimiter delimiter.Bracket v e = inr (93, s.1, e, refl)
    by_delimiter delimiter.Brace v e = inr (125, s.1, e, refl)
    by_delimiter delimiter.None v e = absurd (v refl)

-- what begins there is none of what is tested
pub begins-apart : (p : ℕ → Bool) → Spares p → (after : Characters) → IsApart after → begins p after ≡ false
begins-apart p s after h = ⊎_elim (λ e. ap (begins p) e) (λ c. ap (begins p) c.2 ∙ at_break p s c.0 c.3) (apart-cases after h)

-- ... where no more than this is missing
pub begins-more : (p : ℕ → Bool) (xs after : Characters) → begins p (xs ++ []) ≡ false → begins p after ≡ false → begins p (xs ++ after) ≡ false
begins-more p [] after h k = k
begins-more p (x ∷ xs) after h k = h

pub first-apart : (p : ℕ → Bool) → Spares p → p 0 ≡ false → (after : Characters) → IsApart after → p (slice_index after 0) ≡ false
first-apart p s z after h = ⊎_elim (λ e. ap (λ t. p (slice_index t 0)) e ∙ z) (λ c. ap (λ t. p (slice_index t 0)) c.2 ∙ at_break p s c.0 c.3) (apart-cases after h)

-- a text that goes on past another one has what follows that one
pub longer : (text after f a : Characters) → IsApart after → text ++ after ≡ f ++ a → length text < length f
    → (x : ℕ) × (more : Characters) × (f ≡ text ++ x ∷ more) × (is_break x ≡ true)
longer text after [] a h e l = absurd (omega arith)
longer [] after (y ∷ f) a h e l = ⊎_elim
    (λ n. absurd (not_nil y (f ++ a) (sym n ∙ e)))
    (λ c. (y, f, refl, subst (λ x. is_break x ≡ true) (first_same c.0 y c.1 (f ++ a) (sym c.2 ∙ e)) c.3))
    (apart-cases after h)
  where
    not_nil : (c : ℕ) (cs : Characters) → [] ≡ c ∷ cs → ⊥
    not_nil c cs e = cc
longer (c ∷ text) after (y ∷ f) a h e l =
    let r = longer text after f a h (rest_same c y (text ++ after) (f ++ a) e) (omega arith) in
    let first = first_same c y (text ++ after) (f ++ a) e in
    (r.0, r.1, cc (first, r.2), r.3)

-- ---- what has no break in it

abbrev pub keeps : ℕ → Bool
keeps c = not (is_break c)

-- where a test spares the breaks, what passes it has none
all_keep : (p : ℕ → Bool) → Spares p → (text : Characters) → list_all p text ≡ true → list_all keeps text ≡ true
all_keep p s [] h = refl
all_keep p s (c ∷ text) h =
    let parts = and_parts (p c) (list_all p text) h in
    and_from _ _ (keep (is_break c) refl parts.0) (all_keep p s text parts.1)
  where
    keep : (b : Bool) → is_break c ≡ b → p c ≡ true → not b ≡ true
    keep true e h = absurd (true≢false (sym h ∙ at_break p s c e))
    keep false e h = refl

all_keep-append : (text more : Characters) → list_all keeps text ≡ true → list_all keeps more ≡ true → list_all keeps (text ++ more) ≡ true
all_keep-append [] more h k = k
all_keep-append (c ∷ text) more h k =
    let parts = and_parts (keeps c) (list_all keeps text) h in and_from _ _ parts.0 (all_keep-append text more parts.1 k)

pub keeps_no_break : (text : Characters) (x : ℕ) (more : Characters) → is_break x ≡ true → list_all keeps (text ++ x ∷ more) ≡ true → ⊥
keeps_no_break [] x more b h = true≢false (sym (and_parts (keeps x) (list_all keeps more) h).0 ∙ ap not b)
keeps_no_break (c ∷ text) x more b h = keeps_no_break text x more b (and_parts (keeps c) (list_all keeps (text ++ x ∷ more)) h).1

pub keeps-name : (text : Characters) → is_name text ≡ true → list_all keeps text ≡ true
keeps-name text h = all_keep continues_name Spares-continues text (list_all-name text h)

pub keeps-raw_name : (text after : Characters) → IsRawName text after → list_all keeps text ≡ true
keeps-raw_name text after h = ap (list_all keeps) h.1 ∙ keeps-name h.0 h.2

keeps-suffix : (text : Characters) → is_suffix text ≡ true → list_all keeps text ≡ true
keeps-suffix [] h = refl
keeps-suffix (c ∷ cs) h = keeps-name (c ∷ cs) h

keeps-fraction : (text after : Characters) → IsFraction text after → list_all keeps text ≡ true
keeps-fraction text after h = ⊎_elim
    (λ n. ap (list_all keeps) n.0)
    (λ h. ⊎_elim (λ d. ap (list_all keeps) d.0) (λ d. ap (list_all keeps) d.1 ∙ all_keep (in_digits 10) Spares-decimal d.0 d.2.digits) h) h

Spares-letter : Spares is_exponent_letter
Spares-letter = spares is_exponent_letter refl refl refl refl

Spares-sign : Spares is_sign
Spares-sign = spares is_sign refl refl refl refl

one_keeps : (p : ℕ → Bool) → Spares p → (c : ℕ) → p c ≡ true → keeps c ≡ true
one_keeps p s c h = (and_parts (keeps c) true (all_keep p s (c ∷ []) (and_from _ _ h refl))).0

pub keeps-some_exponent : (text after : Characters) → IsSomeExponent text after → list_all keeps text ≡ true
keeps-some_exponent text after e =
    let sign : list_all keeps e.1 ≡ true = ⊎_elim
    (λ n. ap (list_all keeps) n)
    (λ c. ap (list_all keeps) c.1 ∙ and_from _ _ (one_keeps is_sign Spares-sign c.0 c.2) refl) e.5 in
    ap (list_all keeps) e.3
    ∙ and_from _ _ (one_keeps is_exponent_letter Spares-letter e.0 e.4)
    (all_keep-append e.1 e.2 sign (all_keep (in_digits 10) Spares-decimal e.2 e.6.digits))

keeps-exponent : (text after : Characters) → IsExponent text after → list_all keeps text ≡ true
keeps-exponent text after h = ⊎_elim (λ n. ap (list_all keeps) n.0) (λ e. keeps-some_exponent text after e) h

pub keeps-number : (text after : Characters) → IsNumber text after → list_all keeps text ≡ true
keeps-number text after h = ⊎_elim (λ n. decimal n) (λ n. based n) h
  where
    decimal : IsDecimalNumber text after → list_all keeps text ≡ true
    decimal n =
        ap (list_all keeps) n.parts
        ∙ all_keep-append n.whole (n.fraction ++ (n.exponent ++ n.suffix)) (all_keep (in_digits 10) Spares-decimal n.whole n.is_whole.digits)
        (all_keep-append n.fraction (n.exponent ++ n.suffix) (keeps-fraction n.fraction _ n.is_fraction)
        (all_keep-append n.exponent n.suffix (keeps-exponent n.exponent _ n.is_exponent) (keeps-suffix n.suffix n.is_suffixed)))

    letter_keeps : (c : ℕ) → 0 < base_of c → keeps c ≡ true
    letter_keeps c h = ⊎_elim (λ e. ap keeps e) (λ h. ⊎_elim (λ e. ap keeps e) (λ e. ap keeps e) h) (letters c h)

    based : IsBasedNumber text after → list_all keeps text ≡ true
    based n =
        ap (list_all keeps) n.parts
        ∙ and_from _ _ (letter_keeps n.letter n.is_base)
        (all_keep-append n.digits n.suffix (all_keep (in_digits (base_of n.letter)) (Spares-base n.letter) n.digits n.are_digits) (keeps-suffix n.suffix n.is_suffixed))
