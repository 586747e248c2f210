-- What escapes stand for is read, whatever follows them.
use Rattle.std.proofs.Common.{◌≡◌, ℕ, ◌+◌, ◌-◌, ◌*◌, ◌<◌, ◌≤◌, ⊎_elim, Bool, true, false, cond, ◌&&◌, ◌||◌, eqb, nat_le, nat_lt, codes, [], ◌∷◌, ◌++◌, take, slice_index, refl, sym, ap, ◌∙◌, subst, arith, append_assoc}
use Rattle.std.proofs.Math.Seq.{take-append_seam}
use Rattle.std.proofs.lemmas.Bool.{and_parts, leb-true, lt-ltb, ltb-true, or_cases, or_left, true≢false}
use Rattle.std.proofs.lemmas.Bool.Decides.{nat_tests}
use Rattle.std.specs.Char.{digit_value, is_ascii_hexdigit}
use Rattle.std.specs.Int.{is_in_range}
use Rattle.std.specs.List.{AllByRecursion, prefix_len}
use Rattle.tok_scan.specs.Characters.{Characters}
use Rattle.tok_scan.specs.Escapes.{IsEscape, is_short, is_pair, in_hex, is_number_of_character, is_scalar, digits_value}
use Rattle.tok_scan.proofs.Escapes.{digits-in_hex}
use Rattle.tok_scan.proofs.Lists.{any_has, prefix_len-run}
use Rattle.tok_lit.specs.Quoted.{escape_value, short_value}
use Rattle.tok_lit.specs.Reading.{escaped, or_mark}

-- the letters of the short escapes are none of `x`, `u`, line feed
pub record IsPlainLetter (c : ℕ) : Type 0 where
  pub not_x : eqb c 120 ≡ false
  pub not_u : eqb c 117 ≡ false
  pub not_line : eqb c 10 ≡ false

pub short-plain : (c : ℕ) → is_short c ≡ true → IsPlainLetter c
short-plain c h = any_has IsPlainLetter c (codes "nrt\\0'\"") all h
  where
    plain : (n : ℕ) → eqb n 120 ≡ false → eqb n 117 ≡ false → eqb n 10 ≡ false → IsPlainLetter n
    plain n x u l = record { not_x = x; not_u = u; not_line = l }

    all : AllByRecursion IsPlainLetter (codes "nrt\\0'\"")
    all = (
      plain 110 refl refl refl,
      (
        plain 114 refl refl refl,
        (
          plain 116 refl refl refl,
          (
            plain 92 refl refl refl,
            (plain 48 refl refl refl, (plain 39 refl refl refl, (plain 34 refl refl refl, tt))),
          ),
        ),
      ),
    )

-- a choice is at most what both its ends are
choose : (most : ℕ) (b : Bool) (x y : ℕ) → (b ≡ true → x ≤ most) → (b ≡ false → y ≤ most) → cond b x y ≤ most
choose most true x y f g = f refl
choose most false x y f g = g refl

digit_value-le : (c : ℕ) → digit_value c ≤ 36
digit_value-le c =
    let lower = cond (nat_lt c 123) (c - 87) 36 in
    let gap = cond (nat_lt c 97) 36 lower in
    let upper = cond (nat_lt c 91) (c - 55) gap in
    let other = cond (nat_lt c 65) 36 upper in
    let digit = cond (nat_lt c 58) (c - 48) other in
    choose 36 (nat_lt c 48) 36 digit (λ _. omega arith) (λ _.
    choose 36 (nat_lt c 58) (c - 48) other (λ h. omega (arith, ltb-true c 58 h)) (λ _.
    choose 36 (nat_lt c 65) 36 upper (λ _. omega arith) (λ _.
    choose 36 (nat_lt c 91) (c - 55) gap (λ h. omega (arith, ltb-true c 91 h)) (λ _.
    choose 36 (nat_lt c 97) 36 lower (λ _. omega arith) (λ _.
    choose 36 (nat_lt c 123) (c - 87) 36 (λ h. omega (arith, ltb-true c 123 h)) (λ _. omega arith))))))

-- a hexadecimal digit is below 16
digit_value-hex : (c : ℕ) → is_ascii_hexdigit c ≡ true → digit_value c ≤ 15
digit_value-hex c h = ⊎_elim (λ h. ⊎_elim digit upper (or_cases (is_in_range 48 57 c) (is_in_range 65 70 c) h)) lower (or_cases (is_in_range 48 57 c || is_in_range 65 70 c) (is_in_range 97 102 c) h)
  where
    bounds : (lo hi : ℕ) → is_in_range lo hi c ≡ true → (lo ≤ c) × (c ≤ hi)
    bounds lo hi h = let p = and_parts (nat_le lo c) (nat_le c hi) h in (leb-true lo c p.0, leb-true c hi p.1)

    past : (n : ℕ) → n ≤ c → nat_lt c n ≡ false
    past n h = ltb_false n h
      where
        ltb_false : (n : ℕ) → n ≤ c → nat_lt c n ≡ false
        ltb_false n h = grind (arith, nat_tests)

    digit : is_in_range 48 57 c ≡ true → digit_value c ≤ 15
    digit h = let b = bounds 48 57 h in rw (past 48 b.0, lt-ltb c 58 (omega (arith, b.1))) (omega (arith, b.1))

    upper : is_in_range 65 70 c ≡ true → digit_value c ≤ 15
    upper h = let b = bounds 65 70 h in
        rw (past 48 (omega (arith, b.0)), past 58 (omega (arith, b.0)), past 65 b.0, lt-ltb c 91 (omega (arith, b.1))) (omega (arith, b.1))

    lower : is_in_range 97 102 c ≡ true → digit_value c ≤ 15
    lower h = let b = bounds 97 102 h in
        rw (past 48 (omega (arith, b.0)), past 58 (omega (arith, b.0)), past 65 (omega (arith, b.0)), past 91 (omega (arith, b.0)), past 97 b.0, lt-ltb c 123 (omega (arith, b.1))) (omega (arith, b.1))

-- two digits write no more than this
pair-le : (most a b : ℕ) → digit_value a ≤ most → digit_value b ≤ most → digits_value 16 0 (a ∷ b ∷ []) ≤ most * 16 + most
pair-le most a b x y =
    let first : cond (eqb a 95) 0 (0 + digit_value a) ≤ most = choose most (eqb a 95) 0 (0 + digit_value a) (λ _. omega arith) (λ _. omega (arith, x)) in
    choose (most * 16 + most) (eqb b 95) _ _ (λ _. omega (arith, first)) (λ _. omega (arith, first, y))

-- two digits write the number of a character
pair-scalar : (a b : ℕ) → is_scalar (digits_value 16 0 (a ∷ b ∷ [])) ≡ true
pair-scalar a b =
    let most = pair-le 36 a b (digit_value-le a) (digit_value-le b) in
    let low : nat_lt (digits_value 16 0 (a ∷ b ∷ [])) 0xD800 ≡ true = lt-ltb _ _ (omega (arith, most)) in
    or_left _ _ low

-- what an escape stands for, where it begins a text
record IsRead (e rest : Characters) : Type 0 where
  same : escape_value (e ++ rest) ≡ escape_value e
  read : escaped (e ++ rest) ≡ escape_value e
  not_line : eqb (slice_index (e ++ rest) 0) 10 ≡ false

short : (c : ℕ) (rest : Characters) → is_short c ≡ true → IsRead (c ∷ []) rest
short c rest h =
    let p = short-plain c h in
    record { same = rw (p.not_x, p.not_u) refl; read = rw (p.not_x, p.not_u) refl; not_line = p.not_line }

pair : (a b : ℕ) (rest : Characters) → IsRead (120 ∷ a ∷ b ∷ []) rest
pair a b rest = record { same = refl; read = rw (pair-scalar a b) refl; not_line = refl }

number : (digits rest : Characters) → is_number_of_character digits ≡ true → IsRead (117 ∷ 123 ∷ (digits ++ 125 ∷ [])) rest
number digits rest h =
    let run : (rest : Characters) → take (prefix_len in_hex (digits ++ 125 ∷ rest)) (digits ++ 125 ∷ rest) ≡ digits = λ rest.
    ap (λ n. take n (digits ++ 125 ∷ rest)) (prefix_len-run in_hex digits (125 ∷ rest) (digits-in_hex digits h) refl) ∙ take-append_seam digits (125 ∷ rest) in
    let alone = ap (digits_value 16 0) (run []) in
    let before : digits_value 16 0 (take (prefix_len in_hex ((digits ++ 125 ∷ []) ++ rest)) ((digits ++ 125 ∷ []) ++ rest)) ≡ digits_value 16 0 digits =
    ap (λ z. digits_value 16 0 (take (prefix_len in_hex z) z)) (append_assoc digits (125 ∷ []) rest) ∙ ap (digits_value 16 0) (run rest) in
    let scalar : is_scalar (digits_value 16 0 digits) ≡ true = (and_parts _ _ h).1 in
    record { same = before ∙ sym alone; read = ap or_mark before ∙ rw scalar refl ∙ sym alone; not_line = refl }

is_read : (byte : Bool) (e rest : Characters) → IsEscape byte e → IsRead e rest
is_read byte e rest h = ⊎_elim
    (λ s. subst P (sym s.1) (short s.0 rest s.2))
    (λ h. ⊎_elim (λ x. subst P (sym x.2) (pair x.0 x.1 rest)) (λ u. subst P (sym u.1) (number u.0 rest u.3)) h) h
  where
    P : Characters → Type 0
    P e = IsRead e rest

pub escaped-append : (byte : Bool) (e rest : Characters) → IsEscape byte e → escaped (e ++ rest) ≡ escape_value e
escaped-append byte e rest h = (is_read byte e rest h).read

pub escape-not_line : (byte : Bool) (e rest : Characters) → IsEscape byte e → eqb (slice_index (e ++ rest) 0) 10 ≡ false
escape-not_line byte e rest h = (is_read byte e rest h).not_line

-- an escape of bytes stands for a byte
pub escape-below : (e : Characters) → IsEscape true e → escape_value e < 256
escape-below e h = ⊎_elim
    (λ s. subst P (sym s.1) (short_below s.0 s.2))
    (λ h. ⊎_elim (λ x. subst P (sym x.2) (pair_below x.0 x.1 x.3)) (λ u. absurd (true≢false u.2)) h) h
  where
    P : Characters → Type 0
    P e = escape_value e < 256

    low : ℕ → Type 0
    low c = short_value c < 256

    letters : AllByRecursion low (codes "nrt\\0'\"")
    letters = (omega arith, (omega arith, (omega arith, (omega arith, (omega arith, (omega arith, (omega arith, tt)))))))

    short_below : (c : ℕ) → is_short c ≡ true → P (c ∷ [])
    short_below c h =
        let p = short-plain c h in
        rw (p.not_x, p.not_u) (any_has low c (codes "nrt\\0'\"") letters h)

    pair_below : (a b : ℕ) → is_pair true a b ≡ true → P (120 ∷ a ∷ b ∷ [])
    pair_below a b h =
        let digits = and_parts (is_ascii_hexdigit a) (is_ascii_hexdigit b) (and_parts (is_ascii_hexdigit a && is_ascii_hexdigit b) _ h).0 in
        omega (arith, pair-le 15 a b (digit_value-hex a digits.0) (digit_value-hex b digits.1))
