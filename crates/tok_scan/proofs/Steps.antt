-- One step of each loop.
use Rattle.std.proofs.Common.{◌≡◌, ℕ, zero, suc, ◌+◌, ◌-◌, ◌*◌, ◌^◌, ◌<◌, ◌≤◌, Bool, true, false, cond, eqb, nat_lt, List, [], ◌∷◌, length, get_or, drop, Some, None, refl, sym, ap, ◌∙◌, arith, drop-drop, drop-cons, add-one}
use Rattle.std.proofs.lemmas.Bool.{le-ltb, ltb-false}
use Rattle.std.proofs.Math.Nat.{mul-le-mul_left}
use Rattle.std.specs.Char.{digit_value}
use Rattle.tok_scan.specs.Comments.{comment_end}
use Rattle.tok_scan.specs.Escapes.{digits_value}
use Rattle.tok_scan.specs.Strings.{fits}
use Rattle.tok_scan.specs.Scan.{is_pair_at, item_length, string_end, small, with_digit}
use Rattle.tok_scan.proofs.Lists.{drop-at, drop-past}

-- ---- comments

two : (z : List ℕ) (i : ℕ) → i + 1 < length z → drop (i + 1) z ≡ get_or z (i + 1) 0 ∷ drop (i + 2) z
two z i h = let n : i + 1 + 1 ≡ i + 2 = omega arith in drop-at z (i + 1) h ∙ ap (λ k. get_or z (i + 1) 0 ∷ drop k z) n

comment_end-at : (depth i : ℕ) (z : List ℕ) → i + 1 < length z → comment_end depth i (drop i z)
    ≡ cond (is_pair_at z i 42 47) (cond (eqb depth 1) (Some (i + 2)) (comment_end (depth - 1) (i + 2) (drop (i + 2) z)))
    (cond (is_pair_at z i 47 42) (comment_end (depth + 1) (i + 2) (drop (i + 2) z)) (comment_end depth (i + 1) (drop (i + 1) z)))
comment_end-at depth i z h =
    let e = two z i h in
    ap (comment_end depth i) (drop-at z i (omega arith) ∙ ap (λ r. get_or z i 0 ∷ r) e)
    ∙ ap (λ r. cond (is_pair_at z i 42 47) (cond (eqb depth 1) (Some (i + 2)) (comment_end (depth - 1) (i + 2) (drop (i + 2) z)))
    (cond (is_pair_at z i 47 42) (comment_end (depth + 1) (i + 2) (drop (i + 2) z)) (comment_end depth (i + 1) r))) (sym e)

pub comment_end-short : (depth from : ℕ) (z : List ℕ) → length z ≤ 1 → comment_end depth from z ≡ None
comment_end-short depth from [] h = refl
comment_end-short depth from (c ∷ []) h = refl
comment_end-short depth from (c ∷ d ∷ z) h = absurd (omega arith)

pub comment_end-ends : (depth i : ℕ) (z : List ℕ) → i + 1 < length z → is_pair_at z i 42 47 ≡ true → eqb depth 1 ≡ true → Some (i + 2) ≡ comment_end depth i (drop i z)
comment_end-ends depth i z h p d = sym (comment_end-at depth i z h ∙ rw (p, d) refl)

pub comment_end-closes : (depth i : ℕ) (z : List ℕ) → i + 1 < length z → is_pair_at z i 42 47 ≡ true → eqb depth 1 ≡ false
    → comment_end (depth - 1) (i + 2) (drop (i + 2) z) ≡ comment_end depth i (drop i z)
comment_end-closes depth i z h p d = sym (comment_end-at depth i z h ∙ rw (p, d) refl)

pub comment_end-opens : (depth i : ℕ) (z : List ℕ) → i + 1 < length z → is_pair_at z i 42 47 ≡ false → is_pair_at z i 47 42 ≡ true
    → comment_end (depth + 1) (i + 2) (drop (i + 2) z) ≡ comment_end depth i (drop i z)
comment_end-opens depth i z h p d = sym (comment_end-at depth i z h ∙ rw (p, d) refl)

pub comment_end-goes_on : (depth i : ℕ) (z : List ℕ) → i + 1 < length z → is_pair_at z i 42 47 ≡ false → is_pair_at z i 47 42 ≡ false
    → comment_end depth (i + 1) (drop (i + 1) z) ≡ comment_end depth i (drop i z)
comment_end-goes_on depth i z h p d = sym (comment_end-at depth i z h ∙ rw (p, d) refl)

-- ---- strings

pub string_end-skip : (byte : Bool) (left from : ℕ) (z : List ℕ) → left ≤ length z → string_end byte left from z ≡ string_end byte 0 (from + left) (drop left z)
string_end-skip byte zero from z h = ap (λ n. string_end byte 0 n z) (omega arith)
string_end-skip byte (suc left) from [] h = absurd (omega arith)
string_end-skip byte (suc left) from (c ∷ z) h =
    string_end-skip byte left (from + 1) z (omega arith) ∙ ap (λ n. string_end byte 0 n (drop left z)) (omega arith)

string_end-at : (byte : Bool) (i : ℕ) (z : List ℕ) → i < length z → string_end byte 0 i (drop i z)
    ≡ cond (eqb (get_or z i 0) 34) (Some (i + 1)) (cond (eqb (get_or z i 0) 92)
    (cond (eqb (item_length byte (drop (i + 1) z)) 0) None (string_end byte (item_length byte (drop (i + 1) z)) (i + 1) (drop (i + 1) z)))
    (cond (fits byte (get_or z i 0)) (string_end byte 0 (i + 1) (drop (i + 1) z)) None))
string_end-at byte i z h = ap (string_end byte 0 i) (drop-at z i h)

pub string_end-item : (byte : Bool) (i n : ℕ) (z : List ℕ) → i < length z → eqb (get_or z i 0) 34 ≡ false → eqb (get_or z i 0) 92 ≡ true
    → n ≡ item_length byte (drop (i + 1) z) → eqb n 0 ≡ false → n ≤ length (drop (i + 1) z)
    → string_end byte 0 (i + (1 + n)) (drop (i + (1 + n)) z) ≡ string_end byte 0 i (drop i z)
string_end-item byte i n z h q b e k l =
    let skip = string_end-skip byte n (i + 1) (drop (i + 1) z) l in
    let m : i + 1 + n ≡ i + (1 + n) = omega arith in
    let place : drop n (drop (i + 1) z) ≡ drop (i + (1 + n)) z = rw (← m) (grind (arith, drop-drop n (i + 1) z)) in
    sym (string_end-at byte i z h ∙ rw (q, b, ← e, k) refl ∙ skip ∙ ap (λ v. string_end byte 0 v (drop n (drop (i + 1) z))) m ∙ ap (string_end byte 0 (i + (1 + n))) place)

-- ---- numbers

pub digits_value-at : (base value i d : ℕ) (z : List ℕ) → i < length z → digits_value base (with_digit base value (get_or z i d)) (drop (i + 1) z) ≡ digits_value base value (drop i z)
digits_value-at base value i d z h = let e : drop i z ≡ get_or z i d ∷ drop (i + 1) z = rw (add-one) (drop-cons z i d h) in sym (ap (digits_value base value) e)

pub digits_value-past : (base value i : ℕ) (z : List ℕ) → length z ≤ i → digits_value base value (drop i z) ≡ value
digits_value-past base value i z h = ap (digits_value base value) (drop-past i z h)

with_digit-le : (base value c : ℕ) → 1 ≤ base → value ≤ with_digit base value c
with_digit-le base value c h = elim (eqb c 95) as (λ b. value ≤ cond b value (value * base + digit_value c)) [
  | true ↦ omega arith
  | false ↦ omega (arith, mul-le-mul_left value h)
]

-- more digits make no less
pub digits_value-le : (base value : ℕ) (z : List ℕ) → 1 ≤ base → value ≤ digits_value base value z
digits_value-le base value [] h = omega arith
digits_value-le base value (c ∷ z) h =
    let first = with_digit-le base value c h in
    let more = digits_value-le base (with_digit base value c) z h in
    omega (arith, first, more)

pub small-none : (n : ℕ) → small n ≡ None → 2 ^ 128 ≤ n
small-none n h = cases (nat_lt n (2 ^ 128)) refl h
  where
    cases : (b : Bool) → nat_lt n (2 ^ 128) ≡ b → cond b (Some n) None ≡ None → 2 ^ 128 ≤ n
    cases true e h = absurd (cc)
    cases false e h = ltb-false n (2 ^ 128) e

pub small-some : (n m : ℕ) → small n ≡ Some m → nat_lt m (2 ^ 128) ≡ true
small-some n m h = cases (nat_lt n (2 ^ 128)) refl h
  where
    cases : (b : Bool) → nat_lt n (2 ^ 128) ≡ b → cond b (Some n) None ≡ Some m → nat_lt m (2 ^ 128) ≡ true
    cases true e h = let same : n ≡ m = cc in ap (λ m. nat_lt m (2 ^ 128)) (sym same) ∙ e
    cases false e h = absurd (cc)

pub small-large : (n : ℕ) → 2 ^ 128 ≤ n → small n ≡ None
small-large n h = ap (λ b. cond b (Some n) None) (le-ltb n (2 ^ 128) h)

-- once too large, digits stay so
pub small-digits_value : (base value : ℕ) (z : List ℕ) → 1 ≤ base → small value ≡ None → None ≡ small (digits_value base value z)
small-digits_value base value z h k = let le = digits_value-le base value z h in let large = small-none value k in sym (small-large (digits_value base value z) (omega arith))
