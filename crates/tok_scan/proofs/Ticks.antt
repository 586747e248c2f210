-- Characters and bytes are read whole, and what is read as such is one.
use Rattle.std.proofs.Common.{◌≡◌, ℕ, suc, ◌+◌, ◌<◌, inl, inr, ⊎_elim, Bool, true, false, cond, ◌&&◌, eqb, nat_lt, [], ◌∷◌, ◌++◌, length, drop, get_or, slice_index, Some, None, refl, sym, ap, ◌∙◌, subst, arith, length-append, append_assoc}
use Rattle.std.proofs.lemmas.Bool.{and_parts, and_from, eqb-true, true≢false, false≢true}
use Rattle.std.proofs.lemmas.Bool.Decides.{nat_tests}
use Rattle.tok_scan.specs.Characters.{Characters}
use Rattle.tok_scan.specs.Escapes.{IsEscape}
use Rattle.tok_scan.specs.Strings.{IsTicked, is_single}
use Rattle.tok_scan.specs.Scan.{escape_length, ticked_length}
use Rattle.tok_scan.proofs.Escapes.{escape_length-append, escape-nonempty, escape-front}
use Rattle.tok_scan.proofs.Lists.{get_or-append_length, drop-get}

single-other : (byte : Bool) (c n : ℕ) → is_single byte c ≡ true → is_single byte n ≡ false → eqb c n ≡ false
single-other byte c n h k = cases (eqb c n) refl
  where
    cases : (b : Bool) → eqb c n ≡ b → b ≡ false
    cases true e = absurd (true≢false (sym h ∙ ap (is_single byte) (eqb-true c n e) ∙ k))
    cases false e = refl

single-backslash : (byte : Bool) → is_single byte 92 ≡ false
single-backslash true = refl
single-backslash false = refl

pub ticked_length-append : (byte : Bool) (text after : Characters) → IsTicked byte text → ticked_length byte (text ++ after) ≡ Some (length text)
ticked_length-append byte text after h = ⊎_elim (λ s. subst P (sym s.1) (single s.0 s.2)) (λ e. subst P (sym e.1) (escape e.0 e.2)) h
  where
    P : Characters → Type 0
    P text = ticked_length byte (text ++ after) ≡ Some (length text)

    single : (c : ℕ) → is_single byte c ≡ true → P (39 ∷ c ∷ 39 ∷ [])
    single c h = pick _ _ _ _ _ (single-other byte c 92 h (single-backslash byte)) h
      where
        pick : {A : Type 0} (b d : Bool) (x y z : A) → b ≡ false → d ≡ true → cond b x (cond (d && true) y z) ≡ y
        pick b d x y z h k = rw (h, k) refl

    escape : (e : Characters) → IsEscape byte e → P (39 ∷ 92 ∷ (e ++ 39 ∷ []))
    escape e i =
        let rest : Characters = e ++ 39 ∷ after in
        let z : Characters = 39 ∷ 92 ∷ rest in
        let n : escape_length byte rest ≡ length e = escape_length-append byte e (39 ∷ after) i in
        let some : nat_lt 0 (length e) ≡ true = positive (length e) (escape-nonempty byte e i) in
        let place : 2 + length e ≡ suc (suc (length e)) = omega arith in
        let tick : slice_index z (2 + length e) ≡ 39 = ap (slice_index z) place ∙ get_or-append_length e (39 ∷ after) in
        let test : (nat_lt 0 (length e) && eqb (slice_index z (2 + length e)) 39) ≡ true = and_from _ _ some (ap (λ c. eqb c 39) tick) in
        let size : 3 + length e ≡ length (39 ∷ 92 ∷ (e ++ 39 ∷ [])) = omega (arith, length-append e (39 ∷ [])) in
        ap (λ z. ticked_length byte (39 ∷ 92 ∷ z)) (append_assoc e (39 ∷ []) after)
        ∙ ap (λ n. cond (nat_lt 0 n && eqb (slice_index z (2 + n)) 39) (Some (3 + n)) None) n
        ∙ ap (λ b. cond b (Some (3 + length e)) None) test
        ∙ ap Some size
      where
        positive : (n : ℕ) → 0 < n → nat_lt 0 n ≡ true
        positive n h = grind (arith, nat_tests)

pub ticked-front : (byte : Bool) (cs : Characters) (n : ℕ) → ticked_length byte (39 ∷ cs) ≡ Some n
    → (text : Characters) × (after : Characters) × (39 ∷ cs ≡ text ++ after) × (n ≡ length text) × IsTicked byte text
ticked-front byte cs n h = cases (eqb (slice_index cs 0) 92) refl h
  where
    Front : ℕ → Characters → Type 0
    Front n z = (text : Characters) × (after : Characters) × (z ≡ text ++ after) × (n ≡ length text) × IsTicked byte text

    nonzero : (n : ℕ) → nat_lt 0 n ≡ true → eqb n 0 ≡ false
    nonzero n h = grind (arith, nat_tests)

    escaped : (cs : Characters) (b : Bool) → (nat_lt 0 (escape_length byte cs) && eqb (slice_index (39 ∷ 92 ∷ cs) (2 + escape_length byte cs)) 39) ≡ b
        → cond b (Some (3 + escape_length byte cs)) None ≡ Some n → Front n (39 ∷ 92 ∷ cs)
    escaped cs false e h = absurd (cc)
    escaped cs true e h =
        let m = escape_length byte cs in
        let parts = and_parts (nat_lt 0 m) _ e in
        let f = escape-front byte cs (nonzero m parts.0) in
        let place : 2 + m ≡ suc (suc m) = omega arith in
        let tick : eqb (get_or cs m 0) 39 ≡ true = ap (λ n. eqb (slice_index (39 ∷ 92 ∷ cs) n) 39) (sym place) ∙ parts.1 in
        let first : eqb (get_or f.1 0 0) 39 ≡ true =
        sym (ap (λ z. eqb z 39) (ap (λ z. get_or z m 0) f.2 ∙ ap (λ n. get_or (f.0 ++ f.1) n 0) f.3 ∙ get_or-append_length f.0 f.1)) ∙ tick in
        let end : 3 + m ≡ n = cc in
        let behind : f.1 ≡ 39 ∷ drop 1 f.1 = drop-get f.1 38 0 first in (
          39 ∷ 92 ∷ (f.0 ++ 39 ∷ []),
          drop 1 f.1,
          ap (λ z. 39 ∷ 92 ∷ z) (f.2 ∙ ap (λ z. f.0 ++ z) behind ∙ sym (append_assoc f.0 (39 ∷ []) (drop 1 f.1))),
          omega (arith, f.3, length-append f.0 (39 ∷ [])),
          inr (f.0, refl, f.4),
        )

    single : (cs : Characters) (b : Bool) → (is_single byte (slice_index cs 0) && eqb (slice_index cs 1) 39) ≡ b → cond b (Some 3) None ≡ Some n → Front n (39 ∷ cs)
    single cs false e h = absurd (cc)
    single [] true e h = absurd (false≢true (and_parts (is_single byte 0) false e).1)
    single (c ∷ []) true e h = absurd (false≢true (and_parts (is_single byte c) false e).1)
    single (c ∷ d ∷ cs) true e h =
        let parts = and_parts (is_single byte c) (eqb d 39) e in
        let end : 3 ≡ n = cc in
        (39 ∷ c ∷ 39 ∷ [], cs, ap (λ d. 39 ∷ c ∷ d ∷ cs) (eqb-true d 39 parts.1), sym end, inl (c, refl, parts.0))

    backslash : (cs : Characters) → eqb (slice_index cs 0) 92 ≡ true
        → cond (nat_lt 0 (escape_length byte (drop 1 cs)) && eqb (slice_index (39 ∷ cs) (2 + escape_length byte (drop 1 cs))) 39) (Some (3 + escape_length byte (drop 1 cs))) None ≡ Some n
        → Front n (39 ∷ cs)
    backslash cs e h =
        let same : cs ≡ 92 ∷ drop 1 cs = drop-get cs 91 0 e in
        subst (λ z. Front n (39 ∷ z)) (sym same) (escaped (drop 1 cs) _ refl (ap (λ z. cond (nat_lt 0 (escape_length byte (drop 1 cs)) && eqb (slice_index (39 ∷ z) (2 + escape_length byte (drop 1 cs))) 39) (Some (3 + escape_length byte (drop 1 cs))) None) (sym same) ∙ h))

    cases : (b : Bool) → eqb (slice_index cs 0) 92 ≡ b
        → cond b (cond (nat_lt 0 (escape_length byte (drop 1 cs)) && eqb (slice_index (39 ∷ cs) (2 + escape_length byte (drop 1 cs))) 39) (Some (3 + escape_length byte (drop 1 cs))) None)
        (cond (is_single byte (slice_index cs 0) && eqb (slice_index cs 1) 39) (Some 3) None) ≡ Some n → Front n (39 ∷ cs)
    cases true e h = backslash cs e h
    cases false e h = single cs _ refl h
