-- What a sweep still wants: each marked number has what is asked.
use Rattle.std.proofs.Common.{◌≡◌, ◌≢◌, ◌∙◌, ℕ, zero, suc, ◌-◌, ◌<◌, Bool, true, false, if◌then◌else◌, ◌==◌, ◌&&◌, ◌||◌, refl, ap, sym, arith, nat_eq, eqb-true, ne_eqb}
use Rattle.std.proofs.lemmas.Bool.{eqb-false}
use Rattle.machine_std.specs.Marks.{wanted}

pub wanted-none : (has marked : ℕ → Bool) (bound : ℕ) → ((k : ℕ) → marked k ≡ false) → wanted has marked bound ≡ true
wanted-none has marked zero h = refl
wanted-none has marked (suc bound) h = ap (λ b. (if b then has bound else true) && wanted has marked bound) (h bound) ∙ wanted-none has marked bound h

pub wanted-step : (has marked : ℕ → Bool) (bound : ℕ) → 0 < bound → wanted has marked bound ≡ ((if marked (bound - 1) then has (bound - 1) else true) && wanted has marked (bound - 1))
wanted-step has marked zero h = let bad : ⊥ = omega (arith, h) in absurd bad
wanted-step has marked (suc bound) h =
    let e : suc bound - 1 ≡ bound = omega arith in
    sym (ap (λ n. (if marked n then has n else true) && wanted has marked n) e)

-- one more mark
module _ (has marked more : ℕ → Bool) (at : ℕ) (adds : (k : ℕ) → more k ≡ (at == k || marked k)) where
  wanted-above : (bound : ℕ) → (at < bound → ⊥) → wanted has more bound ≡ wanted has marked bound
  wanted-above zero h = refl
  wanted-above (suc bound) h =
      let other : at ≢ bound = λ same. h (omega (arith, same)) in
      let same_mark : more bound ≡ marked bound = adds bound ∙ ap (λ b. b || marked bound) (ne_eqb at bound other) in
      ap (λ b. (if b then has bound else true) && wanted has more bound) same_mark
      ∙ ap (λ rest. (if marked bound then has bound else true) && rest) (wanted-above bound (λ lt. h (omega (arith, lt))))

  at_mark : (b h rest : Bool) → h && rest ≡ h && ((if b then h else true) && rest)
  at_mark true true rest = refl
  at_mark true false rest = refl
  at_mark false h rest = refl

  swapped : (a h rest : Bool) → a && (h && rest) ≡ h && (a && rest)
  swapped true h rest = refl
  swapped false true rest = refl
  swapped false false rest = refl

  mark-by : (bound : ℕ) → at < suc bound → (b : Bool) → nat_eq at bound ≡ b → (at < bound → wanted has more bound ≡ (has at && wanted has marked bound))
      → wanted has more (suc bound) ≡ (has at && wanted has marked (suc bound))
  mark-by bound lt true e below =
      let same : at ≡ bound = eqb-true at bound e in
      let is_marked : more bound ≡ true = adds bound ∙ ap (λ b. b || marked bound) e in
      ap (λ b. (if b then has bound else true) && wanted has more bound) is_marked
      ∙ ap (λ rest. has bound && rest) (wanted-above bound (λ lt. omega (arith, same, lt)))
      ∙ at_mark (marked bound) (has bound) (wanted has marked bound)
      ∙ ap (λ n. has n && wanted has marked (suc bound)) (sym same)
  mark-by bound lt false e below =
      let other : at ≢ bound = eqb-false at bound e in
      let same_mark : more bound ≡ marked bound = adds bound ∙ ap (λ b. b || marked bound) e in
      ap (λ b. (if b then has bound else true) && wanted has more bound) same_mark
      ∙ ap (λ rest. (if marked bound then has bound else true) && rest) (below (omega (arith, lt, other)))
      ∙ swapped (if marked bound then has bound else true) (has at) (wanted has marked bound)

  pub wanted-mark : (bound : ℕ) → at < bound → wanted has more bound ≡ (has at && wanted has marked bound)
  wanted-mark zero lt = let bad : ⊥ = omega (arith, lt) in absurd bad
  wanted-mark (suc bound) lt = mark-by bound lt (nat_eq at bound) refl (wanted-mark bound)
