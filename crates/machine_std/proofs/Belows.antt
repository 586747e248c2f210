-- The defaults of declarations below a bound.
use Rattle.std.proofs.Common.{◌≡◌, ◌≢◌, ◌∙◌, ℕ, zero, suc, ◌<◌, ◌≤◌, Bool, true, false, if◌then◌else◌, List, Option, None, refl, ap, sym, arith, nat_eq, eqb-true, eq-eqb, ne_eqb}
use Rattle.std.specs.Prelude.{slice_get}
use Rattle.std.proofs.lemmas.Bool.{eqb-false}
use Rattle.node_core.specs.declared.derive.DeriveInput.{DeriveInput}
use Rattle.machine_value.specs.declared.value.Value.{Value}
use Rattle.machine_std.specs.Defaults.{decl_default, default_among, default_below, type_default}

module _ (decls : List DeriveInput) where
  -- the default of the declaration at the bound
  abbrev pub made_at : ℕ → Option Value
  made_at number = decl_default (type_default decls (default_below decls number)) (slice_get decls number)

  pub at_bound : (bound number : ℕ) (b : Bool) → nat_eq number bound ≡ b → default_below decls (suc bound) number ≡ (if b then made_at bound else default_below decls bound number)
  unfolding default_below
  at_bound bound number b e = ap (λ b. if b then made_at bound else default_below decls bound number) e

  pub among-is : (number : ℕ) → default_among decls number ≡ made_at number
  among-is number = at_bound number number true (eq-eqb number number refl)

  none_at : (number : ℕ) → default_below decls zero number ≡ None
  unfolding default_below
  none_at number = refl

  pub below-none : (bound number : ℕ) → bound ≤ number → default_below decls bound number ≡ None
  below-none zero number h = none_at number
  below-none (suc bound) number h =
      let other : number ≢ bound = λ e. omega (arith, h, e) in
      let less : bound ≤ number = omega (arith, h) in
      at_bound bound number false (ne_eqb number bound other) ∙ below-none bound number less

  below-by : (bound number : ℕ) (b : Bool) → nat_eq number bound ≡ b → number < suc bound → (number < bound → default_below decls bound number ≡ default_among decls number)
      → default_below decls (suc bound) number ≡ default_among decls number
  below-by bound number true e h rest =
      let same : number ≡ bound = eqb-true number bound e in
      sym (ap (λ n. default_below decls (suc n) number) same)
  below-by bound number false e h rest =
      let other : number ≢ bound = eqb-false number bound e in
      at_bound bound number false e ∙ rest (omega (arith, h, other))

  pub below-among : (bound number : ℕ) → number < bound → default_below decls bound number ≡ default_among decls number
  below-among zero number h = let bad : ⊥ = omega (arith, h) in absurd bad
  below-among (suc bound) number h = below-by bound number (nat_eq number bound) refl h (below-among bound number)
