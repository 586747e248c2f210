-- Steps of the search for what has no default.
use Rattle.std.proofs.Common.{◌≡◌, ◌∙◌, ℕ, zero, suc, ◌+◌, ◌-◌, ◌/◌, ◌%◌, ◌<◌, ◌≤◌, ◌==◌, Bool, true, false, if◌then◌else◌, ◌&&◌, ◌||◌, List, ◌∷◌, length, drop, get_or, is_some, refl, ap, sym, arith, add-one, drop-cons, replicate}
use Rattle.std.specs.List.{list_all}
use Rattle.std.specs.Int.{bit_at}
use Rattle.std.proofs.lemmas.Nat.Bits.{bit_at-zero}
use Rattle.node_core.specs.declared.data.Field.{Field}
use Rattle.node_core.specs.declared.derive.DeriveInput.{DeriveInput}
use Rattle.machine_std.specs.Defaults.{default_among}
use Rattle.machine_std.specs.Marks.{is_marked, left, wanted}
use Rattle.machine_std.proofs.Sweeping.{wanted-mark, wanted-none}

and-true : (b : Bool) → b && true ≡ b
and-true true = refl
and-true false = refl

shuffled : (a rest l : Bool) → (a && rest) && l ≡ rest && (a && l)
shuffled true rest l = refl
shuffled false true l = refl
shuffled false false l = refl

-- one more field
pub fields-step : (test : Field → Bool) (fields : List Field) (at : ℕ) (field : Field) → at < length fields → field ≡ get_or fields at field → (old new : Bool) → new ≡ (test field && old)
    → (list_all test (drop at fields) && old) ≡ (list_all test (drop (at + 1) fields) && new)
fields-step test fields at field lt is old new e =
    ap (λ rest. list_all test rest && old) (drop-cons fields at field lt ∙ ap (λ first. first ∷ drop (suc at) fields) (sym is) ∙ ap (λ n. field ∷ drop n fields) (sym (add-one at)))
    ∙ shuffled (test field) (list_all test (drop (at + 1) fields)) old
    ∙ ap (λ b. list_all test (drop (at + 1) fields) && b) (sym e)

and-false : (b : Bool) → b && false ≡ false
and-false true = refl
and-false false = refl

pub fields-stop : (test : Field → Bool) (fields : List Field) (at : ℕ) (field : Field) → at < length fields → field ≡ get_or fields at field → (old : Bool) → false ≡ (test field && old)
    → (list_all test (drop at fields) && old) ≡ false
fields-stop test fields at field lt is old e = fields-step test fields at field lt is old false e ∙ and-false (list_all test (drop (at + 1) fields))

module _ (decls : List DeriveInput) (base : ℕ) where
  abbrev has : ℕ → Bool
  has at = is_some (default_among decls (base + at))

  has-at : (number : ℕ) → base ≤ number → has (number - base) ≡ is_some (default_among decls number)
  has-at number le = let e : base + (number - base) ≡ number = omega (arith, le) in ap (λ n. is_some (default_among decls n)) e

  -- one more mark
  pub left-mark : (old new : List ℕ) (number below : ℕ) → base ≤ number → number < below → ((other : ℕ) → is_marked new other ≡ ((number - base) == other || is_marked old other))
      → left decls base new (below - base) ≡ (is_some (default_among decls number) && left decls base old (below - base))
  left-mark old new number below le lt adds =
      let within : number - base < below - base = omega (arith, le, lt) in
      wanted-mark has (is_marked old) (is_marked new) (number - base) adds (below - base) within
      ∙ ap (λ b. b && left decls base old (below - base)) (has-at number le)

  -- the first mark
  pub left-first : (old new : List ℕ) (number : ℕ) → base ≤ number → ((other : ℕ) → is_marked old other ≡ false) → ((other : ℕ) → is_marked new other ≡ ((number - base) == other || is_marked old other))
      → left decls base new (number - base + 1) ≡ is_some (default_among decls number)
  left-first old new number le unmarked adds =
      let within : number - base < number - base + 1 = omega arith in
      wanted-mark has (is_marked old) (is_marked new) (number - base) adds (number - base + 1) within
      ∙ ap (λ b. has (number - base) && b) (wanted-none has (is_marked old) (number - base + 1) unmarked)
      ∙ and-true (has (number - base))
      ∙ has-at number le

  opened : (words : List ℕ) (number : ℕ) (b : Bool) → is_marked words (number - base) ≡ b → left decls base words (number - base + 1) ≡ ((if b then has (number - base) else true) && left decls base words (number - base))
  opened words number b e = ap (wanted has (is_marked words)) (add-one (number - base)) ∙ ap (λ b. (if b then has (number - base) else true) && left decls base words (number - base)) e

  pub left-unmarked : (words : List ℕ) (number : ℕ) → is_marked words (number - base) ≡ false → left decls base words (number - base + 1) ≡ left decls base words (number - base)
  left-unmarked words number e = opened words number false e

  pub left-marked : (words : List ℕ) (number : ℕ) → base ≤ number → is_marked words (number - base) ≡ true
      → left decls base words (number - base + 1) ≡ (is_some (default_among decls number) && left decls base words (number - base))
  left-marked words number le e = opened words number true e ∙ ap (λ b. b && left decls base words (number - base)) (has-at number le)

zero_at : (count at : ℕ) → ◌≡◌ {A = ℕ} (get_or (replicate count 0) at 0) 0
zero_at zero at = refl
zero_at (suc count) zero = refl
zero_at (suc count) (suc at) = zero_at count at

-- no number is marked in words of zeros
pub no_marks : (count other : ℕ) → is_marked (replicate count 0) other ≡ false
no_marks count other = ap (λ word. bit_at word (other % 32) == 1) (zero_at count (other / 32)) ∙ ap (λ n. n == 1) (bit_at-zero (other % 32))
