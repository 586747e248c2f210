-- Tests that decide a fact: both of two, of lists and of options.
use Rattle.std.proofs.Common.{◌≡◌, ℕ, Bool, true, false, ◌&&◌, List, [], ◌∷◌, map, Option, Some, None, option_map, nat_eq, eq-eqb, refl, sym, ap, ◌∙◌, subst}
use Rattle.std.specs.Bool.{Decides}
use Rattle.std.specs.Cmp.{first_so, second_so}
use Rattle.std.specs.Cmp.Lexicographic.{pointwise}
use Rattle.std.specs.Option.{option_eq}
use Rattle.std.proofs.lemmas.Bool.{false≢true}
use Rattle.std.proofs.lemmas.Iterator.Adapters.{option_map_id}
use Rattle.std.proofs.lemmas.List.{map-id}

-- the test is the other one, and the fact holds where the other does
pub told : {s t : Bool} {P Q : Type 0} → s ≡ t → Decides t P → (P → Q) → (Q → P) → Decides s Q
told e d f g = (λ h. f (d.0 (sym e ∙ h)), λ q. e ∙ d.1 (g q))

pub both : {s t : Bool} {P Q : Type 0} → Decides s P → Decides t Q → Decides (s && t) (P × Q)
both {s} {t} d e = (λ h. (d.0 (first_so s t h), e.0 (second_so s t h)), λ p. λ i. d.1 p.0 i && e.1 p.1 i)

-- the test fails, and so does the fact
pub neither : {s : Bool} {P : Type 0} → s ≡ false → (P → ⊥) → Decides s P
neither e f = (λ h. absurd (false≢true (sym e ∙ h)), λ p. absurd (f p))

-- nothing is asked, and nothing is said
pub always : Decides true (Unit {0})
always = (λ h. tt, λ p. refl)

-- what fails says nothing
pub never : Decides false ⊥
never = (λ h. false≢true h, λ p. absurd p)

-- two numbers that are apart
pub clash : {m n : ℕ} → m ≡ n → nat_eq m n ≡ false → ⊥
clash {m} {n} e f = false≢true (sym f ∙ eq-eqb m n e)

module _ {A : Type 0} (eq : A → A → Bool) (erased : A → A) where
  -- `==` of this value decides whether the other is the same without its places
  abbrev pub Told : A → Type 0
  Told a = (b : A) → Decides (eq a b) (erased a ≡ erased b)

  -- a value that `Told` holds of
  abbrev pub Sure : Type 0
  Sure = (a : A) × Told a

-- a list or an option, along a function, where it is known of what the function gives
module _ {S A : Type 0} (of : S → A) (eq : A → A → Bool) (erased : A → A) (t : (s : S) → Told eq erased (of s)) where
  pub mapped_told : (xs : List S) (ys : List A) → Decides (pointwise eq (map of xs) ys) (map erased (map of xs) ≡ map erased ys)
  mapped_told [] [] = (λ h. refl, λ e. refl)
  mapped_told [] (b ∷ ys) = (λ h. absurd (false≢true h), λ e. absurd (cc))
  mapped_told (a ∷ xs) [] = (λ h. absurd (false≢true h), λ e. absurd (cc))
  mapped_told (a ∷ xs) (b ∷ ys) = told refl (both (t a b) (mapped_told xs ys)) (λ p. cc) (λ e. (cc, cc))

  pub mapped_option_told : (a : Option S) (b : Option A) → Decides (option_eq eq (option_map of a) b) (option_map erased (option_map of a) ≡ option_map erased b)
  mapped_option_told None None = (λ h. refl, λ e. refl)
  mapped_option_told None (Some b) = (λ h. absurd (false≢true h), λ e. absurd (cc))
  mapped_option_told (Some a) None = (λ h. absurd (false≢true h), λ e. absurd (cc))
  mapped_option_told (Some a) (Some b) = told refl (t a b) (λ p. cc) (λ e. cc)

-- a list or an option, where it is known of all values
module _ {A : Type 0} (eq : A → A → Bool) (erased : A → A) (t : (a : A) → Told eq erased a) where
  pub list_told : (xs ys : List A) → Decides (pointwise eq xs ys) (map erased xs ≡ map erased ys)
  list_told xs ys = subst (λ xs. Decides (pointwise eq xs ys) (map erased xs ≡ map erased ys)) (map-id xs) (mapped_told (λ a. a) eq erased t xs ys)

  pub option_told : (a b : Option A) → Decides (option_eq eq a b) (option_map erased a ≡ option_map erased b)
  option_told a b = subst (λ a. Decides (option_eq eq a b) (option_map erased a ≡ option_map erased b)) (option_map_id a) (mapped_option_told (λ a. a) eq erased t a b)

-- a list or an option of sure values
module _ {A : Type 0} (eq : A → A → Bool) (erased : A → A) where
  pub lists : (xs : List (Sure eq erased)) (ys : List A) → Decides (pointwise eq (map (λ e. e.0) xs) ys) (map erased (map (λ e. e.0) xs) ≡ map erased ys)
  lists = mapped_told (λ e. e.0) eq erased (λ e. e.1)

  pub options : (a : Option (Sure eq erased)) (b : Option A) → Decides (option_eq eq (option_map (λ e. e.0) a) b) (option_map erased (option_map (λ e. e.0) a) ≡ option_map erased b)
  options = mapped_option_told (λ e. e.0) eq erased (λ e. e.1)

-- From one level of a node to the node: `bare` is the level without its places.
pub layered : {A L : Type 0} (roll : L → A) (out : A → L) → ((a : A) → roll (out a) ≡ a) → ((x : L) → out (roll x) ≡ x) → (eq : A → A → Bool) (erased : A → A) (bare : L → L)
    → ((x : L) → erased (roll x) ≡ roll (bare x)) → (x : L) → ((z : L) (a b : A) → out a ≡ x → out b ≡ z → Decides (eq a b) (bare x ≡ bare z)) → Told eq erased (roll x)
layered roll out roll-out out-roll eq erased bare is x pair b =
    let is_b : erased b ≡ roll (bare (out b)) = ap erased (sym (roll-out b)) ∙ is (out b) in
    told refl (pair (out b) (roll x) b (out-roll x) refl) (λ p. is x ∙ ap roll p ∙ sym is_b)
    (λ e. sym (out-roll (bare x)) ∙ ap out (sym (is x) ∙ e ∙ is_b) ∙ out-roll (bare (out b)))

-- The same, for a node that is its level.
pub rolled : {A L : Type 0} (roll : L → A) (out : A → L) → ((a : A) → roll (out a) ≡ a) → ((x : L) → out (roll x) ≡ x) → (eq : A → A → Bool) (erased : A → A) (bare : L → L)
    → ((x : L) → erased (roll x) ≡ roll (bare x)) → (x : L) → ((z : L) → Decides (eq (roll x) (roll z)) (bare x ≡ bare z)) → Told eq erased (roll x)
rolled roll out roll-out out-roll eq erased bare is x pair =
    layered roll out roll-out out-roll eq erased bare is x
    (λ z a b ha hb. told (ap (eq a) (sym (roll-out b) ∙ ap roll hb) ∙ ap (λ a. eq a (roll z)) (sym (roll-out a) ∙ ap roll ha)) (pair z) (λ p. p) (λ e. e))
