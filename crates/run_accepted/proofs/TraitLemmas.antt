-- Names that the text of a path is not.
use Rattle.std.proofs.Common.{◌≡◌, ℕ, Bool, false, ◌||◌, List, [], ◌∷◌, ◌++◌, Some, codes, refl, sym, ap₂, ◌∙◌}
use Rattle.std.specs.Prelude.{if◌then◌else◌}
use Rattle.std.specs.Str.{bytes_eq}
use Rattle.std.proofs.Math.Bool.{or-false}
use Rattle.std.proofs.lemmas.Bool.{false_from_ne_true}
use Rattle.std.proofs.lemmas.Slice.Eq.{bytes_eq-Decides}
use Rattle.codegen_program.specs.declared.program.Derive.{Derive}
use Rattle.run_accepted.specs.Derives.{derive_named, is_behind_front, trait_by, trait_named, traits}

-- a text is not a name from which it differs
pub differs : (text name : List ℕ) → (text ≡ name → ⊥) → bytes_eq name text ≡ false
differs text name other = false_from_ne_true _ (λ same. other (sym ((bytes_eq-Decides name text).0 same)))

-- tests that agree find the same trait
trait_by-same : (one other : List ℕ → Bool) → ((name : List ℕ) → one name ≡ other name) → (rows : List (List ℕ × Derive)) → trait_by one rows ≡ trait_by other rows
trait_by-same one other agree [] = refl
trait_by-same one other agree (row ∷ rows) = ap₂ (λ b found. if b then Some row.1 else found) (agree row.0) (trait_by-same one other agree rows)

-- where no crate stands in front, the whole text is the name
pub derive_named-whole :
    (text : List ℕ) → ((rest : List ℕ) → text ≡ codes "darling::" ++ rest → ⊥) → ((rest : List ℕ) → text ≡ codes "darling_core::" ++ rest → ⊥)
    → derive_named text ≡ trait_named text
derive_named-whole text no_darling no_core = trait_by-same (is_behind_front text) (λ name. bytes_eq name text) only_name traits
  where
    only_name : (name : List ℕ) → is_behind_front text name ≡ bytes_eq name text
    only_name name =
        ap₂ (λ darling core. bytes_eq name text || (darling || (core || false)))
        (differs text (codes "darling::" ++ name) (no_darling name))
        (differs text (codes "darling_core::" ++ name) (no_core name))
        ∙ or-false (bytes_eq name text)
