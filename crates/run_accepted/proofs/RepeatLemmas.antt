-- Flags of the derives that stood before.
use Rattle.std.proofs.Common.{◌≡◌, ℕ, ◌+◌, ◌<◌, Bool, true, false, ◌||◌, ◌==◌, List, [], ◌∷◌, ◌++◌, get_or, set, length, drop, sym, ap, ◌∙◌, arith, append_assoc, add-one, drop-cons, subst, ⊎_elim, length-set, get_or-set_other}
use Rattle.std.proofs.lemmas.Bool.Decides.{eqb_tells}
use Rattle.std.proofs.lemmas.Grind.{get_or-set_at}
use Rattle.std.specs.Prelude.{if◌then◌else◌}
use Rattle.tok_core.specs.Tokens.{Span}
use Rattle.codegen_program.specs.Traits.{index_of, same_derive}
use Rattle.codegen_program.specs.declared.program.Derive.{Derive}
use Rattle.codegen_program.specs.declared.program.Derive.TheVariants as derive
use Rattle.run_accepted.specs.declared.derives.Derived.{Derived}
use Rattle.run_accepted.specs.Repeated.{has_derive, repeated_behind}

-- each derive has a flag: whether one of these has it
pub record Marks (flags : List Bool) (earlier : List Derived) : Type 0 where
  pub counted : length flags ≡ 6
  pub each : (derive : Derive) → get_or flags (index_of derive) false ≡ has_derive earlier derive

-- the spans so far, behind which those of the rest are left
pub record SoFar (flags : List Bool) (spans : List Span) (derives : List Derived) (at : ℕ) : Type 0 where
  pub earlier : List Derived
  pub marks : Marks flags earlier
  pub rest : spans ++ repeated_behind earlier (drop at derives) ≡ repeated_behind [] derives

within : (derive : Derive) → index_of derive < 6
within derive.FromMeta = omega arith
within derive.FromAttributes = omega arith
within derive.FromDeriveInput = omega arith
within derive.FromField = omega arith
within derive.FromTypeParam = omega arith
within derive.FromVariant = omega arith

-- one flag is raised
flag-raised : (flags : List Bool) (raised at : ℕ) → raised < length flags → get_or (set flags raised true) at false ≡ ((raised == at) || get_or flags at false)
flag-raised flags raised at inside =
    ⊎_elim
    (λ same. rw (same.0) (get_or-set_at flags raised at true false (sym same.1) inside))
    (λ differ. rw (differ.0) (get_or-set_other flags raised at true false (λ e. differ.1 (sym e))))
    (eqb_tells raised at)

-- the flag of one more derive
marks-more : (flags : List Bool) (earlier : List Derived) (it : Derived) → Marks flags earlier → Marks (set flags (index_of it.derive) true) (it ∷ earlier)
marks-more flags earlier it marks =
    let inside : index_of it.derive < length flags = omega (arith, within it.derive, marks.counted) in
    record {
      counted = length-set flags (index_of it.derive) true ∙ marks.counted;
      each = λ derive. flag-raised flags (index_of it.derive) (index_of derive) inside ∙ ap (λ b. same_derive it.derive derive || b) (marks.each derive);
    }

pub so_far-more :
    (flags : List Bool) (spans more : List Span) (derives : List Derived) (at index : ℕ) (it : Derived)
    → at < length derives → index ≡ index_of (get_or derives at it).derive → more ≡ spans ++ (if get_or flags index false then (get_or derives at it).span ∷ [] else [])
    → SoFar flags spans derives at → SoFar (set flags index true) more derives (at + 1)
so_far-more flags spans more derives at index it inside index-is more-is so_far =
    let next : drop at derives ≡ get_or derives at it ∷ drop (at + 1) derives = rw (add-one, drop-cons derives at it) in
    let flag : get_or flags index false ≡ has_derive so_far.earlier (get_or derives at it).derive = ap (λ i. get_or flags i false) index-is ∙ so_far.marks.each (get_or derives at it).derive in
    let rest = repeated_behind (get_or derives at it ∷ so_far.earlier) (drop (at + 1) derives) in
    record {
      earlier = get_or derives at it ∷ so_far.earlier;
      marks = subst (λ (i : ℕ). Marks (set flags i true) (get_or derives at it ∷ so_far.earlier)) (sym index-is) (marks-more flags so_far.earlier (get_or derives at it) so_far.marks);
      rest =
          ap (λ xs. xs ++ rest) more-is
          ∙ append_assoc spans _ rest
          ∙ ap (λ b. spans ++ ((if b then (get_or derives at it).span ∷ [] else []) ++ rest)) flag
          ∙ ap (λ xs. spans ++ repeated_behind so_far.earlier xs) (sym next)
          ∙ so_far.rest;
    }
