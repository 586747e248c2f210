-- The walk with a state leaves what the filters say, and has their faults.
use Rattle.std.proofs.Common.{◌≡◌, ◌∙◌, List, [], ◌∷◌, ◌++◌, refl, sym, ap, append_assoc, append-nil}
use Rattle.error_fault.specs.Outcome.{Outcome, Value, Faults}
use Rattle.error_fault.specs.declared.fault.Fault.{Fault}
use Rattle.node_core.specs.declared.attr.Meta.{Meta}
use Rattle.options_rows.specs.Entries.{items}
use Rattle.options_rows.specs.Walk.{all_faults, walk_state, walk_faults}

module _ {S : Type 0} (options : S → List Meta → S) (faults : S → Meta → List Fault) where
  module _ (more : (set : S) (first rest : List Meta) → options (options set first) rest ≡ options set (first ++ rest)) where
    walk_state-is : (set : S) (before : List Meta) (entries : List (Outcome Meta))
        → walk_state options faults (options set before) entries ≡ options set (before ++ items entries)
    walk_state-is set before [] = ap (options set) (sym (append-nil before))
    walk_state-is set before (Faults fault rest ∷ entries) = walk_state-is set before entries
    walk_state-is set before (Value item ∷ entries) =
        ap (λ s. walk_state options faults s entries) (more set before (item ∷ []))
        ∙ walk_state-is set (before ++ item ∷ []) entries
        ∙ ap (options set) (append_assoc before (item ∷ []) (items entries))

    walk_faults-is : (set : S) (before : List Meta) (entries : List (Outcome Meta))
        → walk_faults options faults (options set before) entries ≡ all_faults options faults set before entries
    walk_faults-is set before [] = refl
    walk_faults-is set before (Faults fault rest ∷ entries) = ap (λ xs. (fault ∷ rest) ++ xs) (walk_faults-is set before entries)
    walk_faults-is set before (Value item ∷ entries) =
        ap (λ xs. faults (options set before) item ++ xs)
        (ap (λ s. walk_faults options faults s entries) (more set before (item ∷ []))
        ∙ walk_faults-is set (before ++ item ∷ []) entries)

    module _ (none : (set : S) → options set [] ≡ set) where
      pub walk_state-from_none : (set : S) (entries : List (Outcome Meta))
          → walk_state options faults set entries ≡ options set (items entries)
      walk_state-from_none set entries =
          ap (λ s. walk_state options faults s entries) (sym (none set)) ∙ walk_state-is set [] entries

      pub walk_faults-from_none : (set : S) (entries : List (Outcome Meta))
          → walk_faults options faults set entries ≡ all_faults options faults set [] entries
      walk_faults-from_none set entries =
          ap (λ s. walk_faults options faults s entries) (sym (none set)) ∙ walk_faults-is set [] entries
