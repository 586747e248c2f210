-- Where nothing is wrong with the items of a field, it has a value, and so has what is built of such fields.
use Rattle.std.specs.Prelude.{◌≡◌, List, [], ◌∷◌, ◌++◌, Option, Some, None, IsSome}
use Rattle.std.proofs.Common.{refl, sym, ap₂, ◌∙◌, append-nil}
use Rattle.base_core.specs.declared.text.Text.{Text}
use Rattle.error_fault.specs.declared.fault.Fault.{Fault}
use Rattle.error_fault.specs.Faults.{at}
use Rattle.error_fault.specs.Outcome.{Outcome, Value, Faults, faults_of, value_of}
use Rattle.meta_nested.specs.Cells.{Cells}
use Rattle.meta_nested.specs.Dispatch.{from_nested_meta, from_none}
use Rattle.meta_nested.specs.declared.nested.NestedMeta.{NestedMeta}
use Rattle.receive_core.specs.Names.{own}
use Rattle.receive_core.specs.Checks.{AreClear, Checks, FlatChecks, IsClear, applied, flat_faults, missing_by, single_checks, single_faults, single_missing, single_value}

pub both_empty : {A : Type 0} (xs ys : List A) → xs ++ ys ≡ [] → (xs ≡ []) × (ys ≡ [])
both_empty [] ys is = (refl, is)
both_empty (x ∷ xs) ys is = absurd (cc is)

pub value_is_some : {A : Type 0} (outcome : Outcome A) → faults_of outcome ≡ [] → IsSome (value_of outcome)
value_is_some (Value value) is = refl
value_is_some (Faults fault more) is = absurd (cc is)

module _ {A : Type 0} (cells : Cells A) (name : Text) where
  none_is_some : (none : Option A) → missing_by cells name none ≡ [] → IsSome none
  none_is_some None is = absurd (cc is)
  none_is_some (Some value) is = refl

  read_is_some : (outcome : Outcome A) (more : List Fault) → at (faults_of outcome) name ++ more ≡ [] → IsSome (value_of outcome)
  read_is_some (Value value) more is = refl
  read_is_some (Faults fault others) more is = absurd (cc is)

  pub single_is_some : (own_items : List NestedMeta) → IsClear (single_checks cells name) own_items → IsSome (single_value cells own_items)
  unfolding single_value single_faults single_missing
  single_is_some [] is = none_is_some (from_none cells) is.1
  single_is_some (item ∷ more) is = read_is_some (from_nested_meta cells item) _ is.0

pub applied_is_some : {A B : Type 0} (make : Option (A → B)) (value : Option A) → IsSome make → IsSome value → IsSome (applied make value)
applied_is_some (Some f) (Some value) is there = refl
applied_is_some (Some f) None is there = absurd (cc there)
applied_is_some None value is there = absurd (cc is)

-- the last field apart
pub clear_last : (fields : List Checks) (checks : Checks) (items : List NestedMeta) → AreClear (fields ++ checks ∷ []) items
    → AreClear fields items × IsClear checks (own checks.name items)
clear_last [] checks items is = (tt, is.0)
clear_last (other ∷ fields) checks items is =
    let more = clear_last fields checks items is.1 in
    ((is.0, more.0), more.1)

-- the last flattened field apart
pub flat_last : (flattened : List FlatChecks) (faults : FlatChecks) (names : List Text) (items : List NestedMeta)
    → flat_faults (flattened ++ faults ∷ []) names items ≡ [] → (flat_faults flattened names items ≡ []) × (faults names items ≡ [])
flat_last [] faults names items is = (refl, sym (append-nil (faults names items)) ∙ is)
flat_last (other ∷ flattened) faults names items is =
    let parts = both_empty (other names items) (flat_faults (flattened ++ faults ∷ []) names items) is in
    let more = flat_last flattened faults names items parts.1 in
    (ap₂ (λ xs ys. xs ++ ys) parts.0 more.0, more.1)
