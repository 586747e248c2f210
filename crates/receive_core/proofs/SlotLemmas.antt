-- The place of one value, and the list of many, behind one item more.
use Rattle.std.proofs.Common.{◌≡◌, ◌∙◌, ℕ, suc, ◌+◌, ◌<◌, Bool, true, false, cond, List, [], ◌∷◌, ◌++◌, length, get_or, take, drop, drop-cons, add-one, Option, refl, sym, ap, append_assoc, append-nil}
use Rattle.std.proofs.Math.Seq.{take-suc}
use Rattle.std.proofs.lemmas.Grind.{flat_map-append}
use Rattle.std.proofs.lemmas.List.Elements.{filter-append}
use Rattle.base_core.specs.declared.text.Text.{Text}
use Rattle.error_fault.specs.declared.fault.Fault.{Fault}
use Rattle.meta_nested.specs.Cells.{Cells}
use Rattle.meta_nested.specs.Dispatch.{from_nested_meta}
use Rattle.meta_nested.specs.declared.nested.NestedMeta.{NestedMeta}
use Rattle.receive_core.specs.Checks.{Checks, multiple_checks, multiple_faults, single_checks, single_faults, value_list, values}
use Rattle.receive_core.specs.Meaning.{field_faults}
use Rattle.receive_core.specs.Names.{is_named, own}
use Rattle.receive_core.specs.Reading.{faults_by_item}
use Rattle.receive_core.specs.Steps.{put_faults, slot_after, slot_faults, slot_of, slot_put, value_faults, values_of}

taken : (items : List NestedMeta) (i : ℕ) (x : NestedMeta) → i < length items → x ≡ get_or items i x → take (i + 1) items ≡ take i items ++ x ∷ []
taken items i x lt at = ap (λ n. take n items) (add-one i) ∙ take-suc items i x lt ∙ ap (λ y. take i items ++ y ∷ []) (sym at)

-- the faults of each item, behind one turn of a loop over items
told_turn : (checks : Checks) (items : List NestedMeta) (i : ℕ) (x : NestedMeta) → i < length items → x ≡ get_or items i x
    → (had next start : List (List Fault)) (faults : List Fault)
    → had ++ faults_by_item checks (take i items) (drop i items) ≡ start → faults ≡ field_faults (take i items) x checks → next ≡ had ++ faults ∷ []
    → next ++ faults_by_item checks (take (i + 1) items) (drop (i + 1) items) ≡ start
told_turn checks items i x lt at had next start faults all tells put =
    let ys = take i items in
    let rest : drop i items ≡ x ∷ drop (i + 1) items =
    drop-cons items i x lt ∙ ap (λ y. y ∷ drop (suc i) items) (sym at) ∙ ap (λ n. x ∷ drop n items) (sym (add-one i)) in
    ap (λ ts. ts ++ faults_by_item checks (take (i + 1) items) (drop (i + 1) items)) put
    ∙ append_assoc had (faults ∷ []) _
    ∙ ap (λ zs. had ++ faults ∷ faults_by_item checks zs (drop (i + 1) items)) (taken items i x lt at)
    ∙ ap (λ fs. had ++ fs ∷ faults_by_item checks (ys ++ x ∷ []) (drop (i + 1) items)) tells
    ∙ ap (λ zs. had ++ faults_by_item checks ys zs) (sym rest)
    ∙ all

module _ {A : Type 0} (cells : Cells A) (name : Text) where
  slot_put_is : (before : List NestedMeta) (item : NestedMeta) → slot_of cells (before ++ item ∷ []) ≡ slot_put cells name (slot_of cells before) item
  slot_put_is [] item = refl
  slot_put_is (first ∷ more) item = refl

  put_faults_is : (before : List NestedMeta) (item : NestedMeta) → single_faults cells name before item ≡ put_faults cells name (slot_of cells before) item
  unfolding single_faults
  put_faults_is [] item = refl
  put_faults_is (first ∷ more) item = refl

  -- the items of the name behind one item more
  own_more : (items : List NestedMeta) (item : NestedMeta) → own name (items ++ item ∷ []) ≡ own name items ++ cond (is_named name item) (item ∷ []) []
  own_more items item = filter-append (is_named name) items (item ∷ [])

  own_taken : (items : List NestedMeta) (i : ℕ) (x : NestedMeta) → i < length items → x ≡ get_or items i x
      → own name (take (i + 1) items) ≡ own name (take i items) ++ cond (is_named name x) (x ∷ []) []
  own_taken items i x lt at = ap (own name) (taken items i x lt at) ∙ own_more (take i items) x

  slot_more : (before : List NestedMeta) (item : NestedMeta) (b : Bool)
      → slot_of cells (before ++ cond b (item ∷ []) []) ≡ cond b (slot_put cells name (slot_of cells before) item) (slot_of cells before)
  slot_more before item true = slot_put_is before item
  slot_more before item false = ap (slot_of cells) (append-nil before)

  faults_more : (before : List NestedMeta) (item : NestedMeta) (b : Bool)
      → cond b (single_faults cells name before item) [] ≡ cond b (put_faults cells name (slot_of cells before) item) []
  faults_more before item true = put_faults_is before item
  faults_more before item false = refl

  values_more : (before : List NestedMeta) (item : NestedMeta) (b : Bool)
      → values cells (before ++ cond b (item ∷ []) []) ≡ values cells before ++ cond b (value_list (from_nested_meta cells item)) []
  unfolding values
  values_more before item true =
      flat_map-append (λ it. value_list (from_nested_meta cells it)) before (item ∷ [])
      ∙ ap (λ xs. values cells before ++ xs) (append-nil (value_list (from_nested_meta cells item)))
  values_more before item false = ap (values cells) (append-nil before) ∙ sym (append-nil (values cells before))

  -- one turn of the loop that takes one value
  pub slot_turn : (items : List NestedMeta) (i : ℕ) (x : NestedMeta) → i < length items → x ≡ get_or items i x
      → (old new : Option (Option A)) (had next start : List (List Fault)) (faults : List Fault)
      → old ≡ slot_of cells (own name (take i items))
      → had ++ faults_by_item (single_checks cells name) (take i items) (drop i items) ≡ start
      → new ≡ slot_after cells name old x → faults ≡ slot_faults cells name old x → next ≡ had ++ faults ∷ []
      → (new ≡ slot_of cells (own name (take (i + 1) items)))
      × (next ++ faults_by_item (single_checks cells name) (take (i + 1) items) (drop (i + 1) items) ≡ start)
  slot_turn items i x lt at old new had next start faults was all gives tells put =
      let before = own name (take i items) in (
        gives
            ∙ ap (λ s. slot_after cells name s x) was
            ∙ sym (slot_more before x (is_named name x))
            ∙ ap (slot_of cells) (sym (own_taken items i x lt at)),
        told_turn (single_checks cells name) items i x lt at had next start faults all
            (tells ∙ ap (λ s. slot_faults cells name s x) was ∙ sym (faults_more before x (is_named name x))) put,
      )

  -- one turn of the loop that takes many values
  pub values_turn : (items : List NestedMeta) (i : ℕ) (x : NestedMeta) → i < length items → x ≡ get_or items i x
      → (old new : List A) (had next start : List (List Fault)) (faults : List Fault)
      → old ≡ values cells (own name (take i items))
      → had ++ faults_by_item (multiple_checks cells name) (take i items) (drop i items) ≡ start
      → new ≡ old ++ values_of cells name x → faults ≡ value_faults cells name old x → next ≡ had ++ faults ∷ []
      → (new ≡ values cells (own name (take (i + 1) items)))
      × (next ++ faults_by_item (multiple_checks cells name) (take (i + 1) items) (drop (i + 1) items) ≡ start)
  unfolding multiple_faults
  values_turn items i x lt at old new had next start faults was all gives tells put =
      let before = own name (take i items) in (
        gives
            ∙ ap (λ vs. vs ++ values_of cells name x) was
            ∙ sym (values_more before x (is_named name x))
            ∙ ap (values cells) (sym (own_taken items i x lt at)),
        told_turn (multiple_checks cells name) items i x lt at had next start faults all (tells ∙ ap (λ vs. value_faults cells name vs x) was) put,
      )
