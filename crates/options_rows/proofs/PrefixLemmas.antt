-- What the first of some members or entries leave: those that were read before memory was wanting.
use Rattle.std.specs.Prelude.{OnErr, map, take}
use Rattle.std.proofs.Common.{◌≡◌, ◌∙◌, ◌⊎◌, ◌+◌, ◌<◌, ℕ, List, [], ◌∷◌, ◌++◌, Result, Ok, Err, ap, arith, get_or, inl, inr, length, refl, sym}
use Rattle.std.proofs.Math.Seq.{take-length}
use Rattle.std.proofs.lemmas.List.{map-append, take-map, take_all, take_more}
use Rattle.std.proofs.lemmas.Result.{on_err_weaker}
use Rattle.node_core.specs.Bodies.{field_list}
use Rattle.node_core.specs.declared.attr.Meta.{Meta}
use Rattle.node_core.specs.declared.data.Field.{Field}
use Rattle.node_core.specs.declared.data.Variant.{Variant}
use Rattle.node_core.specs.declared.data.«Data».{«Data»}
use Rattle.node_core.specs.declared.data.«Data».TheVariants as body
use Rattle.error_fault.specs.Outcome.{Outcome}
use Rattle.error_fault.specs.declared.fault.Fault.{Fault}
use Rattle.options_rows.specs.Members.{after_body, after_first, after_members, after_outcome}
use Rattle.options_rows.specs.Walk.{after_entry, walk_state}

told : {R X P : Type 0} (answer : Result R X) → P → OnErr answer P
told (Ok done) p = tt
told (Err e) p = p

take_next : {A : Type 0} (xs : List A) (i : ℕ) (x : A) → i < length xs → x ≡ get_or xs i x → take (i + 1) xs ≡ take i xs ++ x ∷ []
take_next xs i x lt is = take_more xs i x lt ∙ ap (λ y. take i xs ++ y ∷ []) (sym is)

module _ {S M : Type 0} (takes : S → M → Outcome S) where
  after_members-append : (set : S) (xs ys : List M)
      → after_members takes set (xs ++ ys) ≡ after_members takes (after_members takes set xs) ys
  after_members-append set [] ys = refl
  after_members-append set (x ∷ xs) ys = after_members-append (after_outcome (takes set x) set) xs ys

  -- one member more
  pub after_members_next : (start old new : S) (xs : List M) (i : ℕ) (x : M) → i < length xs → x ≡ get_or xs i x
      → old ≡ after_members takes start (take i xs) → new ≡ after_outcome (takes old x) old
      → new ≡ after_members takes start (take (i + 1) xs)
  after_members_next start old new xs i x lt is stands taken =
      taken
      ∙ ap (λ s. after_outcome (takes s x) s) stands
      ∙ sym (ap (after_members takes start) (take_next xs i x lt is) ∙ after_members-append start (take i xs) (x ∷ []))

module _ {S R X : Type 0} (takes_field : S → Field → Outcome S) (takes_variant : S → Variant → Outcome S) (answer : Result R X) where
  -- memory is wanting at a field of a struct, which has no variants
  pub stops_in_fields : (new old : S) (fields : List Field)
      → OnErr answer ((count : ℕ) × (new ≡ after_members takes_field old (take count fields)))
      → OnErr answer ((count : ℕ) × (new ≡ after_members takes_variant (after_members takes_field old (take count fields)) (take count [])))
  stops_in_fields new old fields stands =
      let left : ℕ → S = λ n. after_members takes_field old (take n fields) in
      on_err_weaker answer
      (λ w. (w.0, w.1 ∙ ap (after_members takes_variant (left w.0)) (sym (take_all w.0 [] (omega arith)))))
      stands

  -- the same at a variant of an enum, which has no fields
  pub stops_in_variants : (new old : S) (variants : List Variant)
      → OnErr answer ((count : ℕ) × (new ≡ after_members takes_variant old (take count variants)))
      → OnErr answer ((count : ℕ) × (new ≡ after_members takes_variant (after_members takes_field old (take count [])) (take count variants)))
  stops_in_variants new old variants stands =
      let left : List Field → ℕ → S = λ none n. after_members takes_variant (after_members takes_field old none) (take n variants) in
      on_err_weaker answer
      (λ w. (w.0, w.1 ∙ ap (λ none. left none w.0) (sym (take_all w.0 [] (omega arith)))))
      stands

  first_all : (old : S) (it : «Data»)
      → (count : ℕ) × (after_first takes_field takes_variant count old it ≡ after_body takes_field takes_variant old it)
  first_all old (body.Struct it) =
      let fields = field_list it.fields in
      let left : List Field → S = after_members takes_field old in (
        length fields,
        ap (λ xs. after_members takes_variant (left xs) (take (length fields) [])) (take-length fields)
            ∙ ap (after_members takes_variant (left fields)) (take_all (length fields) [] (omega arith)),
      )
  first_all old (body.Enum it) =
      let count = length it.variants in (
        count,
        ap (λ none. after_members takes_variant (after_members takes_field old none) (take count it.variants)) (take_all count [] (omega arith))
            ∙ ap (after_members takes_variant old) (take-length it.variants),
      )
  first_all old (body.Union it) = (0, refl)

  -- the same behind all members
  pub stops_at_end : (new old : S) (it : «Data») → new ≡ after_body takes_field takes_variant old it
      → OnErr answer ((count : ℕ) × (new ≡ after_first takes_field takes_variant count old it))
  stops_at_end new old it stands = told answer ((first_all old it).0, stands ∙ sym (first_all old it).1)

module _ {S : Type 0} (options : S → List Meta → S) (faults : S → Meta → List Fault) where
  walk_state-append : (set : S) (xs ys : List (Outcome Meta))
      → walk_state options faults set (xs ++ ys) ≡ walk_state options faults (walk_state options faults set xs) ys
  walk_state-append set [] ys = refl
  walk_state-append set (x ∷ xs) ys = walk_state-append (after_entry options faults set x) xs ys

  module _ {E : Type 0} (entry_of : E → Outcome Meta) where
    mapped_next : (xs : List E) (i : ℕ) (x : E) → i < length xs → x ≡ get_or xs i x
        → take (i + 1) (map entry_of xs) ≡ take i (map entry_of xs) ++ entry_of x ∷ []
    mapped_next xs i x lt is =
        take-map entry_of (i + 1) xs
        ∙ ap (map entry_of) (take_next xs i x lt is)
        ∙ map-append entry_of (take i xs) (x ∷ [])
        ∙ ap (λ ys. ys ++ entry_of x ∷ []) (sym (take-map entry_of i xs))

    -- one entry more
    pub walk_state_next : (start old new : S) (xs : List E) (i : ℕ) (x : E) → i < length xs → x ≡ get_or xs i x
        → old ≡ walk_state options faults start (take i (map entry_of xs)) → new ≡ after_entry options faults old (entry_of x)
        → new ≡ walk_state options faults start (take (i + 1) (map entry_of xs))
    walk_state_next start old new xs i x lt is stands taken =
        taken
        ∙ ap (λ s. after_entry options faults s (entry_of x)) stands
        ∙ sym (ap (walk_state options faults start) (mapped_next xs i x lt is)
        ∙ walk_state-append start (take i (map entry_of xs)) (entry_of x ∷ []))

    -- memory is wanting at an entry, before it is taken or behind it
    pub walk_state_stopped : {R X : Type 0} (start old new : S) (xs : List E) (i : ℕ) (x : E) (answer : Result R X)
        → i < length xs → x ≡ get_or xs i x
        → old ≡ walk_state options faults start (take i (map entry_of xs))
        → (new ≡ old) ⊎ (new ≡ after_entry options faults old (entry_of x))
        → OnErr answer ((count : ℕ) × (new ≡ walk_state options faults start (take count (map entry_of xs))))
    walk_state_stopped start old new xs i x answer lt is stands (inl same) = told answer (i, same ∙ stands)
    walk_state_stopped start old new xs i x answer lt is stands (inr taken) =
        told answer (i + 1, walk_state_next start old new xs i x lt is stands taken)
