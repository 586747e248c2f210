-- What the calls on errors do to outcomes, and what an accumulator takes.
use Rattle.std.proofs.Common.{◌≡◌, List, [], ◌∷◌, ◌++◌, map, refl, ap, sym, subst, ◌∙◌, append-nil, flat_map, Result, Ok, Err, Option, Some}
use Rattle.std.specs.Prelude.{option_map}
use Rattle.std.specs.List.{filter_map}
use Rattle.std.proofs.lemmas.Grind.{flat_map-append}
use Rattle.base_core.specs.declared.text.Text.{Text}
use Rattle.tok_types.specs.declared.span.Span.{Span}
use Rattle.error_fault.specs.declared.fault.Fault.{Fault}
use Rattle.error_fault.specs.Faults.{siblings}
use Rattle.error_fault.specs.Outcome.{Outcome, Value, Faults, faults_of, value_of, on_value, settle, with_span, under, with_siblings}
use Rattle.error_core.specs.ErrorView.{ErrorView, One, Several, first_leaf, more_leaves, held, leaves, leaves_in, below}
use Rattle.error_core.specs.Changes.{located, spanned}
use Rattle.error_core.specs.Answers.{Answers, Handles, refusal}
use Rattle.error_core.specs.Each.{every}
use Rattle.error_core.specs.declared.fail.Fail.{Fail}
use Rattle.error_core.specs.declared.fail.Fail.TheVariants as fails
use Rattle.error_core.proofs.ToldLemmas.{map_below-more}

-- the outcome of a list of faults that is not empty
abbrev of_faults : {A : Type 0} → Fault → List Fault → Outcome A
of_faults other [] = Faults other []
of_faults other (first ∷ more) = Faults first more

module _ {A : Type 0} where
  pub refusal-is : (told : ErrorView) (first : Fault) (more : List Fault) → leaves told ≡ first ∷ more
      → refusal {A = A} told ≡ Faults first more
  refusal-is told first more is = ap (of_faults first) is

  with_span-several : (span : Span) (first : Fault) (path : List Text) (before : List Fault) (next : Fault) (more : List Fault)
      → with_span {A = A} span (Faults first (map (below path) (before ++ next ∷ more)))
      ≡ Faults first (map (below path) (before ++ next ∷ more))
  with_span-several span first path [] next more = refl
  with_span-several span first path (other ∷ before) next more = refl

  pub refusal_spanned : (told : ErrorView) (span : Span) → with_span {A = A} span (refusal told) ≡ refusal (spanned told span)
  refusal_spanned (One fault) span = refl
  refusal_spanned (Several path own a b more) span =
      with_span-several span (below path (first_leaf a)) path (more_leaves a) (first_leaf b) (more_leaves b ++ leaves_in more)

  pub refusal_located : (told : ErrorView) (name : Text) → refusal {A = A} (located told name) ≡ under name (refusal told)
  refusal_located (One fault) name = refl
  refusal_located (Several path span a b more) name =
      ap (Faults (below (name ∷ path) (first_leaf a))) (map_below-more name path (more_leaves a ++ (leaves b ++ leaves_in more)))

  pub refusal-siblings : (told error : ErrorView) (names : List Text) → leaves error ≡ siblings (leaves told) names
      → refusal {A = A} error ≡ with_siblings names (refusal told)
  refusal-siblings told error names is = refusal-is error _ _ is

-- one error more
pub held-push : (errors : List ErrorView) (error : ErrorView) → held (errors ++ error ∷ []) ≡ held errors ++ leaves error
held-push errors error = flat_map-append leaves errors (error ∷ []) ∙ ap (λ last. held errors ++ last) (append-nil (leaves error))

-- the value is handed on, and the faults are taken
pub handled : {X A : Type 0} (see : X → A) (answer : Result X Fail) (outcome : Outcome A) (old new : List ErrorView) (found : Option X)
    → Answers see answer outcome → Handles answer old (Ok found) new
    → (option_map see found ≡ value_of outcome) × (held new ≡ held old ++ faults_of outcome)
handled see (Ok value) outcome old new found is takes =
    let same : found ≡ Some value = cc (takes.0) in (
      ap (option_map see) same ∙ sym (ap value_of is),
      ap held takes.1 ∙ sym (append-nil (held old)) ∙ sym (ap (λ o. held old ++ faults_of o) is),
    )
handled see (Err (fails.Faults error)) outcome old new found is takes = (
  ap (option_map see) takes.0 ∙ sym (ap value_of is),
  ap held takes.1 ∙ held-push old error ∙ sym (ap (λ o. held old ++ faults_of o) is),
)
handled see (Err fails.NoMemory) outcome old new found is takes =
    let never : ⊥ = cc (takes.0) in
    absurd never

module _ {X A : Type 0} (seen : X → A) where
  pub answers-on_value : (answer : Result X Fail) (outcome : Outcome X) → Answers (λ it. it) answer outcome
      → Answers seen answer (on_value seen outcome)
  answers-on_value (Ok value) outcome is = ap (on_value seen) is
  answers-on_value (Err (fails.Faults error)) outcome is = ap (on_value seen) is
  answers-on_value (Err fails.NoMemory) outcome is = tt

  pub on_value-settle : (faults : List Fault) (value : X) → on_value seen (settle faults (Value value)) ≡ settle faults (Value (seen value))
  on_value-settle [] value = refl
  on_value-settle (fault ∷ more) value = refl

-- an answer with the values and the faults of all
pub answers-every : {X Y A : Type 0} (seen : X → List A) (read : Y → Outcome A) (items : List Y) (answer : Result X Fail)
    (faults : List Fault) (values : X) → seen values ≡ filter_map (λ item. value_of (read item)) items
    → faults ≡ flat_map (λ item. faults_of (read item)) items → Answers (λ it. it) answer (settle faults (Value values))
    → Answers seen answer (every read items)
answers-every seen read items answer faults values found told is =
    subst (Answers seen answer)
    (on_value-settle seen faults values
    ∙ (ap (λ first. settle first (Value (seen values))) told
    ∙ ap (λ list. settle (flat_map (λ item. faults_of (read item)) items) (Value list)) found))
    (answers-on_value seen answer _ is)
