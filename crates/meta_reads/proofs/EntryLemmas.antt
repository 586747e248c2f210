-- Keys and values that are there or not.
use Rattle.std.proofs.Common.{◌≡◌, refl, ap, ◌∙◌, List, [], ◌∷◌, ◌++◌, Some, None, append-nil}
use Rattle.std.specs.Prelude.{Bool}
use Rattle.base_core.specs.declared.text.Text.{Text}
use Rattle.tok_types.specs.declared.span.Span.{Span}
use Rattle.error_fault.specs.declared.fault.Fault.{Fault}
use Rattle.error_fault.specs.Outcome.{Outcome, Value, Faults, faults_of, value_of}
use Rattle.meta_reads.specs.Maps.{entry, key_faults, repeated, with_key}

-- the outcome of a value that is there
pub value-is : {A : Type 0} (outcome : Outcome A) (value : A) → Some value ≡ value_of outcome → outcome ≡ Value value
value-is (Value other) value is = cc
value-is (Faults fault more) value is = cc

module _ {K : Type 0} where
  -- without a key there is none to put to those before
  pub with_key-none : (before : List K) (key : Outcome K) → None ≡ value_of key → with_key before key ≡ before
  with_key-none before (Value key) is = cc
  with_key-none before (Faults fault more) is = refl

  -- without a key the faults are all its own
  pub key_faults-none : (same : K → K → Bool) (text : K → Text) (before : List K) (span : Span) (key : Outcome K) → None ≡ value_of key
      → faults_of key ≡ key_faults same text before span key
  key_faults-none same text before span (Value key) is = cc
  key_faults-none same text before span (Faults fault more) is = refl

  -- with a key they are whether it is repeated
  pub key_faults-some : (same : K → K → Bool) (text : K → Text) (before : List K) (span : Span) (outcome : Outcome K) (key : K) (old middle new : List Fault)
      → Some key ≡ value_of outcome → middle ≡ old ++ faults_of outcome → new ≡ middle ++ repeated same text before span key
      → new ≡ old ++ key_faults same text before span outcome
  key_faults-some same text before span (Value other) key old middle new is first next =
      let alike : key ≡ other = cc in
      next ∙ ap (λ faults. faults ++ repeated same text before span key) (first ∙ append-nil old) ∙ ap (λ it. old ++ repeated same text before span it) alike
  key_faults-some same text before span (Faults fault more) key old middle new is first next =
      let never : ⊥ = cc in
      absurd never

  -- with a key it is put to those before
  pub with_key-some : (before : List K) (outcome : Outcome K) (key : K) → Some key ≡ value_of outcome → key ∷ before ≡ with_key before outcome
  with_key-some before (Value other) key is =
      let alike : key ≡ other = cc in
      ap (λ it. it ∷ before) alike
  with_key-some before (Faults fault more) key is = cc

  module _ {A : Type 0} where
    pub entry-no_key : (key : Outcome K) (value : Outcome A) → None ≡ value_of key → entry key value ≡ []
    entry-no_key (Value key) value is = cc
    entry-no_key (Faults fault more) value is = refl

    pub entry-no_value : (key : Outcome K) (value : Outcome A) → None ≡ value_of value → entry key value ≡ []
    entry-no_value (Value key) (Value value) is = cc
    entry-no_value (Value key) (Faults fault more) is = refl
    entry-no_value (Faults fault more) value is = refl
