-- What the operations on outcomes do to the faults and the value.
use Rattle.std.proofs.Common.{◌≡◌, List, [], ◌∷◌, refl}
use Rattle.base_core.specs.declared.text.Text.{Text}
use Rattle.tok_types.specs.declared.span.Span.{Span}
use Rattle.error_fault.specs.Faults.{span_one, at, siblings}
use Rattle.error_fault.specs.Outcome.{Outcome, Value, Faults, faults_of, value_of, with_span, under, with_siblings}

module _ {A : Type 0} where
  pub faults_of-with_span : (span : Span) (o : Outcome A) → faults_of (with_span span o) ≡ span_one (faults_of o) span
  faults_of-with_span span (Value x) = refl
  faults_of-with_span span (Faults fault []) = refl
  faults_of-with_span span (Faults fault (other ∷ more)) = refl

  pub faults_of-under : (name : Text) (o : Outcome A) → faults_of (under name o) ≡ at (faults_of o) name
  faults_of-under name (Value x) = refl
  faults_of-under name (Faults fault more) = refl

  pub faults_of-with_siblings : (names : List Text) (o : Outcome A)
      → faults_of (with_siblings names o) ≡ siblings (faults_of o) names
  faults_of-with_siblings names (Value x) = refl
  faults_of-with_siblings names (Faults fault more) = refl

  pub value_of-with_span : (span : Span) (o : Outcome A) → value_of (with_span span o) ≡ value_of o
  value_of-with_span span (Value x) = refl
  value_of-with_span span (Faults fault []) = refl
  value_of-with_span span (Faults fault (other ∷ more)) = refl

  pub value_of-under : (name : Text) (o : Outcome A) → value_of (under name o) ≡ value_of o
  value_of-under name (Value x) = refl
  value_of-under name (Faults fault more) = refl

  pub value_of-with_siblings : (names : List Text) (o : Outcome A)
      → value_of (with_siblings names o) ≡ value_of o
  value_of-with_siblings names (Value x) = refl
  value_of-with_siblings names (Faults fault more) = refl
