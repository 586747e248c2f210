-- Outcomes: one value, or one fault and more.
use Rattle.std.specs.Prelude.{List, [], ◌∷◌, Option, Some, None}
use Rattle.base_core.specs.declared.text.Text.{Text}
use Rattle.tok_types.specs.declared.span.Span.{Span}
use Rattle.error_fault.specs.declared.kind.FaultKind.{FaultKind}
use Rattle.error_fault.specs.declared.fault.Fault.{Fault}
use Rattle.error_fault.specs.Fault.{plain, or_span, located, with_sibling_names}
use Rattle.error_fault.specs.Faults.{at, siblings}

-- one value, or a list of faults that is not empty
pub data Outcome (A : Type 0) : Type 0 where
  Value : A → Outcome A
  Faults : Fault → List Fault → Outcome A

-- a single fault of this kind, in no field and at no place
abbrev pub refused : {A : Type 0} → FaultKind → Outcome A
refused kind = Faults (plain kind) []

-- the faults, of which a value has none
abbrev pub faults_of : {A : Type 0} → Outcome A → List Fault
faults_of (Value x) = []
faults_of (Faults fault more) = fault ∷ more

-- the value, where there is one
abbrev pub value_of : {A : Type 0} → Outcome A → Option A
value_of (Value x) = Some x
value_of (Faults fault more) = None

-- what follows from the value; the faults stay
abbrev pub bind : {A B : Type 0} → Outcome A → (A → Outcome B) → Outcome B
bind (Value x) next = next x
bind (Faults fault more) next = Faults fault more

-- the function at the value; the faults stay
abbrev pub on_value : {A B : Type 0} → (A → B) → Outcome A → Outcome B
on_value f (Value x) = Value (f x)
on_value f (Faults fault more) = Faults fault more

-- these faults where there is one, else the outcome
abbrev pub settle : {A : Type 0} → List Fault → Outcome A → Outcome A
settle [] outcome = outcome
settle (fault ∷ more) outcome = Faults fault more

-- `span_one` of the faults
abbrev pub with_span : {A : Type 0} → Span → Outcome A → Outcome A
with_span span (Value x) = Value x
with_span span (Faults fault []) = Faults (or_span fault span) []
with_span span (Faults fault (other ∷ more)) = Faults fault (other ∷ more)

-- `at` of the faults
abbrev pub under : {A : Type 0} → Text → Outcome A → Outcome A
under name (Value x) = Value x
under name (Faults fault more) = Faults (located fault name) (at more name)

-- `siblings` of the faults
abbrev pub with_siblings : {A : Type 0} → List Text → Outcome A → Outcome A
with_siblings names (Value x) = Value x
with_siblings names (Faults fault more) =
    Faults (with_sibling_names fault names) (siblings more names)
