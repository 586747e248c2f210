-- What a call answers: a value, the faults of an outcome, or want of memory.
use Rattle.std.specs.Prelude.{◌≡◌, List, [], ◌∷◌, ◌++◌, Result, Ok, Err, Option, Some, None, IsErr}
use Rattle.std.specs.declared.alloc.AllocError.{AllocError}
use Rattle.error_fault.specs.Outcome.{Outcome, Value, Faults}
use Rattle.error_core.specs.declared.fail.Fail.{Fail}
use Rattle.error_core.specs.declared.fail.Fail.TheVariants as fails
use Rattle.error_core.specs.Changes.{joined}
use Rattle.error_core.specs.ErrorView.{ErrorView, first_leaf, more_leaves}

-- why a call gives no value, by the faults that it has
abbrev pub fail_of : Option ErrorView → Fail
fail_of (Some error) = fails.Faults error
fail_of None = fails.NoMemory

-- the outcome that has the faults of the error
abbrev pub refusal : {A : Type 0} → ErrorView → Outcome A
refusal told = Faults (first_leaf told) (more_leaves told)

-- the error has the faults of the outcome; want of memory is free
abbrev pub Fails : {A : Type 0} → Fail → Outcome A → Type 0
Fails (fails.Faults error) outcome = outcome ≡ refusal error
Fails fails.NoMemory outcome = Unit {0}

-- the call answers the outcome, whose value is what is seen of the call's; or it wants memory
abbrev pub Answers : {X A : Type 0} → (X → A) → Result X Fail → Outcome A → Type 0
Answers seen (Ok value) outcome = outcome ≡ Value (seen value)
Answers seen (Err fail) outcome = Fails fail outcome

-- the error is all that is held as one; want of memory is free
abbrev pub IsJoined : List ErrorView → Fail → Type 0
IsJoined held (fails.Faults error) = error ≡ joined held error
IsJoined held fails.NoMemory = Unit {0}

-- an error is put behind those that are held, and no value is answered
abbrev pub Takes : {T : Type 0} → ErrorView → List ErrorView → Result (Option T) AllocError → List ErrorView → Type 0
Takes error old (Ok answer) new = (answer ≡ None) × (new ≡ old ++ error ∷ [])
Takes error old (Err _) new = new ≡ old

-- the faults of an answer without value are held; want of memory is handed on
abbrev pub TakesFail : {T : Type 0} → Fail → List ErrorView → Result (Option T) AllocError → List ErrorView → Type 0
TakesFail (fails.Faults error) old answer new = Takes error old answer new
TakesFail fails.NoMemory old answer new = IsErr answer × (new ≡ old)

-- a value is handed on, and nothing is held then
abbrev pub Handles : {T : Type 0} → Result T Fail → List ErrorView → Result (Option T) AllocError → List ErrorView → Type 0
Handles (Ok value) old answer new = (answer ≡ Ok (Some value)) × (new ≡ old)
Handles (Err fail) old answer new = TakesFail fail old answer new
