-- What a call answers, and what it leaves of what it is lent. Want of memory leaves this as it was.
use Rattle.std.specs.Prelude.{◌≡◌, List, [], Option, Some, None, Result, Ok, Err}
use Rattle.error_fault.specs.declared.fault.Fault.{Fault}
use Rattle.error_fault.specs.Outcome.{Outcome, Value}
use Rattle.error_core.specs.Answers.{refusal}
use Rattle.error_core.specs.ErrorView.{leaves}
use Rattle.error_core.specs.declared.fail.Fail.{Fail}
use Rattle.error_core.specs.declared.fail.Fail.TheVariants as fails

abbrev pub FailDoes : {S : Type 0} → Fail → List Fault → S → S → S → Type 0
FailDoes (fails.Faults error) faults left old new = (faults ≡ leaves error) × (new ≡ left)
FailDoes fails.NoMemory faults left old new = new ≡ old

-- the call answers these faults, and leaves this behind whether there are some or not; want of memory changes nothing
abbrev pub Does : {X S : Type 0} → Result X Fail → List Fault → S → S → S → Type 0
Does (Ok done) faults left old new = (faults ≡ []) × (new ≡ left)
Does (Err fail) faults left old new = FailDoes fail faults left old new

abbrev pub FailTakes : {S : Type 0} → Fail → Outcome S → S → S → Type 0
FailTakes (fails.Faults error) outcome old new = (outcome ≡ refusal error) × (new ≡ old)
FailTakes fails.NoMemory outcome old new = new ≡ old

-- the call leaves the value of the outcome behind; where this has faults, it answers them. These and want of memory
-- change nothing
abbrev pub Takes : {X S : Type 0} → Result X Fail → Outcome S → S → S → Type 0
Takes (Ok done) outcome old new = outcome ≡ Value new
Takes (Err fail) outcome old new = FailTakes fail outcome old new

abbrev pub FailTakesOwn : {S : Type 0} → Fail → Option (Outcome S) → S → S → Type 0
FailTakesOwn (fails.Faults error) own old new = (own ≡ Some (refusal error)) × (new ≡ old)
FailTakesOwn fails.NoMemory own old new = new ≡ old

abbrev pub FindsOwn : {S : Type 0} → Option (Unit {0}) → Option (Outcome S) → S → S → Type 0
FindsOwn None own old new = (own ≡ None) × (new ≡ old)
FindsOwn (Some done) own old new = own ≡ Some (Value new)

-- the same, where there may be no outcome of the type's own: then nothing is done
abbrev pub TakesOwn : {S : Type 0} → Result (Option (Unit {0})) Fail → Option (Outcome S) → S → S → Type 0
TakesOwn (Ok found) own old new = FindsOwn found own old new
TakesOwn (Err fail) own old new = FailTakesOwn fail own old new
