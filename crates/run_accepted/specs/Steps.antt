-- How declarations are compiled step by step.
use Rattle.std.specs.Prelude.{◌≡◌, ℕ, List, [], Result, Ok, Err, Some, None}
use Rattle.std.specs.List.{AllZip}
use Rattle.error_core.specs.ErrorView.{leaves}
use Rattle.error_core.specs.declared.fail.Fail.{Fail}
use Rattle.error_core.specs.declared.fail.Fail.TheVariants as told
use Rattle.error_fault.specs.declared.fault.Fault.{Fault}
use Rattle.node_core.specs.declared.derive.DeriveInput.{DeriveInput}
use Rattle.codegen_program.specs.declared.program.Derive.{Derive}
use Rattle.codegen_program.specs.declared.program.«Unit».{«Unit» as Unit'}
use Rattle.options_rows.specs.Values.{Rules}
use Rattle.options_core.specs.Stages.{Reader, option_faults, options_of}
use Rattle.run_accepted.specs.declared.rejected.CompileFail.{CompileFail}
use Rattle.run_accepted.specs.declared.rejected.CompileFail.TheVariants as fails
use Rattle.run_accepted.specs.Compiled.{IsUnit, IsUnitUnder}
use Rattle.run_accepted.specs.Pairs.{Pair, faults_under, rejected, rejected_with}

-- why options with faults compile to no unit
abbrev pub rejection : DeriveInput → Derive → Fail → CompileFail
rejection decl derive (told.Faults error) = fails.Rejected (record { decl = decl.ident; derive = derive; faults = leaves error })
rejection decl derive told.NoMemory = fails.NoMemory

-- a declaration has these faults under a derive, and some; want of memory is free
abbrev pub FailsWith : DeriveInput → Derive → List Fault → CompileFail → Type 0
FailsWith decl derive faults (fails.Rejected it) = rejected_with decl derive faults ≡ Some it
FailsWith decl derive faults fails.NoMemory = Unit {0}

abbrev pub FailsUnder : Rules → DeriveInput → Derive → CompileFail → Type 0
FailsUnder rules decl derive fail = FailsWith decl derive (faults_under rules decl derive) fail

-- such a unit, where there are no faults, or all of these
abbrev pub MakesWith : DeriveInput → Derive → List Fault → (Unit' → Type 0) → Result Unit' CompileFail → Type 0
MakesWith decl derive faults Is (Ok unit) = (faults ≡ []) × Is unit
MakesWith decl derive faults Is (Err fail) = FailsWith decl derive faults fail

-- a unit that the options compile to, where these are read so, or all their faults
abbrev pub MakesBy : {S : Type 0} → Reader S → (S → Unit' → Type 0) → DeriveInput → Derive → Result Unit' CompileFail → Type 0
MakesBy reader Is decl derive result = MakesWith decl derive (option_faults reader decl) (Is (options_of reader decl)) result

-- the unit of a declaration under a derive, or all its faults
abbrev pub MakesUnit : Rules → ℕ → DeriveInput → Derive → Result Unit' CompileFail → Type 0
MakesUnit rules number decl derive result =
    MakesWith decl derive (faults_under rules decl derive) (IsUnitUnder rules number decl derive) result

-- the units of these pairs, none of which is rejected
pub record AreUnits (rules : Rules) (pairs : List Pair) (units : List Unit') : Type 0 where
  pub sound : rejected rules pairs ≡ None
  pub made : AllZip (IsUnit rules) pairs units

-- the first of these pairs that has faults; want of memory is free
abbrev pub Rejects : Rules → List Pair → CompileFail → Type 0
Rejects rules pairs (fails.Rejected it) = rejected rules pairs ≡ Some it
Rejects rules pairs fails.NoMemory = Unit {0}

-- a call leaves the units of these pairs, or tells the first that has faults
abbrev pub Leaves : {X : Type 0} → Rules → List Pair → List Unit' → Result X CompileFail → Type 0
Leaves rules pairs units (Ok done) = AreUnits rules pairs units
Leaves rules pairs units (Err fail) = Rejects rules pairs fail
