-- What is claimed of programs that options give.
use Rattle.std.specs.Prelude.{◌≡◌, ℕ, List, Some, None, All, slice_get}
use Rattle.node_core.specs.declared.derive.DeriveInput.{DeriveInput}
use Rattle.codegen_program.specs.declared.program.Program.{Program}
use Rattle.codegen_program.specs.declared.program.«Unit».{«Unit» as Unit'}
use Rattle.law_options.specs.HostSays.{HostSays}
use Rattle.law_options.specs.Unfitness.{unfitness}
use Rattle.law_options.specs.Values.{Rules}
use Rattle.run_accepted.specs.Accepted.{IsAccepted}
use Rattle.run_accepted.specs.Compiled.{IsProgram}
use Rattle.run_accepted.specs.Pairs.{pairs_from, rejected}
use Rattle.run_accepted.specs.Plain.{IsPlainDecl}
use Rattle.machine_execute.specs.Elements.{Element, HasOutcome}
use Rattle.law_machine.specs.Kinds.{IsOfKind}
use Rattle.law_machine.specs.Left.{IsLeftUnit}
use Rattle.run_source.specs.Receiver.{CanRun}
use Rattle.law_given.specs.Given.{HasFewFields, IsGiven, NamesNoGenerated}
use Rattle.law_given.specs.Owned.{IsOfDeclaration}

-- a unit of such a program has an outcome on each element of its kind, under any host
abbrev pub GivenHasOutcome : Type 0
GivenHasOutcome =
    (host : HostSays) (program : Program) (number : ℕ) (unit : Unit') (element : Element) → IsGiven program
    → slice_get program.units number ≡ Some unit → IsOfKind unit.derive element → HasOutcome host program number element

-- where nothing stands against running it with a host, it has a receiver, and this has an outcome on any item
abbrev pub FitCanRun : Type 0
FitCanRun = (host : HostSays) (program : Program) → IsGiven program → unfitness host program ≡ None → CanRun host program

-- what declarations compile to whose options have no faults is such a program, where no function has a generated name
abbrev pub CompiledIsGiven : Type 0
CompiledIsGiven =
    (rules : Rules) (decls : List DeriveInput) (program : Program) → All IsPlainDecl decls → All HasFewFields decls
    → All NamesNoGenerated program.units → rejected rules (pairs_from 0 decls) ≡ None → IsProgram rules decls program → IsGiven program

-- so is the program of declarations that can be run with a host
abbrev pub AcceptedIsGiven : Type 0
AcceptedIsGiven =
    (host : HostSays) (rules : Rules) (decls : List DeriveInput) (program : Program) → All IsPlainDecl decls → All HasFewFields decls
    → IsAccepted host rules decls program → IsGiven program

-- each unit of it is one that options without a fault leave, and is of the declaration of its number
abbrev pub GivenIsOfDeclarations : Type 0
GivenIsOfDeclarations =
    (program : Program) (number : ℕ) (unit : Unit') → IsGiven program → slice_get program.units number ≡ Some unit
    → IsLeftUnit unit × ((decl : DeriveInput) × (slice_get program.decls unit.decl ≡ Some decl) × IsOfDeclaration decl unit)
