-- How two texts are run: declarations, and items that are read as the last of them.
use Rattle.std.specs.Prelude.{◌≡◌, ◌⊎◌, ℕ, List, map, Option, Some, None, Result, Ok, Err}
use Rattle.tok_types.specs.declared.span.Span.{Span}
use Rattle.node_core.specs.declared.derive.DeriveInput.{DeriveInput}
use Rattle.error_fault.specs.Outcome.{Outcome}
use Rattle.codegen_program.specs.declared.program.Program.{Program}
use Rattle.machine_value.specs.declared.value.Value.{Value as Datum}
use Rattle.law_options.specs.HostSays.{HostSays}
use Rattle.law_options.specs.Places.{earliest}
use Rattle.run_accepted.specs.Unbuilt.{unbuilt}
use Rattle.law_options.specs.Values.{Rules}
use Rattle.run_accepted.specs.Accepted as accepted
use Rattle.run_accepted.specs.Accepted.{IsAccepted}
use Rattle.run_accepted.specs.declared.error.RunError.{RunError}
use Rattle.run_accepted.specs.declared.error.RunError.TheVariants as error
use Rattle.run_source.specs.Receiver.{CanRun, outcome, receiver}
use Rattle.run_source.specs.Meaning.{item_meaning}
use Rattle.run_source.specs.declared.part.Part.{Part}
use Rattle.run_source.specs.declared.part.Part.TheVariants as part
use Rattle.run_source.specs.declared.report.Report.{Report}
use Rattle.run_source.specs.declared.source.Ran.{Ran}
use Rattle.run_source.specs.declared.source.Texts.{Texts}
use Rattle.run_source.specs.Parts.{IsPart}

-- ---- the items of the texts

-- what is told of two parts that are not both items; of one that is too deep and one that is wrong, the former is told
abbrev pub told : Part → Part → Option RunError
told (part.TooDeep at) second = Some (error.TooDeep 1 at)
told (part.Syntax at) (part.TooDeep to) = Some (error.TooDeep 2 to)
told (part.Syntax at) (part.Syntax to) = Some (error.Syntax 1 at)
told (part.Syntax at) (part.Items items) = Some (error.Syntax 1 at)
told (part.Items items) (part.TooDeep at) = Some (error.TooDeep 2 at)
told (part.Items items) (part.Syntax at) = Some (error.Syntax 2 at)
told (part.Items items) (part.Items others) = None

-- the two texts are these items
pub record AreItems (first second : List ℕ) (decls subjects : List DeriveInput) : Type 0 where
  pub is_first : IsPart 0 first (part.Items decls)
  pub is_second : IsPart 1 second (part.Items subjects)

-- they are not both items, and why
pub record AreNoItems (first second : List ℕ) (it : RunError) : Type 0 where
  pub first_part : Part
  pub second_part : Part
  pub is_first : IsPart 0 first first_part
  pub is_second : IsPart 1 second second_part
  pub is_told : told first_part second_part ≡ Some it

-- the items of both parts, or why there are none
abbrev pub Combines : Part → Part → Result Texts RunError → Type 0
Combines first second (Ok texts) = (first ≡ part.Items texts.declarations) × (second ≡ part.Items texts.subjects)
Combines first second (Err it) = told first second ≡ Some it

-- the items of both texts, or why there are none; want of memory is free
abbrev pub Reads : List ℕ → List ℕ → Result Texts RunError → Type 0
Reads first second (Ok texts) = AreItems first second texts.declarations texts.subjects
Reads first second (Err it) = (it ≡ error.NoMemory) ⊎ AreNoItems first second it

-- ---- programs

-- where the declarations have a form that no run reads yet: the first place in the text
abbrev pub first_unbuilt : List DeriveInput → Option Span
first_unbuilt decls = earliest (unbuilt decls)

-- all forms are read, and the program can be run with the host
pub record IsProgramOf (host : HostSays) (rules : Rules) (decls : List DeriveInput) (program : Program) : Type 0 where
  pub built : first_unbuilt decls ≡ None
  pub accepted : IsAccepted host rules decls program

-- why declarations have no program that can be run: a form, or what else refuses them
abbrev pub IsRefused : HostSays → Rules → List DeriveInput → RunError → Type 0
IsRefused host rules decls (error.Unbuilt span) = first_unbuilt decls ≡ Some span
IsRefused host rules decls it = (first_unbuilt decls ≡ None) × accepted.IsRefused host rules decls it

-- the program, or why there is none; want of memory is free
abbrev pub Compiles : HostSays → Rules → List DeriveInput → Result Program RunError → Type 0
Compiles host rules decls (Ok program) = IsProgramOf host rules decls program
Compiles host rules decls (Err it) = (it ≡ error.NoMemory) ⊎ IsRefused host rules decls it

-- ---- reports

-- The program is that of the declarations, and can be run with the host. On any item its receiver has an outcome, and this
-- is what the item means. The outcomes are those of the subjects, in order.
pub record IsRun (host : HostSays) (rules : Rules) (decls subjects : List DeriveInput) (program : Program) (number : ℕ) (outcomes : List (Outcome Datum)) : Type 0 where
  pub is_program : IsProgramOf host rules decls program
  pub unit : receiver program ≡ Some number
  pub runs : CanRun host program
  pub meaning : (subject : DeriveInput) → outcome host program subject ≡ item_meaning host rules decls subject
  pub are_outcomes : map Some outcomes ≡ map (item_meaning host rules decls) subjects

-- the declarations were run on the subjects, or why they were not
abbrev pub RunsTexts : HostSays → Rules → Texts → Result Ran RunError → Type 0
RunsTexts host rules texts (Ok ran) = IsRun host rules texts.declarations texts.subjects ran.program ran.receiver ran.outcomes
RunsTexts host rules texts (Err it) = (it ≡ error.NoMemory) ⊎ IsRefused host rules texts.declarations it

abbrev pub report_of : Texts → Rules → Ran → Report
report_of texts rules ran =
    record {
      declarations = texts.declarations;
      table = rules;
      program = ran.program;
      receiver = ran.receiver;
      subjects = texts.subjects;
      outcomes = ran.outcomes;
    }

-- the report of two texts under these rules
pub record IsReport (host : HostSays) (rules : Rules) (first second : List ℕ) (report : Report) : Type 0 where
  pub table : report.table ≡ rules
  pub read : AreItems first second report.declarations report.subjects
  pub run : IsRun host rules report.declarations report.subjects report.program report.receiver report.outcomes

-- two texts that have a report
pub record AreRunnable (host : HostSays) (rules : Rules) (first second : List ℕ) : Type 0 where
  pub decls : List DeriveInput
  pub subjects : List DeriveInput
  pub program : Program
  pub read : AreItems first second decls subjects
  pub is_program : IsProgramOf host rules decls program

-- the texts are items, but can't be run
pub record IsStopped (host : HostSays) (rules : Rules) (first second : List ℕ) (it : RunError) : Type 0 where
  pub decls : List DeriveInput
  pub subjects : List DeriveInput
  pub read : AreItems first second decls subjects
  pub refused : IsRefused host rules decls it

-- why two texts have no report
abbrev pub AreRefused : HostSays → Rules → List ℕ → List ℕ → RunError → Type 0
AreRefused host rules first second it = AreNoItems first second it ⊎ IsStopped host rules first second it

-- the report of two texts, or why there is none; want of memory is free
abbrev pub Runs : HostSays → Rules → List ℕ → List ℕ → Result Report RunError → Type 0
Runs host rules first second (Ok report) = IsReport host rules first second report
Runs host rules first second (Err it) = (it ≡ error.NoMemory) ⊎ AreRefused host rules first second it
