-- What is claimed of accepted declarations.
use Rattle.std.specs.Prelude.{◌≡◌, ◌-◌, ℕ, List, length, map, Some, All, IsTrue, slice_get}
use Rattle.node_core.specs.declared.derive.DeriveInput.{DeriveInput}
use Rattle.codegen_program.specs.declared.program.Program.{Program}
use Rattle.meaning_core.specs.Decls.{FitsAmong}
use Rattle.meaning_core.specs.HostSays.{HostSays}
use Rattle.meaning_core.specs.Lawful.{IsLawful}
use Rattle.law_asks.specs.Units.{is_receiver}
use Rattle.run_accepted.specs.Attributes.{without_attributes}
use Rattle.run_accepted.specs.Plain.{IsPlainDecl}
use Rattle.run_source.specs.Values.{Rules}
use Rattle.law_options.specs.Texts.{input_decl, meta_decls, text_meaning}
use Rattle.run_accepted.specs.Accepted.{IsAccepted}
use Rattle.run_source.specs.Source.{IsReport}
use Rattle.run_source.specs.declared.report.Report.{Report}
use Rattle.law_fields.specs.Fields.{HasTextFields}
use Rattle.law_asks.specs.Reads.{OnValue}
use Rattle.law_asks.specs.LawFitsClaims.{AreSound, has_names}
use Rattle.law_asks.specs.Sound.{AreNamed, IsSound}

-- What is accepted can be run: names are those of declarations, and options leave each declaration so.
abbrev pub AcceptedIsSound : Type 0
AcceptedIsSound =
    (host : HostSays) (rules : Rules) (decls : List DeriveInput) (program : Program)
    → All IsPlainDecl decls → All HasTextFields decls → IsAccepted host rules decls program
    → AreNamed program.decls
    × AreSound host program (meta_decls rules decls)
    × ((number : ℕ) (decl : DeriveInput) → slice_get decls number ≡ Some decl → IsTrue (is_receiver program.units number)
    → IsSound host program (input_decl rules number decl) (has_names (input_decl rules number decl).attributes))

-- A value of what an item means under accepted declarations fits the last of them, by the laws of the host.
abbrev pub AcceptedFits : Type 0
AcceptedFits =
    (host : HostSays) (rules : Rules) (decls : List DeriveInput) (program : Program) (last subject : DeriveInput)
    → IsLawful host → All IsPlainDecl decls → All HasTextFields decls → IsAccepted host rules decls program
    → slice_get decls (length decls - 1) ≡ Some last
    → OnValue (FitsAmong (map without_attributes decls) (length decls - 1)) (text_meaning host rules decls (length decls - 1) last subject)

-- The values among the outcomes of a report of plain declarations fit the last of them, by the laws of the host.
abbrev pub ReportFits : Type 0
ReportFits =
    (host : HostSays) (rules : Rules) (first second : List ℕ) (report : Report)
    → IsLawful host → IsReport host rules first second report → All IsPlainDecl report.declarations
    → All (OnValue (FitsAmong (map without_attributes report.declarations) (length report.declarations - 1))) report.outcomes
