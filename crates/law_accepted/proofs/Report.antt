-- The values among the outcomes of a report fit the last of its declarations.
use Rattle.std.proofs.Common.{◌≡◌, ◌-◌, List, [], ◌∷◌, length, map, slice_get, Option, Some, None, option_map, All, refl, subst}
use Rattle.std.specs.List.{AllByRecursion}
use Rattle.std.proofs.lemmas.List.Elements.{All-from_recursion}
use Rattle.std.proofs.lemmas.Option.{none-some, same_Some}
use Rattle.node_core.specs.declared.derive.DeriveInput.{DeriveInput}
use Rattle.error_fault.specs.Outcome.{Outcome}
use Rattle.codegen_program.specs.declared.program.Program.{Program}
use Rattle.machine_value.specs.declared.value.Value.{Value as Datum}
use Rattle.meaning_core.specs.HostSays.{HostSays}
use Rattle.run_accepted.specs.Attributes.{without_attributes}
use Rattle.run_accepted.specs.Plain.{IsPlainDecl}
use Rattle.run_source.specs.Values.{Rules}
use Rattle.law_options.specs.Texts.{text_meaning}
use Rattle.run_accepted.specs.Accepted.{IsAccepted}
use Rattle.run_source.specs.Meaning.{item_meaning}
use Rattle.meaning_core.specs.Decls.{FitsAmong}
use Rattle.meaning_core.specs.Lawful.{IsLawful}
use Rattle.law_asks.specs.Reads.{OnValue}
use Rattle.law_fields.specs.Fields.{HasTextFields}
use Rattle.law_fields.proofs.Items.{spelled_items}
use Rattle.law_accepted.specs.Claims.{ReportFits}
use Rattle.law_accepted.proofs.Receiver.{accepted_fits}

module _ (host : HostSays) (rules : Rules) (decls : List DeriveInput) (program : Program) (lawful : IsLawful host) (plain : All IsPlainDecl decls) (have : All HasTextFields decls)
    (is : IsAccepted host rules decls program) where
  abbrev FitsLast : Outcome Datum → Type 0
  FitsLast = OnValue (FitsAmong (map without_attributes decls) (length decls - 1))

  last_fits : (subject : DeriveInput) (last : Option DeriveInput) (outcome : Outcome Datum) → slice_get decls (length decls - 1) ≡ last
      → option_map (λ it. text_meaning host rules decls (length decls - 1) it subject) last ≡ Some outcome → FitsLast outcome
  last_fits subject None outcome stands is_meant = absurd (none-some outcome is_meant)
  last_fits subject (Some last) outcome stands is_meant =
      subst FitsLast (same_Some (text_meaning host rules decls (length decls - 1) last subject) outcome is_meant)
      (accepted_fits host rules decls program last subject lawful plain have is stands)

  -- what each of the subjects means fits it
  each_fits : (outcomes : List (Outcome Datum)) (subjects : List DeriveInput) → map Some outcomes ≡ map (item_meaning host rules decls) subjects → AllByRecursion FitsLast outcomes
  each_fits [] subjects are = tt
  each_fits (outcome ∷ outcomes) [] are = absurd cc
  each_fits (outcome ∷ outcomes) (subject ∷ subjects) are =
      let first : item_meaning host rules decls subject ≡ Some outcome = cc in
      let rest : map Some outcomes ≡ map (item_meaning host rules decls) subjects = cc in
      (last_fits subject (slice_get decls (length decls - 1)) outcome refl first, each_fits outcomes subjects rest)

pub report_fits : ReportFits
report_fits host rules first second report lawful is plain =
    let decls = report.declarations in
    let (tokens, spelled, items) = is.read.is_first in
    let have = spelled_items 0 first tokens decls spelled.0 items in
    All-from_recursion (OnValue (FitsAmong (map without_attributes decls) (length decls - 1))) report.outcomes
    (each_fits host rules decls report.program lawful plain have is.run.is_program.accepted report.outcomes report.subjects is.run.are_outcomes)
