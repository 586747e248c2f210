-- What comes of a program of declarations that can be run.
use Rattle.std.proofs.Common.{◌≡◌, ◌∙◌, ℕ, List, map, Some, None}
use Rattle.std.specs.List.{All}
use Rattle.node_core.specs.declared.derive.DeriveInput.{DeriveInput}
use Rattle.error_fault.specs.Outcome.{Outcome}
use Rattle.codegen_program.specs.declared.program.Program.{Program}
use Rattle.machine_value.specs.declared.value.Value.{Value as Datum}
use Rattle.law_options.specs.HostSays.{HostSays}
use Rattle.run_accepted.specs.Unbuilt.{IsBuilt, unbuilt}
use Rattle.law_options.specs.Values.{Rules}
use Rattle.run_accepted.proofs.PlaceLemmas.{none_first}
use Rattle.run_accepted.proofs.BuiltLemmas.{all_built}
use Rattle.run_source.specs.Meaning.{item_meaning}
use Rattle.run_source.specs.Receiver.{CanRun, outcome, receiver}
use Rattle.run_source.specs.Source.{IsProgramOf, IsRun, first_unbuilt}
use Rattle.run_source.proofs.ReceiverLemmas.{accepted_is_meant}

-- where no form stands first that no run reads, all are read
pub is_built : (decls : List DeriveInput) → first_unbuilt decls ≡ None → All IsBuilt decls
is_built decls none = all_built decls (none_first (λ span. span) (unbuilt decls) none)

module _ (host : HostSays) (rules : Rules) (decls : List DeriveInput) (program : Program) (is : IsProgramOf host rules decls program) where
  pub can_run : CanRun host program
  can_run = (accepted_is_meant host rules decls program (is_built decls is.built) is.accepted).0

  means : (subject : DeriveInput) → outcome host program subject ≡ item_meaning host rules decls subject
  means = (accepted_is_meant host rules decls program (is_built decls is.built) is.accepted).1

  -- what the receiver makes of subjects is the run on them
  pub is_run : (subjects : List DeriveInput) (number : ℕ) (outcomes : List (Outcome Datum)) → receiver program ≡ Some number
      → map Some outcomes ≡ map (outcome host program) subjects → IsRun host rules decls subjects program number outcomes
  is_run subjects number outcomes at made =
      record {
        is_program = is;
        unit = at;
        runs = can_run;
        meaning = means;
        are_outcomes = made ∙ (λ i. map (λ subject. means subject i) subjects);
      }
