-- What is claimed of accepted declarations.
use Rattle.std.specs.Prelude.{◌≡◌, List, None}
use Rattle.std.specs.List.{All}
use Rattle.node_core.specs.declared.derive.DeriveInput.{DeriveInput}
use Rattle.codegen_program.specs.declared.program.Program.{Program}
use Rattle.law_options.specs.HostSays.{HostSays}
use Rattle.law_options.specs.Unfitness.{unfitness}
use Rattle.law_options.specs.Values.{Rules}
use Rattle.run_accepted.specs.Unbuilt.{IsBuilt}
use Rattle.run_accepted.specs.Accepted.{IsAccepted}
use Rattle.run_source.specs.Receiver.{CanRun, outcome}
use Rattle.run_source.specs.Meaning.{item_meaning}

-- what accepted declarations are compiled to is fit
abbrev pub AcceptedFits : Type 0
AcceptedFits =
    (host : HostSays) (rules : Rules) (decls : List DeriveInput) (program : Program) → IsAccepted host rules decls program
    → unfitness host program ≡ None

-- its receiver has an outcome on any item, and this is what the item means
abbrev pub AcceptedIsMeant : Type 0
AcceptedIsMeant =
    (host : HostSays) (rules : Rules) (decls : List DeriveInput) (program : Program) → All IsBuilt decls → IsAccepted host rules decls program
    → CanRun host program × ((subject : DeriveInput) → outcome host program subject ≡ item_meaning host rules decls subject)
