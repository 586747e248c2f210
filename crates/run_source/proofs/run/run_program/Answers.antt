use Rattle.std.proofs.Common.{◌≡◌, ℕ, subst, sym}
use Rattle.codegen_program.specs.declared.program.Program.{Program}
use Rattle.machine_execute.specs.Elements.{HasOutcome, OnInput}
use Rattle.run_source.proofs.run.run_program.Goals as goal

pub outcomes_by-requires : goal.outcomes_by-requires
outcomes_by-requires g c subject =
    let says = g.H.Host.says c.args.host.now in
    let P : ℕ → Type 0 = λ number. HasOutcome says c.args.program.now number (OnInput subject) in
    let same : c.requires.number ≡ c.in-Some.unit = cc (c.in_ok-unit.ensures, c.requires.receiver) in
    subst (λ (program : Program). HasOutcome says program c.in-Some.unit (OnInput subject)) (sym c.of.ensures) (subst P same (c.requires.outcomes subject))
