use Rattle.std.proofs.Common.{◌≡◌, ◌∙◌, List, Some, sym, subst}
use Rattle.node_core.specs.declared.derive.DeriveInput.{DeriveInput}
use Rattle.run_source.specs.Receiver.{receiver}
use Rattle.run_source.specs.Source.{IsRun}
use Rattle.run_source.proofs.RunLemmas.{can_run, is_run}
use Rattle.run_source.proofs.SourceLemmas.{not_none}
use Rattle.run_source.proofs.source.run_texts.Goals as goal

pub run_program-requires : goal.run_program-requires
run_program-requires g c = can_run (g.H.Host.says c.args.host.now) c.args.table.now c.as_slice.result.now c.in_ok-program.program c.in_ok-program.ensures

pub unreachable-requires : goal.unreachable-requires
unreachable-requires g c =
    let runs = can_run (g.H.Host.says c.args.host.now) c.args.table.now c.as_slice.result.now c.in_ok-program.program c.in_ok-program.ensures in
    not_none (receiver c.in_ok-program.program) runs.number (sym c.in_ok-found.ensures ∙ c.in_default.is) runs.receiver

pub returns : goal.returns
returns g c =
    let host = g.H.Host.says c.args.host.now in
    let rules = c.args.table.now in
    let program = c.in_ok-program.program in
    let number = c.in-Some.receiver in
    let outcomes = c.in_ok-outcomes.outcomes in
    let decls = c.as_slice.result.now in
    let subjects = c.as_slice-2.result.now in
    let at : receiver program ≡ Some number = sym c.in_ok-found.ensures ∙ c.in-Some.is in
    let of_decls : List DeriveInput → Type 0 = λ it. IsRun host rules it c.args.texts.now.subjects program number outcomes in
    let of_subjects : List DeriveInput → Type 0 = λ it. IsRun host rules decls it program number outcomes in
    subst of_decls c.as_slice.ensures
    (subst of_subjects c.as_slice-2.ensures (is_run host rules decls program c.in_ok-program.ensures subjects number outcomes at c.in_ok-outcomes.ensures))
