use Rattle.std.proofs.Common.{◌<◌, ◌++◌, ◌∙◌, ℕ, List, length, map, ap, arith}
use Rattle.std.specs.Borrow.{Bor}
use Rattle.node_core.specs.declared.derive.DeriveInput.{DeriveInput}
use Rattle.codegen_program.specs.declared.program.«Unit».{«Unit» as Unit'}
use Rattle.machine_forms.specs.Units.{units_of}
use Rattle.machine_forms.proofs.Groups.{held-for}
use Rattle.machine_forms.proofs.Steps.{places-more}
use Rattle.machine_fit.specs.Types.{unknown_types, unknown_types_in}
use Rattle.machine_fit.proofs.checker.Checker.unknown_types.Goals as goal

pub loop-number-preserved : goal.loop-number-preserved
loop-number-preserved g c =
    let host = g.H.Host.says c.args.self.now.host.now in
    let program = c.args.self.now.program.now in
    let decls = c.as_slice-decls.result.now in
    let number = c.loop-number.number in
    let decl = c.index-decls-number.result in
    let lt : number < length decls = omega arith in
    let its = ap (map (λ (unit : Bor Unit'). unit.now)) c.as_slice.ensures ∙ held-for program.units (length program.decls) c.args.groups.now c.requires number (rw c.as_slice-decls.ensures at lt) c.index-groups-number.result c.index-groups-number.is in
    places-more (λ (number : ℕ) (decl : DeriveInput). unknown_types_in host program (units_of program.units number) number decl) decls number decl lt c.index-decls-number.is
    (unknown_types host program) c.loop-number.places c.push_types_in.new.places c.loop-number.invariant
    (c.in_ok-push_types_in.ensures ∙ ap (λ (units : List Unit'). c.loop-number.places ++ unknown_types_in host program units number decl) its)
