use Rattle.std.proofs.Common.{◌≡◌, ◌∙◌, List, IfOk, ap, subst}
use Rattle.tok_types.specs.declared.span.Span.{Span}
use Rattle.machine_forms.specs.Names.{names_in}
use Rattle.machine_forms.specs.Units.{group_at}
use Rattle.machine_forms.proofs.Known.{names_in-groups}
use Rattle.machine_forms.proofs.names.duplicate_names.Goals as goal

pub returns : goal.returns
returns c =
    let groups = c.args.groups.now in
    let P : List Span → Type 0 = λ whole. IfOk c.names_in.result (λ places. places ≡ whole) in
    subst P (ap (names_in (group_at groups)) c.as_slice.ensures ∙ names_in-groups c.args.program.now.units c.args.program.now.decls groups c.requires) c.names_in.ensures
