use Rattle.std.proofs.Common.{◌≡◌, ◌∙◌, Some, None, ap, is_some}
use Rattle.node_expr.specs.declared.ty.«Type».{«Type» as Type'}
use Rattle.law_spans.specs.Erased.{erased_type}
use Rattle.machine_host.specs.HostSays.{erased_decls}
use Rattle.machine_host.specs.Made.{named_type}
use Rattle.machine_std.specs.Defaults.{default_in}
use Rattle.machine_std.proofs.FlagLemmas.{name-flagged}
use Rattle.machine_std.proofs.defaulted.name_has.Goals as goal

pub returns-in-Some : goal.returns-in-Some
returns-in-Some c =
    let decls = c.args.decls.now in
    let ty : c.in_ok-ty.ty ≡ named_type c.args.decl.now.ident.text = c.in_ok-ty.ensures ∙ ap named_type c.as_str.ensures in
    c.is_flagged.ensures ∙ c.requires c.in-Some.number
    ∙ name-flagged decls c.in_ok-ty.ty (Some c.in-Some.number) c.in-Some.ensures
    ∙ ap (λ (ty : Type'). is_some (default_in (erased_decls decls) (erased_type ty))) ty

pub returns : goal.returns
returns c =
    let decls = c.args.decls.now in
    let ty : c.in_ok-ty.ty ≡ named_type c.args.decl.now.ident.text = c.in_ok-ty.ensures ∙ ap named_type c.as_str.ensures in
    name-flagged decls c.in_ok-ty.ty None c.in-None.ensures
    ∙ ap (λ (ty : Type'). is_some (default_in (erased_decls decls) (erased_type ty))) ty
