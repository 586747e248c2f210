use Rattle.std.proofs.Common.{◌≡◌, ◌∙◌, IfOk, ap, subst, sym}
use Rattle.std.specs.Prelude.{option_and_then, unwrap_or}
use Rattle.machine_value.specs.declared.value.Value.{Value}
use Rattle.machine_value.specs.declared.value.Value.TheVariants as value
use Rattle.machine_std.specs.Defaults.{default_among}
use Rattle.machine_std.proofs.Erased.{default_in-bare}
use Rattle.machine_std.proofs.std_host.StdHostHost.default_of.Goals as goal

pub returns-in-Some : goal.returns-in-Some
returns-in-Some c =
    let here = ap (λ number. unwrap_or (option_and_then (default_among c.args.decls.now) number) value.Unit) c.in-Some.ensures
    ∙ ap (λ made. unwrap_or made value.Unit) (sym (default_in-bare c.args.decls.now c.args.ty.now)) in
    subst (λ (it : Value). IfOk c.default_of.result (λ made. made ≡ it)) here c.default_of.ensures

pub returns-in-None : goal.returns-in-None
returns-in-None c =
    ap (λ number. unwrap_or (option_and_then (default_among c.args.decls.now) number) value.Unit) c.in-None.ensures
    ∙ ap (λ made. unwrap_or made value.Unit) (sym (default_in-bare c.args.decls.now c.args.ty.now))
