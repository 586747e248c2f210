use Rattle.std.proofs.Common.{◌∙◌, ap, is_some, sym}
use Rattle.std.specs.Prelude.{option_and_then}
use Rattle.machine_std.specs.Defaults.{default_among}
use Rattle.machine_std.proofs.Erased.{default_in-bare}
use Rattle.machine_std.proofs.std_host.StdHostHost.has_default.Goals as goal

pub returns-in-Some : goal.returns-in-Some
returns-in-Some c =
    c.has_default.ensures ∙ ap (λ number. is_some (option_and_then (default_among c.args.decls.now) number)) c.in-Some.ensures ∙ ap is_some (sym (default_in-bare c.args.decls.now c.args.ty.now))

pub returns-in-None : goal.returns-in-None
returns-in-None c =
    ap (λ number. is_some (option_and_then (default_among c.args.decls.now) number)) c.in-None.ensures ∙ ap is_some (sym (default_in-bare c.args.decls.now c.args.ty.now))
