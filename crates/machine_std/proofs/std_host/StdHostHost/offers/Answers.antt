use Rattle.std.proofs.Common.{◌∙◌, ap, is_some, sym}
use Rattle.machine_std.specs.Functions.{offer_of}
use Rattle.machine_std.proofs.Erased.{offer_for-bare}
use Rattle.machine_std.proofs.Members.{is_some-map}
use Rattle.machine_std.proofs.std_host.StdHostHost.offers.Goals as goal

pub returns : goal.returns
returns c =
    c.is_some.ensures ∙ sym (is_some-map offer_of c.function_for.result) ∙ ap is_some (c.function_for.ensures ∙ sym (offer_for-bare c.args.decls.now c.args.call c.args.place.now))
