use Rattle.std.proofs.Common.{◌∙◌, ap, sym, if◌then◌else◌, Some, None, codes}
use Rattle.machine_host.specs.Made.{named_type}
use Rattle.machine_std.proofs.Erased.{taken-bare}
use Rattle.machine_std.proofs.std_host.StdHostHost.takes.Goals as goal

pub returns-then-is_transform : goal.returns-then-is_transform
returns-then-is_transform c =
    ap Some c.args.self.now.is_text
    ∙ sym (taken-bare c.args.call.now ∙ ap (λ b. if b then Some (named_type (codes "String")) else None) (sym c.is_transform.ensures ∙ c.if-is_transform.true))

pub returns : goal.returns
returns c =
    sym (taken-bare c.args.call.now ∙ ap (λ b. if b then Some (named_type (codes "String")) else None) (sym c.is_transform.ensures ∙ c.if-is_transform.false))
