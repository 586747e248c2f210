use Rattle.std.proofs.Common.{◌++◌, ap, append-nil, ◌∙◌}
use Rattle.body_usage.specs.Parameters.{declared_lifetime}
use Rattle.body_usage.proofs.Selected.{set-of-itself}
use Rattle.body_usage.proofs.generics_ext.declare_lifetime.Goals as goal

pub returns-in-Ty : goal.returns-in-Ty
returns-in-Ty c = set-of-itself _ _ (ap (λ it. c.args.declared.now.keys ++ declared_lifetime it) c.in-Ty.is ∙ append-nil _)

pub returns-in-Const : goal.returns-in-Const
returns-in-Const c = set-of-itself _ _ (ap (λ it. c.args.declared.now.keys ++ declared_lifetime it) c.in-Const.is ∙ append-nil _)
