use Rattle.std.proofs.Common.{◌++◌, ap, append-nil, ◌∙◌}
use Rattle.body_usage.specs.Parameters.{declared_ident}
use Rattle.body_usage.proofs.Selected.{set-of-itself}
use Rattle.body_usage.proofs.generics_ext.declare_type_param.Goals as goal

pub returns-in-Lifetime : goal.returns-in-Lifetime
returns-in-Lifetime c = set-of-itself _ _ (ap (λ it. c.args.declared.now.keys ++ declared_ident it) c.in-Lifetime.is ∙ append-nil _)

pub returns-in-Const : goal.returns-in-Const
returns-in-Const c = set-of-itself _ _ (ap (λ it. c.args.declared.now.keys ++ declared_ident it) c.in-Const.is ∙ append-nil _)
