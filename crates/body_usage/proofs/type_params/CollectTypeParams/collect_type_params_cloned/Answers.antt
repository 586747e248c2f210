use Rattle.std.proofs.lemmas.Result.{IfOk-weaker}
use Rattle.body_usage.proofs.Selected.{selected-copies}
use Rattle.body_usage.proofs.type_params.CollectTypeParams.collect_type_params_cloned.Goals as goal

pub returns : goal.returns
returns g c = IfOk-weaker c.copies.result _ _ (λ answer copied. selected-copies _ _ answer.keys c.in_ok-used.ensures copied) c.copies.ensures
