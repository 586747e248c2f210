use Rattle.body_usage.specs.Parameters.{declared_ident}
use Rattle.body_usage.proofs.Selected.{set-of-next}
use Rattle.body_usage.proofs.generics_ext.GenericsGenericsExt.declared_type_params.Goals as goal

pub loop-param-preserved : goal.loop-param-preserved
loop-param-preserved c =
    set-of-next declared_ident _ _ c.loop-param.param-index _ c.loop-param.declared.keys _ c.as_slice-param-items.ensures c.loop-param-test.true c.param-item.is c.loop-param.invariant c.in_ok-declare_type_param.ensures
