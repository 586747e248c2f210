use Rattle.body_usage.specs.Mentions.{seen}
use Rattle.body_usage.specs.Occurs.{is_type_param}
use Rattle.body_usage.proofs.Selected.{extended-more}
use Rattle.body_usage.proofs.Tests.{any-more}
use Rattle.body_usage.proofs.mentions.add_type_params.Goals as goal

pub loop-found-preserved : goal.loop-found-preserved
loop-found-preserved c =
    extended-more _ _ _ _ _ _ c.loop-found.invariant c.in_ok-add_type_param.ensures (λ name. any-more (is_type_param c.args.options.now name) seen c.args.list.now c.loop-found.found-index _ c.loop-found-test.true c.found-item.is)
