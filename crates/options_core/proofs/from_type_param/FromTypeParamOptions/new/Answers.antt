use Rattle.std.proofs.Common.{subst}
use Rattle.error_fault.specs.Outcome.{Outcome}
use Rattle.error_core.specs.Answers.{Answers}
use Rattle.options_core.specs.declared.from_type_param.FromTypeParamOptions.{FromTypeParamOptions}
use Rattle.options_core.proofs.StageLemmas.{type_param_staged-is}
use Rattle.options_core.proofs.from_type_param.FromTypeParamOptions.new.Goals as goal

pub returns : goal.returns
returns c =
    let P : Outcome FromTypeParamOptions → Type 0 = λ outcome. Answers (λ it. it) c.read.result outcome in
    subst P (type_param_staged-is c.args.table.now c.args.di.now) c.read.ensures
