use Rattle.std.proofs.Common.{subst}
use Rattle.error_fault.specs.Outcome.{Outcome}
use Rattle.error_core.specs.Answers.{Answers}
use Rattle.options_meta.specs.declared.from_meta.FromMetaOptions.{FromMetaOptions}
use Rattle.options_meta.proofs.StageLemmas.{meta_staged-is}
use Rattle.options_meta.proofs.from_meta.FromMetaOptions.new.Goals as goal

pub returns : goal.returns
returns c =
    let P : Outcome FromMetaOptions → Type 0 = λ outcome. Answers (λ it. it) c.read.result outcome in
    subst P (meta_staged-is c.args.table.now c.args.di.now) c.read.ensures
