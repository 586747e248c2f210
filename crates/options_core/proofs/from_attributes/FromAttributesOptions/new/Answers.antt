use Rattle.std.proofs.Common.{subst}
use Rattle.error_fault.specs.Outcome.{Outcome}
use Rattle.error_core.specs.Answers.{Answers}
use Rattle.options_core.specs.declared.from_attributes.FromAttributesOptions.{FromAttributesOptions}
use Rattle.options_core.proofs.StageLemmas.{attributes_whole-is}
use Rattle.options_core.proofs.from_attributes.FromAttributesOptions.new.Goals as goal

pub returns : goal.returns
returns c =
    let P : Outcome FromAttributesOptions → Type 0 = λ outcome. Answers (λ it. it) c.read_whole.result outcome in
    subst P (attributes_whole-is c.args.table.now c.args.di.now) c.read_whole.ensures
