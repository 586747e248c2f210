use Rattle.std.proofs.Common.{subst}
use Rattle.error_fault.specs.Outcome.{Outcome}
use Rattle.error_core.specs.Answers.{Answers}
use Rattle.options_core.specs.declared.from_field.FromFieldOptions.{FromFieldOptions}
use Rattle.options_core.proofs.StageLemmas.{from_field_staged-is}
use Rattle.options_core.proofs.from_field.FromFieldOptions.new.Goals as goal

pub returns : goal.returns
returns c =
    let P : Outcome FromFieldOptions → Type 0 = λ outcome. Answers (λ it. it) c.read.result outcome in
    subst P (from_field_staged-is c.args.table.now c.args.di.now) c.read.ensures
