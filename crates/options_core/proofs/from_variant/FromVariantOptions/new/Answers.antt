use Rattle.std.proofs.Common.{subst}
use Rattle.error_fault.specs.Outcome.{Outcome}
use Rattle.error_core.specs.Answers.{Answers}
use Rattle.options_core.specs.declared.from_variant.FromVariantOptions.{FromVariantOptions}
use Rattle.options_core.proofs.StageLemmas.{from_variant_staged-is}
use Rattle.options_core.proofs.from_variant.FromVariantOptions.new.Goals as goal

pub returns : goal.returns
returns c =
    let P : Outcome FromVariantOptions → Type 0 = λ outcome. Answers (λ it. it) c.read.result outcome in
    subst P (from_variant_staged-is c.args.table.now c.args.di.now) c.read.ensures
