use Rattle.std.proofs.Common.{rules, ap, ◌∙◌}
use Rattle.error_core.specs.ErrorView.{leaves}
use Rattle.error_core.proofs.ToldLemmas.{leaves_spanned}
use Rattle.error_core.proofs.error.Error.with_span_at.Goals as goal

pub returns-clause-told : goal.returns-clause-told
returns-clause-told c = search rules

pub returns-clause-leaves : goal.returns-clause-leaves
returns-clause-leaves c = ap leaves (returns-clause-told c) ∙ leaves_spanned c.args.self c.args.span
