use Rattle.std.proofs.Common.{◌∙◌}
use Rattle.error_core.proofs.error.Error.add_sibling_alts_for_unknown_field.Goals as goal

pub returns-clause-told : goal.returns-clause-told
returns-clause-told c = c.add_sibling_alts_among.ensures.told c.args.alts.now (c.in_ok-shared.ensures ∙ c.in_ok-name_set.ensures)

pub returns-clause-leaves : goal.returns-clause-leaves
returns-clause-leaves c = c.add_sibling_alts_among.ensures.leaves c.args.alts.now (c.in_ok-shared.ensures ∙ c.in_ok-name_set.ensures)
