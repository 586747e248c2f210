use Rattle.std.proofs.Common.{◌∙◌, ap, unwrap_or}
use Rattle.util_table.specs.Table.{renamed}
use Rattle.util_table.specs.declared.rule.RenameRule.TheVariants.{Keep}
use Rattle.util_table.proofs.Looking.{renamed-rule_of}
use Rattle.util_table.proofs.table.RenameTable.named.Goals as goal

pub returns-clause-names : goal.returns-clause-names
returns-clause-names c kind identifier =
    ap (λ it. renamed c.args.self.now it kind identifier) (c.unwrap_or.ensures ∙ ap (λ it. unwrap_or it Keep) c.find.ensures)
    ∙ renamed-rule_of c.args.self.now c.args.rule.now kind identifier
