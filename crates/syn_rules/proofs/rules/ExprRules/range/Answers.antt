use Rattle.std.proofs.Common.{◌+◌, rules}
use Rattle.std.proofs.lemmas.Result.{err_from_is_err_and}
use Rattle.syn_grammar.specs.Grammar.{within}
use Rattle.syn_rules.proofs.Kept.{range-refused}
use Rattle.syn_rules.proofs.rules.ExprRules.range.Goals as goal

pub returns-in_err-left : goal.returns-in_err-left
returns-in_err-left g c =
    let p = err_from_is_err_and c.from_residual.result c.from_residual.ensures.1 in
    rw (p.1, p.2) (range-refused (within c.args.self.now.rules.depth) (c.args.self.now.rules.depth + 1) _ _ _ c.in_err-left.field-0.0 (search rules) c.in_err-left.ensures)
