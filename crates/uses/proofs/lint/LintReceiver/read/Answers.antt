use Rattle.std.proofs.Common.{rules}
use Rattle.receive_core.proofs.SeenLemmas.{list_seen, option_seen}
use Rattle.uses.proofs.lint.LintReceiver.read.Goals as goal

-- what two of the calls found, by the items that all fields are read from
pub returns : goal.returns
returns c =
    let allowed = list_seen _ _ (rw c.in_ok-name.ensures.items at c.in_ok-allowed.ensures.value) in
    let level = option_seen _ _ (rw (c.in_ok-allowed.ensures.items, c.in_ok-name.ensures.items) at c.in_ok-optional.ensures.value) in
    (search rules, search rules)
