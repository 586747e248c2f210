use Rattle.std.proofs.Common.{rules}
use Rattle.error_fault.proofs.EscapeLemmas.{escaped-plain}
use Rattle.error_fault.proofs.text.push_escaped.Goals as goal

pub returns-else-has_escapes-clause-ok : goal.returns-else-has_escapes-clause-ok
returns-else-has_escapes-clause-ok c =
    rw (escaped-plain c.args.text.now c.utf8.text (search rules)) c.push_str-else-has_escapes.ensures.ok
