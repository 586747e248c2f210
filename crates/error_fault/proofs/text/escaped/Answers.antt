use Rattle.std.proofs.Common.{rules}
use Rattle.error_fault.proofs.EscapeLemmas.{escaped-plain}
use Rattle.error_fault.proofs.text.escaped.Goals as goal

pub returns-else-has_escapes : goal.returns-else-has_escapes
returns-else-has_escapes c =
    rw (escaped-plain c.args.text.now c.utf8.text (search rules)) c.from_str.ensures
