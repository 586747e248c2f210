use Rattle.std.proofs.Common.{rules}
use Rattle.util_core.proofs.ident_string.IdentString.map.Goals as goal

pub returns-in-Err-clause-refused : goal.returns-in-Err-clause-refused
returns-in-Err-clause-refused g c = λ same. (c.into_string.result, c.f-text.result, c.into_string.ensures, c.f-text.ensures, search rules)

pub returns-in-Ok-clause-made : goal.returns-in-Ok-clause-made
returns-in-Ok-clause-made g c = (c.into_string.result, c.f-text.result, c.into_string.ensures, c.f-text.ensures, search rules)
