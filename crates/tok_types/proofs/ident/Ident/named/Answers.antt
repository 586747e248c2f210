use Rattle.std.proofs.Common.{rules}
use Rattle.std.proofs.lemmas.Str.{chars_from_encodes}
use Rattle.tok_types.proofs.ident.Ident.named.Goals as goal

pub returns-then-not-is_ident-clause-refused : goal.returns-then-not-is_ident-clause-refused
returns-then-not-is_ident-clause-refused c = search (rules, chars_from_encodes)

pub returns-clause-made : goal.returns-clause-made
returns-clause-made c = search (rules, chars_from_encodes)
