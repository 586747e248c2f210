use Rattle.std.proofs.Common.{rules}
use Rattle.tok_types.proofs.Idents.{is_ident-raw}
use Rattle.tok_types.proofs.ident.Ident.new.Goals as goal

pub returns-in-Some-clause-refused : goal.returns-in-Some-clause-refused
returns-in-Some-clause-refused c = search (rules, is_ident-raw)
