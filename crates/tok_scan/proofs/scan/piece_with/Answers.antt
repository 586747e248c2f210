use Rattle.tok_scan.proofs.Pieces.{found_clause, none_clause, within_clause}
use Rattle.tok_scan.proofs.scan.piece_with.Goals as goal

pub returns-clause-found : goal.returns-clause-found
returns-clause-found c = found_clause c.args.text.now c.cut.result c.cut.ensures

pub returns-clause-none : goal.returns-clause-none
returns-clause-none c = none_clause c.args.text.now c.cut.result c.cut.ensures

pub returns-clause-within : goal.returns-clause-within
returns-clause-within c = within_clause c.args.text.now c.cut.result c.cut.ensures
