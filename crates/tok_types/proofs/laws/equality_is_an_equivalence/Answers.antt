use Rattle.tok_types.specs.contracts.tree.GroupEq.TheImpl.Laws as group
use Rattle.tok_types.specs.contracts.tree.TokenStreamEq.TheImpl.Laws as stream
use Rattle.tok_types.specs.contracts.tree.TokenTreeEq.TheImpl.Laws as tree
use Rattle.tok_types.proofs.laws.equality_is_an_equivalence.Goals as goal

pub returns-clause-group : goal.returns-clause-group
returns-clause-group c = group.laws-law

pub returns-clause-tree : goal.returns-clause-tree
returns-clause-tree c = tree.laws-law

pub returns-clause-stream : goal.returns-clause-stream
returns-clause-stream c = stream.laws-law
