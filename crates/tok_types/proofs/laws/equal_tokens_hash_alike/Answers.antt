use Rattle.tok_types.specs.contracts.tree.GroupHash.TheImpl.Laws as group
use Rattle.tok_types.specs.contracts.tree.TokenStreamHash.TheImpl.Laws as stream
use Rattle.tok_types.specs.contracts.tree.TokenTreeHash.TheImpl.Laws as tree
use Rattle.tok_types.proofs.laws.equal_tokens_hash_alike.Goals as goal

pub returns-clause-group : goal.returns-clause-group
returns-clause-group c = record { fed = group.respects_eq-law }

pub returns-clause-tree : goal.returns-clause-tree
returns-clause-tree c = record { fed = tree.respects_eq-law }

pub returns-clause-stream : goal.returns-clause-stream
returns-clause-stream c = record { fed = stream.respects_eq-law }
