use Rattle.tok_core.proofs.Trees.{flat_stream-same}
use Rattle.tok_core.proofs.laws.flat_tokens_tell_the_stream.Goals as goal

pub returns : goal.returns
returns c = flat_stream-same
