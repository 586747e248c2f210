use Rattle.tok_core.proofs.Respanned.{flat_stream-stream_at}
use Rattle.tok_core.proofs.laws.one_span_keeps_the_tokens.Goals as goal

pub returns : goal.returns
returns c = flat_stream-stream_at
