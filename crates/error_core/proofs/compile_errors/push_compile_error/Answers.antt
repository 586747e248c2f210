use Rattle.error_core.proofs.TokenLemmas.{OnOk-three}
use Rattle.error_core.proofs.compile_errors.push_compile_error.Goals as goal

pub returns : goal.returns
returns c =
    OnOk-three _ _ _ _ _ _ _ _ c.in_ok-push_segment.ensures c.in_ok-push_segment-2.ensures c.push_call.ensures
