use Rattle.std.proofs.Common.{arith}
use Rattle.tok_scan.proofs.Bytes.{encode_utf8_all-take_more}
use Rattle.tok_scan.proofs.text.text_of.Goals as goal

pub loop-c-preserved : goal.loop-c-preserved
loop-c-preserved c =
    let e = encode_utf8_all-take_more c.args.characters.now c.loop-c.c-index c.c-item.result (omega arith) in
    cc (e, c.c-item.is, c.in_ok-push.ensures.bytes, c.loop-c.invariant)
