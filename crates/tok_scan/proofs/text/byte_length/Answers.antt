use Rattle.std.proofs.Common.{take, arith}
use Rattle.std.proofs.lemmas.List.{length-take-le}
use Rattle.tok_scan.proofs.Bytes.{length-encode_utf8_all-take_more, length-encode_utf8_all-le}
use Rattle.tok_scan.proofs.text.byte_length.Goals as goal

pub overflow_add-bytes : goal.overflow_add-bytes
overflow_add-bytes c =
    let front = take c.loop-c.c-index c.args.characters.now in
    let few = length-encode_utf8_all-le front in
    let size = length-take-le c.loop-c.c-index c.args.characters.now (omega arith) in
    omega (arith, few, size, c.loop-c.invariant, c.len_utf8-bytes.ensures.upper_bound, c.loop-c.auto.c-index-end)

pub loop-c-preserved : goal.loop-c-preserved
loop-c-preserved c =
    let e = length-encode_utf8_all-take_more c.args.characters.now c.loop-c.c-index c.c-item.result (omega arith) in let i = c.c-item.is in grind (arith)
