use Rattle.std.proofs.Common.{◌∙◌, ap, sym}
use Rattle.std.specs.Str.{encode_utf8_all}
use Rattle.std.proofs.lemmas.Str.{chars-IsAscii, encodes-IsAscii}
use Rattle.tok_core.proofs.Bytes.{take-plain, IsAscii-plain}
use Rattle.tok_core.proofs.reading.characters_of.Goals as goal

pub returns-clause-value : goal.returns-clause-value
returns-clause-value c =
    let all = IsAscii-plain c.args.text.now c.as_bytes-byte-items.result.now c.loop-byte.byte-index c.as_bytes-byte-items.ensures.value c.loop-byte-test.false c.loop-byte.invariant.plain in
    take-plain c.args.text.now c.as_bytes-byte-items.result.now c.loop-byte.plain.items c.loop-byte.byte-index c.as_bytes-byte-items.ensures.value c.loop-byte-test.false c.loop-byte.invariant.same
    ∙ sym (chars-IsAscii c.args.text.now all)

pub returns-clause-bytes : goal.returns-clause-bytes
returns-clause-bytes c =
    let all = IsAscii-plain c.args.text.now c.as_bytes-byte-items.result.now c.loop-byte.byte-index c.as_bytes-byte-items.ensures.value c.loop-byte-test.false c.loop-byte.invariant.plain in
    ap encode_utf8_all (take-plain c.args.text.now c.as_bytes-byte-items.result.now c.loop-byte.plain.items c.loop-byte.byte-index c.as_bytes-byte-items.ensures.value c.loop-byte-test.false c.loop-byte.invariant.same)
    ∙ encodes-IsAscii c.args.text.now all
