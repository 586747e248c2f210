use Rattle.std.proofs.Common.{◌≡◌, ◌∙◌, chars}
use Rattle.tok_core.specs.Printing.{stream_text}
use Rattle.tok_core.proofs.Reread.{chars-stream_text, read_again}
use Rattle.tok_core.proofs.printing.read_again.Goals as goal

pub returns-clause-same : goal.returns-clause-same
returns-clause-same c r =
    let text = c.as_str.result.now in
    let same : text ≡ stream_text c.args.tokens.now = c.as_str.ensures ∙ c.in_ok-text.ensures in
    read_again c.args.source (chars text) c.args.tokens.now r c.lex.result (chars-stream_text c.args.tokens.now r text c.as_str.utf8 same) c.lex.ensures.spelled c.lex.ensures.err

pub returns-clause-spelled : goal.returns-clause-spelled
returns-clause-spelled c =
    let same : c.as_str.result.now ≡ stream_text c.args.tokens.now = c.as_str.ensures ∙ c.in_ok-text.ensures in
    rw same at c.lex.ensures.spelled
