use Rattle.std.proofs.Common.{Some, sym, ap, ◌∙◌}
use Rattle.meta_reads.proofs.Read.{tokens_in-read, tokens_in-long, tokens_in-refused}
use Rattle.meta_reads.proofs.tokens.tokens_of_text.Goals as goal

pub returns-then-text-gt-MAX_LEN : goal.returns-then-text-gt-MAX_LEN
returns-then-text-gt-MAX_LEN c = sym (tokens_in-long c.args.text.now c.args.span c.if-text-gt-MAX_LEN.true)

pub returns-in-Ok : goal.returns-in-Ok
returns-in-Ok c =
    ap Some c.respan.ensures
    ∙ sym (tokens_in-read c.args.text.now c.args.span c.in-Ok.tokens c.if-text-gt-MAX_LEN.false c.in-Ok.ensures.spelled c.in-Ok.ensures.within)

pub returns-in-Err-TooDeep : goal.returns-in-Err-TooDeep
returns-in-Err-TooDeep c = sym (tokens_in-refused c.args.text.now c.args.span c.in-Err-TooDeep.field-0 (λ h. let e = c.in-Err-TooDeep.field-0-is in cc) c.in-Err-TooDeep.ensures.only)

pub returns-in-Err-Syntax : goal.returns-in-Err-Syntax
returns-in-Err-Syntax c = sym (tokens_in-refused c.args.text.now c.args.span c.in-Err-Syntax.field-0 (λ h. let e = c.in-Err-Syntax.field-0-is in cc) c.in-Err-Syntax.ensures.only)
