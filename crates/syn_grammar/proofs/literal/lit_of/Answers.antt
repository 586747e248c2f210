use Rattle.std.specs.Str.{chars}
use Rattle.syn_grammar.proofs.Literals.{IsValueOf-value_of}
use Rattle.syn_grammar.proofs.literal.lit_of.Goals as goal

pub returns-clause-value : goal.returns-clause-value
returns-clause-value c =
    (c.in_ok-value.value, c.lit_by.ensures, rw (c.in_ok-value.ensures, c.as_str.ensures) (IsValueOf-value_of (chars c.args.token.text)))
