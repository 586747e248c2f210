use Rattle.std.specs.Str.{chars}
use Rattle.syn_grammar.proofs.Literals.{IfOk-value_of}
use Rattle.syn_grammar.proofs.literal.value_of.Goals as goal

pub returns : goal.returns
returns c = IfOk-value_of (chars c.args.text.now) c.value_of.result c.value_of.ensures.some c.value_of.ensures.none
