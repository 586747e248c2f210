-- What may stand behind an operand.
use Rattle.std.specs.Prelude.{Bool, true, false}
use Rattle.syn_grammar.specs.declared.look.PostfixStart.{PostfixStart}
use Rattle.syn_grammar.specs.declared.look.PostfixStart.TheVariants as postfix

-- whether something does
abbrev pub goes_on : PostfixStart → Bool
goes_on postfix.Nothing = false
goes_on _ = true
