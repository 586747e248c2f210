use Rattle.std.proofs.Common.{rules, arith}
use Rattle.std.proofs.lemmas.Grind.{common_steps}
use Rattle.syn_grammar.specs.Types.{type_bracket}
use Rattle.syn_grammar.proofs.MadeDepths.{type_depth-Array-of}
use Rattle.syn_types.proofs.rules.Rules.type_bracket.Goals as goal

pub returns : goal.returns
unfolding type_bracket
returns g c =
    let deep = type_depth-Array-of c.in_ok-elem-2.elem c.in_ok-len.len c.args.span in
    (first_of (search rules, grind (arith, common_steps)), first_of (grind (arith, common_steps), cc), omega (arith, c.in_ok-elem.ensures.2, c.in_ok-len.ensures.2))
