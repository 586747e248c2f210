use Rattle.std.proofs.Common.{rules, arith}
use Rattle.std.proofs.lemmas.Grind.{common_steps}
use Rattle.syn_grammar.specs.Input.{start_of}
use Rattle.syn_grammar.specs.Token.{contents_of}
use Rattle.syn_items.specs.Visibility.{restriction, restriction_in}
use Rattle.syn_items.proofs.restriction.restriction_in.Goals as goal

pub returns : goal.returns
unfolding restriction_in
returns c =
    let read = c.all_of.ensures (restriction (start_of (contents_of c.args.trees.now))) (search rules) in
    first_of (search rules, grind (arith, common_steps))
