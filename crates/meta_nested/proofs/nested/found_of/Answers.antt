use Rattle.std.proofs.Common.{rules, arith, []}
use Rattle.std.proofs.lemmas.Grind.{common_steps}
use Rattle.tok_types.specs.declared.tree.TokenStream.{out-TokenStream}
use Rattle.syn_grammar.specs.Input.{items_after, start_of}
use Rattle.meta_nested.specs.Nested.{found_of, item}
use Rattle.meta_nested.proofs.nested.found_of.Goals as goal

pub returns : goal.returns
unfolding found_of
returns c =
    let read = c.all_of.ensures (items_after item [] (start_of (out-TokenStream c.args.tokens.now).trees)) (search rules) in
    first_of (search rules, grind (arith, common_steps))
