use Rattle.std.proofs.Common.{◌-◌, ◌∙◌, sym, ap}
use Rattle.std.proofs.lemmas.List.{take_rest}
use Rattle.syn_grammar.specs.Token.{is_colons}
use Rattle.meta_nested.proofs.Before.{colons-before, colons-behind}
use Rattle.meta_nested.proofs.angles.behind_colons.Goals as goal

pub returns-then-index-lt2 : goal.returns-then-index-lt2
returns-then-index-lt2 c = sym (colons-before c.args.index c.args.trees.now c.if-index-lt2.true)

pub returns : goal.returns
returns c = c.is_colons.ensures ∙ ap is_colons (take_rest c.args.trees.now (c.args.index - 2)) ∙ sym (colons-behind c.args.index c.args.trees.now c.if-index-lt2.false c.requires)
