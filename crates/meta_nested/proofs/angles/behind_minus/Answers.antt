use Rattle.std.proofs.Common.{◌-◌, ◌&&◌, ◌∙◌, sym, ap}
use Rattle.std.proofs.lemmas.List.{take_rest}
use Rattle.tok_types.specs.Ascii.{minus}
use Rattle.syn_grammar.specs.Token.{is_joint, is_mark}
use Rattle.meta_nested.proofs.Before.{minus-before, minus-behind}
use Rattle.meta_nested.proofs.angles.behind_minus.Goals as goal

pub returns-then-index-lt1 : goal.returns-then-index-lt1
returns-then-index-lt1 c = sym (minus-before c.args.index c.args.trees.now c.if-index-lt1.true)

pub returns : goal.returns
returns c = c.is_joint_minus.ensures ∙ ap (λ trees. is_joint trees && is_mark minus trees) (take_rest c.args.trees.now (c.args.index - 1)) ∙ sym (minus-behind c.args.index c.args.trees.now c.if-index-lt1.false c.requires)
