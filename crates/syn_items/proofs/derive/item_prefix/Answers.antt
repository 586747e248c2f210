use Rattle.std.proofs.Common.{◌-◌, ◌≤◌, List, length, arith, sym, ap, ◌∙◌, subst, inl, inr}
use Rattle.tok_types.specs.declared.tree.TokenTree.{TokenTree}
use Rattle.syn_items.specs.Trees.{IsItemPrefix}
use Rattle.syn_items.proofs.ItemPrefix.{AtItem, AtItem-front, AtItem-more, AtItem-start, AtItem-within, item-shorter, nothing-left}
use Rattle.syn_items.proofs.derive.item_prefix.Goals as goal

pub loop-turn-init : goal.loop-turn-init
loop-turn-init c = rw c.new-left.ensures (AtItem-start c.as_slice-trees.result.now, omega arith, omega arith)

pub overflow_sub-front : goal.overflow_sub-front
overflow_sub-front c =
    let trees = c.as_slice-trees.result.now in
    let more = AtItem-more trees c.loop-turn.left c.pass_item.new.tokens c.in-Ok.ensures.0 c.loop-turn.invariant.0 c.in-Ok.ensures.1 in
    omega (arith, AtItem-within trees c.pass_item.new.tokens more, c.left.ensures)

pub loop-turn-preserved : goal.loop-turn-preserved
loop-turn-preserved c =
    let trees = c.as_slice-trees.result.now in
    let more = AtItem-more trees c.loop-turn.left c.pass_item.new.tokens c.in-Ok.ensures.0 c.loop-turn.invariant.0 c.in-Ok.ensures.1 in
    let shorter = item-shorter c.loop-turn.left c.pass_item.new.tokens c.in-Ok.ensures.0 c.in-Ok.ensures.1 in
    (more, ap (λ left. length trees - left) c.left.ensures, omega (arith, shorter, c.loop-turn.invariant.2))

pub returns-in-Err-Syntax : goal.returns-in-Err-Syntax
returns-in-Err-Syntax c =
    let trees = c.as_slice-trees.ensures in
    let read = subst (λ (trees : List TokenTree). AtItem trees c.loop-turn.left) trees c.loop-turn.invariant.0 in
    let front = c.loop-turn.invariant.1 ∙ ap (λ (trees : List TokenTree). length trees - length c.loop-turn.left.rest) trees in
    let refused = rw c.in-Err-Syntax.field-0-is at c.in-Err-Syntax.ensures in
    subst (IsItemPrefix c.args.tokens.now) (sym front) (AtItem-front c.args.tokens.now c.loop-turn.left read (inr refused))

pub returns : goal.returns
returns c =
    let trees = c.as_slice-trees.ensures in
    let read = subst (λ (trees : List TokenTree). AtItem trees c.loop-turn.left) trees c.loop-turn.invariant.0 in
    let front = c.loop-turn.invariant.1 ∙ ap (λ (trees : List TokenTree). length trees - length c.loop-turn.left.rest) trees in
    let none : length c.loop-turn.left.rest ≤ 0 = omega (arith, c.loop-turn.invariant.2, c.loop-turn-test.false) in
    subst (IsItemPrefix c.args.tokens.now) (sym front) (AtItem-front c.args.tokens.now c.loop-turn.left read (inl (nothing-left c.loop-turn.left.rest none)))
