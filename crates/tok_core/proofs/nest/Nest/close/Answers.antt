use Rattle.std.proofs.Common.{◌≡◌, true, [], ◌∷◌, ◌++◌, Some, drop, refl, sym, ap, ◌∙◌}
use Rattle.tok_core.specs.Endings.{is_top}
use Rattle.tok_types.specs.Delimiter.{same_delimiter}
use Rattle.tok_core.specs.Flat.{closing, flat_trees}
use Rattle.tok_core.specs.Nests.{flat_frames, flat_nest}
use Rattle.tok_core.proofs.Nesting.{flat_nest-close, open_over-close, same_delimiter-true}
use Rattle.tok_core.proofs.nest.Nest.close.Goals as goal

pub returns-then-not-same_delimiter-clause-err : goal.returns-then-not-same_delimiter-clause-err
returns-then-not-same_delimiter-clause-err c =
    let s = open_over-close c.args.self.now.frames c.pop.new.self c.in-Some.frame c.in-Some.ensures in
    (refl, ap (is_top c.args.delimiter) s ∙ cc)

pub returns-clause-was_top : goal.returns-clause-was_top
returns-clause-was_top c =
    let s = open_over-close c.args.self.now.frames c.pop.new.self c.in-Some.frame c.in-Some.ensures in
    ap (is_top c.args.delimiter) s ∙ cc

pub returns-clause-one_less : goal.returns-clause-one_less
returns-clause-one_less c =
    let s = open_over-close c.args.self.now.frames c.pop.new.self c.in-Some.frame c.in-Some.ensures in
    sym (ap (drop 1) s)

pub returns-clause-flat : goal.returns-clause-flat
returns-clause-flat c =
    let frame = c.in-Some.frame in
    let outer = rw (c.replace-trees.ensures.after, c.into_parts-opened.ensures) at c.in_ok-push.ensures.ok in
    let group = rw c.into_parts-opened.ensures at c.in_ok-group.ensures in
    let yes : same_delimiter c.args.delimiter frame.delimiter ≡ true = cc in
    flat_nest-close c.args.source c.args.end c.args.self.now.frames c.pop.new.self frame c.replace-trees.result c.push.new.self c.in_ok-group.group
    c.in-Some.ensures outer group
    ∙ ap (λ ts. (flat_frames c.args.source c.args.self.now.frames ++ flat_trees ts) ++ closing frame.delimiter (Some (c.args.source, c.args.end)) ∷ []) c.replace-trees.ensures.value
    ∙ ap (λ d. flat_nest c.args.source c.args.self.now ++ closing d (Some (c.args.source, c.args.end)) ∷ []) (sym (same_delimiter-true c.args.delimiter frame.delimiter yes))
