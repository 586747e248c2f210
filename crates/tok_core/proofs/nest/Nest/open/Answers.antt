use Rattle.std.proofs.Common.{◌++◌, ◌∷◌, ◌∙◌, ap, [], Some}
use Rattle.tok_core.specs.Flat.{flat_trees, opening}
use Rattle.tok_core.specs.Nests.{flat_frames, open_over}
use Rattle.tok_core.proofs.Nesting.{flat_nest-open, open_over-push}
use Rattle.tok_core.proofs.nest.Nest.open.Goals as goal

pub returns-clause-flat : goal.returns-clause-flat
returns-clause-flat c source =
    flat_nest-open source c.args.self.now.frames c.push.new.self _ c.replace-trees.new.dest c.in_ok-push.ensures.ok (c.replace-trees.ensures.after ∙ c.new.ensures)
    ∙ ap (λ ts. (flat_frames source c.args.self.now.frames ++ flat_trees ts) ++ opening c.args.delimiter (Some (source, c.args.start)) ∷ []) c.replace-trees.ensures.value

pub returns-clause-one_more : goal.returns-clause-one_more
returns-clause-one_more c = ap (open_over []) c.in_ok-push.ensures.ok ∙ open_over-push [] c.args.self.now.frames _
