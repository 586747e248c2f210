use Rattle.std.proofs.Common.{ap, ◌∙◌}
use Rattle.error_core.specs.Walk.{top_of}
use Rattle.error_core.proofs.RootsLemmas.{last_reverse}
use Rattle.error_core.proofs.roots.Roots.top.Goals as goal

pub returns : goal.returns
returns c = c.last.ensures.value ∙ last_reverse c.self.inside.frames ∙ ap top_of c.self.view_is
