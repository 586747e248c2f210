use Rattle.std.proofs.Common.{◌≡◌, [], true, ap, ◌∙◌}
use Rattle.error_core.specs.ErrorView.{error_text}
use Rattle.error_core.specs.Written.{written}
use Rattle.error_core.proofs.PreorderLemmas.{holds}
use Rattle.error_core.proofs.WrittenLemmas.{written-nodes_of}
use Rattle.error_core.proofs.error.Error.to_text.Goals as goal

pub returns : goal.returns
returns c =
    let is : written 0 true [] c.as_slice.result.now ≡ error_text c.args.self.now =
    ap (written 0 true []) (c.as_slice.ensures ∙ holds c.self.inside.nodes c.args.self.now c.self.invariant c.self.view_is)
    ∙ written-nodes_of c.args.self.now in
    rw is at c.written.ensures
