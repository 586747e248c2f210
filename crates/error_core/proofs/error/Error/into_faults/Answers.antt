use Rattle.std.proofs.Common.{◌≡◌, [], ap, ◌∙◌}
use Rattle.error_core.specs.ErrorView.{leaves}
use Rattle.error_core.specs.Walk.{run}
use Rattle.error_core.proofs.WalkLemmas.{run-nodes_of}
use Rattle.error_core.proofs.error.Error.into_faults.Goals as goal

pub returns : goal.returns
returns c =
    let is : run 0 [] c.into_vec.result.items ≡ leaves c.args.self =
    ap (run 0 []) (c.into_vec.ensures ∙ c.into_nodes.ensures) ∙ run-nodes_of c.args.self in
    rw is at c.walk.ensures
