use Rattle.std.proofs.Common.{◌≡◌, ◌∙◌, true, ap, rules, sym}
use Rattle.node_core.specs.Meta.{path_of_meta}
use Rattle.machine_outer.specs.Seen.{aside_of}
use Rattle.machine_read.specs.Attributes.{keep, passes}
use Rattle.machine_read.specs.Progress.{Going}
use Rattle.machine_state.specs.Seen.{progress_of}
use Rattle.machine_run.proofs.forward.keep.Goals as goal

pub returns-in_ok-keep-in-None : goal.returns-in_ok-keep-in-None
returns-in_ok-keep-in-None c state =
    let attribute = c.args.attribute.now in
    let aside = aside_of c.args.aside.now in
    let passing = passes c.args.forward.now (path_of_meta attribute.meta) in
    let passed : true ≡ passing = search rules in
    c.in_ok-keep-in-None.ensures state ∙ ap (λ it. keep it attribute (Going state aside)) passed
    ∙ ap (λ come. keep passing attribute (progress_of state aside come)) (sym c.in-None.ensures)
