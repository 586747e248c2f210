use Rattle.std.proofs.Common.{◌≡◌, Some, map, take}
use Rattle.machine_execute.specs.Elements.{OnInput, machine_on}
use Rattle.run_source.proofs.run.outcomes_by.Given as goal

abbrev pub invariant-loop-subject : goal.invariant-loop-subject
invariant-loop-subject g l =
    map Some l.outcomes ≡ map (λ subject. machine_on (g.H.Host.says l.host) l.program l.unit (OnInput subject)) (take l.subject-index l.subjects)
