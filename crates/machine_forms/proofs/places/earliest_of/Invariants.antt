use Rattle.std.proofs.Common.{◌≡◌, drop}
use Rattle.machine_forms.specs.Places.{earliest_of, sooner}
use Rattle.machine_forms.proofs.places.earliest_of.Given as goal

abbrev pub invariant-loop-thing : goal.invariant-loop-thing
invariant-loop-thing g l = sooner g.T.Placed.span_of l.found (earliest_of g.T.Placed.span_of (drop l.thing-index l.things)) ≡ earliest_of g.T.Placed.span_of l.things
