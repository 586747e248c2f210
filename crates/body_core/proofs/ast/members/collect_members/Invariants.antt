use Rattle.std.proofs.Common.{◌≡◌, ◌++◌, flat_map, map, drop}
use Rattle.std.specs.List.{filter_map}
use Rattle.error_fault.specs.Outcome.{faults_of, value_of}
use Rattle.error_core.specs.ErrorView.{held}
use Rattle.body_core.proofs.ast.members.collect_members.Given as goal

abbrev pub invariant-loop-node : goal.invariant-loop-node
invariant-loop-node g l = record {
  values : filter_map (λ node. value_of (g.R.ReadMember.meaning node)) l.nodes
      ≡ map g.R.ReadMember.seen l.members ++ filter_map (λ node. value_of (g.R.ReadMember.meaning node)) (drop l.node-index l.nodes);
  faults : held l.initial.errors ++ flat_map (λ node. faults_of (g.R.ReadMember.meaning node)) l.nodes
      ≡ held l.errors ++ flat_map (λ node. faults_of (g.R.ReadMember.meaning node)) (drop l.node-index l.nodes);
}
