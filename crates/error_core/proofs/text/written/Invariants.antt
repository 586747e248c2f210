use Rattle.std.proofs.Common.{◌≡◌, ◌++◌, true, [], drop}
use Rattle.error_core.specs.Written.{written}
use Rattle.error_core.proofs.text.written.Given as goal

abbrev pub invariant-loop-node : goal.invariant-loop-node
invariant-loop-node l =
    l.out ++ written l.at l.first l.roots (drop l.node-index l.nodes) ≡ written 0 true [] l.nodes
