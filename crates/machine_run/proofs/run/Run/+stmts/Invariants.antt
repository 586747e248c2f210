use Rattle.std.proofs.Common.{◌≡◌, ◌+◌, ◌*◌, drop, fold}
use Rattle.machine_read.specs.Asked.{asked_of}
use Rattle.machine_read.specs.Attributes.{on_attribute}
use Rattle.machine_read.specs.Statements as spec
use Rattle.machine_run.specs.Runs.{in_run, on_list}
use Rattle.machine_run.specs.Steps.{reached}
use Rattle.machine_run.proofs.run.Run.+stmts.Given as goal

abbrev pub decreases-run_from : goal.decreases-run_from
decreases-run_from g l = 6 * l.nesting + 5

abbrev pub decreases-act : goal.decreases-act
decreases-act g l = 6 * l.nesting + 4

abbrev pub decreases-for_attributes : goal.decreases-for_attributes
decreases-for_attributes g l = 6 * l.nesting + 3

abbrev pub decreases-on_meta : goal.decreases-on_meta
decreases-on_meta g l = 6 * l.nesting + 2

abbrev pub decreases-on_items : goal.decreases-on_items
decreases-on_items g l = 6 * l.nesting + 1

abbrev pub decreases-inside : goal.decreases-inside
decreases-inside g l = 6 * l.nesting

abbrev pub decreases-variants : goal.decreases-variants
decreases-variants g l = 6 * l.nesting + 1

abbrev pub invariant-run_from-loop-stmt : goal.invariant-run_from-loop-stmt
invariant-run_from-loop-stmt g l =
    let does = in_run g.H.Host.says g.D.Declared.earlier l.self spec.run_from in
    does (drop l.stmt-index l.stmts) (asked_of l.asked) (reached l.standing l.progress)
    ≡ does l.stmts (asked_of l.asked) (reached l.initial.standing l.initial.progress)

abbrev pub invariant-for_attributes-loop-attribute : goal.invariant-for_attributes-loop-attribute
invariant-for_attributes-loop-attribute g l =
    let reads = fold (on_attribute (on_list g.H.Host.says g.D.Declared.earlier l.self l.stmts) l.names l.forward) in
    reads (reached l.standing l.progress) (drop l.attribute-index l.attributes)
    ≡ reads (reached l.initial.standing l.initial.progress) l.attributes
