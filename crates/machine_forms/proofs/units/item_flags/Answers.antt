use Rattle.std.proofs.Common.{◌<◌, ◌+◌, ◌++◌, ◌∙◌, Bool, List, length, drop, ap, sym, arith}
use Rattle.machine_forms.specs.Units.{flags_from}
use Rattle.machine_forms.proofs.Groups.{flags-more}
use Rattle.machine_forms.proofs.units.item_flags.Goals as goal

pub loop-number-preserved : goal.loop-number-preserved
loop-number-preserved c =
    let units = c.args.program.now.units in
    let decls = c.args.program.now.decls in
    let number = c.loop-number.number in
    let lt : number < length decls = omega arith in
    c.loop-number.invariant
    ∙ flags-more units decls c.args.groups.now c.requires number lt _ c.index-groups-number.is c.loop-number.flags c.reads_items.result (rw c.as_slice.ensures at c.reads_items.ensures)
    ∙ ap (λ (flags : List Bool). flags ++ flags_from units (number + 1) (drop (number + 1) decls)) (sym c.in_ok-push.ensures.ok)
