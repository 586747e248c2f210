use Rattle.std.proofs.Common.{◌∙◌, sym}
use Rattle.machine_outer.specs.Seen.{part_in}
use Rattle.machine_outer.proofs.Weaving.{next_put}
use Rattle.machine_outer.proofs.woven.Weaving.weave.Goals as goal

pub returns-in-None : goal.returns-in-None
returns-in-None c =
    next_put c.next.result c.args.self.now c.next.new.self (part_in c.args.parts) c.in_ok-name.name c.args.field.now
    c.in_ok-name.ensures (sym c.in-None.is ∙ c.in_ok-part.ensures) c.next.ensures
