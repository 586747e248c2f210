use Rattle.std.proofs.Common.{◌<◌, ◌≤◌, arith}
use Rattle.machine_execute.specs.Units.{setting_at}
use Rattle.machine_execute.proofs.Rooms.{answers_below, answers_none}
use Rattle.machine_execute.proofs.units.EarlierDeclared.read.Goals as goal

pub returns-then-number-self : goal.returns-then-number-self
returns-then-number-self g c =
    let context = c.args.self.now.context.now in
    let less : c.args.number < c.args.self.now.bound = omega arith in
    let within : c.args.room ≤ c.args.room = omega arith in
    answers_below (setting_at g.H.Host.says context) context.program.now.units c.args.self.now.bound c.args.number c.args.asked c.read.result less
    (c.requires.reads c.args.room c.args.number c.args.asked c.read.result within less c.read.ensures)

pub returns-else-number-self : goal.returns-else-number-self
returns-else-number-self g c =
    let context = c.args.self.now.context.now in
    let past : c.args.self.now.bound ≤ c.args.number = omega arith in
    answers_none (setting_at g.H.Host.says context) context.program.now.units c.args.self.now.bound c.args.number c.args.asked
    c.read_nothing.result past c.read_nothing.ensures
