use Rattle.std.proofs.Common.{◌<◌, length, refl, arith}
use Rattle.machine_forms.proofs.Groups.{adds-by}
use Rattle.machine_forms.proofs.units.add.Goals as goal

pub returns-in_ok-push : goal.returns-in_ok-push
returns-in_ok-push c =
    let number = c.args.unit.now.decl in
    let lt : number < length c.args.groups.now = omega arith in
    adds-by c.args.groups.now c.replace-group.new.self c.set.new.self number c.new.result c.replace-group.result c.push.new.self c.args.unit lt
    c.replace-group.ensures.item refl c.new.ensures c.replace-group.ensures.rest c.in_ok-push.ensures.ok c.set.ensures
