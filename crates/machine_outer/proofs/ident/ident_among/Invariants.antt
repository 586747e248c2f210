use Rattle.std.proofs.Common.{◌≡◌, drop}
use Rattle.machine_read.specs.Scopes.{setting_in}
use Rattle.machine_steps.specs.Building as spec
use Rattle.machine_steps.specs.Elements.{element_of}
use Rattle.machine_outer.proofs.ident.ident_among.Given as goal

abbrev pub invariant-loop-it : goal.invariant-loop-it
invariant-loop-it g l =
    let setting = setting_in g.H.Host.says l.setting in
    spec.ident_among setting (drop l.it-index l.forwarded) (element_of l.element) ≡ spec.ident_among setting l.forwarded (element_of l.element)
