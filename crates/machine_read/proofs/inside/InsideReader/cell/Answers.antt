use Rattle.machine_read.proofs.inside.InsideReader.cell.Goals as goal

pub cell-requires : goal.cell-requires
cell-requires g c = c.requires.0 c.args.call

pub returns : goal.returns
returns g c = c.requires.1 c.args.call c.cell.result c.cell.ensures
