use Rattle.machine_leaf.proofs.shown.shown_cell.Goals as goal

pub returns : goal.returns
returns g c = λ show shows. c.shown_answer.ensures show shows g.T.FromMeta.cells c.args.call c.cell.ensures
