use Rattle.std.proofs.Common.{refl}
use Rattle.machine_cells.specs.Values.{naturals}
use Rattle.machine_leaf.proofs.lists.unsigned_list_cell.Goals as goal

pub returns-in-U8 : goal.returns-in-U8
returns-in-U8 c = rw c.in-U8.is (c.shown_cell.ensures naturals (λ it. refl))

pub returns-in-U16 : goal.returns-in-U16
returns-in-U16 c = rw c.in-U16.is (c.shown_cell-in-U16.ensures naturals (λ it. refl))

pub returns-in-U32 : goal.returns-in-U32
returns-in-U32 c = rw c.in-U32.is (c.shown_cell-in-U32.ensures naturals (λ it. refl))

pub returns-in-U64 : goal.returns-in-U64
returns-in-U64 c = rw c.in-U64.is (c.shown_cell-in-U64.ensures naturals (λ it. refl))

pub returns-in-Usize : goal.returns-in-Usize
returns-in-Usize c = rw c.in-Usize.is (c.shown_cell-in-Usize.ensures naturals (λ it. refl))
