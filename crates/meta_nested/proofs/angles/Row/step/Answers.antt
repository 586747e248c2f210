use Rattle.meta_nested.proofs.Rows.{row-comma, row-turbofish, row-less, row-greater, row-other}
use Rattle.meta_nested.proofs.angles.Row.step.Goals as goal

pub returns-in-Comma : goal.returns-in-Comma
returns-in-Comma c = λ before tree trees is tells. row-comma before tree trees c.args.self.now tells (rw c.in-Comma.is at is)

pub returns-in-Turbofish : goal.returns-in-Turbofish
returns-in-Turbofish c = λ before tree trees is tells. rw (c.shift-self.ensures.answer, c.shift-self.ensures.some) (row-turbofish before tree trees c.args.self.now tells (rw c.in-Turbofish.is at is))

pub returns-in-Less : goal.returns-in-Less
returns-in-Less c = λ before tree trees is tells. rw (c.shift.ensures.none, c.shift.ensures.some) (row-less before tree trees c.args.self.now tells (rw c.in-Less.is at is))

pub returns-in_ok-insert-in-Greater : goal.returns-in_ok-insert-in-Greater
returns-in_ok-insert-in-Greater c = λ before tree trees is tells. rw (c.truncate.ensures, c.in_ok-insert-in-Greater.ensures.ok) (row-greater before tree trees c.args.self.now tells (rw c.in-Greater.is at is))

pub returns-in-Other : goal.returns-in-Other
returns-in-Other c = λ before tree trees is tells. row-other before tree trees c.args.self.now tells (rw c.in-Other.is at is)
