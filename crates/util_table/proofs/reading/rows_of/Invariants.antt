use Rattle.util_table.proofs.Lines.{HasRead}
use Rattle.util_table.proofs.reading.rows_of.Given as goal

abbrev pub invariant-loop-line : goal.invariant-loop-line
invariant-loop-line l = HasRead l.line-iterator l.text l.number l.rows
