use Rattle.std.proofs.Common.{◌∙◌, [], sym, refl, lit<, arith}
use Rattle.std.proofs.lemmas.Iterator.Splits.{YieldsList-from_str_split}
use Rattle.util_table.specs.Table.{lines_of}
use Rattle.util_table.proofs.Lines.{HasRead-empty, HasRead-row, bad_line-found, counted_within, rows-are, bad_line-none, rows_within}
use Rattle.util_table.proofs.reading.rows_of.Goals as goal

pub loop-line-init : goal.loop-line-init
loop-line-init c =
    let same = c.into_iter-line-iterator.ensures.into_iter_gives in
    let split = c.split-line-items.ensures in
    rw (same, c.new-rows.ensures) (record {
      done = [];
      left = lines_of c.args.text.now;
      whole = refl;
      yields = (YieldsList-from_str_split 10 c.args.text.now (lit< tt) split.text split.has_more split.pattern).runs;
      counted = refl;
      good = refl;
      are_rows = refl;
    })

pub overflow_add-number : goal.overflow_add-number
overflow_add-number c = omega (arith, c.requires, counted_within c.loop-line.line-iterator c.next.new.self _ _ _ c.in-Some.line c.loop-line.invariant c.in-Some.ensures.steps)

pub loop-line-preserved-then-is_empty : goal.loop-line-preserved-then-is_empty
loop-line-preserved-then-is_empty c =
    HasRead-empty c.loop-line.line-iterator c.next.new.self _ _ _ c.in-Some.line c.loop-line.invariant c.in-Some.ensures.steps (sym c.is_empty.ensures ∙ c.if-is_empty.true)

pub loop-line-preserved : goal.loop-line-preserved
loop-line-preserved c =
    rw (c.in_ok-push-in-Some-2.ensures.ok)
    (HasRead-row c.loop-line.line-iterator c.next.new.self _ _ _ c.in-Some.line c.loop-line.invariant c.in-Some.ensures.steps c.in-Some-2.row (sym c.in_ok-row.ensures ∙ c.in-Some-2.is))

pub returns-in-None-2-clause-fail : goal.returns-in-None-2-clause-fail
returns-in-None-2-clause-fail c =
    bad_line-found c.loop-line.line-iterator c.next.new.self _ _ _ c.in-Some.line c.loop-line.invariant c.in-Some.ensures.steps (sym c.is_empty.ensures ∙ c.if-is_empty.false) (sym c.in_ok-row.ensures ∙ c.in-None-2.is)

pub returns-clause-rows : goal.returns-clause-rows
returns-clause-rows c = rows-are c.loop-line.line-iterator c.next.new.self _ _ _ c.loop-line.invariant c.in-None.ensures.steps

pub returns-clause-table : goal.returns-clause-table
returns-clause-table c = bad_line-none c.loop-line.line-iterator c.next.new.self _ _ _ c.loop-line.invariant c.in-None.ensures.steps

pub returns-clause-count : goal.returns-clause-count
returns-clause-count c = omega (arith, c.requires, rows_within c.loop-line.line-iterator c.next.new.self _ _ _ c.loop-line.invariant c.in-None.ensures.steps)
