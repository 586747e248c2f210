use Rattle.std.proofs.Common.{◌≡◌, ◌-◌, []}
use Rattle.syn_grammar.specs.Input.{items_after, items_from}
use Rattle.meta_nested.specs.Angles.{Tells}
use Rattle.meta_nested.specs.Nested.{item}
use Rattle.meta_nested.proofs.nested.list.Given as goal

-- the whole list is what is left of it behind the items so far, and the table tells of what is left
abbrev pub invariant-loop-turn : goal.invariant-loop-turn
invariant-loop-turn l = record {
  list : items_after item [] l.fn.tokens ≡ items_from item (l._turn-end - l._turn) l.found l.tokens;
  tells : Tells l.closings l.tokens.rest;
}
