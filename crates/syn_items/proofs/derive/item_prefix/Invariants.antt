use Rattle.std.proofs.Common.{◌≡◌, ◌+◌, ◌-◌, ◌≤◌, length}
use Rattle.syn_items.proofs.ItemPrefix.{AtItem}
use Rattle.syn_items.proofs.derive.item_prefix.Given as goal

-- what was read so far are items, each of a token at least
abbrev pub invariant-loop-turn : goal.invariant-loop-turn
invariant-loop-turn l =
    AtItem l.trees l.left
    × (l.front ≡ length l.trees - length l.left.rest)
    × (length l.left.rest + l._turn ≤ length l.trees)
