use Rattle.std.proofs.Common.{◌≡◌, ◌++◌, drop, map}
use Rattle.body_usage.specs.Mentions.{all_of}
use Rattle.body_usage.proofs.list.push_all.Given as goal

abbrev pub invariant-loop-part : goal.invariant-loop-part
invariant-loop-part g l =
    l.found ++ all_of (map g.T.Searched.mentions (drop l.part-index l.parts)) l.in_qself
    ≡ l.initial.found ++ all_of (map g.T.Searched.mentions l.parts) l.in_qself
