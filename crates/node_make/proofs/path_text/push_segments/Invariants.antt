use Rattle.std.proofs.Common.{◌≡◌, ◌++◌, codes, flat_map, take}
use Rattle.node_make.specs.PathText.{segment_text}
use Rattle.node_make.proofs.path_text.push_segments.Given as goal

abbrev pub invariant-loop-segment : goal.invariant-loop-segment
invariant-loop-segment l =
    l.text ≡ l.initial.text ++ flat_map (λ segment. codes "::" ++ segment_text segment) (take l.segment-index l.others)
