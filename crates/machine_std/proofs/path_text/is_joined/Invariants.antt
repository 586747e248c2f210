use Rattle.std.proofs.Common.{◌≡◌, ◌++◌, drop, codes}
use Rattle.std.specs.List.{flat_map, join_by}
use Rattle.std.specs.Str.{bytes_eq}
use Rattle.node_make.specs.PathText.{segment_text}
use Rattle.machine_std.proofs.path_text.is_joined.Given as goal

abbrev pub invariant-loop-segment : goal.invariant-loop-segment
invariant-loop-segment l =
    bytes_eq l.rest (flat_map (λ it. codes "::" ++ segment_text it) (drop l.segment-index l.others)) ≡ bytes_eq l.text (join_by segment_text (codes "::") l.segments)
