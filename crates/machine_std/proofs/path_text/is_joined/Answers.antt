use Rattle.std.proofs.Common.{◌<◌, ◌+◌, ◌++◌, ◌∙◌, ap, sym, arith, codes, drop, length}
use Rattle.std.specs.List.{flat_map}
use Rattle.std.specs.Str.{bytes_eq}
use Rattle.node_expr.specs.declared.path.PathSegment.{PathSegment}
use Rattle.node_make.specs.PathText.{segment_text}
use Rattle.machine_std.proofs.TextLemmas.{joined-first, next-first, other_text, others, same_text}
use Rattle.machine_std.proofs.path_text.is_joined.Goals as goal

pub returns-in_default-behind_segment : goal.returns-in_default-behind_segment
returns-in_default-behind_segment c =
    let first = c.first-item.result in
    let some : 0 < length c.args.segments.now = omega (arith, c.in-len1-up.len_at_least) in
    sym (ap (bytes_eq c.args.text.now) (joined-first segment_text (codes "::") c.args.segments.now first some c.first-item.is)
    ∙ other_text (segment_text first) (flat_map (λ it. codes "::" ++ segment_text it) (others c.args.segments.now)) c.args.text.now c.in_default-behind_segment.ensures)

pub loop-segment-init : goal.loop-segment-init
loop-segment-init c =
    let first = c.first-item.result in
    let some : 0 < length c.args.segments.now = omega (arith, c.in-len1-up.len_at_least) in
    sym (ap (bytes_eq c.args.text.now) (joined-first segment_text (codes "::") c.args.segments.now first some c.first-item.is)
    ∙ same_text (segment_text first) (flat_map (λ it. codes "::" ++ segment_text it) (others c.args.segments.now)) c.args.text.now c.in-Some.rest.now c.in-Some.ensures)

pub returns-in_default-behind_next : goal.returns-in_default-behind_next
returns-in_default-behind_next c =
    let next = λ (it : PathSegment). codes "::" ++ segment_text it in
    let segment = c.segment-item.result in
    let more = drop (c.loop-segment.segment-index + 1) (others c.args.segments.now) in
    sym (sym c.loop-segment.invariant
    ∙ ap (bytes_eq c.loop-segment.rest.now) (next-first next (others c.args.segments.now) c.loop-segment.segment-index segment c.loop-segment-test.true c.segment-item.is)
    ∙ other_text (next segment) (flat_map next more) c.loop-segment.rest.now c.in_default-behind_next.ensures)

pub loop-segment-preserved : goal.loop-segment-preserved
loop-segment-preserved c =
    let next = λ (it : PathSegment). codes "::" ++ segment_text it in
    let segment = c.segment-item.result in
    let more = drop (c.loop-segment.segment-index + 1) (others c.args.segments.now) in
    sym (ap (bytes_eq c.loop-segment.rest.now) (next-first next (others c.args.segments.now) c.loop-segment.segment-index segment c.loop-segment-test.true c.segment-item.is)
    ∙ same_text (next segment) (flat_map next more) c.loop-segment.rest.now c.in-Some-behind_next.shorter.now c.in-Some-behind_next.ensures)
    ∙ c.loop-segment.invariant
