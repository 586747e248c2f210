use Rattle.std.proofs.Common.{◌≡◌, ◌++◌, drop, map}
use Rattle.body_usage.specs.Mentions.{all_of}
use Rattle.body_usage.specs.Rules.{arguments_of, input_rule}
use Rattle.body_usage.specs.Nodes.{argument_mentions, bound_mentions, segment_of, type_mentions}
use Rattle.body_usage.specs.Kinds.{input_of}
use Rattle.body_usage.proofs.+search.Given as goal

abbrev pub invariant-bound::push_bounds-loop-bound : goal.invariant-bound::push_bounds-loop-bound
invariant-bound::push_bounds-loop-bound l =
    l.found ++ all_of (map bound_mentions (drop l.bound-index l.bounds)) l.in_qself
    ≡ l.initial.found ++ all_of (map bound_mentions l.bounds) l.in_qself

abbrev pub invariant-path::push_arguments-loop-argument : goal.invariant-path::push_arguments-loop-argument
invariant-path::push_arguments-loop-argument l =
    l.found ++ all_of (map argument_mentions (drop l.argument-index l.arguments)) l.in_qself
    ≡ l.initial.found ++ all_of (map argument_mentions l.arguments) l.in_qself

abbrev pub invariant-path::push_arguments_of-loop-segment : goal.invariant-path::push_arguments_of-loop-segment
invariant-path::push_arguments_of-loop-segment l =
    l.found ++ all_of (map arguments_of (map segment_of (drop l.segment-index l.segments))) l.in_qself
    ≡ l.initial.found ++ all_of (map arguments_of (map segment_of l.segments)) l.in_qself

abbrev pub invariant-ty::push_inputs-loop-input : goal.invariant-ty::push_inputs-loop-input
invariant-ty::push_inputs-loop-input l =
    l.found ++ all_of (map input_rule (map input_of (drop l.input-index l.inputs))) l.in_qself
    ≡ l.initial.found ++ all_of (map input_rule (map input_of l.inputs)) l.in_qself

abbrev pub invariant-ty::push_types-loop-ty : goal.invariant-ty::push_types-loop-ty
invariant-ty::push_types-loop-ty l =
    l.found ++ all_of (map type_mentions (drop l.ty-index l.types)) l.in_qself
    ≡ l.initial.found ++ all_of (map type_mentions l.types) l.in_qself
