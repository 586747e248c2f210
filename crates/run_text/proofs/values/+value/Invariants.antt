use Rattle.std.proofs.Common.{◌≡◌, ◌++◌, codes, flat_map, map, take}
use Rattle.run_text.specs.ValueText.{keyed, labelled, shown, value_text}
use Rattle.run_text.proofs.values.+value.Given as goal

abbrev pub invariant-push_values-loop-value : goal.invariant-push_values-loop-value
invariant-push_values-loop-value l =
    l.out ≡ l.initial.out ++ flat_map (λ text. codes ", " ++ text) (map value_text (take l.value-index l.others))

abbrev pub invariant-push_named-loop-member : goal.invariant-push_named-loop-member
invariant-push_named-loop-member l =
    l.out ≡ l.initial.out ++ flat_map (λ text. codes ", " ++ text) (map labelled (map shown (take l.member-index l.others)))

abbrev pub invariant-push_unnamed-loop-member : goal.invariant-push_unnamed-loop-member
invariant-push_unnamed-loop-member l =
    l.out ≡ l.initial.out ++ flat_map (λ text. codes ", " ++ text) (map (λ member. member.1) (map shown (take l.member-index l.others)))

abbrev pub invariant-push_entries-loop-entry : goal.invariant-push_entries-loop-entry
invariant-push_entries-loop-entry l =
    l.out ≡ l.initial.out ++ flat_map (λ text. codes ", " ++ text) (map keyed (map shown (take l.entry-index l.others)))
