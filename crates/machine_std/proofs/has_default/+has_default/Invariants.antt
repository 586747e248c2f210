use Rattle.std.proofs.Common.{◌≡◌, ◌≤◌, ◌+◌, ◌-◌, ◌*◌, ◌&&◌, drop, is_some}
use Rattle.std.specs.List.{list_all}
use Rattle.machine_std.specs.Defaults.{default_among, default_below, type_default}
use Rattle.machine_std.specs.Marks.{left}
use Rattle.machine_std.proofs.has_default.+has_default.Given as goal

abbrev pub invariant-sweep-down : goal.invariant-sweep-down
invariant-sweep-down l = record {
  from : l.base ≤ l.at;
  to : l.at ≤ l.number;
  still : left l.decls l.base l.words (l.at - l.base + 1) ≡ is_some (default_among l.decls l.number);
}

abbrev pub decreases-sweep-down : goal.decreases-sweep-down
decreases-sweep-down l = l.at

abbrev pub invariant-fields_rest-loop-field : goal.invariant-fields_rest-loop-field
invariant-fields_rest-loop-field l =
    (list_all (λ field. is_some (type_default l.decls (default_below l.decls l.below) field.ty)) (drop l.field-index l.fields) && left l.decls l.base l.words (l.below - l.base))
    ≡ (list_all (λ field. is_some (type_default l.decls (default_below l.decls l.below) field.ty)) l.fields && left l.decls l.base l.initial.words (l.below - l.base))

abbrev pub decreases-has_default : goal.decreases-has_default
decreases-has_default l = 10 * l.number + 9

abbrev pub decreases-has_among_few : goal.decreases-has_among_few
decreases-has_among_few l = 10 * l.number + 8

abbrev pub decreases-has_among_many : goal.decreases-has_among_many
decreases-has_among_many l = 10 * l.number + 8

abbrev pub decreases-sweep : goal.decreases-sweep
decreases-sweep l = 10 * l.number + 7

abbrev pub decreases-look_at : goal.decreases-look_at
decreases-look_at l = 10 * l.number + 6

abbrev pub decreases-declaration_rests : goal.decreases-declaration_rests
decreases-declaration_rests l = 10 * l.number + 5

abbrev pub decreases-decl_rests : goal.decreases-decl_rests
decreases-decl_rests l = 10 * l.below + 4

abbrev pub decreases-fields_rest : goal.decreases-fields_rest
decreases-fields_rest l = 10 * l.below + 3

abbrev pub decreases-type_rests : goal.decreases-type_rests
decreases-type_rests l = 10 * l.below + 2

abbrev pub decreases-number_rests : goal.decreases-number_rests
decreases-number_rests l = 10 * l.below + 1
