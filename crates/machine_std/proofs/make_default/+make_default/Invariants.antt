use Rattle.std.proofs.Common.{◌≡◌, ◌+◌, ◌*◌, drop}
use Rattle.machine_std.specs.Defaults.{default_below, type_default}
use Rattle.machine_std.proofs.Members.{followed_by, members_of}
use Rattle.machine_std.proofs.make_default.+make_default.Given as goal

abbrev pub invariant-struct_default-loop-field : goal.invariant-struct_default-loop-field
invariant-struct_default-loop-field l =
    members_of (type_default l.decls (default_below l.decls l.below)) l.fields
    ≡ followed_by l.members (members_of (type_default l.decls (default_below l.decls l.below)) (drop l.field-index l.fields))

abbrev pub decreases-declaration_default : goal.decreases-declaration_default
decreases-declaration_default l = 7 * l.room + 4

abbrev pub decreases-decl_made : goal.decreases-decl_made
decreases-decl_made l = 7 * l.room + 3

abbrev pub decreases-struct_default : goal.decreases-struct_default
decreases-struct_default l = 7 * l.room + 2

abbrev pub decreases-type_default : goal.decreases-type_default
decreases-type_default l = 7 * l.room

abbrev pub decreases-head_made : goal.decreases-head_made
decreases-head_made l = 7 * l.room + 6

abbrev pub decreases-number_default : goal.decreases-number_default
decreases-number_default l = 7 * l.room + 5

abbrev pub decreases-around_default : goal.decreases-around_default
decreases-around_default l = 7 * l.room + 1
