-- What is wrong: the alternatives that a kind names.
use Rattle.std.specs.Prelude.{List, [], fold}
use Rattle.std.specs.Ordering.{nat_cmp}
use Rattle.std.specs.Cmp.Lexicographic.{slice_cmp}
use Rattle.std.specs.BTreeSet.{BTreeSet, insert_key}
use Rattle.base_core.specs.declared.text.Text.{Text}
use Rattle.error_fault.specs.declared.kind.FaultKind.{FaultKind}
use Rattle.error_fault.specs.declared.kind.FaultKind.TheVariants.{Custom, DuplicateField, MissingField, UnsupportedShape, UnknownField, UnexpectedFormat, UnexpectedType, UnknownValue, TooFewItems, TooManyItems}

-- the set with these names too
abbrev pub with_names : BTreeSet Text → List Text → BTreeSet Text
with_names alts names = record { keys = fold (insert_key (slice_cmp nat_cmp)) alts.keys names }

-- the set of these names
abbrev pub set_of : List Text → BTreeSet Text
set_of names = with_names (record { keys = [] }) names

-- an unknown field with these alternatives too; every other kind as it is
abbrev pub with_alternatives : FaultKind → List Text → FaultKind
with_alternatives (UnknownField name alts) names = UnknownField name (with_names alts names)
with_alternatives (Custom message) names = Custom message
with_alternatives (DuplicateField name) names = DuplicateField name
with_alternatives (MissingField name) names = MissingField name
with_alternatives (UnsupportedShape observed expected) names = UnsupportedShape observed expected
with_alternatives (UnexpectedFormat format) names = UnexpectedFormat format
with_alternatives (UnexpectedType type) names = UnexpectedType type
with_alternatives (UnknownValue value alts) names = UnknownValue value alts
with_alternatives (TooFewItems least) names = TooFewItems least
with_alternatives (TooManyItems most) names = TooManyItems most
