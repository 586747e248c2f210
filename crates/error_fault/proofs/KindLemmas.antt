-- Alternatives that are given as a set.
use Rattle.std.proofs.Common.{◌≡◌, List, [], refl, ap}
use Rattle.std.proofs.lemmas.Cmp.{nat_list_cmp_total}
use Rattle.std.specs.FinMap.{nat_cmp-IsAntisymmetric, slice_cmp-IsAntisymmetric}
use Rattle.base_core.specs.declared.text.Text.{Text}
use Rattle.error_fault.specs.declared.kind.FaultKind.{FaultKind}
use Rattle.error_fault.specs.declared.kind.FaultKind.TheVariants.{Custom, DuplicateField, MissingField, UnsupportedShape, UnknownField, UnexpectedFormat, UnexpectedType, UnknownValue, TooFewItems, TooManyItems}
use Rattle.error_fault.specs.Kind.{set_of, with_alternatives}
use Rattle.error_fault.proofs.NameSets.{fold-set}

-- names in their order, each once, widen a kind as the names do
pub with_alternatives-set_of : (kind : FaultKind) (names : List Text)
    → with_alternatives kind (set_of names).keys ≡ with_alternatives kind names
with_alternatives-set_of (UnknownField name alts) names =
    ap (λ keys. UnknownField name (record { keys = keys })) (fold-set nat_list_cmp_total (slice_cmp-IsAntisymmetric nat_cmp-IsAntisymmetric) alts.keys [] names)
with_alternatives-set_of (Custom message) names = refl
with_alternatives-set_of (DuplicateField name) names = refl
with_alternatives-set_of (MissingField name) names = refl
with_alternatives-set_of (UnsupportedShape observed expected) names = refl
with_alternatives-set_of (UnexpectedFormat format) names = refl
with_alternatives-set_of (UnexpectedType type) names = refl
with_alternatives-set_of (UnknownValue value alts) names = refl
with_alternatives-set_of (TooFewItems least) names = refl
with_alternatives-set_of (TooManyItems most) names = refl
