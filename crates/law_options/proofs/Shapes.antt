-- A field whose options have no fault is not both one of many values and flattened.
use Rattle.std.proofs.Common.{◌≡◌, ◌&&◌, Bool, true, false, cond, List, [], ◌∷◌, ◌++◌, append-nil, append_assoc, Option, Some, None, refl, sym, subst}
use Rattle.std.specs.Prelude.{is_some, unwrap_or}
use Rattle.node_core.specs.declared.attr.Meta.{Meta}
use Rattle.node_core.specs.Meta.{path_of_meta}
use Rattle.error_fault.specs.Outcome.{Outcome, Value, Faults}
use Rattle.error_fault.specs.declared.fault.Fault.{Fault}
use Rattle.run_accepted.specs.Entries.{items}
use Rattle.run_accepted.specs.Rows.{else_faults, holds, one}
use Rattle.run_accepted.specs.Values.{word_of}
use Rattle.run_accepted.specs.Walk.{all_faults}
use Rattle.run_accepted.specs.InputField.{InputField}
use Rattle.run_accepted.specs.FieldName.{FieldName}
use Rattle.run_accepted.specs.FieldName.TheVariants as option
use Rattle.run_accepted.specs.FieldLaws.{of_field-more}
use Rattle.run_accepted.specs.FieldOptions.{clash_of, clashes, field_faults, field_name_of, field_options, of_field, of_field_faults, read_faults}

-- it is not both
abbrev pub HasOneShape : InputField → Type 0
HasOneShape it = (unwrap_or it.multiple false && is_some it.flatten.0) ≡ false

pub none-left : {A : Type 0} (xs ys : List A) → xs ++ ys ≡ [] → xs ≡ []
none-left [] ys is = refl
none-left (x ∷ xs) ys is = cc

pub none-right : {A : Type 0} (xs ys : List A) → xs ++ ys ≡ [] → ys ≡ []
none-right [] ys is = is
none-right (x ∷ xs) ys is = cc

pub none-first : (first later : List Fault) → else_faults first later ≡ [] → first ≡ []
none-first [] later none = refl
none-first (fault ∷ more) later none = cc

pub none-later : (first later : List Fault) → else_faults first later ≡ [] → later ≡ []
none-later [] later is = is
none-later (fault ∷ more) later is = cc

-- what may not stand beside `flatten` does not, where there is no fault
not_both : (flat : Bool) (many : Option Bool) (fault : Fault) → cond (flat && holds (λ value. value) many) (fault ∷ []) [] ≡ [] → (unwrap_or many false && flat) ≡ false
not_both flat None fault is = refl
not_both flat (Some false) fault is = refl
not_both false (Some true) fault is = refl
not_both true (Some true) fault is = cc

-- one item behind what stands
step : (name : FieldName) (set : InputField) (item : Meta) → field_faults name set item ≡ [] → HasOneShape set → HasOneShape (field_options set (one name item))
step option.Multiple set item none is =
    let new = field_options set (one option.Multiple item) in
    not_both (is_some new.flatten.0) new.multiple _ (none-later (read_faults option.Multiple set item) (clashes new option.Multiple item) none)
step option.Flatten set item none is =
    let new = field_options set (one option.Flatten item) in
    not_both (is_some new.flatten.0) new.multiple _
    (none-left (clash_of new item option.Multiple) _ (none-later (read_faults option.Flatten set item) (clashes new option.Flatten item) none))
step option.Rename set item none is = is
step option.With set item none is = is
step option.Skip set item none is = is
step option.Map set item none is = is
step option.AndThen set item none is = is
step option.Default set item none is = is
step option.Unknown set item none is = is

-- all entries behind what stands
pub has_one_shape : (set : InputField) (before : List Meta) (entries : List (Outcome Meta)) → all_faults of_field of_field_faults set before entries ≡ []
    → HasOneShape (of_field set before) → HasOneShape (of_field set (before ++ items entries))
has_one_shape set before [] none is = subst (λ xs. HasOneShape (of_field set xs)) (sym (append-nil before)) is
has_one_shape set before (Faults fault more ∷ entries) none is =
    has_one_shape set before entries (none-right (fault ∷ more) (all_faults of_field of_field_faults set before entries) none) is
has_one_shape set before (Value item ∷ entries) none is =
    let now = of_field set before in
    let faults = of_field_faults now item in
    let rest = all_faults of_field of_field_faults set (before ++ item ∷ []) entries in
    subst (λ xs. HasOneShape (of_field set xs)) (append_assoc before (item ∷ []) (items entries))
    (has_one_shape set (before ++ item ∷ []) entries (none-right faults rest none)
    (subst HasOneShape (of_field-more set before (item ∷ []))
    (step (field_name_of (word_of (path_of_meta item))) now item (none-left faults rest none) is)))
