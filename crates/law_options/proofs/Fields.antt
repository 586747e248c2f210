-- What the options of a field leave where they have no fault.
use Rattle.std.proofs.Common.{◌≡◌, Bool, true, false, cond, List, [], ◌∷◌, map, Option, Some, None, refl}
use Rattle.std.specs.List.{AllByRecursion}
use Rattle.tok_types.specs.declared.span.Span.{Span}
use Rattle.node_core.specs.declared.data.Field.{Field}
use Rattle.error_fault.specs.declared.fault.Fault.{Fault}
use Rattle.error_fault.specs.Outcome.{Value, on_value, settle, value_of}
use Rattle.law_machine.specs.Decl.{Default}
use Rattle.run_accepted.specs.DefaultExpression.{DefaultExpression}
use Rattle.run_accepted.specs.DefaultExpression.TheVariants as defaults
use Rattle.run_accepted.specs.SpannedValue.{SpannedValue}
use Rattle.run_accepted.specs.Entries.{items, option_entries}
use Rattle.run_accepted.specs.Rows.{holds, list_of}
use Rattle.run_accepted.specs.Values.{Rules}
use Rattle.run_accepted.specs.Walk.{all_faults}
use Rattle.run_accepted.specs.Core.{Core}
use Rattle.run_accepted.specs.InputField.{InputField}
use Rattle.run_accepted.specs.Body.{default_by, field_meaning, field_start, inherited}
use Rattle.run_accepted.specs.FieldOptions.{default, field_named, of_field, of_field_faults, same_field}
use Rattle.run_accepted.specs.Stages.{good_fields}
use Rattle.law_options.specs.Meant.{own_default}
use Rattle.law_options.proofs.Owns.{IsOwnIfAny, all-append, first_default}
use Rattle.law_options.proofs.Shapes.{HasOneShape, has_one_shape}

-- the container has a default, from which a member is inherited
abbrev pub HasDefault : Option Default → Type 0
HasDefault None = ⊥
HasDefault (Some default) = Unit {0}

-- a field without a default is not skipped, and its container has none
abbrev pub NeedsNone : Option Default → Bool → Type 0
NeedsNone None skip = skip ≡ false
NeedsNone (Some default) skip = ⊥

-- the default that a field has fits that of its container
abbrev pub Falls : Option Default → Bool → Option DefaultExpression → Type 0
Falls whole skip None = NeedsNone whole skip
Falls whole skip (Some defaults.Inherit) = HasDefault whole
Falls whole skip (Some (defaults.Explicit callable)) = Unit {0}
Falls whole skip (Some (defaults.Trait span)) = Unit {0}

abbrev pub is_skipped : Option (SpannedValue Bool) → Bool
is_skipped skip = holds (λ value. value.value) skip

-- options without a fault leave the field so, in a container of this default
pub record IsLeft (whole : Option Default) (it : InputField) : Type 0 where
  pub one_shape : HasOneShape it
  pub default : Falls whole (is_skipped it.skip) it.default

by_skip : (skip : Bool) (span : Span) → Falls None skip (cond skip (Some (defaults.Trait span)) None)
by_skip true span = tt
by_skip false span = refl

falls : (own parent : Option DefaultExpression) (skip : Option (SpannedValue Bool)) → IsOwnIfAny own → IsOwnIfAny parent
    → Falls (own_default parent) (is_skipped skip) (default_by own parent skip)
falls (Some defaults.Inherit) parent skip own is = absurd own
falls (Some (defaults.Explicit callable)) parent skip own is = tt
falls (Some (defaults.Trait span)) parent skip own is = tt
falls None (Some defaults.Inherit) skip own is = absurd is
falls None (Some (defaults.Explicit callable)) skip own is = tt
falls None (Some (defaults.Trait span)) skip own is = tt
falls None None None own is = refl
falls None None (Some skip) own is = by_skip skip.value skip.span

settled : (P : InputField → Type 0) (make : InputField → InputField) (faults : List Fault) (it : InputField) → (faults ≡ [] → P (make it))
    → AllByRecursion P (list_of (value_of (on_value make (settle faults (Value it)))))
settled P make [] it is = (is refl, tt)
settled P make (fault ∷ more) it is = tt

module _ (rules : Rules) (core : Core) (own : IsOwnIfAny core.default) where
  pub field_is : (field : Field) → AllByRecursion (IsLeft (own_default core.default)) (list_of (value_of (field_meaning rules (Some core) field)))
  unfolding field_meaning
  field_is field =
      let start = field_start field in
      let entries = option_entries field.attrs in
      let set = of_field start (items entries) in
      settled (IsLeft (own_default core.default)) (inherited rules (Some core)) (all_faults of_field of_field_faults start [] entries) set
      (λ none. record {
        one_shape = has_one_shape start [] entries none refl;
        default = falls set.default core.default set.skip (first_default (same_field default.name) None (map field_named (items entries)) tt) own;
      })

  -- the fields that a container keeps
  pub fields_are : (fields : List Field) → AllByRecursion (IsLeft (own_default core.default)) (good_fields rules core fields)
  fields_are [] = tt
  fields_are (field ∷ fields) =
      all-append (IsLeft (own_default core.default)) (list_of (value_of (field_meaning rules (Some core) field))) (good_fields rules core fields) (field_is field) (fields_are fields)
