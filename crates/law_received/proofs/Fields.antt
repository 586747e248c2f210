-- A field that is read alike has the same checks.
use Rattle.std.proofs.Common.{◌≡◌, ◌∙◌, ◌+◌, List, [], ◌∷◌, length, length-append, Option, None, Some, refl, sym, ap, ap₂}
use Rattle.std.specs.Prelude.{is_some}
use Rattle.error_fault.specs.Faults.{at}
use Rattle.error_fault.specs.Outcome.{Faults, Outcome, Value, faults_of}
use Rattle.machine_value.specs.declared.value.Value.{Value as Datum}
use Rattle.meta_nested.specs.Cells.{Cells}
use Rattle.meta_nested.specs.Dispatch.{from_nested_meta, from_none}
use Rattle.meta_nested.specs.declared.nested.NestedMeta.{NestedMeta}
use Rattle.machine_steps.specs.Setting.{Setting}
use Rattle.machine_steps.specs.Convert.{Earlier, none}
use Rattle.meaning_core.specs.Decl.{BodyDecl, Fallback, FieldDecl, Many, Single, fallback, is_named_by}
use Rattle.meaning_core.specs.EntryFaults as entries
use Rattle.meaning_core.specs.FieldValue as field_values
use Rattle.receive_core.specs.Checks.{label, missing_by, multiple_faults, single_faults, single_missing, value_list, values}
use Rattle.law_received.specs.Fields.{MultipleIsField, OptionalIsField, ReadsAlike, SingleIsField}

module _ {A : Type 0} (cells : Cells A) (setting : Setting) (earlier : Earlier) (body : BodyDecl) (field : FieldDecl)
    (alike : ReadsAlike cells setting earlier field) where
  same_single : (before : List NestedMeta) (item : NestedMeta)
      → entries.own_faults setting earlier field Single before item ≡ single_faults cells field.name before item
  unfolding single_faults
  same_single [] item = ap (λ faults. at faults field.name) (alike item)
  same_single (first ∷ more) item = refl

  same_missing : (fall : Option Fallback) → fall ≡ None → (a : Option Datum) (b : Option A) → is_some a ≡ is_some b
      → field_values.missing_by setting earlier body field fall a ≡ missing_by cells field.name b
  same_missing None is None None same = refl
  same_missing None is None (Some value) same = absurd (cc same)
  same_missing None is (Some value) None same = absurd (cc same)
  same_missing None is (Some value) (Some other) same = refl
  same_missing (Some fall) is a b same = absurd (cc is)

  single_missing_is : fallback body field ≡ None → is_some (none setting earlier field.type) ≡ is_some (from_none cells) → (own_items : List NestedMeta)
      → field_values.missing setting earlier body field Single own_items ≡ single_missing cells field.name own_items
  unfolding single_missing
  single_missing_is falls same [] = same_missing (fallback body field) falls (none setting earlier field.type) (from_none cells) same
  single_missing_is falls same (item ∷ more) = refl

  optional_missing_is : (fall : Fallback) → fallback body field ≡ Some fall → (own_items : List NestedMeta)
      → field_values.missing setting earlier body field Single own_items ≡ []
  optional_missing_is fall falls [] = ap (λ f. field_values.missing_by setting earlier body field f (none setting earlier field.type)) falls
  optional_missing_is fall falls (item ∷ more) = refl

  same_count : (a : Outcome Datum) (b : Outcome A) → faults_of a ≡ faults_of b → length (entries.value_list setting earlier a) ≡ length (value_list b)
  same_count (Value value) (Value other) same = refl
  same_count (Value value) (Faults fault more) same = absurd (cc same)
  same_count (Faults fault more) (Value value) same = absurd (cc same)
  same_count (Faults fault more) (Faults other rest) same = refl

  same_counts : (items : List NestedMeta) → length (entries.values setting earlier field items) ≡ length (values cells items)
  unfolding values
  same_counts [] = refl
  same_counts (item ∷ items) =
      length-append (entries.value_list setting earlier (entries.read setting earlier field item)) (entries.values setting earlier field items)
      ∙ ap₂ (λ m n. m + n) (same_count (entries.read setting earlier field item) (from_nested_meta cells item) (alike item)) (same_counts items)
      ∙ sym (length-append (value_list (from_nested_meta cells item)) (values cells items))

  same_multiple : (before : List NestedMeta) (item : NestedMeta)
      → entries.own_faults setting earlier field Many before item ≡ multiple_faults cells field.name before item
  unfolding multiple_faults
  same_multiple before item = ap₂ (λ faults n. at faults (label field.name n)) (alike item) (same_counts before)

  many_missing_is : (own_items : List NestedMeta) → field_values.missing setting earlier body field Many own_items ≡ []
  many_missing_is own_items = refl

pub single_is_field : {A : Type 0} (cells : Cells A) → SingleIsField cells
single_is_field cells setting earlier body field alike shape skip falls same =
    record {
      named = ap₂ is_named_by shape skip;
      name = refl;
      faults = λ before item. ap (λ it. entries.own_faults setting earlier field it before item) shape ∙ same_single cells setting earlier body field alike before item;
      missing_faults =
          λ own_items. ap (λ it. field_values.missing setting earlier body field it own_items) shape
          ∙ single_missing_is cells setting earlier body field alike falls same own_items;
    }

pub optional_is_field : {A : Type 0} (cells : Cells A) → OptionalIsField cells
optional_is_field cells setting earlier body field alike shape skip fall falls =
    record {
      named = ap₂ is_named_by shape skip;
      name = refl;
      faults = λ before item. ap (λ it. entries.own_faults setting earlier field it before item) shape ∙ same_single cells setting earlier body field alike before item;
      missing_faults =
          λ own_items. ap (λ it. field_values.missing setting earlier body field it own_items) shape
          ∙ optional_missing_is cells setting earlier body field alike fall falls own_items;
    }

pub multiple_is_field : {A : Type 0} (cells : Cells A) → MultipleIsField cells
multiple_is_field cells setting earlier body field alike shape skip =
    record {
      named = ap₂ is_named_by shape skip;
      name = refl;
      faults = λ before item. ap (λ it. entries.own_faults setting earlier field it before item) shape ∙ same_multiple cells setting earlier body field alike before item;
      missing_faults =
          λ own_items. ap (λ it. field_values.missing setting earlier body field it own_items) shape
          ∙ many_missing_is cells setting earlier body field alike own_items;
    }
