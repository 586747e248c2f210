-- An option that an item sets is taken back.
use Rattle.std.proofs.Common.{◌≡◌, [], refl, ap, Option, Some, None}
use Rattle.node_core.specs.declared.attr.Meta.{Meta}
use Rattle.error_fault.specs.Outcome.{Outcome}
use Rattle.error_fault.specs.declared.fault.Fault.{Fault}
use Rattle.options_rows.specs.Rows.{fresh, one}
use Rattle.options_members.specs.declared.input_field.InputField.{InputField}
use Rattle.options_members.specs.declared.names.FieldName.{FieldName}
use Rattle.options_members.specs.declared.names.FieldName.TheVariants.{Multiple, Rename, With, Skip, Map, AndThen, Default, Flatten, Unknown}
use Rattle.options_members.specs.FieldOptions.{field_options, read_faults, unset}

-- what an item sets was not set
was_none : {A : Type 0} (again : A → Meta → Fault) (set : Option A) (read : Meta → Outcome A) (item : Meta)
    → fresh again set read item ≡ [] → None ≡ set
was_none again (Some x) read item is = let never : ⊥ = cc is in absurd never
was_none again None read item is = refl

pub unset_set : (name : FieldName) (set : InputField) (item : Meta)
    → read_faults name set item ≡ [] → unset name (field_options set (one name item)) ≡ set
unset_set Multiple set item is = ap (λ x. record set { multiple = x }) (was_none _ set.multiple _ item is)
unset_set Rename set item is = ap (λ x. record set { attr_name = x }) (was_none _ set.attr_name _ item is)
unset_set With set item is = ap (λ x. record set { with = x }) (was_none _ set.with _ item is)
unset_set Skip set item is = ap (λ x. record set { skip = x }) (was_none _ set.skip _ item is)
unset_set Map set item is = ap (λ x. record set { post_transform = x }) (was_none _ set.post_transform _ item is)
unset_set AndThen set item is = ap (λ x. record set { post_transform = x }) (was_none _ set.post_transform _ item is)
unset_set Default set item is = ap (λ x. record set { default = x }) (was_none _ set.default _ item is)
unset_set Flatten set item is = ap (λ x. record set { flatten = record { 0 = x } }) (was_none _ set.flatten.0 _ item is)
unset_set Unknown set item is = let never : ⊥ = cc is in absurd never
