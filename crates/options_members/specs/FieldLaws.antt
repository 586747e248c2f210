-- The options of a field behind items, cut anywhere.
use Rattle.std.specs.Prelude.{◌≡◌, List, ◌++◌, map, refl}
use Rattle.std.proofs.Common.{◌∙◌, ap, sym}
use Rattle.std.proofs.lemmas.List.{map-append}
use Rattle.node_core.specs.declared.attr.Meta.{Meta}
use Rattle.options_rows.specs.Rows.{Named}
use Rattle.options_rows.specs.RowLaws.{first-more}
use Rattle.options_members.specs.declared.input_field.InputField.{InputField}
use Rattle.options_members.specs.declared.names.FieldName.{FieldName}
use Rattle.options_members.specs.FieldOptions.{field_options, field_named, of_field}

field_options-more : (set : InputField) (xs ys : List (Named FieldName)) → field_options (field_options set xs) ys ≡ field_options set (xs ++ ys)
field_options-more set xs ys = simp first-more refl

pub of_field-more : (set : InputField) (first rest : List Meta) → of_field (of_field set first) rest ≡ of_field set (first ++ rest)
of_field-more set first rest =
    field_options-more set (map field_named first) (map field_named rest) ∙ sym (ap (field_options set) (map-append field_named first rest))
