-- The option of a field that takes a part of an item behind items, cut anywhere.
use Rattle.std.specs.Prelude.{◌≡◌, List, ◌++◌, map, refl}
use Rattle.std.proofs.Common.{◌∙◌, ap, sym}
use Rattle.std.proofs.lemmas.List.{map-append}
use Rattle.node_core.specs.declared.attr.Meta.{Meta}
use Rattle.options_types.specs.declared.forwarded_field.ForwardedField.{ForwardedField}
use Rattle.options_rows.specs.declared.forwarded.ForwardedName.{ForwardedName}
use Rattle.options_rows.specs.Forwarded.{forwarded_named, forwarded_options, of_forwarded}
use Rattle.options_rows.specs.RowLaws.{first-more}
use Rattle.options_rows.specs.Rows.{Named}

forwarded_options-more : (set : ForwardedField) (xs ys : List (Named ForwardedName))
    → forwarded_options (forwarded_options set xs) ys ≡ forwarded_options set (xs ++ ys)
forwarded_options-more set xs ys = simp first-more refl

pub of_forwarded-more : (set : ForwardedField) (first rest : List Meta)
    → of_forwarded (of_forwarded set first) rest ≡ of_forwarded set (first ++ rest)
of_forwarded-more set first rest =
    forwarded_options-more set (map forwarded_named first) (map forwarded_named rest)
    ∙ sym (ap (forwarded_options set) (map-append forwarded_named first rest))
