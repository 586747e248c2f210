-- The options of a variant behind items, cut anywhere.
use Rattle.std.specs.Prelude.{◌≡◌, List, ◌++◌, map, refl}
use Rattle.std.proofs.Common.{◌∙◌, ap, sym}
use Rattle.std.proofs.lemmas.List.{map-append}
use Rattle.node_core.specs.declared.attr.Meta.{Meta}
use Rattle.options_rows.specs.Rows.{Named}
use Rattle.options_rows.specs.RowLaws.{first-more}
use Rattle.options_members.specs.declared.input_variant.InputVariant.{InputVariant}
use Rattle.options_members.specs.declared.names.VariantName.{VariantName}
use Rattle.options_members.specs.VariantOptions.{variant_options, variant_named, of_variant}

variant_options-more : (set : InputVariant) (xs ys : List (Named VariantName))
    → variant_options (variant_options set xs) ys ≡ variant_options set (xs ++ ys)
variant_options-more set xs ys = simp first-more refl

pub of_variant-more : (set : InputVariant) (first rest : List Meta) → of_variant (of_variant set first) rest ≡ of_variant set (first ++ rest)
of_variant-more set first rest =
    variant_options-more set (map variant_named first) (map variant_named rest)
    ∙ sym (ap (variant_options set) (map-append variant_named first rest))
