-- The options of a container behind items, cut anywhere.
use Rattle.std.specs.Prelude.{◌≡◌, List, [], ◌∷◌, ◌++◌, map, Option, refl}
use Rattle.std.proofs.Common.{◌∙◌, ap, sym, append_assoc}
use Rattle.std.proofs.lemmas.List.{map-append}
use Rattle.tok_types.specs.declared.span.Span.{Span}
use Rattle.node_core.specs.declared.attr.Meta.{Meta}
use Rattle.options_rows.specs.DefaultExpression.{DefaultExpression}
use Rattle.options_rows.specs.Rows.{first_of, last_of, Named, values}
use Rattle.options_rows.specs.RowLaws.{first-more, last-more, values-append, first_of-append, first_of-some, last_of-append}
use Rattle.options_rows.specs.Values.{Rules}
use Rattle.options_core.specs.declared.outer_from.OuterFrom.{OuterFrom}
use Rattle.options_core.specs.declared.from_attributes.FromAttributesOptions.{FromAttributesOptions}
use Rattle.options_core.specs.declared.from_derive.FdiOptions.{FdiOptions}
use Rattle.options_core.specs.declared.from_field.FromFieldOptions.{FromFieldOptions}
use Rattle.options_core.specs.declared.from_type_param.FromTypeParamOptions.{FromTypeParamOptions}
use Rattle.options_core.specs.declared.from_variant.FromVariantOptions.{FromVariantOptions}
use Rattle.options_core.specs.declared.names.OuterName.{OuterName}
use Rattle.options_core.specs.declared.names.OuterName.TheVariants.{FromIdent}
use Rattle.options_core.specs.declared.names.FdiName.{FdiName}
use Rattle.options_core.specs.declared.names.FromVariantName.{FromVariantName}
use Rattle.options_core.specs.ContainerOptions.{core_item, core_items, same_outer, from_ident_of, trait_at, outer_options, outer_named, outer_item, outer_items, fdi_options, fdi_named, of_outer, of_fdi, from_variant_named, from_variant_options, of_attributes, of_from_field, of_from_variant, of_type_param, variant_outer_item, variant_outer_items}
use Rattle.options_members.specs.CoreOptions.{default, same_core}

core_items-append : (xs ys : List (Named OuterName)) → core_items (xs ++ ys) ≡ core_items xs ++ core_items ys
core_items-append [] ys = refl
core_items-append (x ∷ xs) ys =
    ap (λ zs. core_item x.name x.item ++ zs) (core_items-append xs ys)
    ∙ sym (append_assoc (core_item x.name x.item) (core_items xs) (core_items ys))

-- what `from_ident` says stands before every `default`
ident-first : (set : Option DefaultExpression) (values : List DefaultExpression) (spans : List Span)
    → first_of (last_of set (map trait_at spans)) values ≡ last_of (first_of set values) (map trait_at spans)
ident-first set values [] = refl
ident-first set values (span ∷ spans) =
    ident-first (trait_at span) values spans ∙ ap (λ x. last_of x (map trait_at spans)) (sym (first_of-some _ values))

default-more : (set : Option DefaultExpression) (xs ys : List (Named OuterName))
    → last_of (first_of (last_of (first_of set (values (same_core default.name) default.read (core_items xs))) (map trait_at (values (same_outer FromIdent) from_ident_of xs))) (values (same_core default.name) default.read (core_items ys))) (map trait_at (values (same_outer FromIdent) from_ident_of ys))
    ≡ last_of (first_of set (values (same_core default.name) default.read (core_items (xs ++ ys)))) (map trait_at (values (same_outer FromIdent) from_ident_of (xs ++ ys)))
default-more set xs ys =
    let vs = values (same_core default.name) default.read (core_items xs) in
    let ws = values (same_core default.name) default.read (core_items ys) in
    let ss = values (same_outer FromIdent) from_ident_of xs in
    let ts = values (same_outer FromIdent) from_ident_of ys in
    ap (λ x. last_of x (map trait_at ts)) (ident-first (first_of set vs) ws ss)
    ∙ last_of-append (first_of (first_of set vs) ws) (map trait_at ss) (map trait_at ts)
    ∙ ap (last_of (first_of (first_of set vs) ws)) (sym (map-append trait_at ss ts))
    ∙ ap (λ zs. last_of (first_of (first_of set vs) ws) (map trait_at zs)) (sym (values-append (same_outer FromIdent) from_ident_of xs ys))
    ∙ ap (λ x. last_of x (map trait_at (values (same_outer FromIdent) from_ident_of (xs ++ ys))))
    (first_of-append set vs ws
    ∙ ap (first_of set) (sym (values-append (same_core default.name) default.read (core_items xs) (core_items ys)))
    ∙ ap (λ zs. first_of set (values (same_core default.name) default.read zs)) (sym (core_items-append xs ys)))

outer_options-more : (rules : Rules) (set : OuterFrom) (xs ys : List (Named OuterName))
    → outer_options rules (outer_options rules set xs) ys ≡ outer_options rules set (xs ++ ys)
outer_options-more rules set xs ys = simp (default-more, first-more, last-more, core_items-append) refl

pub of_outer-more : (rules : Rules) (set : OuterFrom) (first rest : List Meta)
    → of_outer rules (of_outer rules set first) rest ≡ of_outer rules set (first ++ rest)
of_outer-more rules set first rest =
    outer_options-more rules set (map outer_named first) (map outer_named rest) ∙ sym (ap (outer_options rules set) (map-append outer_named first rest))

outer_items-append : (xs ys : List (Named FdiName)) → outer_items (xs ++ ys) ≡ outer_items xs ++ outer_items ys
outer_items-append [] ys = refl
outer_items-append (x ∷ xs) ys =
    ap (λ zs. outer_item x.name x.item ++ zs) (outer_items-append xs ys)
    ∙ sym (append_assoc (outer_item x.name x.item) (outer_items xs) (outer_items ys))

fdi_options-more : (rules : Rules) (set : FdiOptions) (xs ys : List (Named FdiName))
    → fdi_options rules (fdi_options rules set xs) ys ≡ fdi_options rules set (xs ++ ys)
fdi_options-more rules set xs ys =
    let base : outer_options rules (outer_options rules set.base (outer_items xs)) (outer_items ys) ≡ outer_options rules set.base (outer_items (xs ++ ys)) =
    outer_options-more rules set.base (outer_items xs) (outer_items ys) ∙ ap (outer_options rules set.base) (sym (outer_items-append xs ys)) in
    rw (base, last-more) refl

pub of_fdi-more : (rules : Rules) (set : FdiOptions) (first rest : List Meta)
    → of_fdi rules (of_fdi rules set first) rest ≡ of_fdi rules set (first ++ rest)
of_fdi-more rules set first rest =
    fdi_options-more rules set (map fdi_named first) (map fdi_named rest) ∙ sym (ap (fdi_options rules set) (map-append fdi_named first rest))

variant_outer_items-append : (xs ys : List (Named FromVariantName)) → variant_outer_items (xs ++ ys) ≡ variant_outer_items xs ++ variant_outer_items ys
variant_outer_items-append [] ys = refl
variant_outer_items-append (x ∷ xs) ys =
    ap (λ zs. variant_outer_item x.name x.item ++ zs) (variant_outer_items-append xs ys)
    ∙ sym (append_assoc (variant_outer_item x.name x.item) (variant_outer_items xs) (variant_outer_items ys))

from_variant_options-more : (rules : Rules) (set : FromVariantOptions) (xs ys : List (Named FromVariantName))
    → from_variant_options rules (from_variant_options rules set xs) ys ≡ from_variant_options rules set (xs ++ ys)
from_variant_options-more rules set xs ys =
    let base : outer_options rules (outer_options rules set.base (variant_outer_items xs)) (variant_outer_items ys)
    ≡ outer_options rules set.base (variant_outer_items (xs ++ ys)) =
    outer_options-more rules set.base (variant_outer_items xs) (variant_outer_items ys)
    ∙ ap (outer_options rules set.base) (sym (variant_outer_items-append xs ys)) in
    rw (base, last-more) refl

pub of_from_variant-more : (rules : Rules) (set : FromVariantOptions) (first rest : List Meta)
    → of_from_variant rules (of_from_variant rules set first) rest ≡ of_from_variant rules set (first ++ rest)
of_from_variant-more rules set first rest =
    from_variant_options-more rules set (map from_variant_named first) (map from_variant_named rest)
    ∙ sym (ap (from_variant_options rules set) (map-append from_variant_named first rest))

pub of_attributes-more : (rules : Rules) (set : FromAttributesOptions) (first rest : List Meta)
    → of_attributes rules (of_attributes rules set first) rest ≡ of_attributes rules set (first ++ rest)
of_attributes-more rules set first rest = ap (λ base. record set { base = base }) (of_outer-more rules set.base first rest)

pub of_from_field-more : (rules : Rules) (set : FromFieldOptions) (first rest : List Meta)
    → of_from_field rules (of_from_field rules set first) rest ≡ of_from_field rules set (first ++ rest)
of_from_field-more rules set first rest = ap (λ base. record set { base = base }) (of_outer-more rules set.base first rest)

pub of_type_param-more : (rules : Rules) (set : FromTypeParamOptions) (first rest : List Meta)
    → of_type_param rules (of_type_param rules set first) rest ≡ of_type_param rules set (first ++ rest)
of_type_param-more rules set first rest = ap (λ base. record set { base = base }) (of_outer-more rules set.base first rest)
