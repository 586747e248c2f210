-- The options of a container under `FromMeta` behind items, cut anywhere.
use Rattle.std.specs.Prelude.{◌≡◌, List, [], ◌∷◌, ◌++◌, map, refl}
use Rattle.std.proofs.Common.{◌∙◌, ap, sym, append_assoc}
use Rattle.std.proofs.lemmas.List.{map-append}
use Rattle.node_core.specs.declared.attr.Meta.{Meta}
use Rattle.options_rows.specs.Rows.{Named}
use Rattle.options_rows.specs.RowLaws.{first-more, last-more}
use Rattle.options_rows.specs.Values.{Rules}
use Rattle.options_meta.specs.declared.from_meta.FromMetaOptions.{FromMetaOptions}
use Rattle.options_meta.specs.declared.names.MetaName.{MetaName}
use Rattle.options_meta.specs.MetaOptions.{meta_core_item, meta_core_items, meta_options, meta_named, of_meta}

meta_core_items-append : (xs ys : List (Named MetaName)) → meta_core_items (xs ++ ys) ≡ meta_core_items xs ++ meta_core_items ys
meta_core_items-append [] ys = refl
meta_core_items-append (x ∷ xs) ys =
    ap (λ zs. meta_core_item x.name x.item ++ zs) (meta_core_items-append xs ys)
    ∙ sym (append_assoc (meta_core_item x.name x.item) (meta_core_items xs) (meta_core_items ys))

meta_options-more : (rules : Rules) (set : FromMetaOptions) (xs ys : List (Named MetaName))
    → meta_options rules (meta_options rules set xs) ys ≡ meta_options rules set (xs ++ ys)
meta_options-more rules set xs ys = simp (first-more, last-more, meta_core_items-append) refl

pub of_meta-more : (rules : Rules) (set : FromMetaOptions) (first rest : List Meta)
    → of_meta rules (of_meta rules set first) rest ≡ of_meta rules set (first ++ rest)
of_meta-more rules set first rest =
    meta_options-more rules set (map meta_named first) (map meta_named rest) ∙ sym (ap (meta_options rules set) (map-append meta_named first rest))
