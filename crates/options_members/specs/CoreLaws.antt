-- The options of a container behind items, cut anywhere.
use Rattle.std.specs.Prelude.{◌≡◌, List, ◌++◌, map, refl}
use Rattle.std.proofs.Common.{◌∙◌, ap, sym}
use Rattle.std.proofs.lemmas.List.{map-append}
use Rattle.node_core.specs.declared.attr.Meta.{Meta}
use Rattle.options_rows.specs.Rows.{Named}
use Rattle.options_rows.specs.RowLaws.{first-more, last-more}
use Rattle.options_rows.specs.Values.{Rules}
use Rattle.options_members.specs.declared.container.Core.{Core}
use Rattle.options_members.specs.declared.names.CoreName.{CoreName}
use Rattle.options_members.specs.CoreOptions.{core_options, core_named, of_core}

core_options-more : (rules : Rules) (set : Core) (xs ys : List (Named CoreName))
    → core_options rules (core_options rules set xs) ys ≡ core_options rules set (xs ++ ys)
core_options-more rules set xs ys = simp (first-more, last-more) refl

pub of_core-more : (rules : Rules) (set : Core) (first rest : List Meta)
    → of_core rules (of_core rules set first) rest ≡ of_core rules set (first ++ rest)
of_core-more rules set first rest =
    core_options-more rules set (map core_named first) (map core_named rest) ∙ sym (ap (core_options rules set) (map-append core_named first rest))
