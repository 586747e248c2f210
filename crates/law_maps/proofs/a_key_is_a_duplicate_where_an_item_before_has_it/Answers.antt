use Rattle.law_maps.proofs.Filters.{map-by-filters, set-by-filters}
use Rattle.law_maps.proofs.a_key_is_a_duplicate_where_an_item_before_has_it.Goals as goal

pub returns-clause-map : goal.returns-clause-map
returns-clause-map c = λ start same text key_of cells items. map-by-filters same text key_of cells items

pub returns-clause-set : goal.returns-clause-set
returns-clause-set c = λ start same text span_of read items. set-by-filters same text span_of read items
