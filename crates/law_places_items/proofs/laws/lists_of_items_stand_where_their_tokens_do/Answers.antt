use Rattle.law_places_items.proofs.Wholes.{items_of-stand, fields_named-hold, fields_unnamed-hold, enum_body-holds}
use Rattle.law_places_items.proofs.laws.lists_of_items_stand_where_their_tokens_do.Goals as goal

pub returns-clause-items_of : goal.returns-clause-items_of
returns-clause-items_of c = items_of-stand

pub returns-clause-named : goal.returns-clause-named
returns-clause-named c = fields_named-hold

pub returns-clause-unnamed : goal.returns-clause-unnamed
returns-clause-unnamed c = fields_unnamed-hold

pub returns-clause-variants : goal.returns-clause-variants
returns-clause-variants c = enum_body-holds
