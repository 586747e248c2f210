use Rattle.law_places.proofs.Wholes.{stands-of}
use Rattle.law_places_items.proofs.Attributes.{attribute-stood, meta-stood, meta_path-stood, signed-stood, value_of-stands}
use Rattle.law_places_items.proofs.laws.attributes_stand_where_they_are_read.Goals as goal

pub returns-clause-attribute : goal.returns-clause-attribute
returns-clause-attribute c = stands-of attribute-stood

pub returns-clause-meta : goal.returns-clause-meta
returns-clause-meta c = stands-of meta-stood

pub returns-clause-value : goal.returns-clause-value
returns-clause-value c = value_of-stands

pub returns-clause-number : goal.returns-clause-number
returns-clause-number c = stands-of signed-stood

pub returns-clause-path : goal.returns-clause-path
returns-clause-path c = stands-of meta_path-stood
