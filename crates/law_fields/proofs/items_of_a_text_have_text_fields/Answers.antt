use Rattle.law_fields.proofs.Items.{spelled_items}
use Rattle.law_fields.proofs.items_of_a_text_have_text_fields.Goals as goal

pub returns : goal.returns
returns c = spelled_items
