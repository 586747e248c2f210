use Rattle.tok_types.specs.declared.tree.TokenStream.{out-TokenStream}
use Rattle.law_nested.proofs.OneText.{in_one_text}
use Rattle.law_nested.proofs.PlacesWholes.{nested_of-listed}
use Rattle.law_nested.proofs.places.nested_items_stand_where_their_tokens_do.Goals as goal

pub returns-clause-nested_of : goal.returns-clause-nested_of
returns-clause-nested_of c = nested_of-listed

pub returns-clause-one_text : goal.returns-clause-one_text
returns-clause-one_text c = λ text tokens found h e. in_one_text text (out-TokenStream tokens).trees found h (nested_of-listed tokens found e)
