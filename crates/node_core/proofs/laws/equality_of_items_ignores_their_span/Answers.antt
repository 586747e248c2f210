use Rattle.node_core.specs.contracts.derive.DeriveInputEq.TheImpl.Laws as derive_input
use Rattle.node_core.proofs.laws.equality_of_items_ignores_their_span.Goals as goal

pub returns : goal.returns
returns c = λ a span. derive_input.laws-law.refl a
