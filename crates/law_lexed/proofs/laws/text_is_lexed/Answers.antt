use Rattle.law_lexed.proofs.Law.{lexed-spells, spells-lexed}
use Rattle.law_lexed.proofs.laws.text_is_lexed.Goals as goal

pub returns : goal.returns
returns c source text tokens = (lexed-spells source text tokens, λ h. spells-lexed source text tokens h.0 h.1)
