-- Why tokens are not read.
use Rattle.std.specs.Prelude.{List, ◌∷◌}
use Rattle.base_core.specs.declared.text.Text.{Text}
use Rattle.tok_types.specs.declared.span.Span.{Span}
use Rattle.node_core.specs.declared.error.SynError.{SynError}

-- the faults in their order, each a place and what is wrong there
abbrev pub faults_of : SynError → List (Span × Text)
faults_of error = error.first ∷ error.more
