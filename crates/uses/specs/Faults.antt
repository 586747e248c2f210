-- The errors of fields without a name.
use Rattle.std.specs.Prelude.{List, [], ◌∷◌, codes, Option, Some, None}
use Rattle.error_core.specs.Changes.{leaf, spanned}
use Rattle.error_core.specs.ErrorView.{ErrorView}
use Rattle.error_core.specs.Types.fault_kind.{Custom}
use Rattle.syn_core.specs.Nodes.{Field}
use Rattle.syn_core.specs.Tokens.{Ident, Span}

-- the error of a field at the place
abbrev pub unnamed : Span → ErrorView
unnamed span = spanned (leaf (Custom (codes "a field needs a name"))) span

abbrev pub error_by : Span → Option Ident → List ErrorView
error_by span None = unnamed span ∷ []
error_by span (Some name) = []

-- the error of a field that has no name, at its place
abbrev pub error_in : Field → List ErrorView
error_in field = error_by field.span field.ident
