-- The keys that paths are.
use Rattle.std.specs.Prelude.{Bool, Option, Some, None, [], codes}
use Rattle.base_core.specs.declared.text.Text.{Text}
use Rattle.tok_types.specs.contracts.ident.IdentPartialEq.TheImpl as ident_eq
use Rattle.tok_types.specs.declared.ident.Ident.{Ident}
use Rattle.node_expr.specs.PathIdent.{ident_of}
use Rattle.node_expr.specs.contracts.path.PathPartialEq.TheImpl as path_eq
use Rattle.node_expr.specs.declared.path.Path.{Path}
use Rattle.node_make.specs.PathText.{path_text}
use Rattle.node_span.specs.Spanned.{path_span}
use Rattle.error_fault.specs.Fault.{at_span}
use Rattle.error_fault.specs.Outcome.{Outcome, Value, Faults}
use Rattle.error_fault.specs.declared.kind.FaultKind.TheVariants.{Custom}

-- the text of the path
abbrev pub text_key : Path → Outcome Text
text_key path = Value (path_text path)

-- the identifier that is there; without one the path is no key
abbrev pub ident_or : Path → Option Ident → Outcome Ident
ident_or path (Some ident) = Value ident
ident_or path None = Faults (at_span (Custom (codes "Key must be an identifier")) (path_span path)) []

-- the one identifier that the path is
abbrev pub ident_key : Path → Outcome Ident
ident_key path = ident_or path (ident_of path)

-- `==` of identifiers, which does not look at spans
abbrev pub ident_same : Ident → Ident → Bool
ident_same = ident_eq.ghosts.eq

-- `==` of paths, which does not look at spans
abbrev pub path_same : Path → Path → Bool
path_same = path_eq.ghosts.eq
