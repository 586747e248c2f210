-- Lists of faults, and the three operations on them.
use Rattle.std.specs.Prelude.{List, [], ◌∷◌, map}
use Rattle.base_core.specs.declared.text.Text.{Text}
use Rattle.tok_types.specs.declared.span.Span.{Span}
use Rattle.error_fault.specs.declared.fault.Fault.{Fault}
use Rattle.error_fault.specs.Fault.{or_span, located, with_sibling_names}

-- a list of exactly one fault that has no span gets this one; no other list changes
abbrev pub span_one : List Fault → Span → List Fault
span_one [] span = []
span_one (fault ∷ []) span = or_span fault span ∷ []
span_one (fault ∷ other ∷ more) span = fault ∷ other ∷ more

-- the name in front of each path
abbrev pub at : List Fault → Text → List Fault
at faults name = map (λ fault. located fault name) faults

-- the names are alternatives too of each unknown field whose path is empty
abbrev pub siblings : List Fault → List Text → List Fault
siblings faults names = map (λ fault. with_sibling_names fault names) faults
