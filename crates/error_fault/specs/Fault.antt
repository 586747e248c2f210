-- One fault: how it begins, and what its place becomes.
use Rattle.std.specs.Prelude.{List, [], ◌∷◌, Option, Some, None}
use Rattle.base_core.specs.declared.text.Text.{Text}
use Rattle.tok_types.specs.declared.span.Span.{Span}
use Rattle.error_fault.specs.declared.kind.FaultKind.{FaultKind}
use Rattle.error_fault.specs.declared.fault.Fault.{Fault}
use Rattle.error_fault.specs.Kind.{with_alternatives}

-- a fault in no field and at no place
abbrev pub plain : FaultKind → Fault
plain kind = record { kind = kind; path = []; span = None }

-- a fault in no field, at a place
abbrev pub at_span : FaultKind → Span → Fault
at_span kind span = record { kind = kind; path = []; span = Some span }

-- the span that is there, else the other
abbrev pub span_or : Option Span → Span → Option Span
span_or (Some own) span = Some own
span_or None span = Some span

-- the fault at this place, where it has none of its own
abbrev pub or_span : Fault → Span → Fault
or_span fault span = record { kind = fault.kind; path = fault.path; span = span_or fault.span span }

-- the fault one field further in
abbrev pub located : Fault → Text → Fault
located fault name = record { kind = fault.kind; path = name ∷ fault.path; span = fault.span }

-- the kind with these alternatives too, where the path is empty
abbrev pub kind_with_siblings : FaultKind → List Text → List Text → FaultKind
kind_with_siblings kind [] names = with_alternatives kind names
kind_with_siblings kind (name ∷ path) names = kind

-- an unknown field has these alternatives too, where it stands in no other field
abbrev pub with_sibling_names : Fault → List Text → Fault
with_sibling_names fault names =
    record { kind = kind_with_siblings fault.kind fault.path names; path = fault.path; span = fault.span }
