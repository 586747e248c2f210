-- How an error is made, and what each call makes of one.
use Rattle.std.specs.Prelude.{◌≡◌, List, [], ◌∷◌, map, None}
use Rattle.base_core.specs.declared.text.Text.{Text}
use Rattle.tok_types.specs.declared.span.Span.{Span}
use Rattle.error_fault.specs.declared.kind.FaultKind.{FaultKind}
use Rattle.error_fault.specs.Fault.{plain, or_span, span_or, with_sibling_names}
use Rattle.error_fault.specs.Fault as faults
use Rattle.error_core.specs.ErrorView.{ErrorView, One, Several, MoreErrors, no_more, and_then, more_of, leaves}

-- the one fault of this kind, in no field and at no place
abbrev pub leaf : FaultKind → ErrorView
leaf kind = One (plain kind)

-- the root's span is set where it has none
abbrev pub spanned : ErrorView → Span → ErrorView
spanned (One fault) span = One (or_span fault span)
spanned (Several path own a b more) span = Several path (span_or own span) a b more

-- the location in front of the root's
abbrev pub located : ErrorView → Text → ErrorView
located (One fault) name = One (faults.located fault name)
located (Several path span a b more) name = Several (name ∷ path) span a b more

-- an unknown field that stands in no field has these names as alternatives too, in each child as in the
-- root; a root or a child in a field stays as it is
abbrev mutual
  pub widened : ErrorView → List Text → ErrorView
  widened (One fault) names = One (with_sibling_names fault names)
  widened (Several [] span a b more) names = Several [] span (widened a names) (widened b names) (more_widened more names)
  widened (Several (name ∷ path) span a b more) names = Several (name ∷ path) span a b more

  pub more_widened : MoreErrors → List Text → MoreErrors
  more_widened no_more names = no_more
  more_widened (and_then told more) names = and_then (widened told names) (more_widened more names)

-- the one error of a list of one; the errors of a longer list as the children of a root in no field and
-- at no place (of no errors nothing is made: `other` stands there)
abbrev pub joined : List ErrorView → ErrorView → ErrorView
joined [] other = other
joined (a ∷ []) other = a
joined (a ∷ b ∷ more) other = Several [] None a b (more_of more)

-- each fault as a child of the root; a single fault alone
abbrev pub flat : ErrorView → ErrorView
flat told = joined (map One (leaves told)) told

-- what is flat stays as it is, and has the faults of what it was made from
abbrev pub FlatStays : Type 0
FlatStays = (told : ErrorView) → (flat (flat told) ≡ flat told) × (leaves (flat told) ≡ leaves told)
