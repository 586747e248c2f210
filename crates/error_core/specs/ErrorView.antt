-- An error as contracts see it, a tree: one fault, or two errors and more under a path. Its faults stand
-- from left to right, each with its path from the root inwards.
use Rattle.std.specs.Prelude.{List, [], ◌∷◌, ◌++◌, map, flat_map, codes, Option}
use Rattle.base_core.specs.declared.text.Text.{Text}
use Rattle.tok_types.specs.declared.span.Span.{Span}
use Rattle.error_fault.specs.declared.fault.Fault.{Fault}
use Rattle.error_fault.specs.FaultText.{fault_text, path_text}

mutual
  pub data ErrorView : Type 0 where
    One : Fault → ErrorView
    Several : (path : List Text) (span : Option Span) (first second : ErrorView) (more : MoreErrors) → ErrorView

  -- the children of a root behind the second
  pub data MoreErrors : Type 0 where
    no_more : MoreErrors
    and_then : ErrorView → MoreErrors → MoreErrors

-- the errors as a list
abbrev pub list_of : MoreErrors → List ErrorView
list_of no_more = []
list_of (and_then told more) = told ∷ list_of more

-- the errors of a list
abbrev pub more_of : List ErrorView → MoreErrors
more_of [] = no_more
more_of (told ∷ errors) = and_then told (more_of errors)

-- the fault with these names in front of its path
abbrev pub below : List Text → Fault → Fault
below path fault = record { kind = fault.kind; path = path ++ fault.path; span = fault.span }

-- the first fault
abbrev pub first_leaf : ErrorView → Fault
first_leaf (One fault) = fault
first_leaf (Several path span a b more) = below path (first_leaf a)

-- the faults behind the first, and those of the children behind the second
abbrev mutual
  pub more_leaves : ErrorView → List Fault
  more_leaves (One fault) = []
  more_leaves (Several path span a b more) =
      map (below path) (more_leaves a ++ ((first_leaf b ∷ more_leaves b) ++ leaves_in more))

  pub leaves_in : MoreErrors → List Fault
  leaves_in no_more = []
  leaves_in (and_then told more) = (first_leaf told ∷ more_leaves told) ++ leaves_in more

-- the faults from left to right, each with the locations from the root inwards
abbrev pub leaves : ErrorView → List Fault
leaves told = first_leaf told ∷ more_leaves told

-- the faults of several errors, one after another
abbrev pub held : List ErrorView → List Fault
held errors = flat_map leaves errors

-- the span of the root
abbrev pub span_of : ErrorView → Option Span
span_of (One fault) = fault.span
span_of (Several path span a b more) = span

-- the text: that of the one fault, or those of the children, and the path of the root
abbrev mutual
  pub error_text : ErrorView → Text
  error_text (One fault) = fault_text fault
  error_text (Several path span a b more) =
      (codes "Multiple errors: (" ++ (error_text a ++ ((codes ", " ++ error_text b) ++ more_text more)) ++ codes ")") ++ path_text path

  -- the texts of the children behind the second
  pub more_text : MoreErrors → Text
  more_text no_more = []
  more_text (and_then told more) = (codes ", " ++ error_text told) ++ more_text more

-- the children of the root, or the one leaf
abbrev pub children_of : ErrorView → List ErrorView
children_of (One fault) = One fault ∷ []
children_of (Several path span a b more) = a ∷ b ∷ list_of more
