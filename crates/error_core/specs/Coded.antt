-- A code for errors as contracts see them: the steps that put one together, last its root.
use Rattle.std.specs.Prelude.{◌≡◌, List, [], ◌∷◌, Option, None}
use Rattle.std.proofs.Common.{refl, ap, ◌∙◌}
use Rattle.std.specs.Coded.{Coded, code_by, coded_list}
use Rattle.base_core.specs.declared.text.Text.{Text}
use Rattle.tok_types.specs.declared.span.Span.{Span}
use Rattle.error_fault.specs.declared.fault.Fault.{Fault}
use Rattle.error_fault.specs.declared.kind.FaultKind.TheVariants.{Custom}
use Rattle.error_core.specs.ErrorView.{ErrorView, One, Several, MoreErrors, no_more, and_then}

-- `fault` makes an error of one fault, `root` one of the last two errors and the last list behind them;
-- `no_others` makes an empty list, `other` puts the last error in front of the last list
pub data Step : Type 0 where
  fault : Fault → Step
  root : List Text → Option Span → Step
  no_others : Step
  other : Step

-- the steps that make the error, and then the rest
abbrev mutual
  pub steps : ErrorView → List Step → List Step
  steps (One it) rest = fault it ∷ rest
  steps (Several path span a b more) rest = more_steps more (steps b (steps a (root path span ∷ rest)))

  pub more_steps : MoreErrors → List Step → List Step
  more_steps no_more rest = no_others ∷ rest
  more_steps (and_then told more) rest = more_steps more (steps told (other ∷ rest))

-- what the steps make, over these errors and lists that were made before; no errors where they fit none
abbrev pub made : List Step → List ErrorView → List MoreErrors → List ErrorView
made [] errors lists = errors
made (fault it ∷ rest) errors lists = made rest (One it ∷ errors) lists
made (root path span ∷ rest) (a ∷ b ∷ errors) (more ∷ lists) = made rest (Several path span a b more ∷ errors) lists
made (root path span ∷ rest) _ _ = []
made (no_others ∷ rest) errors lists = made rest errors (no_more ∷ lists)
made (other ∷ rest) (told ∷ errors) (more ∷ lists) = made rest errors (and_then told more ∷ lists)
made (other ∷ rest) _ _ = []

-- the first error, or else some one
abbrev pub first_made : List ErrorView → ErrorView
first_made [] = One (record { kind = Custom []; path = []; span = None })
first_made (told ∷ errors) = told

mutual
  made-steps : (told : ErrorView) (rest : List Step) (errors : List ErrorView) (lists : List MoreErrors)
      → made (steps told rest) errors lists ≡ made rest (told ∷ errors) lists
  made-steps (One it) rest errors lists = refl
  made-steps (Several path span a b more) rest errors lists =
      let after = root path span ∷ rest in
      made-more_steps more (steps b (steps a after)) errors lists
      ∙ made-steps b (steps a after) errors (more ∷ lists)
      ∙ made-steps a after (b ∷ errors) (more ∷ lists)

  made-more_steps : (more : MoreErrors) (rest : List Step) (errors : List ErrorView) (lists : List MoreErrors)
      → made (more_steps more rest) errors lists ≡ made rest errors (more ∷ lists)
  made-more_steps no_more rest errors lists = refl
  made-more_steps (and_then told more) rest errors lists =
      made-more_steps more (steps told (other ∷ rest)) errors lists
      ∙ made-steps told (other ∷ rest) errors (more ∷ lists)

pub first_made-steps : (told : ErrorView) → first_made (made (steps told []) [] []) ≡ told
first_made-steps told = ap first_made (made-steps told [] [] [])

-- the code of an error, from that of a step
abbrev pub error_code : Coded Step → Coded ErrorView
error_code code =
    code_by (List Step) (coded_list code) (λ told. steps told []) (λ list. first_made (made list [] [])) first_made-steps
