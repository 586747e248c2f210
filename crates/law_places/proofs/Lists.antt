-- How far the lists go that rules read outside of groups.
use Rattle.std.proofs.Common.{ℕ, zero, suc, Bool, List, [], ◌∷◌, ◌++◌}
use Rattle.syn_grammar.specs.Input.{Input, Parser, until_from, until, joined_from, joined_by}
use Rattle.syn_grammar.specs.Token.{is_comma, is_mark}
use Rattle.law_places.proofs.Steps.{GoesAt, Goes, refuse-at, pure-goes, so-at, if-at, turns-at, eat-at, expect-at}

module _ {A : Type 0} {says : Input → A → Input → Type 0} {item : Parser A} (h : (input : Input) → GoesAt (says input) item input) where
  until_from-goes : (closing turns : ℕ) (found : List A) → Goes (until_from closing item turns found)
  unfolding until_from
  until_from-goes closing zero found input = refuse-at input
  until_from-goes closing (suc turns) found input = so-at (eat-at 1 (is_mark closing) input) (λ closed input.
      if-at closed (pure-goes found input) (
      so-at (h input) (λ value input. so-at (eat-at 1 is_comma input) (λ more input.
      if-at more (until_from-goes closing turns (found ++ value ∷ []) input)
      (so-at (expect-at 1 (is_mark closing) input) (λ mark input. pure-goes (found ++ value ∷ []) input))))))

  pub until-goes : (closing : ℕ) → Goes (until closing item)
  until-goes closing input = turns-at (λ turns. until_from-goes closing turns [] input)

  pub joined_from-goes : {eat_joint : Parser Bool} → Goes eat_joint → (turns : ℕ) (found : List A) → Goes (joined_from eat_joint item turns found)
  unfolding joined_from
  joined_from-goes g zero found input = refuse-at input
  joined_from-goes g (suc turns) found input = so-at (h input) (λ value input. so-at (g input) (λ more input.
      if-at more (joined_from-goes g turns (found ++ value ∷ []) input) (pure-goes (found ++ value ∷ []) input)))

  pub joined_by-goes : {eat_joint : Parser Bool} → Goes eat_joint → Goes (joined_by eat_joint item)
  joined_by-goes g input = turns-at (λ turns. joined_from-goes g turns [] input)
