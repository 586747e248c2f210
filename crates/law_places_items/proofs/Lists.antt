-- How far the lists of items go.
use Rattle.std.proofs.Common.{ℕ, zero, suc, Bool, List, [], ◌∷◌, ◌++◌, length, refl}
use Rattle.tok_types.specs.declared.tree.TokenTree.{TokenTree}
use Rattle.syn_grammar.specs.Input.{Input, Parser, is_end, skipped}
use Rattle.syn_items.specs.Lists.{take_all, while_from, each_while}
use Rattle.law_places.proofs.Steps.{GoesAt, Goes, once-at, moved-skipped, refuse-at, pure-goes, so-at, if-at, seen-at, turns-at}

pub take_all-at : Goes take_all
take_all-at input = once-at input input.rest (skipped (length input.rest) input) refl (moved-skipped (length input.rest) input) (record {})

module _ {A : Type 0} {says : Input → A → Input → Type 0} {item : Parser A} (h : (input : Input) → GoesAt (says input) item input) where
  while_from-goes : (begins : List TokenTree → Bool) (turns : ℕ) (found : List A) → Goes (while_from begins item turns found)
  unfolding while_from
  while_from-goes begins zero found input = seen-at is_end (λ done. if-at done (pure-goes found input) (refuse-at input))
  while_from-goes begins (suc turns) found input = seen-at begins (λ more. if-at more
      (so-at (h input) (λ value input. while_from-goes begins turns (found ++ value ∷ []) input)) (pure-goes found input))

  pub each_while-goes : (begins : List TokenTree → Bool) → Goes (each_while begins item)
  each_while-goes begins input = turns-at (λ turns. while_from-goes begins turns [] input)
