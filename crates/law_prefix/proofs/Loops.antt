-- The law of fronts for the loops that several rules have.
use Rattle.std.proofs.Common.{◌≡◌, ℕ, zero, suc, Bool, true, false, ◌==◌, if◌then◌else◌, List, [], ◌∷◌, ◌++◌, refl}
use Rattle.syn_grammar.specs.Input.{Parser, ◌>>=◌, ◌>>◌, pure, eat, expect, joined_from, joined_by, until_from, until}
use Rattle.syn_grammar.specs.Token.{is_comma, is_mark, mark_of}
use Rattle.law_prefix.specs.SameLookahead.{Relation, SameLookahead}
use Rattle.law_prefix.proofs.Steps.{Fronts, refuse-front, pure-front, then-front, first-front, turn-front, maybe-front, none-front, if-front, turns-front}
use Rattle.law_prefix.proofs.Takes.{Before, any-before, eat_or-front, eat_or_before-front, mark_before-front}

-- a parser that takes a token and is read again, wherever it stands
abbrev pub Rule : {A : Type 0} → Bool → Parser A → Type 0
Rule some parser = (limit : ℕ) → Fronts limit SameLookahead SameLookahead some true parser parser

module _ {A : Type 0} (eat_joint : Parser Bool) (item : Parser A) (joint-rule : Rule false eat_joint) (item-rule : Rule true item) where
  joined_from-front : (limit turns : ℕ) (found : List A) → Fronts limit SameLookahead SameLookahead true true (joined_from eat_joint item turns found) (joined_from eat_joint item limit found)
  unfolding joined_from
  joined_from-front limit zero found = refuse-front (joined_from eat_joint item limit found)
  joined_from-front zero (suc turns) found =
      none-front (joined_from eat_joint item 0 found) (first-front (item-rule 0) (λ value. then-front (joint-rule 0) (λ more.
      if-front more (maybe-front (joined_from-front 0 turns (found ++ value ∷ []))) (pure-front (found ++ value ∷ [])))))
  joined_from-front (suc limit) (suc turns) found =
      turn-front (item-rule (suc limit)) (λ value. then-front (joint-rule limit) (λ more.
      if-front more (maybe-front (joined_from-front limit turns (found ++ value ∷ []))) (pure-front (found ++ value ∷ []))))

  pub joined_by-front : Rule true (joined_by eat_joint item)
  joined_by-front limit = turns-front {loop = λ turns. joined_from eat_joint item turns []} (λ limit turns. joined_from-front limit turns [])

-- behind the mark that closes a list stands what is told
module _ {A : Type 0} (closing : ℕ) (item : Parser A) {End : Relation} (none : (0 == closing) ≡ false) (before : Before End (is_mark closing)) (item-rule : Rule true item) where
  -- behind an item
  until-behind : (limit : ℕ) (found : List A) (more more' : Parser (List A)) → Fronts limit SameLookahead End true true more more'
      → Fronts limit SameLookahead End true true (eat 1 is_comma >>= (λ b. if b then more else (expect 1 (is_mark closing) >> pure found))) (eat 1 is_comma >>= (λ b. if b then more' else (expect 1 (is_mark closing) >> pure found)))
  unfolding mark_of
  until-behind limit found more more' h =
      eat_or-front is_comma refl (λ tree rest tail. refl) (maybe-front h) (first-front (mark_before-front closing none before) (λ _. pure-front found))

  until_from-front : (limit turns : ℕ) (found : List A) → Fronts limit SameLookahead End true true (until_from closing item turns found) (until_from closing item limit found)
  unfolding until_from mark_of
  until_from-front limit zero found = refuse-front (until_from closing item limit found)
  until_from-front zero (suc turns) found =
      none-front (until_from closing item 0 found) (eat_or_before-front (is_mark closing) none (λ tree rest tail. refl) before (pure-front found) (first-front (item-rule 0) (λ value.
      maybe-front (until-behind 0 (found ++ value ∷ []) (until_from closing item turns (found ++ value ∷ [])) (until_from closing item 0 (found ++ value ∷ [])) (until_from-front 0 turns (found ++ value ∷ []))))))
  until_from-front (suc limit) (suc turns) found =
      eat_or_before-front (is_mark closing) none (λ tree rest tail. refl) before (pure-front found) (turn-front (item-rule (suc limit)) (λ value.
      until-behind limit (found ++ value ∷ []) (until_from closing item turns (found ++ value ∷ [])) (until_from closing item limit (found ++ value ∷ [])) (until_from-front limit turns (found ++ value ∷ []))))

  pub until_before-front : (limit : ℕ) → Fronts limit SameLookahead End true true (until closing item) (until closing item)
  until_before-front limit = turns-front {loop = λ turns. until_from closing item turns []} (λ limit turns. until_from-front limit turns [])

pub until-front : {A : Type 0} (closing : ℕ) (item : Parser A) → (0 == closing) ≡ false → Rule true item → Rule true (until closing item)
until-front closing item none rule limit = until_before-front closing item none (any-before (is_mark closing)) rule limit
