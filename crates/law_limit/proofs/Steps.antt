-- The steps that every rule is made of read as much where their parts do.
use Rattle.std.proofs.Common.{ℕ, zero, suc, Bool, true, false, if◌then◌else◌, List, [], ◌∷◌, ◌++◌, length, Some, None, refl}
use Rattle.tok_types.specs.declared.span.Span.{Span}
use Rattle.tok_types.specs.declared.tree.Delimiter.{Delimiter}
use Rattle.syn_grammar.specs.Input.{Input, Outcome, Parser, and_then, ◌>>=◌, ◌<$>◌, pure, refuse, next, eat, expect, at_end, start_of, upto, finished, inside, items_from, until_from, joined_from, by_turns, items_after, until, joined_by}
use Rattle.syn_grammar.specs.Token.{contents_of, is_comma, is_group, is_mark}
use Rattle.law_limit.specs.IsExtendedBy.{Agrees, IsExtendedBy}

agrees : {A : Type 0} (outcome : Outcome A) → Agrees outcome outcome
agrees None = tt
agrees (Some found) = refl

-- a parser reads as much as itself
pub same : {A : Type 0} (parser : Parser A) → IsExtendedBy parser parser
same parser = record { at = λ input. agrees (parser input) }

pub gives : {A : Type 0} (value : A) → IsExtendedBy (pure value) (pure value)
gives value = same (pure value)

-- what a rule ends with
pub close : {A : Type 0} (start : Span) (make : Span → A) → IsExtendedBy (upto start >>= (λ span. pure (make span))) (upto start >>= (λ span. pure (make span)))
close start make = same (upto start >>= (λ span. pure (make span)))

pub bind : {A B : Type 0} {parser other : Parser A} {next following : A → Parser B}
    → IsExtendedBy parser other → ((value : A) → IsExtendedBy (next value) (following value)) → IsExtendedBy (parser >>= next) (other >>= following)
bind {A} {parser = parser} {other = other} {next = proceed} {following = following} h g = record {
  at = λ input. go (parser input) (other input) (h.at input);
}
  where
    go : (outcome also : Outcome A) → Agrees outcome also → Agrees (and_then outcome proceed) (and_then also following)
    go None also a = tt
    go (Some found) also a = rw a ((g found.0).at found.1)

-- behind what is the same of both
pub so : {A B : Type 0} (parser : Parser A) {next following : A → Parser B} → ((value : A) → IsExtendedBy (next value) (following value)) → IsExtendedBy (parser >>= next) (parser >>= following)
so parser = bind (same parser)

pub mapped : {A B : Type 0} {parser other : Parser A} (make : A → B) → IsExtendedBy parser other → IsExtendedBy (make <$> parser) (make <$> other)
mapped make h = bind h (λ value. gives (make value))

pub branch : {A : Type 0} {one two other another : Parser A} (holds : Bool)
    → IsExtendedBy one other → IsExtendedBy two another → IsExtendedBy (if holds then one else two) (if holds then other else another)
branch true h g = h
branch false h g = g

finished-agrees : {A : Type 0} (after : Input) (outcome also : Outcome A) → Agrees outcome also → Agrees (finished after outcome) (finished after also)
finished-agrees after None also a = tt
finished-agrees after (Some found) also a = rw a (agrees (finished after (Some found)))

pub group : {A : Type 0} {parser other : Parser A} (between : Delimiter) → IsExtendedBy parser other → IsExtendedBy (inside between parser) (inside between other)
group {A} {parser} {other} between h = record {
  at = λ input. go (is_group between input.rest) (next input) (parser (start_of (contents_of input.rest))) (other (start_of (contents_of input.rest))) (h.at (start_of (contents_of input.rest)));
}
  where
    go : (found : Bool) (after : Input) (outcome also : Outcome A) → Agrees outcome also → Agrees (if found then finished after outcome else None) (if found then finished after also else None)
    go true after outcome also a = finished-agrees after outcome also a
    go false after outcome also a = tt

-- ---- lists

pub turns : {A : Type 0} {loop other : ℕ → Parser A} → ((count : ℕ) → IsExtendedBy (loop count) (other count)) → IsExtendedBy (by_turns loop) (by_turns other)
turns h = record { at = λ input. (h (length input.rest)).at input }

module _ {A : Type 0} {item other : Parser A} (h : IsExtendedBy item other) where
  items_from-more : (count : ℕ) (found : List A) → IsExtendedBy (items_from item count found) (items_from other count found)
  unfolding items_from
  items_from-more zero found = same (items_from item zero found)
  items_from-more (suc count) found = so at_end (λ done. branch done (gives found) (bind h (λ value.
      so (eat 1 is_comma) (λ more. branch more (items_from-more count (found ++ value ∷ [])) (gives (found ++ value ∷ []))))))

  pub items_after-more : (found : List A) → IsExtendedBy (items_after item found) (items_after other found)
  items_after-more found = turns (λ count. items_from-more count found)

  until_from-more : (closing count : ℕ) (found : List A) → IsExtendedBy (until_from closing item count found) (until_from closing other count found)
  unfolding until_from
  until_from-more closing zero found = same refuse
  until_from-more closing (suc count) found = so (eat 1 (is_mark closing)) (λ closed. branch closed (gives found) (bind h (λ value.
      so (eat 1 is_comma) (λ more. branch more (until_from-more closing count (found ++ value ∷ [])) (so (expect 1 (is_mark closing)) (λ mark. gives (found ++ value ∷ [])))))))

  pub until-more : (closing : ℕ) → IsExtendedBy (until closing item) (until closing other)
  until-more closing = turns (λ count. until_from-more closing count [])

  joined_from-more : (eat_joint : Parser Bool) (count : ℕ) (found : List A) → IsExtendedBy (joined_from eat_joint item count found) (joined_from eat_joint other count found)
  unfolding joined_from
  joined_from-more eat_joint zero found = same refuse
  joined_from-more eat_joint (suc count) found = bind h (λ value. so eat_joint (λ more. branch more (joined_from-more eat_joint count (found ++ value ∷ [])) (gives (found ++ value ∷ []))))

  pub joined_by-more : (eat_joint : Parser Bool) → IsExtendedBy (joined_by eat_joint item) (joined_by eat_joint other)
  joined_by-more eat_joint = turns (λ count. joined_from-more eat_joint count [])
