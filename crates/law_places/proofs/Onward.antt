-- Steps that take a token: less is left behind them.
use Rattle.std.proofs.Common.{◌≡◌, ◌⊎◌, inl, ℕ, zero, suc, ◌≤◌, ◌<◌, Bool, false, ◌==◌, List, [], ◌∷◌, length, Option, Some, None, refl, arith, ap, sym, subst, ◌∙◌, length-append}
use Rattle.std.proofs.lemmas.Bool.{both_ways}
use Rattle.std.proofs.lemmas.Option.{some_pair_parts}
use Rattle.tok_types.specs.Span.{joined}
use Rattle.tok_types.specs.declared.span.Span.{Span}
use Rattle.tok_types.specs.declared.span.Span.TheVariants.{CallSite}
use Rattle.tok_types.specs.declared.tree.Delimiter.{Delimiter}
use Rattle.tok_types.specs.declared.tree.TokenTree.{TokenTree}
use Rattle.syn_grammar.specs.declared.word.Word.{Word}
use Rattle.syn_grammar.specs.declared.word.Word.TheVariants as word
use Rattle.syn_grammar.specs.Input.{Input, Parser, ◌>>=◌, ◌<$>◌, pure, first_span, here, upto, next, next_at, skipped, expect, take_as, inside, joined_from, joined_by}
use Rattle.syn_grammar.specs.Token.{ident_of, is_group, lifetime_of, literal_of, is_colon, is_mark, mark_of}
use Rattle.syn_grammar.specs.Words.{name_of, next_word, peek, is_word}
use Rattle.law_prefix.proofs.Steps.{bind-at}
use Rattle.law_prefix.specs.ReadsByPrefix.{ReadsByPrefix}
use Rattle.law_prefix.specs.SameLookahead.{Relation}
use Rattle.law_places.proofs.Lists.{joined_from-goes}
use Rattle.law_places.proofs.Steps.{Moved, GoesAt, Goes, StandsHere, refuse-at, pure-goes, then-at, if-at, turns-at, close-at, take_as-at, expect-at, in-group, behind_one, same-end}

-- ---- how much is left

pub moved-shorter : (input after : Input) → Moved input after → length after.rest ≤ length input.rest
moved-shorter input after moved = let is = ap length moved.is in omega (arith, length-append moved.read after.rest)

-- less than was there
pub record Less {A : Type 0} (input : Input) (found : A) (after : Input) : Type 0 where
  pub less : length after.rest < length input.rest

-- what is found stands from there on, and less than so many tokens are left
pub record Stood {A : Type 0} (span_of : A → Span) (start : Span) (size : ℕ) (found : A) (after : Input) : Type 0 where
  pub is : span_of found ≡ joined start after.last
  pub less : length after.rest < size

-- the same wherever the parser is
abbrev pub StoodHere : {A : Type 0} → (A → Span) → Parser A → Type 0
StoodHere span_of parser = (input : Input) → GoesAt (Stood span_of (first_span input.rest) (length input.rest)) parser input

pub here-stood : {A : Type 0} {span_of : A → Span} {next : Span → Parser A} {input : Input} → ((start : Span) → start ≡ first_span input.rest → GoesAt (Stood span_of start (length input.rest)) (next start) input)
    → GoesAt (Stood span_of (first_span input.rest) (length input.rest)) (here >>= next) input
here-stood {input = input} h = record { of = (h (first_span input.rest) refl).of }

-- where less is left is no matter
pub here_of : {A : Type 0} {span_of : A → Span} {parser : Parser A} → StoodHere span_of parser → StandsHere span_of parser
here_of h input = record { of = λ after found e. let went = (h input).of after found e in (went.0, record { is = went.1.is }) }

-- from another name of that place on
pub stood_from-at : {A : Type 0} {span_of : A → Span} {parser : Parser A} {start : Span} {size : ℕ} {input : Input} → start ≡ first_span input.rest → GoesAt (Stood span_of (first_span input.rest) size) parser input → GoesAt (Stood span_of start size) parser input
stood_from-at {span_of = span_of} {parser = parser} {size = size} {input = input} is h = subst (λ (start : Span). GoesAt (Stood span_of start size) parser input) (sym is) h

-- a step behind which no more is left than was there
pub onward-at : {A B : Type 0} {says : A → Input → Type 0} {said : B → Input → Type 0} {parser : Parser A} {next : A → Parser B} {input : Input}
    → GoesAt says parser input → ((value : A) (between : Input) → length between.rest ≤ length input.rest → says value between → GoesAt said (next value) between) → GoesAt said (parser >>= next) input
onward-at {says = says} {parser = parser} {input = input} h g =
    then-at {says = λ value between. says value between × (length between.rest ≤ length input.rest)}
    (record { of = λ after found e. let one = h.of after found e in (one.0, (one.1, moved-shorter input after one.0)) })
    (λ value between s. g value between s.1 s.0)

pub close_on-at : {A : Type 0} {span_of : A → Span} (start : Span) (size : ℕ) (make : Span → A) (input : Input) → length input.rest < size → ((span : Span) → span_of (make span) ≡ span)
    → GoesAt (Stood span_of start size) (upto start >>= (λ span. pure (make span))) input
close_on-at {span_of = span_of} start size make input less keeps = record {
  of = λ after found e.
      let went = (close-at {span_of = span_of} start make input keeps).of after found e in
      let shorter = moved-shorter input after went.0 in
      (went.0, record { is = went.1.is; less = omega arith });
}

-- what is read by prefix takes a token
pub stood-of : {A : Type 0} {span_of : A → Span} {Same : Relation} {parser : Parser A} → StandsHere span_of parser → ReadsByPrefix Same parser → StoodHere span_of parser
stood-of h front input = record {
  of = λ after found e.
      let went = (h input).of after found e in
      let again = front.of input after found e in
      let sizes = ap length again.is in
      let some = again.some in
      (went.0, record { is = went.1.is; less = omega (arith, length-append again.read after.rest) });
}

-- what may be left out: it takes no token then, and stands nowhere
abbrev pub OrNowhere : {A : Type 0} → (A → Span) → Input → A → Input → Type 0
OrNowhere span_of input found after = Stood span_of (first_span input.rest) (length input.rest) found after ⊎ ((after ≡ input) × (span_of found ≡ CallSite))

abbrev pub StoodOrNowhere : {A : Type 0} → (A → Span) → Parser A → Type 0
StoodOrNowhere span_of parser = (input : Input) → GoesAt (OrNowhere span_of input) parser input

pub or_nowhere-at : {A : Type 0} {span_of : A → Span} {parser : Parser A} {later : Input} (input : Input) → GoesAt (Stood span_of (first_span input.rest) (length input.rest)) parser later → GoesAt (OrNowhere span_of input) parser later
or_nowhere-at input h = record { of = λ after found e. let went = h.of after found e in (went.0, inl went.1) }

-- ---- one token

pub next-less : (input : Input) → (input.rest ≡ [] → ⊥) → length (next input).rest < length input.rest
unfolding next
next-less input some = go input.rest input.last some
  where
    go : (trees : List TokenTree) (last : Span) → (trees ≡ [] → ⊥) → length (next_at trees last).rest < length trees
    go [] last some = absurd (some refl)
    go (tree ∷ trees) last some = omega arith

pub take-less : {A : Type 0} (of : List TokenTree → Option A) → of [] ≡ None → (input : Input) → GoesAt (Less input) (take_as of) input
take-less of none input = record {
  of = λ after found e.
      let one = (take_as-at of input).of after found e in
      let some : input.rest ≡ [] → ⊥ = λ is. let refused : of [] ≡ Some found = ap of (sym is) ∙ one.1.is in let nothing = sym none ∙ refused in absurd cc in
      let less = next-less input some in
      (one.0, record { less = rw one.1.left less });
}

pub expect-less : (holds : List TokenTree → Bool) → holds [] ≡ false → (input : Input) → GoesAt (Less input) (expect 1 holds) input
unfolding skipped
expect-less holds none input = record {
  of = λ after found e.
      let one = (expect-at 1 holds input).of after found e in
      let some : input.rest ≡ [] → ⊥ = λ is. absurd (both_ways _ none (ap holds (sym is) ∙ one.1.is)) in
      let less = next-less input some in
      (one.0, record { less = rw one.1.left less });
}

-- what is made of one token stands where the token does
pub took-stood : {A B : Type 0} {span_of : B → Span} (of : List TokenTree → Option A) → of [] ≡ None → (make : A → B) → ((trees : List TokenTree) (found : A) → of trees ≡ Some found → span_of (make found) ≡ first_span trees) → StoodHere span_of (make <$> take_as of)
took-stood {span_of = span_of} of none make keeps input = record {
  of = λ after found e.
      let parts = bind-at (take_as of input) (λ value. pure (make value)) found after e in
      let took = (take_as-at of input).of parts.1 parts.0 parts.2 in
      let less = ((take-less of none input).of parts.1 parts.0 parts.2).1.less in
      let both = some_pair_parts (make parts.0) found parts.1 after parts.3 in
      same-end (λ it end. Moved input end × Stood span_of (first_span input.rest) (length input.rest) it end) (make parts.0) found parts.1 after both.0 both.1
      (took.0, record { is = keeps input.rest parts.0 took.1.is ∙ behind_one (first_span input.rest) input parts.1 refl took.1.left; less = less });
}

group-none : (delimiter : Delimiter) → is_group delimiter [] ≡ false
unfolding is_group
group-none delimiter = refl

-- ---- one token alone

-- one token is taken, which was there
pub record Single {A : Type 0} (input : Input) (found : A) (after : Input) : Type 0 where
  pub left : after ≡ next input
  pub less : length after.rest < length input.rest

pub group-single : {A : Type 0} (delimiter : Delimiter) (parser : Parser A) (input : Input) → GoesAt (Single input) (inside delimiter parser) input
group-single delimiter parser input = record {
  of = λ after found e.
      let one = (in-group delimiter parser input).of after found e in
      let some : input.rest ≡ [] → ⊥ = λ none. absurd (both_ways _ (group-none delimiter) (ap (is_group delimiter) (sym none) ∙ one.1.there)) in
      let less = next-less input some in
      (one.0, record { left = one.1.left; less = rw one.1.left less });
}

pub expect-single : (holds : List TokenTree → Bool) → holds [] ≡ false → (input : Input) → GoesAt (Single input) (expect 1 holds) input
unfolding skipped
expect-single holds none input = record {
  of = λ after found e.
      let one = (expect-at 1 holds input).of after found e in
      let less = ((expect-less holds none input).of after found e).1.less in
      (one.0, record { left = one.1.left; less = less });
}

-- what keeps the place of that token stands there
pub single-stood : {A B : Type 0} {span_of : B → Span} (start : Span) (input after : Input) (found : A) (value : B) → start ≡ first_span input.rest → Single input found after → span_of value ≡ start → Stood span_of start (length input.rest) value after
single-stood start input after found value is h keeps = record { is = keeps ∙ behind_one start input after is h.left; less = h.less }

-- ---- lists

pub joined_by-less : {A : Type 0} {eat_joint : Parser Bool} {item : Parser A} → Goes eat_joint → ((input : Input) → GoesAt (Less input) item input) → (input : Input) → GoesAt (Less input) (joined_by eat_joint item) input
unfolding joined_from
joined_by-less {A} {eat_joint} {item} joint h input = turns-at go
  where
    go : (turns : ℕ) → GoesAt (Less input) (joined_from eat_joint item turns []) input
    go zero = refuse-at input
    go (suc turns) = onward-at (h input) (λ value one s less. onward-at (joint one) (λ more two t _. record {
      of = λ after found e.
          let went = (if-at more (joined_from-goes h joint turns (value ∷ []) two) (pure-goes (value ∷ []) two)).of after found e in
          let shorter = moved-shorter two after went.0 in
          (went.0, record { less = omega arith });
    }))

-- ---- what is no token

pub name-none : name_of [] ≡ None
unfolding name_of next_word ident_of
name-none = refl

pub ident-none : ident_of [] ≡ None
unfolding ident_of
ident-none = refl

pub lifetime-none : lifetime_of [] ≡ None
unfolding lifetime_of
lifetime-none = refl

pub literal-none : literal_of [] ≡ None
unfolding literal_of
literal-none = refl

pub mark-none : (ch : ℕ) → (0 == ch) ≡ false → is_mark ch [] ≡ false
unfolding mark_of
mark-none ch none = none

pub colon-none : is_colon [] ≡ false
unfolding mark_of
colon-none = refl

pub word-none : (wanted : Word) → is_word wanted word.None ≡ false → peek wanted [] ≡ false
unfolding next_word ident_of
word-none wanted none = none
