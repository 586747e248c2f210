-- What leads from one number of open angles to another, of the steps that every rule is made of.
use Rattle.std.proofs.Common.{◌≡◌, ℕ, zero, suc, Bool, true, false, if◌then◌else◌, List, [], ◌∷◌, length, Option, Some, None, refl, ap, sym, subst, ◌∙◌}
use Rattle.std.proofs.lemmas.Option.{some_pair_parts}
use Rattle.tok_types.specs.declared.span.Span.{Span}
use Rattle.tok_types.specs.declared.tree.Delimiter.{Delimiter}
use Rattle.tok_types.specs.declared.tree.TokenTree.{TokenTree, out-TokenTree}
use Rattle.tok_types.specs.declared.tree.TokenTree.TheOpen.{TokenTree-F}
use Rattle.syn_grammar.specs.Input.{Input, Outcome, Parser, and_then, ◌>>=◌, ◌<$>◌, pure, refuse, test, here, first_span, upto, next, next_at, skip, skipped, skip_by, after_eat, eat, expect, taken, take_as, after_found, eat_as, start_of, finished, inside, read_since, state, by_turns}
use Rattle.syn_grammar.specs.Token.{Layer, after_one, contents_of, is_colons, is_group, is_group_in, mark_in, mark_of}
use Rattle.law_prefix.proofs.Steps.{bind-at}
use Rattle.law_angles.proofs.Walk.{Holds, plain-step, join-step}

-- Where a parser reads, the angles that are open before it close if those do that are open behind it.
pub record LeadsAt {A : Type 0} (from to : ℕ) (parser : Parser A) (input : Input) : Type 0 where
  pub of : (after : Input) (found : A) → parser input ≡ Some (found, after) → Holds to after.rest → Holds from input.rest

-- the same wherever the parser is
abbrev pub Leads : {A : Type 0} → ℕ → ℕ → Parser A → Type 0
Leads from to parser = (input : Input) → LeadsAt from to parser input

-- ---- one step behind another

-- a parser that finds this there
pub once-at : {A : Type 0} {from to : ℕ} {parser : Parser A} {input : Input} (value : A) (after : Input) → parser input ≡ Some (value, after) → (Holds to after.rest → Holds from input.rest) → LeadsAt from to parser input
once-at {A} {from} {to} {parser} {input} value after is leads = record {
  of = λ end found e holds.
      let both = some_pair_parts value found after end (sym is ∙ e) in
      leads (subst (λ (end : Input). Holds to end.rest) (sym both.1) holds);
}

pub refuse-at : {A : Type 0} {from to : ℕ} {input : Input} → LeadsAt {A = A} from to refuse input
refuse-at = record { of = λ after found e. absurd cc }

-- what takes nothing
pub stay-at : {A : Type 0} {angles : ℕ} {parser : Parser A} {input : Input} (value : A) → parser input ≡ Some (value, input) → LeadsAt angles angles parser input
stay-at {input = input} value is = once-at value input is (λ holds. holds)

pub pure-at : {A : Type 0} {angles : ℕ} {input : Input} (value : A) → LeadsAt angles angles (pure value) input
pure-at value = stay-at value refl

-- behind what the first was told to read
pub then-at : {A B : Type 0} {from between to : ℕ} {parser : Parser A} {next : A → Parser B} {input : Input}
    → LeadsAt from between parser input → ((value : A) (middle : Input) → parser input ≡ Some (value, middle) → LeadsAt between to (next value) middle) → LeadsAt from to (parser >>= next) input
then-at {parser = parser} {next = proceed} {input = input} h g = record {
  of = λ after found e holds.
      let parts = bind-at (parser input) proceed found after e in
      h.of parts.1 parts.0 parts.2 ((g parts.0 parts.1 parts.2).of after found parts.3 holds);
}

pub so-at : {A B : Type 0} {from between to : ℕ} {parser : Parser A} {next : A → Parser B} {input : Input}
    → LeadsAt from between parser input → ((value : A) → Leads between to (next value)) → LeadsAt from to (parser >>= next) input
so-at h g = then-at h (λ value middle is. g value middle)

pub map-at : {A B : Type 0} {from to : ℕ} {parser : Parser A} {input : Input} (make : A → B) → LeadsAt from to parser input → LeadsAt from to (make <$> parser) input
map-at make h = so-at h (λ value middle. pure-at (make value))

-- ---- choices

pub if-at : {A : Type 0} {from to : ℕ} {one two : Parser A} {input : Input} (holds : Bool) → LeadsAt from to one input → LeadsAt from to two input → LeadsAt from to (if holds then one else two) input
if-at true h g = h
if-at false h g = g

-- a choice by what was seen
pub case-at : {A : Type 0} {from to : ℕ} {one two : Parser A} {input : Input} (holds : Bool) → (holds ≡ true → LeadsAt from to one input) → LeadsAt from to two input → LeadsAt from to (if holds then one else two) input
case-at true h g = h refl
case-at false h g = g

pub seen-at : {A B : Type 0} {from to : ℕ} {next : A → Parser B} {input : Input} (look : List TokenTree → A) → ((value : A) → look input.rest ≡ value → LeadsAt from to (next value) input) → LeadsAt from to (test look >>= next) input
seen-at {input = input} look h = record { of = (h (look input.rest) refl).of }

-- ---- what takes nothing

pub here-at : {A : Type 0} {from to : ℕ} {next : Span → Parser A} {input : Input} → ((start : Span) → LeadsAt from to (next start) input) → LeadsAt from to (here >>= next) input
here-at {input = input} h = record { of = (h (first_span input.rest)).of }

pub state-at : {A : Type 0} {from to : ℕ} {next : Input → Parser A} {input : Input} → ((before : Input) → LeadsAt from to (next before) input) → LeadsAt from to (state >>= next) input
state-at {input = input} h = record { of = (h input).of }

pub upto-at : {angles : ℕ} {input : Input} (start : Span) → LeadsAt angles angles (upto start) input
upto-at start = stay-at _ refl

pub read_since-at : {angles : ℕ} {input : Input} (before : List TokenTree) → LeadsAt angles angles (read_since before) input
read_since-at before = stay-at _ refl

-- what a rule ends with
pub close-at : {A : Type 0} {angles : ℕ} {input : Input} (start : Span) (make : Span → A) → LeadsAt angles angles (upto start >>= (λ span. pure (make span))) input
close-at start make = stay-at _ refl

pub turns-at : {A : Type 0} {from to : ℕ} {loop : ℕ → Parser A} {input : Input} → ((turns : ℕ) → LeadsAt from to (loop turns) input) → LeadsAt from to (by_turns loop) input
turns-at {input = input} h = record { of = (h (length input.rest)).of }

-- ---- tokens

-- the tokens behind so many
abbrev pub behind_all : ℕ → List TokenTree → List TokenTree
behind_all zero trees = trees
behind_all (suc count) trees = behind_all count (after_one trees)

pub next-rest : (input : Input) → (next input).rest ≡ after_one input.rest
unfolding next
next-rest input = go input.rest input.last
  where
    go : (trees : List TokenTree) (last : Span) → (next_at trees last).rest ≡ after_one trees
    go [] last = refl
    go (tree ∷ trees) last = refl

skipped-rest : (count : ℕ) (input : Input) → (skipped count input).rest ≡ behind_all count input.rest
unfolding skipped
skipped-rest zero input = refl
skipped-rest (suc count) input = skipped-rest count (next input) ∙ ap (behind_all count) (next-rest input)

-- the walk over so many tokens
abbrev pub Over : ℕ → ℕ → ℕ → List TokenTree → Type 0
Over count from to trees = Holds to (behind_all count trees) → Holds from trees

pub skip_by-at : {from to : ℕ} {input : Input} (count : ℕ) → Over count from to input.rest → LeadsAt from to (skip_by count) input
skip_by-at {from} {to} {input} count over = once-at tt (skipped count input) refl (λ holds. over (subst (Holds to) (skipped-rest count input) holds))

pub skip-at : {from to : ℕ} {input : Input} → Over 1 from to input.rest → LeadsAt from to skip input
skip-at {from} {to} {input} over = once-at tt (next input) refl (λ holds. over (subst (Holds to) (next-rest input) holds))

pub expect-at : {from to : ℕ} {input : Input} (count : ℕ) (holds : List TokenTree → Bool) → (holds input.rest ≡ true → Over count from to input.rest) → LeadsAt from to (expect count holds) input
expect-at {from} {to} {input} count holds over = record { of = λ after found e. go (holds input.rest) refl after found e }
  where
    go : (b : Bool) → holds input.rest ≡ b → (after : Input) (found : Unit {0}) → ◌≡◌ {A = Outcome (Unit {0})} (if b then Some (tt, skipped count input) else None) (Some (found, after)) → Holds to after.rest → Holds from input.rest
    go true is after found e = (skip_by-at {from = from} {to = to} {input = input} count (over is)).of after found e
    go false is after found e = absurd cc

-- behind tokens that were taken, and where they were not
pub eat_or-at : {A : Type 0} {from between to : ℕ} {one two : Parser A} {input : Input} (count : ℕ) (holds : List TokenTree → Bool) → (holds input.rest ≡ true → Over count from between input.rest)
    → Leads between to one → LeadsAt from to two input → LeadsAt from to (eat count holds >>= (λ b. if b then one else two)) input
unfolding after_eat
eat_or-at {A} {from} {between} {to} {one} {two} {input} count holds over h g = record { of = λ after found e. go (holds input.rest) refl after found e }
  where
    go : (b : Bool) → holds input.rest ≡ b → (after : Input) (found : A) → (if b then one else two) (if b then skipped count input else input) ≡ Some (found, after) → Holds to after.rest → Holds from input.rest
    go true is after found e holds = over is (subst (Holds between) (skipped-rest count input) ((h (skipped count input)).of after found e holds))
    go false is after found e holds = g.of after found e holds

-- tokens that leave as many angles open
pub eat-at : {angles : ℕ} {input : Input} (count : ℕ) (holds : List TokenTree → Bool) → (holds input.rest ≡ true → Over count angles angles input.rest) → LeadsAt angles angles (eat count holds) input
unfolding after_eat
eat-at {angles} {input} count holds over = record { of = λ after found e. go (holds input.rest) refl after found e }
  where
    go : (b : Bool) → holds input.rest ≡ b → (after : Input) (found : Bool) → ◌≡◌ {A = Outcome Bool} (Some (b, if b then skipped count input else input)) (Some (found, after)) → Holds angles after.rest → Holds angles input.rest
    go true is after found e holds =
        let both = some_pair_parts true found (skipped count input) after e in
        over is (subst (Holds angles) (skipped-rest count input) (subst (λ (end : Input). Holds angles end.rest) (sym both.1) holds))
    go false is after found e holds =
        let both = some_pair_parts false found input after e in
        subst (λ (end : Input). Holds angles end.rest) (sym both.1) holds

pub taken-next : {A : Type 0} (of : List TokenTree → Option A) (input after : Input) (found : A) → take_as of input ≡ Some (found, after) → (of input.rest ≡ Some found) × (after ≡ next input)
taken-next {A} of input after found e = go (of input.rest) e
  where
    go : (o : Option A) → taken o (next input) ≡ Some (found, after) → (o ≡ Some found) × (after ≡ next input)
    go None e = absurd cc
    go (Some value) e = let both = some_pair_parts value found (next input) after e in (ap Some both.0, sym both.1)

-- whatever is read of one token, it is no mark
abbrev pub Unmarked : {A : Type 0} → (List TokenTree → Option A) → Type 0
Unmarked {A} of = (trees : List TokenTree) (found : A) → of trees ≡ Some found → mark_of trees ≡ 0

pub word-step : (angles : ℕ) (trees : List TokenTree) → mark_of trees ≡ 0 → Over 1 angles angles trees
word-step angles trees is holds = plain-step angles trees (rw is refl) holds

pub take_as-at : {A : Type 0} {angles : ℕ} {input : Input} (of : List TokenTree → Option A) → Unmarked of → LeadsAt angles angles (take_as of) input
take_as-at {angles = angles} {input = input} of unmarked = record {
  of = λ after found e holds.
      let took = taken-next of input after found e in
      word-step angles input.rest (unmarked input.rest found took.0) (subst (Holds angles) (ap (λ (end : Input). end.rest) took.1 ∙ next-rest input) holds);
}

pub eat_as-at : {A : Type 0} {angles : ℕ} {input : Input} (of : List TokenTree → Option A) → Unmarked of → LeadsAt angles angles (eat_as of) input
eat_as-at {A} {angles} {input} of unmarked = record { of = λ after found e. go (of input.rest) refl after found e }
  where
    go : (o : Option A) → of input.rest ≡ o → (after : Input) (found : Option A) → ◌≡◌ {A = Outcome (Option A)} (Some (o, after_found o input)) (Some (found, after)) → Holds angles after.rest → Holds angles input.rest
    go (Some value) is after found e holds =
        let both = some_pair_parts (Some value) found (next input) after e in
        word-step angles input.rest (unmarked input.rest value is) (subst (Holds angles) (next-rest input) (subst (λ (end : Input). Holds angles end.rest) (sym both.1) holds))
    go None is after found e holds =
        let both = some_pair_parts None found input after e in
        subst (λ (end : Input). Holds angles end.rest) (sym both.1) holds

-- ---- groups, which are one token each

group-unmarked : (between : Delimiter) (trees : List TokenTree) → is_group between trees ≡ true → mark_of trees ≡ 0
unfolding is_group mark_of
group-unmarked between [] h = refl
group-unmarked between (tree ∷ trees) h = go (out-TokenTree tree) h
  where
    go : (layer : Layer) → is_group_in between layer ≡ true → mark_in layer ≡ 0
    go (TokenTree-F.Ident it) h = refl
    go (TokenTree-F.Lifetime it) h = refl
    go (TokenTree-F.Punct it) h = absurd cc
    go (TokenTree-F.Literal it) h = refl
    go (TokenTree-F.Group it) h = refl

finished-after : {A : Type 0} (after end : Input) (outcome : Outcome A) (found : A) → finished after outcome ≡ Some (found, end) → after ≡ end
finished-after after end None found e = absurd cc
finished-after {A} after end (Some pair) found e = go _ e
  where
    go : (b : Bool) → ◌≡◌ {A = Outcome A} (if b then Some (pair.0, after) else None) (Some (found, end)) → after ≡ end
    go true e = (some_pair_parts pair.0 found after end e).1
    go false e = absurd cc

pub inside-at : {A : Type 0} {angles : ℕ} {input : Input} (between : Delimiter) (parser : Parser A) → LeadsAt angles angles (inside between parser) input
inside-at {A} {angles} {input} between parser = record { of = λ after found e. go (is_group between input.rest) refl after found e }
  where
    go : (b : Bool) → is_group between input.rest ≡ b → (after : Input) (found : A) → ◌≡◌ {A = Outcome A} (if b then finished (next input) (parser (start_of (contents_of input.rest))) else None) (Some (found, after))
        → Holds angles after.rest → Holds angles input.rest
    go true is after found e holds =
        let end = finished-after (next input) after (parser (start_of (contents_of input.rest))) found e in
        word-step angles input.rest (group-unmarked between input.rest is) (subst (Holds angles) (next-rest input) (subst (λ (end : Input). Holds angles end.rest) (sym end) holds))
    go false is after found e holds = absurd cc

-- ---- `::` before what begins with a word

-- the same, and the parser begins with no mark
pub record JoinsAt {A : Type 0} (from to : ℕ) (parser : Parser A) (input : Input) : Type 0 where
  pub of : (after : Input) (found : A) → parser input ≡ Some (found, after) → (mark_of input.rest ≡ 0) × (Holds to after.rest → Holds from input.rest)

abbrev pub Joins : {A : Type 0} → ℕ → ℕ → Parser A → Type 0
Joins from to parser = (input : Input) → JoinsAt from to parser input

pub refuse-joins : {A : Type 0} {from to : ℕ} {input : Input} → JoinsAt {A = A} from to refuse input
refuse-joins = record { of = λ after found e. absurd cc }

pub so-joins : {A B : Type 0} {from between to : ℕ} {parser : Parser A} {next : A → Parser B} {input : Input}
    → JoinsAt from between parser input → ((value : A) → Leads between to (next value)) → JoinsAt from to (parser >>= next) input
so-joins {parser = parser} {next = proceed} {input = input} h g = record {
  of = λ after found e.
      let parts = bind-at (parser input) proceed found after e in
      let one = h.of parts.1 parts.0 parts.2 in
      (one.0, λ holds. one.1 ((g parts.0 parts.1).of after found parts.3 holds));
}

pub here-joins : {A : Type 0} {from to : ℕ} {next : Span → Parser A} {input : Input} → ((start : Span) → JoinsAt from to (next start) input) → JoinsAt from to (here >>= next) input
here-joins {input = input} h = record { of = (h (first_span input.rest)).of }

pub turns-joins : {A : Type 0} {from to : ℕ} {loop : ℕ → Parser A} {input : Input} → ((turns : ℕ) → JoinsAt from to (loop turns) input) → JoinsAt from to (by_turns loop) input
turns-joins {input = input} h = record { of = (h (length input.rest)).of }

pub take_as-joins : {A : Type 0} {angles : ℕ} {input : Input} (of : List TokenTree → Option A) → Unmarked of → JoinsAt angles angles (take_as of) input
take_as-joins {angles = angles} {input = input} of unmarked = record {
  of = λ after found e. (unmarked input.rest found (taken-next of input after found e).0, (take_as-at {angles = angles} {input = input} of unmarked).of after found e);
}

joined : {A : Type 0} {angles to : ℕ} {next : Parser A} (input : Input) → is_colons input.rest ≡ true → Joins angles to next
    → (after : Input) (found : A) → next (skipped 2 input) ≡ Some (found, after) → Holds to after.rest → Holds angles input.rest
joined {angles = angles} input is h after found e holds =
    let rest = skipped-rest 2 input in
    let more = (h (skipped 2 input)).of after found e in
    join-step angles input.rest is (sym (ap mark_of rest) ∙ more.0) (subst (Holds angles) rest (more.1 holds))

pub colons-at : {A : Type 0} {angles to : ℕ} {next : Unit {0} → Parser A} {input : Input} → ((done : Unit {0}) → Joins angles to (next done)) → LeadsAt angles to (expect 2 is_colons >>= next) input
colons-at {A} {angles} {to} {next} {input} h = record { of = λ after found e. go (is_colons input.rest) refl after found e }
  where
    go : (b : Bool) → is_colons input.rest ≡ b → (after : Input) (found : A) → and_then (if b then Some (tt {0}, skipped 2 input) else None) next ≡ Some (found, after) → Holds to after.rest → Holds angles input.rest
    go true is after found e holds = joined input is (h tt) after found e holds
    go false is after found e holds = absurd cc

-- `::`, or nothing
pub eat_colons-at : {A : Type 0} {angles to : ℕ} {next : Bool → Parser A} {input : Input} → ((b : Bool) → Joins angles to (next b)) → LeadsAt angles to (eat 2 is_colons >>= next) input
unfolding after_eat
eat_colons-at {A} {angles} {to} {next} {input} h = record { of = λ after found e. go (is_colons input.rest) refl after found e }
  where
    go : (b : Bool) → is_colons input.rest ≡ b → (after : Input) (found : A) → next b (if b then skipped 2 input else input) ≡ Some (found, after) → Holds to after.rest → Holds angles input.rest
    go true is after found e holds = joined input is (h true) after found e holds
    go false is after found e holds = ((h false input).of after found e).1 holds

-- `::` before more, or nothing and the end
pub more_colons-at : {A : Type 0} {angles to : ℕ} {more end : Parser A} {input : Input} → Joins angles to more → LeadsAt angles to end input → LeadsAt angles to (eat 2 is_colons >>= (λ b. if b then more else end)) input
unfolding after_eat
more_colons-at {A} {angles} {to} {more} {end} {input} h g = record { of = λ after found e. go (is_colons input.rest) refl after found e }
  where
    go : (b : Bool) → is_colons input.rest ≡ b → (after : Input) (found : A) → (if b then more else end) (if b then skipped 2 input else input) ≡ Some (found, after) → Holds to after.rest → Holds angles input.rest
    go true is after found e holds = joined input is h after found e holds
    go false is after found e holds = g.of after found e holds
