-- How far the steps go that every rule is made of, and where what they find stands.
use Rattle.std.proofs.Common.{◌≡◌, ℕ, zero, suc, ◌-◌, Bool, true, false, ◌==◌, if◌then◌else◌, List, [], ◌∷◌, ◌++◌, length, map, take, Option, Some, None, refl, ap, sym, subst, ◌∙◌, append_assoc}
use Rattle.std.proofs.lemmas.Option.{some_pair_parts}
use Rattle.tok_types.specs.Span.{joined}
use Rattle.tok_types.specs.declared.span.Span.{Span}
use Rattle.tok_types.specs.declared.span.Span.TheVariants.{CallSite, At}
use Rattle.tok_types.specs.declared.tree.Delimiter.{Delimiter}
use Rattle.tok_types.specs.declared.tree.TokenTree.{TokenTree, out-TokenTree}
use Rattle.tok_types.specs.declared.tree.TokenTree.TheOpen.{TokenTree-F}
use Rattle.node_span.specs.Spanned.{last_of, tree_span, tree_layer_span}
use Rattle.syn_grammar.specs.Input.{Input, Outcome, Parser, ◌>>=◌, ◌<$>◌, pure, refuse, test, first_span, here, upto, next, next_at, skip, skipped, skip_by, after_eat, eat, expect, taken, take_as, after_found, eat_as, is_end, start_of, finished, inside, read_since, state, by_turns}
use Rattle.syn_grammar.specs.Token.{Layer, span_in, span_of, is_group, contents_of}
use Rattle.law_prefix.proofs.Steps.{bind-at}

-- ---- how far

-- The tokens between two inputs, and that the last of them is the one whose place is kept.
pub record Moved (input after : Input) : Type 0 where
  pub read : List TokenTree
  pub is : input.rest ≡ read ++ after.rest
  pub last : after.last ≡ last_of input.last (map tree_span read)

pub moved-none : (input : Input) → Moved input input
moved-none input = record { read = []; is = refl; last = refl }

last_of-append : (last : Span) (one two : List TokenTree) → last_of last (map tree_span (one ++ two)) ≡ last_of (last_of last (map tree_span one)) (map tree_span two)
last_of-append last [] two = refl
last_of-append last (tree ∷ trees) two = last_of-append (tree_span tree) trees two

pub moved-on : (input between after : Input) → Moved input between → Moved between after → Moved input after
moved-on input between after one two = record {
  read = one.read ++ two.read;
  is = one.is ∙ ap (λ trees. one.read ++ trees) two.is ∙ sym (append_assoc one.read two.read after.rest);
  last = two.last ∙ ap (λ last. last_of last (map tree_span two.read)) one.last ∙ sym (last_of-append input.last one.read two.read);
}

-- the place of a token to the grammar is its place to its callers
pub same_place : (tree : TokenTree) → span_of tree ≡ tree_span tree
unfolding span_of
same_place tree = go (out-TokenTree tree)
  where
    go : (layer : Layer) → span_in layer ≡ tree_layer_span layer
    go (TokenTree-F.Ident it) = refl
    go (TokenTree-F.Lifetime it) = refl
    go (TokenTree-F.Punct it) = refl
    go (TokenTree-F.Literal it) = refl
    go (TokenTree-F.Group it) = refl

moved-next : (input : Input) → Moved input (next input)
unfolding next
moved-next input = go input.rest input.last
  where
    go : (trees : List TokenTree) (last : Span) → Moved (record { rest = trees; last = last }) (next_at trees last)
    go [] last = record { read = []; is = refl; last = refl }
    go (tree ∷ trees) last = record { read = tree ∷ []; is = refl; last = same_place tree }

pub moved-skipped : (count : ℕ) (input : Input) → Moved input (skipped count input)
unfolding skipped
moved-skipped zero input = moved-none input
moved-skipped (suc count) input = moved-on input (next input) (skipped count (next input)) (moved-next input) (moved-skipped count (next input))

moved-eaten : (count : ℕ) (found : Bool) (input : Input) → Moved input (after_eat count found input)
unfolding after_eat
moved-eaten count true input = moved-skipped count input
moved-eaten count false input = moved-none input

moved-found : {A : Type 0} (found : Option A) (input : Input) → Moved input (after_found found input)
moved-found (Some value) input = moved-next input
moved-found None input = moved-none input

-- ---- where a parser goes

-- how far the parser goes there, and what is said of what it finds
pub record GoesAt {A : Type 0} (says : A → Input → Type 0) (parser : Parser A) (input : Input) : Type 0 where
  pub of : (after : Input) (found : A) → parser input ≡ Some (found, after) → Moved input after × says found after

-- nothing is said
pub record Anything {A : Type 0} (found : A) (after : Input) : Type 0 where

-- it stands from the start of that place to the end of the last token
pub record From {A : Type 0} (span_of : A → Span) (start : Span) (found : A) (after : Input) : Type 0 where
  pub is : span_of found ≡ joined start after.last

-- wherever the parser is, it goes on
abbrev pub Goes : {A : Type 0} → Parser A → Type 0
Goes parser = (input : Input) → GoesAt Anything parser input

-- wherever the parser is, what it finds stands from there on
abbrev pub StandsHere : {A : Type 0} → (A → Span) → Parser A → Type 0
StandsHere span_of parser = (input : Input) → GoesAt (From span_of (first_span input.rest)) parser input

pub any-at : {A : Type 0} {says : A → Input → Type 0} {parser : Parser A} {input : Input} → GoesAt says parser input → GoesAt Anything parser input
any-at h = record { of = λ after found e. ((h.of after found e).0, record {}) }

-- what holds of a value and an input holds of those that are the same
pub same-end : {A : Type 0} (says : A → Input → Type 0) (value found : A) (between after : Input) → value ≡ found → between ≡ after → says value between → says found after
same-end says value found between after one two said = subst (λ (end : Input). says found end) two (subst (λ it. says it between) one said)

-- a parser that finds this there, and nothing else
pub once-at : {A : Type 0} {says : A → Input → Type 0} {parser : Parser A} (input : Input) (value : A) (after : Input) → parser input ≡ Some (value, after) → Moved input after → says value after → GoesAt says parser input
once-at {A} {says} input value after is moved said = record {
  of = λ end found e.
      let both = some_pair_parts value found after end (sym is ∙ e) in
      rw (← both.0, ← both.1) (moved, said);
}

pub refuse-at : {A : Type 0} {says : A → Input → Type 0} (input : Input) → GoesAt says refuse input
refuse-at input = record { of = λ after found e. absurd cc }

pub pure-at : {A : Type 0} {says : A → Input → Type 0} (value : A) (input : Input) → says value input → GoesAt says (pure value) input
pure-at value input said = once-at input value input refl (moved-none input) said

pub pure-goes : {A : Type 0} (value : A) → Goes (pure value)
pure-goes value input = pure-at value input (record {})

pub then-at : {A B : Type 0} {says : A → Input → Type 0} {said : B → Input → Type 0} {parser : Parser A} {next : A → Parser B} {input : Input}
    → GoesAt says parser input → ((value : A) (between : Input) → says value between → GoesAt said (next value) between) → GoesAt said (parser >>= next) input
then-at {parser = parser} {next = proceed} {input = input} h g = record {
  of = λ after found e.
      let parts = bind-at (parser input) proceed found after e in
      let one = h.of parts.1 parts.0 parts.2 in
      let two = (g parts.0 parts.1 one.1).of after found parts.3 in
      (moved-on input parts.1 after one.0 two.0, two.1);
}

-- behind what is told nothing of
pub so-at : {A B : Type 0} {says : A → Input → Type 0} {said : B → Input → Type 0} {parser : Parser A} {next : A → Parser B} {input : Input}
    → GoesAt says parser input → ((value : A) (between : Input) → GoesAt said (next value) between) → GoesAt said (parser >>= next) input
so-at h g = then-at h (λ value between _. g value between)

pub map-at : {A B : Type 0} {says : A → Input → Type 0} {said : B → Input → Type 0} {parser : Parser A} {input : Input} (make : A → B)
    → GoesAt says parser input → ((value : A) (after : Input) → says value after → said (make value) after) → GoesAt said (make <$> parser) input
map-at make h g = then-at h (λ value between s. pure-at (make value) between (g value between s))

pub map-goes : {A B : Type 0} {says : A → Input → Type 0} {parser : Parser A} {input : Input} (make : A → B) → GoesAt says parser input → GoesAt Anything (make <$> parser) input
map-goes make h = so-at h (λ value between. pure-at (make value) between (record {}))

pub if-at : {A : Type 0} {says : A → Input → Type 0} {one two : Parser A} {input : Input} (holds : Bool) → GoesAt says one input → GoesAt says two input → GoesAt says (if holds then one else two) input
if-at true h g = h
if-at false h g = g

-- behind what is seen there
pub seen-at : {A B : Type 0} {says : B → Input → Type 0} {next : A → Parser B} {input : Input} (look : List TokenTree → A) → ((value : A) → GoesAt says (next value) input) → GoesAt says (test look >>= next) input
seen-at {input = input} look h = record { of = (h (look input.rest)).of }

-- the same, where it is told what is seen
pub seen_is-at : {A B : Type 0} {says : B → Input → Type 0} {next : A → Parser B} {input : Input} (look : List TokenTree → A) → ((value : A) → look input.rest ≡ value → GoesAt says (next value) input) → GoesAt says (test look >>= next) input
seen_is-at {input = input} look h = record { of = (h (look input.rest) refl).of }

-- from another name of that place on
pub from-at : {A : Type 0} {span_of : A → Span} {parser : Parser A} {start : Span} {input : Input} → start ≡ first_span input.rest → GoesAt (From span_of (first_span input.rest)) parser input → GoesAt (From span_of start) parser input
from-at {span_of = span_of} {parser = parser} {input = input} is h = subst (λ (start : Span). GoesAt (From span_of start) parser input) (sym is) h

-- what is found stands from there on
pub here-at : {A : Type 0} {span_of : A → Span} {next : Span → Parser A} {input : Input} → ((start : Span) → GoesAt (From span_of start) (next start) input) → GoesAt (From span_of (first_span input.rest)) (here >>= next) input
here-at {input = input} h = record { of = (h (first_span input.rest)).of }

-- the same, where it is told which place that is
pub here_is-at : {A : Type 0} {span_of : A → Span} {next : Span → Parser A} {input : Input} → ((start : Span) → start ≡ first_span input.rest → GoesAt (From span_of start) (next start) input)
    → GoesAt (From span_of (first_span input.rest)) (here >>= next) input
here_is-at {input = input} h = record { of = (h (first_span input.rest) refl).of }

pub here-goes : {A : Type 0} {next : Span → Parser A} {input : Input} → ((start : Span) → GoesAt Anything (next start) input) → GoesAt Anything (here >>= next) input
here-goes {input = input} h = record { of = (h (first_span input.rest)).of }

pub state-at : {A : Type 0} {says : A → Input → Type 0} {next : Input → Parser A} {input : Input} → ((before : Input) → GoesAt says (next before) input) → GoesAt says (state >>= next) input
state-at {input = input} h = record { of = (h input).of }

pub turns-at : {A : Type 0} {says : A → Input → Type 0} {loop : ℕ → Parser A} {input : Input} → ((turns : ℕ) → GoesAt says (loop turns) input) → GoesAt says (by_turns loop) input
turns-at {input = input} h = record { of = (h (length input.rest)).of }

-- ---- places

pub upto-at : (start : Span) (input : Input) → GoesAt Anything (upto start) input
upto-at start input = once-at input (joined start input.last) input refl (moved-none input) (record {})

-- behind the place of the last token
pub upto_then-at : {A : Type 0} {says : A → Input → Type 0} {next : Span → Parser A} {input : Input} (start : Span) → ((span : Span) → span ≡ joined start input.last → GoesAt says (next span) input) → GoesAt says (upto start >>= next) input
upto_then-at {input = input} start h = record { of = (h (joined start input.last) refl).of }

-- what a rule ends with
pub close-at : {A : Type 0} {span_of : A → Span} (start : Span) (make : Span → A) (input : Input) → ((span : Span) → span_of (make span) ≡ span) → GoesAt (From span_of start) (upto start >>= (λ span. pure (make span))) input
close-at start make input keeps = once-at input (make (joined start input.last)) input refl (moved-none input) (record { is = keeps (joined start input.last) })

pub end-at : {A : Type 0} (start : Span) (make : Span → A) (input : Input) → GoesAt Anything (upto start >>= (λ span. pure (make span))) input
end-at start make input = once-at input (make (joined start input.last)) input refl (moved-none input) (record {})

-- a place alone
joined-same : (span : Span) → span ≡ joined span span
joined-same CallSite = refl
joined-same (At source start end) = go (source == source)
  where
    go : (b : Bool) → At source start end ≡ (if b then At source start end else At source start end)
    go true = refl
    go false = refl

-- one token stands from its start to its end; where there is none, nowhere
one_token : (input : Input) → first_span input.rest ≡ joined (first_span input.rest) (next input).last
unfolding first_span next
one_token input = go input.rest input.last
  where
    go : (trees : List TokenTree) (last : Span) → first_span trees ≡ joined (first_span trees) (next_at trees last).last
    go [] last = refl
    go (tree ∷ trees) last = joined-same (span_of tree)

-- behind one token that is from the place on
pub behind_one : (start : Span) (input after : Input) → start ≡ first_span input.rest → after ≡ next input → start ≡ joined start after.last
behind_one start input after is left = rw (is, left) (one_token input)

-- ---- tokens

-- the parser takes one token
pub record Next {A : Type 0} (input : Input) (found : A) (after : Input) : Type 0 where
  pub left : after ≡ next input

pub skip-at : (input : Input) → GoesAt (Next input) skip input
skip-at input = once-at input tt (next input) refl (moved-next input) (record { left = refl })

pub skip_by-at : (count : ℕ) → Goes (skip_by count)
skip_by-at count input = once-at input tt (skipped count input) refl (moved-skipped count input) (record {})

pub eat-at : (count : ℕ) (holds : List TokenTree → Bool) → Goes (eat count holds)
eat-at count holds input = once-at input (holds input.rest) (after_eat count (holds input.rest) input) refl (moved-eaten count (holds input.rest) input) (record {})

-- what was seen, and what is left of it
pub record Eaten (count : ℕ) (holds : List TokenTree → Bool) (input : Input) (found : Bool) (after : Input) : Type 0 where
  pub is : holds input.rest ≡ found
  pub left : after ≡ after_eat count found input

pub eat_is-at : (count : ℕ) (holds : List TokenTree → Bool) (input : Input) → GoesAt (Eaten count holds input) (eat count holds) input
eat_is-at count holds input = once-at input (holds input.rest) (after_eat count (holds input.rest) input) refl (moved-eaten count (holds input.rest) input) (record { is = refl; left = refl })

pub eat_as-at : {A : Type 0} (of : List TokenTree → Option A) → Goes (eat_as of)
eat_as-at of input = once-at input (of input.rest) (after_found (of input.rest) input) refl (moved-found (of input.rest) input) (record {})

pub read_since-at : (before : List TokenTree) → Goes (read_since before)
read_since-at before input = once-at input (take (length before - length input.rest) before) input refl (moved-none input) (record {})

-- what held there, and what is left of it
pub record Held (count : ℕ) (holds : List TokenTree → Bool) (input : Input) (found : Unit {0}) (after : Input) : Type 0 where
  pub is : holds input.rest ≡ true
  pub left : after ≡ skipped count input

pub expect-at : (count : ℕ) (holds : List TokenTree → Bool) (input : Input) → GoesAt (Held count holds input) (expect count holds) input
expect-at count holds input = record { of = λ after found e. go (holds input.rest) refl after found e }
  where
    go : (b : Bool) → holds input.rest ≡ b → (after : Input) (found : Unit {0}) → ◌≡◌ {A = Outcome (Unit {0})} (if b then Some (tt, skipped count input) else None) (Some (found, after))
        → Moved input after × Held count holds input found after
    go true is after found e = let both = some_pair_parts tt found (skipped count input) after e in rw (← both.1) (moved-skipped count input, record { is = is; left = refl })
    go false is after found e = absurd cc

-- the value of the token that was taken
pub record Took {A : Type 0} (of : List TokenTree → Option A) (input : Input) (found : A) (after : Input) : Type 0 where
  pub is : of input.rest ≡ Some found
  pub left : after ≡ next input

pub take_as-at : {A : Type 0} (of : List TokenTree → Option A) (input : Input) → GoesAt (Took of input) (take_as of) input
take_as-at {A} of input = record { of = λ after found e. go (of input.rest) refl after found e }
  where
    go : (o : Option A) → of input.rest ≡ o → (after : Input) (found : A) → taken o (next input) ≡ Some (found, after) → Moved input after × Took of input found after
    go None is after found e = absurd cc
    go (Some value) is after found e =
        let both = some_pair_parts value found (next input) after e in
        rw (← both.0, ← both.1) (moved-next input, record { is = is; left = refl })

-- a value that there may be, for which no token is taken
pub taken-at : {A : Type 0} {says : A → Input → Type 0} (found : Option A) (input : Input) → ((value : A) → found ≡ Some value → says value input) → GoesAt says (taken found) input
taken-at {A} {says} None input h = record { of = λ after found e. absurd cc }
taken-at {A} {says} (Some value) input h = once-at input value input refl (moved-none input) (h value refl)

-- ---- groups

-- whatever the parser finds keeps that place
pub record Keeps {A : Type 0} (span_of : A → Span) (span : Span) (parser : Parser A) : Type 0 where
  pub of : (input after : Input) (found : A) → parser input ≡ Some (found, after) → span_of found ≡ span

pub refuse-keeps : {A : Type 0} {span_of : A → Span} {span : Span} → Keeps span_of span refuse
refuse-keeps = record { of = λ input after found e. absurd cc }

pub pure-keeps : {A : Type 0} {span_of : A → Span} {span : Span} (value : A) → span_of value ≡ span → Keeps span_of span (pure value)
pure-keeps {span_of = span_of} {span = span} value is = record {
  of = λ input after found e.
      let both = some_pair_parts value found input after e in
      ap span_of (sym both.0) ∙ is;
}

pub then-keeps : {A B : Type 0} {span_of : B → Span} {span : Span} {next : A → Parser B} (parser : Parser A) → ((value : A) → Keeps span_of span (next value)) → Keeps span_of span (parser >>= next)
then-keeps {next = proceed} parser h = record {
  of = λ input after found e.
      let parts = bind-at (parser input) proceed found after e in
      (h parts.0).of parts.1 after found parts.3;
}

pub map-keeps : {A B : Type 0} {span_of : B → Span} {span : Span} (make : A → B) (parser : Parser A) → ((value : A) → span_of (make value) ≡ span) → Keeps span_of span (make <$> parser)
map-keeps make parser h = then-keeps parser (λ value. pure-keeps (make value) (h value))

pub if-keeps : {A : Type 0} {span_of : A → Span} {span : Span} {one two : Parser A} (holds : Bool) → Keeps span_of span one → Keeps span_of span two → Keeps span_of span (if holds then one else two)
if-keeps true h g = h
if-keeps false h g = g

pub turns-keeps : {A : Type 0} {span_of : A → Span} {span : Span} {loop : ℕ → Parser A} → ((turns : ℕ) → Keeps span_of span (loop turns)) → Keeps span_of span (by_turns loop)
turns-keeps h = record { of = λ input after found e. (h (length input.rest)).of input after found e }

pub end-is : (trees : List TokenTree) → is_end trees ≡ true → trees ≡ []
end-is [] h = refl
end-is (tree ∷ trees) h = absurd cc

-- what is found in the group that comes next
pub record Within {A : Type 0} (delimiter : Delimiter) (parser : Parser A) (input : Input) (found : A) (after : Input) : Type 0 where
  pub there : is_group delimiter input.rest ≡ true
  pub inner : Input
  pub is : parser (start_of (contents_of input.rest)) ≡ Some (found, inner)
  pub ended : inner.rest ≡ []
  pub left : after ≡ next input

pub in-group : {A : Type 0} (delimiter : Delimiter) (parser : Parser A) (input : Input) → GoesAt (Within delimiter parser input) (inside delimiter parser) input
in-group {A} delimiter parser input = record { of = λ after found e. go (is_group delimiter input.rest) refl after found e }
  where
    ended : (pair : A × Input) (b : Bool) → is_end pair.1.rest ≡ b → is_group delimiter input.rest ≡ true → parser (start_of (contents_of input.rest)) ≡ Some pair → (after : Input) (found : A)
        → ◌≡◌ {A = Outcome A} (if b then Some (pair.0, next input) else None) (Some (found, after)) → Moved input after × Within delimiter parser input found after
    ended pair true none there is after found e =
        let both = some_pair_parts pair.0 found (next input) after e in
        rw (← both.0, ← both.1) (moved-next input, record { there = there; inner = pair.1; is = is; ended = end-is pair.1.rest none; left = refl })
    ended pair false none there is after found e = absurd cc

    by : (outcome : Outcome A) → is_group delimiter input.rest ≡ true → parser (start_of (contents_of input.rest)) ≡ outcome → (after : Input) (found : A) → finished (next input) outcome ≡ Some (found, after)
        → Moved input after × Within delimiter parser input found after
    by None there is after found e = absurd cc
    by (Some pair) there is after found e = ended pair (is_end pair.1.rest) refl there is after found e

    go : (b : Bool) → is_group delimiter input.rest ≡ b → (after : Input) (found : A) → ◌≡◌ {A = Outcome A} (if b then finished (next input) (parser (start_of (contents_of input.rest))) else None) (Some (found, after))
        → Moved input after × Within delimiter parser input found after
    go true there after found e = by (parser (start_of (contents_of input.rest))) there refl after found e
    go false there after found e = absurd cc

pub inside-goes : {A : Type 0} (delimiter : Delimiter) (parser : Parser A) → Goes (inside delimiter parser)
inside-goes delimiter parser input = any-at (in-group delimiter parser input)

-- a group stands where its one token does
pub group-at : {A : Type 0} {span_of : A → Span} {parser : Parser A} (start : Span) (delimiter : Delimiter) (input : Input) → start ≡ first_span input.rest → Keeps span_of start parser → GoesAt (From span_of start) (inside delimiter parser) input
group-at {span_of = span_of} {parser = parser} start delimiter input is keeps = record {
  of = λ after found e.
      let one = (in-group delimiter parser input).of after found e in
      (one.0, record { is = keeps.of (start_of (contents_of input.rest)) one.1.inner found one.1.is ∙ behind_one start input after is one.1.left });
}
