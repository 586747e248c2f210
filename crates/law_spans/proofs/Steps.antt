-- The steps that every rule is made of do not see places.
use Rattle.std.proofs.Common.{◌≡◌, ℕ, zero, suc, ◌-◌, Bool, true, false, if◌then◌else◌, List, [], ◌∷◌, ◌++◌, length, map, Option, Some, None, option_map, refl, ap, sym, ◌∙◌}
use Rattle.std.proofs.lemmas.List.{map-append, length-map, take-map}
use Rattle.tok_types.specs.Span.{joined}
use Rattle.tok_types.specs.declared.span.Span.{Span}
use Rattle.tok_types.specs.declared.span.Span.TheVariants.{CallSite}
use Rattle.tok_types.specs.declared.tree.Delimiter.{Delimiter}
use Rattle.tok_types.specs.declared.tree.TokenTree.{TokenTree}
use Rattle.syn_grammar.specs.Input.{Input, Outcome, Parser, and_then, ◌>>=◌, ◌<$>◌, pure, refuse, test, first_span, here, upto, next, next_at, skip, skipped, skip_by, after_eat, eat, expect, taken, take_as, after_found, eat_as, is_end, at_end, start_of, finished, inside, read_since, state, items_from, until_from, joined_from, by_turns, items_after, until, joined_by}
use Rattle.syn_grammar.specs.Token.{is_group, contents_of}
use Rattle.law_spans.specs.Erased.{erased_tree}
use Rattle.law_spans.specs.IgnoresSpans.{erased_input, erased_outcome, IgnoresSpans}
use Rattle.law_spans.proofs.Seen.{span_of-bare, first_span-bare, is_end-bare, is_group-bare, contents_of-bare, is_mark-bare}

-- what has no places
abbrev pub same : {A : Type 0} → A → A
same value = value

-- ---- one step behind another

pub pure-blind : {A B : Type 0} {bare : A → B} (value : A) (also : B) → bare value ≡ also → IgnoresSpans bare (pure value) (pure also)
pure-blind value also e = record { at = λ input. ap (λ value. Some (value, erased_input input)) (sym e) }

pub refuse-blind : {A B : Type 0} {bare : A → B} → IgnoresSpans bare refuse refuse
refuse-blind = record { at = λ input. refl }

pub then-blind : {A B C D : Type 0} {bare : A → B} {made : C → D} {parser : Parser A} {other : Parser B} {next : A → Parser C} {following : B → Parser D}
    → IgnoresSpans bare parser other → ((value : A) (also : B) → bare value ≡ also → IgnoresSpans made (next value) (following also)) → IgnoresSpans made (parser >>= next) (other >>= following)
then-blind {A} {bare = bare} {made = made} {parser = parser} {next = proceed} {following = following} h g = record {
  at = λ input. ap (λ outcome. and_then outcome following) (h.at input) ∙ go (parser input);
}
  where
    go : (outcome : Outcome A) → and_then (erased_outcome bare outcome) following ≡ erased_outcome made (and_then outcome proceed)
    go None = refl
    go (Some found) = (g found.0 (bare found.0) refl).at found.1

-- behind what has no places
pub so-blind : {A C D : Type 0} {made : C → D} {parser other : Parser A} {next : A → Parser C} {following : A → Parser D}
    → IgnoresSpans same parser other → ((value : A) → IgnoresSpans made (next value) (following value)) → IgnoresSpans made (parser >>= next) (other >>= following)
so-blind {A} {made = made} {parser = parser} {next = proceed} {following = following} h g = record {
  at = λ input. ap (λ outcome. and_then outcome following) (h.at input) ∙ go (parser input);
}
  where
    go : (outcome : Outcome A) → and_then (erased_outcome same outcome) following ≡ erased_outcome made (and_then outcome proceed)
    go None = refl
    go (Some found) = (g found.0).at found.1

pub map-blind : {A B C D : Type 0} {bare : A → B} {made : C → D} {parser : Parser A} {other : Parser B} (make : A → C) (remake : B → D)
    → IgnoresSpans bare parser other → ((value : A) → made (make value) ≡ remake (bare value)) → IgnoresSpans made (make <$> parser) (remake <$> other)
map-blind make remake h e = then-blind h (λ value also is. pure-blind (make value) (remake also) (e value ∙ ap remake is))

pub if-blind : {A B : Type 0} {bare : A → B} {one two : Parser A} {other another : Parser B} (holds : Bool)
    → IgnoresSpans bare one other → IgnoresSpans bare two another → IgnoresSpans bare (if holds then one else two) (if holds then other else another)
if-blind true h g = h
if-blind false h g = g

pub test-blind : {A B : Type 0} {bare : A → B} (of : List TokenTree → A) (also : List TokenTree → B) → ((trees : List TokenTree) → also (map erased_tree trees) ≡ bare (of trees)) → IgnoresSpans bare (test of) (test also)
test-blind of also e = record { at = λ input. ap (λ value. Some (value, erased_input input)) (e input.rest) }

-- ---- places

pub here-blind : {C D : Type 0} {made : C → D} {next : Span → Parser C} {following : Span → Parser D}
    → ((start also : Span) → CallSite ≡ also → IgnoresSpans made (next start) (following also)) → IgnoresSpans made (here >>= next) (here >>= following)
here-blind = then-blind (test-blind first_span first_span first_span-bare)

pub upto-blind : {C D : Type 0} {made : C → D} {next : Span → Parser C} {following : Span → Parser D} (start also : Span) → CallSite ≡ also
    → ((span also : Span) → CallSite ≡ also → IgnoresSpans made (next span) (following also)) → IgnoresSpans made (upto start >>= next) (upto also >>= following)
upto-blind start also is = then-blind {parser = upto start} {other = upto also} (record { at = λ input. ap (λ start. Some (joined start CallSite, erased_input input)) (sym is) })

-- what a rule ends with
pub close-blind : {C D : Type 0} {made : C → D} (start also : Span) → CallSite ≡ also → (make : Span → C) (remake : Span → D) → ((span : Span) → made (make span) ≡ remake CallSite)
    → IgnoresSpans made (upto start >>= (λ span. pure (make span))) (upto also >>= (λ span. pure (remake span)))
close-blind start also is make remake e = upto-blind start also is (λ span place there. pure-blind (make span) (remake place) (e span ∙ ap remake there))

-- ---- tokens

next_at-bare : (trees : List TokenTree) (last : Span) → next_at (map erased_tree trees) CallSite ≡ erased_input (next_at trees last)
next_at-bare [] last = refl
next_at-bare (tree ∷ trees) last = rw (span_of-bare tree) refl

next-bare : (input : Input) → next (erased_input input) ≡ erased_input (next input)
unfolding next
next-bare input = next_at-bare input.rest input.last

skipped-bare : (count : ℕ) (input : Input) → skipped count (erased_input input) ≡ erased_input (skipped count input)
unfolding skipped
skipped-bare zero input = refl
skipped-bare (suc count) input = ap (skipped count) (next-bare input) ∙ skipped-bare count (next input)

pub skip-blind : IgnoresSpans same skip skip
skip-blind = record { at = λ input. ap (λ after. Some (tt, after)) (next-bare input) }

pub skip_by-blind : (count : ℕ) → IgnoresSpans same (skip_by count) (skip_by count)
skip_by-blind count = record { at = λ input. ap (λ after. Some (tt, after)) (skipped-bare count input) }

-- a test that does not see places
abbrev pub Sees : (List TokenTree → Bool) → Type 0
Sees holds = (trees : List TokenTree) → holds (map erased_tree trees) ≡ holds trees

-- the same of a reader of one token
abbrev pub Reads : {A B : Type 0} → (A → B) → (List TokenTree → Option A) → (List TokenTree → Option B) → Type 0
Reads bare of also = (trees : List TokenTree) → also (map erased_tree trees) ≡ option_map bare (of trees)

after_eat-bare : (count : ℕ) (found : Bool) (input : Input) → after_eat count found (erased_input input) ≡ erased_input (after_eat count found input)
unfolding after_eat
after_eat-bare count true input = skipped-bare count input
after_eat-bare count false input = refl

pub eat-blind : (count : ℕ) {holds : List TokenTree → Bool} → Sees holds → IgnoresSpans same (eat count holds) (eat count holds)
eat-blind count {holds} e = record {
  at = λ input. ap (λ found. Some (found, after_eat count found (erased_input input))) (e input.rest) ∙ ap (λ after. Some (holds input.rest, after)) (after_eat-bare count (holds input.rest) input);
}

pub expect-blind : (count : ℕ) {holds : List TokenTree → Bool} → Sees holds → IgnoresSpans same (expect count holds) (expect count holds)
expect-blind count {holds} e = record { at = λ input. rw (e input.rest, skipped-bare count input) (go (holds input.rest) (skipped count input)) }
  where
    go : (found : Bool) (after : Input) → ◌≡◌ {A = Outcome (Unit {0})} (if found then Some (tt, erased_input after) else None) (erased_outcome same (if found then Some (tt, after) else None))
    go true after = refl
    go false after = refl

taken-bare : {A B : Type 0} (bare : A → B) (found : Option A) (after : Input) → taken (option_map bare found) (erased_input after) ≡ erased_outcome bare (taken found after)
taken-bare bare None after = refl
taken-bare bare (Some value) after = refl

-- a value that is there or not
pub taken-blind : {A B : Type 0} {bare : A → B} (found : Option A) (also : Option B) → option_map bare found ≡ also → IgnoresSpans bare (taken found) (taken also)
taken-blind {bare = bare} found also e = record { at = λ input. rw (← e) (taken-bare bare found input) }

pub take_as-blind : {A B : Type 0} {bare : A → B} (of : List TokenTree → Option A) (also : List TokenTree → Option B) → Reads bare of also → IgnoresSpans bare (take_as of) (take_as also)
take_as-blind {bare = bare} of also e = record { at = λ input. rw (e input.rest, next-bare input) (taken-bare bare (of input.rest) (next input)) }

after_found-bare : {A B : Type 0} (bare : A → B) (found : Option A) (input : Input) → after_found (option_map bare found) (erased_input input) ≡ erased_input (after_found found input)
after_found-bare bare None input = refl
after_found-bare bare (Some value) input = next-bare input

pub eat_as-blind : {A B : Type 0} {bare : A → B} (of : List TokenTree → Option A) (also : List TokenTree → Option B) → Reads bare of also → IgnoresSpans (option_map bare) (eat_as of) (eat_as also)
eat_as-blind {bare = bare} of also e = record { at = λ input. rw (e input.rest) (ap (λ after. Some (option_map bare (of input.rest), after)) (after_found-bare bare (of input.rest) input)) }

pub at_end-blind : IgnoresSpans same at_end at_end
at_end-blind = test-blind is_end is_end is_end-bare

finished-bare : {A B : Type 0} (bare : A → B) (after : Input) (outcome : Outcome A) → finished (erased_input after) (erased_outcome bare outcome) ≡ erased_outcome bare (finished after outcome)
finished-bare bare after None = refl
finished-bare {A} {B} bare after (Some found) = rw (is_end-bare found.1.rest) (go (is_end found.1.rest))
  where
    go : (ended : Bool) → ◌≡◌ {A = Outcome B} (if ended then Some (bare found.0, erased_input after) else None) (erased_outcome bare (if◌then◌else◌ {A = Outcome A} ended (Some (found.0, after)) None))
    go true = refl
    go false = refl

pub inside-blind : {A B : Type 0} {bare : A → B} {parser : Parser A} {other : Parser B} (between : Delimiter) → IgnoresSpans bare parser other → IgnoresSpans bare (inside between parser) (inside between other)
inside-blind {A} {B} {bare} {parser} {other} between h = record {
  at = λ input. rw (is_group-bare between input.rest, contents_of-bare input.rest, next-bare input, h.at (start_of (contents_of input.rest)))
      (go (is_group between input.rest) (next input) (parser (start_of (contents_of input.rest))));
}
  where
    go : (found : Bool) (after : Input) (outcome : Outcome A)
        → ◌≡◌ {A = Outcome B} (if found then finished (erased_input after) (erased_outcome bare outcome) else None) (erased_outcome bare (if found then finished after outcome else None))
    go true after outcome = finished-bare bare after outcome
    go false after outcome = refl

pub state-blind : IgnoresSpans erased_input state state
state-blind = record { at = λ input. refl }

pub read_since-blind : (before also : List TokenTree) → map erased_tree before ≡ also → IgnoresSpans (map erased_tree) (read_since before) (read_since also)
read_since-blind before also b = record {
  at = λ input. rw (← b) (ap (λ trees. Some (trees, erased_input input)) (rw (length-map before erased_tree, length-map input.rest erased_tree) (take-map erased_tree (length before - length input.rest) before)));
}

-- ---- lists

pub by_turns-blind : {A B : Type 0} {bare : A → B} {loop : ℕ → Parser A} {other : ℕ → Parser B} → ((turns : ℕ) → IgnoresSpans bare (loop turns) (other turns)) → IgnoresSpans bare (by_turns loop) (by_turns other)
by_turns-blind {other = other} h = record { at = λ input. ap (λ turns. other turns (erased_input input)) (length-map input.rest erased_tree) ∙ (h (length input.rest)).at input }

-- a list with one more
pub grown-bare : {A B : Type 0} (bare : A → B) (found : List A) (value : A) (also : List B) (other : B) → map bare found ≡ also → bare value ≡ other → map bare (found ++ value ∷ []) ≡ also ++ other ∷ []
grown-bare bare found value also other f v = rw (← f, ← v) (map-append bare found (value ∷ []))

module _ {A B : Type 0} {bare : A → B} {item : Parser A} {other : Parser B} (h : IgnoresSpans bare item other) where
  items_from-blind : (turns : ℕ) (found : List A) (also : List B) → map bare found ≡ also → IgnoresSpans (map bare) (items_from item turns found) (items_from other turns also)
  unfolding items_from
  items_from-blind zero found also f = so-blind at_end-blind (λ done. if-blind done (pure-blind found also f) refuse-blind)
  items_from-blind (suc turns) found also f = so-blind at_end-blind (λ done. if-blind done (pure-blind found also f) (
      then-blind h (λ value one v. so-blind (eat-blind 1 (is_mark-bare 44)) (λ more.
      let grown = grown-bare bare found value also one f v in
      if-blind more (items_from-blind turns (found ++ value ∷ []) (also ++ one ∷ []) grown) (pure-blind (found ++ value ∷ []) (also ++ one ∷ []) grown)))))

  pub items_after-blind : (found : List A) (also : List B) → map bare found ≡ also → IgnoresSpans (map bare) (items_after item found) (items_after other also)
  items_after-blind found also f = by_turns-blind (λ turns. items_from-blind turns found also f)

  until_from-blind : (closing turns : ℕ) (found : List A) (also : List B) → map bare found ≡ also → IgnoresSpans (map bare) (until_from closing item turns found) (until_from closing other turns also)
  unfolding until_from
  until_from-blind closing zero found also f = refuse-blind
  until_from-blind closing (suc turns) found also f = so-blind (eat-blind 1 (is_mark-bare closing)) (λ closed. if-blind closed (pure-blind found also f) (
      then-blind h (λ value one v. so-blind (eat-blind 1 (is_mark-bare 44)) (λ more.
      let grown = grown-bare bare found value also one f v in
      if-blind more (until_from-blind closing turns (found ++ value ∷ []) (also ++ one ∷ []) grown)
      (so-blind (expect-blind 1 (is_mark-bare closing)) (λ mark. pure-blind (found ++ value ∷ []) (also ++ one ∷ []) grown))))))

  pub until-blind : (closing : ℕ) → IgnoresSpans (map bare) (until closing item) (until closing other)
  until-blind closing = by_turns-blind (λ turns. until_from-blind closing turns [] [] refl)

  joined_from-blind : {eat_joint : Parser Bool} → IgnoresSpans same eat_joint eat_joint → (turns : ℕ) (found : List A) (also : List B) → map bare found ≡ also
      → IgnoresSpans (map bare) (joined_from eat_joint item turns found) (joined_from eat_joint other turns also)
  unfolding joined_from
  joined_from-blind g zero found also f = refuse-blind
  joined_from-blind g (suc turns) found also f = then-blind h (λ value one v. so-blind g (λ more.
      let grown = grown-bare bare found value also one f v in
      if-blind more (joined_from-blind g turns (found ++ value ∷ []) (also ++ one ∷ []) grown) (pure-blind (found ++ value ∷ []) (also ++ one ∷ []) grown)))

  pub joined_by-blind : {eat_joint : Parser Bool} → IgnoresSpans same eat_joint eat_joint → IgnoresSpans (map bare) (joined_by eat_joint item) (joined_by eat_joint other)
  joined_by-blind g = by_turns-blind (λ turns. joined_from-blind g turns [] [] refl)
