-- What is said of all that a parser finds, for the steps that every rule is made of.
use Rattle.std.proofs.Common.{◌≡◌, ℕ, zero, suc, nat_le, Bool, true, false, if◌then◌else◌, List, [], ◌∷◌, ◌++◌, length, All, Option, Some, None, refl, ap, subst}
use Rattle.std.proofs.lemmas.List.Elements.{All-push}
use Rattle.std.proofs.lemmas.Option.{some_pair_parts}
use Rattle.tok_types.specs.declared.tree.Delimiter.{Delimiter}
use Rattle.tok_types.specs.declared.tree.TokenTree.{TokenTree}
use Rattle.syn_grammar.specs.Grammar.{kept}
use Rattle.syn_grammar.specs.Input.{Input, Outcome, Parser, ◌>>=◌, ◌<$>◌, pure, refuse, test, by_turns, start_of, next, is_end, at_end, eat, finished, inside, items_from, items_after}
use Rattle.syn_grammar.specs.Token.{contents_of, is_comma, is_group}
use Rattle.syn_grammar.specs.Trees.{all}
use Rattle.law_prefix.proofs.Steps.{bind-at}

-- whatever the parser finds, this is said of it
pub record Finds {A : Type 0} (says : A → Type 0) (parser : Parser A) : Type 0 where
  pub of : (input after : Input) (found : A) → parser input ≡ Some (found, after) → says found

pub refuse-finds : {A : Type 0} {says : A → Type 0} → Finds says refuse
refuse-finds = record { of = λ input after found e. absurd cc }

pub pure-finds : {A : Type 0} {says : A → Type 0} (value : A) → says value → Finds says (pure value)
pure-finds {says = says} value said = record { of = λ input after found e. subst says (some_pair_parts value found input after e).0 said }

-- behind what is found
pub then-finds : {A B : Type 0} {says : A → Type 0} {said : B → Type 0} {parser : Parser A} {next : A → Parser B} → Finds says parser → ((value : A) → says value → Finds said (next value)) → Finds said (parser >>= next)
then-finds {parser = parser} {next = proceed} h g = record {
  of = λ input after found e.
      let parts = bind-at (parser input) proceed found after e in
      (g parts.0 (h.of input parts.1 parts.0 parts.2)).of parts.1 after found parts.3;
}

-- behind what is told nothing of
pub so-finds : {A B : Type 0} {said : B → Type 0} {next : A → Parser B} (parser : Parser A) → ((value : A) → Finds said (next value)) → Finds said (parser >>= next)
so-finds {next = proceed} parser g = record {
  of = λ input after found e.
      let parts = bind-at (parser input) proceed found after e in
      (g parts.0).of parts.1 after found parts.3;
}

-- behind what is seen of the tokens that are left
pub seen-finds : {A B : Type 0} {said : B → Type 0} (look : List TokenTree → A) (next : A → Parser B) → ((trees : List TokenTree) → Finds said (next (look trees))) → Finds said (test look >>= next)
seen-finds look proceed g = record { of = λ input after found e. (g input.rest).of input after found e }

-- of what is made from anything
pub made-finds : {A B : Type 0} {said : B → Type 0} (make : A → B) (parser : Parser A) → ((value : A) → said (make value)) → Finds said (make <$> parser)
made-finds make parser g = so-finds parser (λ value. pure-finds (make value) (g value))

-- of what is made from what is found
pub map-finds : {A B : Type 0} {says : A → Type 0} {said : B → Type 0} {parser : Parser A} (make : A → B) → Finds says parser → ((value : A) → says value → said (make value)) → Finds said (make <$> parser)
map-finds make h g = then-finds h (λ value v. pure-finds (make value) (g value v))

pub weaker-finds : {A : Type 0} {says said : A → Type 0} {parser : Parser A} → ((value : A) → says value → said value) → Finds says parser → Finds said parser
weaker-finds g h = record { of = λ input after found e. g found (h.of input after found e) }

pub if-finds : {A : Type 0} {says : A → Type 0} {one two : Parser A} (holds : Bool) → Finds says one → Finds says two → Finds says (if holds then one else two)
if-finds true h g = h
if-finds false h g = g

pub turns-finds : {A : Type 0} {says : A → Type 0} {loop : ℕ → Parser A} → ((turns : ℕ) → Finds says (loop turns)) → Finds says (by_turns loop)
turns-finds h = record { of = λ input after found e. (h (length input.rest)).of input after found e }

-- ---- all tokens

all-said : {A : Type 0} (says : A → Type 0) (outcome : Outcome A) → ((after : Input) (found : A) → outcome ≡ Some (found, after) → says found) → (found : A) → all outcome ≡ Some found → says found
all-said says None h found e = absurd cc
all-said {A} says (Some pair) h found e = by (is_end pair.1.rest) e
  where
    by : (b : Bool) → ◌≡◌ {A = Option A} (if b then Some pair.0 else None) (Some found) → says found
    by true e = let same : pair.0 ≡ found = cc in subst says same (h pair.1 pair.0 refl)
    by false e = absurd cc

-- of what all of the tokens are
pub all-finds : {A : Type 0} {says : A → Type 0} {parser : Parser A} → Finds says parser → (input : Input) (found : A) → all (parser input) ≡ Some found → says found
all-finds {says = says} {parser = parser} h input found e = all-said says (parser input) (λ after found e. h.of input after found e) found e

-- ---- groups

finished-all : {A : Type 0} (outcome : Outcome A) (after end : Input) (found : A) → finished after outcome ≡ Some (found, end) → all outcome ≡ Some found
finished-all None after end found e = absurd cc
finished-all {A} (Some pair) after end found e = by (is_end pair.1.rest) e
  where
    by : (b : Bool) → ◌≡◌ {A = Outcome A} (if b then Some (pair.0, after) else None) (Some (found, end)) → ◌≡◌ {A = Option A} (if b then Some pair.0 else None) (Some found)
    by true e = ap (λ (value : A). Some value) (some_pair_parts pair.0 found after end e).0
    by false e = absurd cc

pub inside-finds : {A : Type 0} {says : A → Type 0} {parser : Parser A} (delimiter : Delimiter) → Finds says parser → Finds says (inside delimiter parser)
inside-finds {A} {says} {parser} delimiter h = record { of = λ input after found e. by input (is_group delimiter input.rest) after found e }
  where
    by : (input : Input) (b : Bool) (after : Input) (found : A) → ◌≡◌ {A = Outcome A} (if b then finished (next input) (parser (start_of (contents_of input.rest))) else None) (Some (found, after)) → says found
    by input true after found e = all-finds h (start_of (contents_of input.rest)) found (finished-all (parser (start_of (contents_of input.rest))) (next input) after found e)
    by input false after found e = absurd cc

-- ---- lists

pub items_from-finds : {A : Type 0} {says : A → Type 0} {item : Parser A} → Finds says item → (turns : ℕ) (found : List A) → All says found → Finds (All says) (items_from item turns found)
unfolding items_from
items_from-finds h zero found f = so-finds at_end (λ done. if-finds done (pure-finds found f) refuse-finds)
items_from-finds {says = says} h (suc turns) found f = so-finds at_end (λ done. if-finds done (pure-finds found f) (
    then-finds h (λ value v. so-finds (eat 1 is_comma) (λ more.
    if-finds more (items_from-finds h turns (found ++ value ∷ []) (All-push says found value f v)) (pure-finds (found ++ value ∷ []) (All-push says found value f v))))))

pub items_after-finds : {A : Type 0} {says : A → Type 0} {item : Parser A} → Finds says item → (found : List A) → All says found → Finds (All says) (items_after item found)
items_after-finds h found f = turns-finds (λ turns. items_from-finds h turns found f)

-- ---- depths

kept-said : {A : Type 0} (size : A → ℕ) (limit : ℕ) (outcome : Outcome A) (found : A) (after : Input) → kept size limit outcome ≡ Some (found, after) → outcome ≡ Some (found, after)
kept-said size limit None found after e = absurd cc
kept-said {A} size limit (Some pair) found after e = by (nat_le (size pair.0) limit) e
  where
    by : (b : Bool) → ◌≡◌ {A = Outcome A} (if b then Some pair else None) (Some (found, after)) → ◌≡◌ {A = Outcome A} (Some pair) (Some (found, after))
    by true e = e
    by false e = absurd cc

-- of what is no deeper than the limit
pub kept-finds : {A : Type 0} {says : A → Type 0} {parser : Parser A} (size : A → ℕ) (limit : ℕ) → Finds says parser → Finds says (λ input. kept size limit (parser input))
kept-finds {parser = parser} size limit h = record { of = λ input after found e. h.of input after found (kept-said size limit (parser input) found after e) }
