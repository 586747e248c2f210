-- What holds of whatever a parser reads.
use Rattle.std.proofs.Common.{◌≡◌, Bool, true, false, if◌then◌else◌, Some, subst}
use Rattle.std.proofs.lemmas.Option.{some_pair_parts}
use Rattle.syn_grammar.specs.Input.{Input, Parser, ◌>>=◌, pure, refuse}
use Rattle.law_round_trip.proofs.Steps.{bind-at}

pub record Always {A : Type 0} (V : A → Type 0) (parser : Parser A) : Type 0 where
  pub of : (input after : Input) (found : A) → parser input ≡ Some (found, after) → V found

pub pure-always : {A : Type 0} {V : A → Type 0} (x : A) → V x → Always V (pure x)
pure-always {V = V} x h = record { of = λ input after found e. subst V (some_pair_parts x found input after e).0 h }

pub refuse-always : {A : Type 0} {V : A → Type 0} → Always V refuse
refuse-always = record { of = λ input after found e. absurd cc }

pub if-always : {A : Type 0} {V : A → Type 0} {one other : Parser A} (b : Bool) → Always V one → Always V other → Always V (if b then one else other)
if-always true h g = h
if-always false h g = g

-- of what the second part reads, from what holds of the first
pub so-always : {A B : Type 0} {W : A → Type 0} {V : B → Type 0} {parser : Parser A} {next : A → Parser B} → Always W parser → ((y : A) → W y → Always V (next y)) → Always V (parser >>= next)
so-always {parser = parser} {next = next} h g = record {
  of = λ input after found e.
      let parts = bind-at (parser input) next found after e in
      (g parts.0 (h.of input parts.1 parts.0 parts.2)).of parts.1 after found parts.3;
}

pub then-always : {A B : Type 0} {V : B → Type 0} (parser : Parser A) {next : A → Parser B} → ((y : A) → Always V (next y)) → Always V (parser >>= next)
then-always {A = A} parser g = so-always {W = λ (y : A). Unit {0}} {parser = parser} (record { of = λ input after found e. tt }) (λ y known. g y)
