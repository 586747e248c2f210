-- The law of printing for what goes on with a value, turn by turn: each turn makes a value around the one before it, whose printing comes first.
use Rattle.std.proofs.Common.{◌≡◌, ℕ, zero, suc, ◌≤◌, Bool, true, false, if◌then◌else◌, [], ◌∷◌, ◌++◌, length, Some, None, refl, arith, ap, sym, subst, ◌∙◌, append_assoc, append-nil, length-append}
use Rattle.std.proofs.lemmas.Option.{some_pair_parts}
use Rattle.tok_types.specs.declared.span.Span.{Span}
use Rattle.syn_grammar.specs.Input.{Input, Outcome, Parser, and_then, by_turns, is_end}
use Rattle.print_core.specs.Marks.{Trees}
use Rattle.law_prefix.specs.SameLookahead.{Relation}
use Rattle.law_prefix.specs.ReadsByPrefix.{at}
use Rattle.law_round_trip.specs.Printed.{Again}
use Rattle.law_round_trip.proofs.Lists.{some-length}
use Rattle.law_round_trip.proofs.Steps.{Rest, bind-at}

-- A loop takes a turn where the test of what comes next says so, and else ends. Without turns it ends at the end of the tokens.
pub record Loop {A : Type 0} (goes : Trees → Bool) (turn : Span → A → Parser A) (loop : Span → ℕ → A → Parser A) : Type 0 where
  pub none : (start : Span) (left : A) (input : Input) → loop start zero left input ≡ (if is_end input.rest then Some (left, input) else None)
  pub some : (start : Span) (turns : ℕ) (left : A) (input : Input) → loop start (suc turns) left input ≡ (if goes input.rest then and_then (turn start left input) (λ more. loop start turns more) else Some (left, input))

-- what is left behind a turn is shorter
fewer : (tokens more tail : Trees) (turns : ℕ) → is_end (tokens ++ []) ≡ false → length ((tokens ++ more) ++ tail) ≤ suc turns → length (more ++ tail) ≤ turns
fewer tokens more tail turns some fits = omega (arith, fits, some-length tokens some, length-append (tokens ++ more) tail, length-append tokens more, length-append more tail)

module _ {A C : Type 0} (bare : A → C) (print : A → Trees) (goes : Trees → Bool) (turn : Span → A → Parser A) (loop : Span → ℕ → A → Parser A) (Turn G After : Relation) where
  -- what one turn makes
  abbrev pub TurnLaw : Type 0
  TurnLaw = (start : Span) (left : A) → Rest {P = Span} {Q = Span × A} (λ q. bare q.1 ≡ bare left) bare print (λ place tokens. print left ++ tokens) Turn G (turn start left) (λ q. turn q.0 q.1)

  module _ (turned : Loop goes turn loop) (rule : TurnLaw) (quiet : goes [] ≡ false) (ends : (rest : Trees) → G rest []) (goes-on : (rest tail : Trees) → goes rest ≡ true → Turn rest tail → (is_end tail ≡ false) × (goes tail ≡ true) × G rest tail)
      (stays : (rest tail : Trees) → goes rest ≡ false → After rest tail → (goes tail ≡ false) × G rest tail) where
    -- what the loop makes of a value
    record Turns (Begins Behind : Trees → Type 0) (left found : A) : Type 0 where
      tokens : Trees
      is : print found ≡ print left ++ tokens
      again : (turns : ℕ) (start : Span) (other : A) → bare other ≡ bare left → (tail : Trees) (last : Span) → length (tokens ++ tail) ≤ turns → Behind tail → Again bare (loop start turns other) (at (tokens ++ tail) last) tail found
      first : (tail : Trees) → Behind tail → Begins (tokens ++ tail)

    turns-none : (left : A) (rest : Trees) → goes rest ≡ false → Turns (G rest) (After rest) left left
    turns-none left rest seen = record {
      tokens = [];
      is = rw (append-nil) refl;
      again = go;
      first = λ tail f. (stays rest tail seen f).1;
    }
      where
        go : (turns : ℕ) (start : Span) (other : A) → bare other ≡ bare left → (tail : Trees) (last : Span) → length tail ≤ turns → After rest tail → Again bare (loop start turns other) (at tail last) tail left
        go zero start other same [] last fits f = record { value = other; new = last; is = turned.none start other (at [] last); same = same }
        go zero start other same (tree ∷ trees) last fits f = absurd (omega (arith, fits))
        go (suc turns) start other same tail last fits f = record { value = other; new = last; is = rw (turned.some start turns other (at tail last), (stays rest tail seen f).0) refl; same = same }

    turns-some : (start : Span) (left next found : A) (input between : Input) {Behind : Trees → Type 0} → goes input.rest ≡ true → turn start left input ≡ Some (next, between) → Turns (G between.rest) Behind next found → Turns (G input.rest) Behind left found
    turns-some start left next found input between {Behind} seen e two =
        let one = (rule start left).of input between next e in
        let some = (goes-on input.rest (one.tokens ++ []) seen (one.first [] (ends between.rest))).0 in
        record {
          tokens = one.tokens ++ two.tokens;
          is = two.is ∙ ap (λ tokens. tokens ++ two.tokens) one.is ∙ append_assoc (print left) one.tokens two.tokens;
          again = go one.tokens two.tokens some (λ start other same tail last f. one.again (start, other) same tail last f) (λ tail f. (goes-on input.rest (one.tokens ++ tail) seen (one.first tail f)).1) two.again two.first;
          first = λ tail f. rw (append_assoc one.tokens two.tokens tail) (goes-on input.rest (one.tokens ++ (two.tokens ++ tail)) seen (one.first (two.tokens ++ tail) (two.first tail f))).2;
        }
      where
        go : (tokens more : Trees) → is_end (tokens ++ []) ≡ false → ((start : Span) (other : A) → bare other ≡ bare left → (tail : Trees) (last : Span) → G between.rest tail → Again bare (turn start other) (at (tokens ++ tail) last) tail next)
            → ((tail : Trees) → G between.rest tail → goes (tokens ++ tail) ≡ true)
            → ((turns : ℕ) (start : Span) (other : A) → bare other ≡ bare next → (tail : Trees) (last : Span) → length (more ++ tail) ≤ turns → Behind tail → Again bare (loop start turns other) (at (more ++ tail) last) tail found)
            → ((tail : Trees) → Behind tail → G between.rest (more ++ tail))
            → (turns : ℕ) (start : Span) (other : A) → bare other ≡ bare left → (tail : Trees) (last : Span) → length ((tokens ++ more) ++ tail) ≤ turns → Behind tail → Again bare (loop start turns other) (at ((tokens ++ more) ++ tail) last) tail found
        go tokens more some reads going later first zero start other same tail last fits f = absurd (omega (arith, fits, some-length tokens some, length-append (tokens ++ more) tail, length-append tokens more))
        go tokens more some reads going later first (suc turns) start other same tail last fits f =
            let mine = reads start other same (more ++ tail) last (first tail f) in
            let rest = later turns start mine.value mine.same tail mine.new (fewer tokens more tail turns some fits) f in
            record { value = rest.value; new = rest.new; is = rw (append_assoc tokens more tail, turned.some start turns other (at (tokens ++ (more ++ tail)) last), going (more ++ tail) (first tail f), mine.is) rest.is; same = rest.same }

    loop-turns : (turns : ℕ) (start : Span) (left found : A) (input after : Input) → loop start turns left input ≡ Some (found, after) → Turns (G input.rest) (After after.rest) left found
    loop-turns zero start left found input after e = by (is_end input.rest) refl (sym (turned.none start left input) ∙ e)
      where
        quiet-end : (trees : Trees) → is_end trees ≡ true → goes trees ≡ false
        quiet-end [] h = quiet
        quiet-end (tree ∷ trees) h = absurd cc

        by : (b : Bool) → is_end input.rest ≡ b → ◌≡◌ {A = Outcome A} (if b then Some (left, input) else None) (Some (found, after)) → Turns (G input.rest) (After after.rest) left found
        by false end e = absurd cc
        by true end e =
            let both = some_pair_parts left found input after e in
            subst (λ found. Turns (G input.rest) (After after.rest) left found) both.0 (rw (← both.1) (turns-none left input.rest (quiet-end input.rest end)))
    loop-turns (suc turns) start left found input after e = by (goes input.rest) refl (λ next between e. loop-turns turns start next found between after e) (sym (turned.some start turns left input) ∙ e)
      where
        Later : Type 0
        Later = (next : A) (between : Input) → loop start turns next between ≡ Some (found, after) → Turns (G between.rest) (After after.rest) next found

        by : (b : Bool) → goes input.rest ≡ b → Later → ◌≡◌ {A = Outcome A} (if b then and_then (turn start left input) (λ more. loop start turns more) else Some (left, input)) (Some (found, after)) → Turns (G input.rest) (After after.rest) left found
        by false seen later e =
            let both = some_pair_parts left found input after e in
            subst (λ found. Turns (G input.rest) (After after.rest) left found) both.0 (rw (← both.1) (turns-none left input.rest seen))
        by true seen later e =
            let parts = bind-at (turn start left input) (λ more. loop start turns more) found after e in
            turns-some start left parts.0 found input parts.1 seen parts.2 (later parts.0 parts.1 parts.3)

    pub loop-rest : {Q : Type 0} (Ok : Q → Type 0) (start : Span) (start' : Q → Span) (left : A)
        → Rest {P = Unit {0}} {Q = Q × A} (λ q. Ok q.0 × (bare q.1 ≡ bare left)) bare print (λ place tokens. print left ++ tokens) G After (by_turns (λ turns. loop start turns left)) (λ q. by_turns (λ turns. loop (start' q.0) turns q.1))
    loop-rest Ok start start' left = record {
      of = λ input after found e.
          let one = loop-turns (length input.rest) start left found input after e in
          record {
            place = tt;
            tokens = one.tokens;
            is = one.is;
            again = λ q ok tail last f.
                let more = one.again (length (one.tokens ++ tail)) (start' q.0) q.1 ok.1 tail last (omega (arith)) f in
                record { value = more.value; new = more.new; is = more.is; same = more.same };
            first = one.first;
          };
    }
