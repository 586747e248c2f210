-- The law of fronts where it is seen that tokens end, and for the loops of items.
use Rattle.std.proofs.Common.{◌≡◌, ℕ, zero, suc, ◌≤◌, Bool, true, false, if◌then◌else◌, List, [], ◌∷◌, ◌++◌, length, Some, refl, arith, sym, ◌∙◌}
use Rattle.tok_types.specs.declared.span.Span.{Span}
use Rattle.tok_types.specs.declared.tree.TokenTree.{TokenTree}
use Rattle.syn_grammar.specs.Input.{Input, Parser, ◌>>=◌, pure, eat}
use Rattle.syn_grammar.specs.Token.{is_comma, mark_of}
use Rattle.law_prefix.specs.SameLookahead.{Any, SameLookahead, SameLookaheadToEnds}
use Rattle.law_prefix.specs.ReadsByPrefix.{at}
use Rattle.law_prefix.proofs.Looks.{alike-behind}
use Rattle.law_prefix.proofs.Steps.{Begins, FrontAt, Fronts, stay-front, pure-front, first_at-front, turn-front, maybe_at-front, maybe-front, none_at-front, if-front, seen-front, test-front, turns-front}
use Rattle.law_prefix.proofs.Takes.{eat_by-front, one-enough}
use Rattle.law_prefix.proofs.Loops.{Rule}
use Rattle.syn_items.specs.Lists.{while_from, each_while}

-- ---- ends

ends-behind : (read rest tail : List TokenTree) → SameLookaheadToEnds rest tail → SameLookaheadToEnds (read ++ rest) (read ++ tail)
unfolding mark_of
ends-behind [] rest tail h = h
ends-behind (tree ∷ trees) rest tail h = (alike-behind (tree ∷ trees) rest tail h.0, refl, refl)

ends-first : (read rest tail : List TokenTree) → Begins true read → SameLookahead (read ++ rest) (read ++ tail) → SameLookaheadToEnds (read ++ rest) (read ++ tail)
unfolding mark_of
ends-first [] rest tail begins h = absurd begins
ends-first (tree ∷ trees) rest tail begins h = (h, refl, refl)

-- what does not look at ends, where they are seen
ends_at-front : {A : Type 0} {limit : ℕ} {some : Bool} {parser other : Parser A} {input : Input} → FrontAt limit SameLookahead SameLookahead some true parser other input → FrontAt limit SameLookaheadToEnds SameLookaheadToEnds some true parser other input
ends_at-front h = record {
  of = λ after found e.
      let took = h.of after found e in
      record {
        read = took.read;
        is = took.is;
        begins = took.begins;
        again = λ tail last free same fits. took.again tail last free same.0 fits;
        first = λ tail same. rw took.is (ends-behind took.read after.rest tail same);
      };
}

-- what closes itself
closing_at-front : {A : Type 0} {limit : ℕ} {parser other : Parser A} {input : Input} → FrontAt limit SameLookahead Any true true parser other input → FrontAt limit SameLookaheadToEnds Any true true parser other input
closing_at-front h = record {
  of = λ after found e.
      let took = h.of after found e in
      record {
        read = took.read;
        is = took.is;
        begins = took.begins;
        again = took.again;
        first = λ tail same. rw took.is (ends-first took.read after.rest tail took.begins (rw took.is at (took.first tail same)));
      };
}

pub ends-front : {A : Type 0} {limit : ℕ} {some : Bool} {parser other : Parser A} → Fronts limit SameLookahead SameLookahead some true parser other → Fronts limit SameLookaheadToEnds SameLookaheadToEnds some true parser other
ends-front h = record { at = λ input. ends_at-front (h.at input) }

pub closing-front : {A : Type 0} {limit : ℕ} {parser other : Parser A} → Fronts limit SameLookahead Any true true parser other → Fronts limit SameLookaheadToEnds Any true true parser other
closing-front h = record { at = λ input. closing_at-front (h.at input) }

comma-none : is_comma [] ≡ false
unfolding mark_of
comma-none = refl

pub eat_comma-front : {limit : ℕ} → Fronts limit SameLookaheadToEnds SameLookaheadToEnds false true (eat 1 is_comma) (eat 1 is_comma)
eat_comma-front = eat_by-front ends-behind 1 is_comma (λ rest tail same. same.2) (one-enough is_comma comma-none)

-- ---- items without marks between

module _ {A : Type 0} (begins : List TokenTree → Bool) (item : Parser A) (none : begins [] ≡ false) (alike-begins : (rest tail : List TokenTree) → SameLookahead rest tail → begins rest ≡ begins tail) (item-rule : Rule true item) where
  while-stop : (limit : ℕ) (found : List A) (trees : List TokenTree) (last : Span) → begins trees ≡ false → length trees ≤ limit → while_from begins item limit found (at trees last) ≡ Some (found, at trees last)
  unfolding while_from
  while-stop zero found [] last is fits = refl
  while-stop zero found (tree ∷ trees) last is fits = absurd (omega arith)
  while-stop (suc limit) found trees last is fits = rw is refl

  while-ended : (limit : ℕ) (found : List A) (trees : List TokenTree) (last : Span) → FrontAt limit SameLookahead SameLookahead false true (while_from begins item 0 found) (while_from begins item limit found) (at trees last)
  unfolding while_from
  while-ended limit found [] last = stay-front found refl (λ tail new alike fits. while-stop limit found tail new (sym (alike-begins [] tail alike) ∙ none) fits)
  while-ended limit found (tree ∷ trees) last = record { of = λ after found e. absurd cc }

  -- where no token may be left, only an end is read again
  while-none : (turns : ℕ) (found : List A) (b : Bool) (input : Input) → begins input.rest ≡ b
      → ((value : A) → Fronts 0 SameLookahead SameLookahead false true (while_from begins item turns (found ++ value ∷ [])) (while_from begins item 0 (found ++ value ∷ [])))
      → FrontAt 0 SameLookahead SameLookahead false true (if b then item >>= (λ value. while_from begins item turns (found ++ value ∷ [])) else pure found) (while_from begins item 0 found) input
  while-none turns found true input is h = maybe_at-front (none_at-front (first_at-front {following = λ value. while_from begins item 0 (found ++ value ∷ [])} ((item-rule 0).at input) h))
  while-none turns found false input is h = stay-front found refl (λ tail new alike fits. while-stop 0 found tail new (sym (alike-begins input.rest tail alike) ∙ is) fits)

  while_from-front : (limit turns : ℕ) (found : List A) → Fronts limit SameLookahead SameLookahead false true (while_from begins item turns found) (while_from begins item limit found)
  unfolding while_from
  while_from-front limit zero found = record { at = λ input. while-ended limit found input.rest input.last }
  while_from-front zero (suc turns) found = record {
    at = λ input. seen-front begins (λ more. if more then item >>= (λ value. while_from begins item turns (found ++ value ∷ [])) else pure found)
        (while-none turns found (begins input.rest) input refl (λ value. while_from-front 0 turns (found ++ value ∷ [])));
  }
  while_from-front (suc limit) (suc turns) found =
      test-front begins alike-begins (λ more.
      if-front more (maybe-front (turn-front (item-rule (suc limit)) (λ value. while_from-front limit turns (found ++ value ∷ [])))) (pure-front found))

  pub each_while-front : Rule false (each_while begins item)
  each_while-front limit = turns-front {loop = λ turns. while_from begins item turns []} (λ limit turns. while_from-front limit turns [])
