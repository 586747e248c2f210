-- The law of printing for items without marks between them, over any item that ends by itself.
use Rattle.std.proofs.Common.{◌≡◌, ℕ, zero, suc, ◌+◌, ◌≤◌, Bool, true, false, if◌then◌else◌, List, [], ◌∷◌, ◌++◌, length, map, flat_map, Some, None, refl, arith, sym, subst, ◌∙◌, append_assoc, append-nil, length-append}
use Rattle.std.proofs.lemmas.Option.{some_pair_parts}
use Rattle.tok_types.specs.declared.span.Span.{Span}
use Rattle.syn_grammar.specs.Input.{Input, Parser, ◌>>=◌, pure, is_end}
use Rattle.syn_items.specs.Lists.{each_while, while_from}
use Rattle.print_core.specs.Marks.{Trees}
use Rattle.law_prefix.specs.SameLookahead.{Relation}
use Rattle.law_prefix.specs.ReadsByPrefix.{at}
use Rattle.law_round_trip.specs.Printed.{Again, Reads, Printed}
use Rattle.law_round_trip.proofs.Follows.{keep-false}
use Rattle.law_round_trip.proofs.Lists.{same-push, some-length}
use Rattle.law_round_trip.proofs.Steps.{bind-at}
use Rattle.law_round_trip_items.specs.Follow.{AfterWhile}

-- the printing of one item more
pub each-push : {A : Type 0} (print : A → Trees) (found : List A) (x : A) → flat_map print (found ++ x ∷ []) ≡ flat_map print found ++ print x
each-push print [] x = append-nil (print x)
each-push print (y ∷ found) x = rw (each-push print found x, append_assoc) refl

module _ {A C : Type 0} (bare : A → C) (print : A → Trees) (begins : Trees → Bool) (none : begins [] ≡ false) (item other : Parser A) {G F : Relation}
    (rule : Printed bare print G F item other) (starts : (rest tail : Trees) → G rest tail → (is_end tail ≡ false) × (begins tail ≡ true)) (ends : (rest tail : Trees) → F rest tail)
    (Sight : Relation) (seen : (rest tail : Trees) → begins tail ≡ true → Sight rest tail) where
  -- more items: their printing goes on behind those that were found, and a loop with enough turns reads it
  record Longer (Begins After : Trees → Type 0) (found items : List A) : Type 0 where
    tokens : Trees
    is : flat_map print items ≡ flat_map print found ++ tokens
    again : (turns : ℕ) (others : List A) → map bare others ≡ map bare found → (tail : Trees) (last : Span) → length tokens + length tail ≤ turns → After tail → Again (map bare) (while_from begins other turns others) (at (tokens ++ tail) last) tail items
    first : (tail : Trees) → After tail → Begins (tokens ++ tail)

  stopped : (found : List A) (rest : Trees) → begins rest ≡ false → Longer (Sight rest) (AfterWhile begins Sight rest) found found
  unfolding while_from
  stopped found rest stop = record {
    tokens = [];
    is = sym (append-nil (flat_map print found));
    again = go;
    first = λ tail f. f.1;
  }
    where
      go : (turns : ℕ) (others : List A) → map bare others ≡ map bare found → (tail : Trees) (last : Span) → 0 + length tail ≤ turns → AfterWhile begins Sight rest tail → Again (map bare) (while_from begins other turns others) (at tail last) tail found
      go zero others same [] last fits f = record { value = others; new = last; is = refl; same = same }
      go zero others same (tree ∷ trees) last fits f = absurd (omega (arith, fits))
      go (suc turns) others same tail last fits f = record { value = others; new = last; is = rw (keep-false begins rest tail stop f.0) refl; same = same }

  went : (found items : List A) (input after next : Input) (x : A) {End : Trees → Type 0} → Reads bare (G input.rest) (F after.rest) other (print x) x → Longer (Sight next.rest) End (found ++ x ∷ []) items → Longer (Sight input.rest) End found items
  unfolding while_from
  went found items input after next x {End} one two = record {
    tokens = print x ++ two.tokens;
    is = two.is ∙ rw (each-push print found x, append_assoc) refl;
    again = go;
    first = λ tail f. rw (append_assoc (print x) two.tokens tail) (seen input.rest (print x ++ (two.tokens ++ tail)) (starts input.rest (print x ++ (two.tokens ++ tail)) (begun (two.tokens ++ tail))).1);
  }
    where
      begun : (tail : Trees) → G input.rest (print x ++ tail)
      begun tail = one.first tail (ends after.rest tail)

      some : 1 ≤ length (print x)
      some = some-length (print x) (starts input.rest (print x ++ []) (begun [])).0

      go : (turns : ℕ) (others : List A) → map bare others ≡ map bare found → (tail : Trees) (last : Span) → length (print x ++ two.tokens) + length tail ≤ turns → End tail → Again (map bare) (while_from begins other turns others) (at ((print x ++ two.tokens) ++ tail) last) tail items
      go zero others same tail last fits f = absurd (omega (arith, some, fits, length-append (print x) two.tokens))
      go (suc turns) others same tail last fits f =
          let more = one.again (two.tokens ++ tail) last (ends after.rest (two.tokens ++ tail)) in
          let rest = two.again turns (others ++ more.value ∷ []) (same-push bare others found more.value x same more.same) tail more.new (omega (arith, some, fits, length-append (print x) two.tokens)) f in
          record {
            value = rest.value;
            new = rest.new;
            is = rw (append_assoc (print x) two.tokens tail, (starts input.rest (print x ++ (two.tokens ++ tail)) (begun (two.tokens ++ tail))).1, more.is) rest.is;
            same = rest.same;
          }

  while_from-gives : (turns : ℕ) (found : List A) (input after : Input) (items : List A) → while_from begins item turns found input ≡ Some (items, after) → Longer (Sight input.rest) (AfterWhile begins Sight after.rest) found items
  unfolding while_from
  while_from-gives zero found input after items e = done input.rest refl e
    where
      done : (rest : Trees) → input.rest ≡ rest → (if is_end rest then pure found else (λ input. None)) input ≡ Some (items, after) → Longer (Sight input.rest) (AfterWhile begins Sight after.rest) found items
      done [] is e =
          let both = some_pair_parts found items input after e in
          rw (← both.0, ← both.1) (stopped found input.rest (rw is none))
      done (tree ∷ trees) is e = absurd cc
  while_from-gives (suc turns) found input after items e = by (begins input.rest) refl (λ y between e. while_from-gives turns (found ++ y ∷ []) between after items e) e
    where
      by : (b : Bool) → begins input.rest ≡ b → ((y : A) (between : Input) → while_from begins item turns (found ++ y ∷ []) between ≡ Some (items, after) → Longer (Sight between.rest) (AfterWhile begins Sight after.rest) (found ++ y ∷ []) items)
          → (if b then item >>= (λ y. while_from begins item turns (found ++ y ∷ [])) else pure found) input ≡ Some (items, after) → Longer (Sight input.rest) (AfterWhile begins Sight after.rest) found items
      by true is later e =
          let parts = bind-at (item input) (λ y. while_from begins item turns (found ++ y ∷ [])) items after e in
          went found items input parts.1 parts.1 parts.0 (rule.of input parts.1 parts.0 parts.2) (later parts.0 parts.1 parts.3)
      by false is later e =
          let both = some_pair_parts found items input after e in
          rw (← both.0, ← both.1) (stopped found input.rest is)

  pub while-printed : Printed (map bare) (flat_map print) Sight (AfterWhile begins Sight) (each_while begins item) (each_while begins other)
  while-printed = record {
    of = λ input after items e.
        let one = while_from-gives (length input.rest) [] input after items e in
        subst (λ tokens. Reads (map bare) (Sight input.rest) (AfterWhile begins Sight after.rest) (each_while begins other) tokens items) (sym one.is) (record {
          again = λ tail last f.
              let more = one.again (length (one.tokens ++ tail)) [] refl tail last (omega (arith, length-append one.tokens tail)) f in
              record { value = more.value; new = more.new; is = more.is; same = more.same };
          first = one.first;
        });
  }
