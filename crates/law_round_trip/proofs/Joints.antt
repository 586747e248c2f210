-- The law of printing for items that a mark joins, over any item and any mark.
use Rattle.std.proofs.Common.{◌≡◌, ℕ, zero, suc, ◌≤◌, Bool, true, false, if◌then◌else◌, List, [], ◌∷◌, ◌++◌, length, map, Some, refl, arith, sym, subst, ◌∙◌, append_assoc, length-append}
use Rattle.std.proofs.lemmas.Option.{some_pair_parts}
use Rattle.tok_types.specs.declared.span.Span.{Span}
use Rattle.syn_grammar.specs.Input.{Input, Parser, ◌>>=◌, pure, skipped, after_eat, eat, is_end, joined_from, joined_by}
use Rattle.print_core.specs.Marks.{Trees, joined, ended}
use Rattle.law_prefix.specs.SameLookahead.{Relation}
use Rattle.law_prefix.specs.ReadsByPrefix.{at}
use Rattle.law_round_trip.specs.Printed.{Again, Reads, Printed}
use Rattle.law_round_trip.proofs.Lists.{joined-push, ended-push, same-push, some-length}
use Rattle.law_round_trip.proofs.Steps.{bind-at}
use Rattle.law_round_trip.proofs.Takes.{skipped-over}

module _ {A C : Type 0} (bare : A → C) (print : A → Trees) (count : ℕ) (holds : Trees → Bool) (separator : Trees) (sizes : length separator ≡ count) (peek : (tail : Trees) → holds (separator ++ tail) ≡ true) (item other : Parser A) {G F : Relation} (End : Relation)
    (rule : Printed bare print G F item other) (starts : (rest tail : Trees) → G rest tail → is_end tail ≡ false) (ends : (rest : Trees) → F rest [])
    (between : (rest next tail : Trees) → holds rest ≡ true → G next tail → F rest (separator ++ tail)) (stays : (rest tail : Trees) → holds rest ≡ false → End rest tail → (holds tail ≡ false) × F rest tail) where
  -- more items: their printing goes on behind those that were found, and a loop with enough turns reads it
  record Joined (Begins After : Trees → Type 0) (found items : List A) : Type 0 where
    tokens : Trees
    is : joined separator (map print items) ≡ ended separator (map print found) ++ tokens
    again : (turns : ℕ) (others : List A) → map bare others ≡ map bare found → (tail : Trees) (last : Span) → length tokens ≤ turns → After tail → Again (map bare) (joined_from (eat count holds) other turns others) (at (tokens ++ tail) last) tail items
    first : (tail : Trees) → After tail → Begins (tokens ++ tail)

  joined-last : (found : List A) (input after : Input) (x : A) → Reads bare (G input.rest) (F after.rest) other (print x) x → holds after.rest ≡ false → Joined (G input.rest) (End after.rest) found (found ++ x ∷ [])
  unfolding joined_from after_eat
  joined-last found input after x one seen = record {
    tokens = print x;
    is = joined-push separator print found x;
    again = go;
    first = λ tail f. one.first tail (stays after.rest tail seen f).1;
  }
    where
      go : (turns : ℕ) (others : List A) → map bare others ≡ map bare found → (tail : Trees) (last : Span) → length (print x) ≤ turns → End after.rest tail → Again (map bare) (joined_from (eat count holds) other turns others) (at (print x ++ tail) last) tail (found ++ x ∷ [])
      go zero others same tail last fits f = absurd (omega (arith, some-length (print x) (starts input.rest (print x ++ []) (one.first [] (ends after.rest)))))
      go (suc turns) others same tail last fits f =
          let behind = stays after.rest tail seen f in
          let more = one.again tail last behind.1 in
          record { value = others ++ more.value ∷ []; new = more.new; is = rw (more.is, behind.0) refl; same = same-push bare others found more.value x same more.same }

  joined-more : (found items : List A) (input after next : Input) (x : A) {End' : Trees → Type 0} → Reads bare (G input.rest) (F after.rest) other (print x) x → holds after.rest ≡ true → Joined (G next.rest) End' (found ++ x ∷ []) items → Joined (G input.rest) End' found items
  unfolding joined_from after_eat
  joined-more found items input after next x {End'} one seen two = record {
    tokens = print x ++ (separator ++ two.tokens);
    is = two.is ∙ rw (ended-push separator print found x, append_assoc, append_assoc) refl;
    again = go;
    first = λ tail f. rw (append_assoc (print x) (separator ++ two.tokens) tail, append_assoc separator two.tokens tail) (one.first (separator ++ (two.tokens ++ tail)) (between after.rest next.rest (two.tokens ++ tail) seen (two.first tail f)));
  }
    where
      go : (turns : ℕ) (others : List A) → map bare others ≡ map bare found → (tail : Trees) (last : Span) → length (print x ++ (separator ++ two.tokens)) ≤ turns → End' tail
          → Again (map bare) (joined_from (eat count holds) other turns others) (at ((print x ++ (separator ++ two.tokens)) ++ tail) last) tail items
      go zero others same tail last fits f = absurd (omega (arith, some-length (print x) (starts input.rest (print x ++ []) (one.first [] (ends after.rest))), length-append (print x) (separator ++ two.tokens)))
      go (suc turns) others same tail last fits f =
          let behind = between after.rest next.rest (two.tokens ++ tail) seen (two.first tail f) in
          let more = one.again (separator ++ (two.tokens ++ tail)) last behind in
          let stands = skipped-over count separator (two.tokens ++ tail) more.new sizes in
          let rest = two.again turns (others ++ more.value ∷ []) (same-push bare others found more.value x same more.same) tail stands.0
          (omega (arith, some-length (print x) (starts input.rest (print x ++ []) (one.first [] (ends after.rest))), length-append (print x) (separator ++ two.tokens), length-append separator two.tokens)) f in
          record {
            value = rest.value;
            new = rest.new;
            is = rw (append_assoc (print x) (separator ++ two.tokens) tail, append_assoc separator two.tokens tail, more.is, peek (two.tokens ++ tail), stands.1) rest.is;
            same = rest.same;
          }

  joined_from-gives : (turns : ℕ) (found : List A) (input after : Input) (items : List A) → joined_from (eat count holds) item turns found input ≡ Some (items, after) → Joined (G input.rest) (End after.rest) found items
  unfolding joined_from after_eat
  joined_from-gives zero found input after items e = absurd cc
  joined_from-gives (suc turns) found input after items e =
      let parts = bind-at (item input) (λ y. eat count holds >>= (λ more. if more then joined_from (eat count holds) item turns (found ++ y ∷ []) else pure (found ++ y ∷ []))) items after e in
      goes (holds parts.1.rest) parts.1 refl parts.0 (rule.of input parts.1 parts.0 parts.2) (λ next e. joined_from-gives turns (found ++ parts.0 ∷ []) next after items e) parts.3
    where
      goes : (b : Bool) (between : Input) → holds between.rest ≡ b → (y : A) → Reads bare (G input.rest) (F between.rest) other (print y) y
          → ((next : Input) → joined_from (eat count holds) item turns (found ++ y ∷ []) next ≡ Some (items, after) → Joined (G next.rest) (End after.rest) (found ++ y ∷ []) items)
          → (if b then joined_from (eat count holds) item turns (found ++ y ∷ []) else pure (found ++ y ∷ [])) (after_eat count b between) ≡ Some (items, after) → Joined (G input.rest) (End after.rest) found items
      goes true between is y one later e = joined-more found items input between (skipped count between) y one is (later (skipped count between) e)
      goes false between is y one later e =
          let both = some_pair_parts (found ++ y ∷ []) items between after e in
          subst (λ items. Joined (G input.rest) (End after.rest) found items) both.0 (rw (← both.1) (joined-last found input between y one is))

  pub joined-printed : Printed (map bare) (λ items. joined separator (map print items)) G End (joined_by (eat count holds) item) (joined_by (eat count holds) other)
  joined-printed = record {
    of = λ input after items e.
        let one = joined_from-gives (length input.rest) [] input after items e in
        subst (λ tokens. Reads (map bare) (G input.rest) (End after.rest) (joined_by (eat count holds) other) tokens items) (sym one.is) (record {
          again = λ tail last f.
              let more = one.again (length (one.tokens ++ tail)) [] refl tail last (omega (arith, length-append one.tokens tail)) f in
              record { value = more.value; new = more.new; is = more.is; same = more.same };
          first = one.first;
        });
  }

-- there is one item at least
pub joined-some : {A : Type 0} (joint : Parser Bool) (item : Parser A) (turns : ℕ) (found : List A) (input after : Input) (items : List A) → joined_from joint item turns found input ≡ Some (items, after) → suc (length found) ≤ length items
unfolding joined_from
joined-some joint item zero found input after items e = absurd cc
joined-some {A} joint item (suc turns) found input after items e =
    let parts = bind-at (item input) (λ y. joint >>= (λ more. if more then joined_from joint item turns (found ++ y ∷ []) else pure (found ++ y ∷ []))) items after e in
    let more = bind-at (joint parts.1) (λ more. if more then joined_from joint item turns (found ++ parts.0 ∷ []) else pure (found ++ parts.0 ∷ [])) items after parts.3 in
    by more.0 more.1 parts.0 (joined-some joint item turns (found ++ parts.0 ∷ []) more.1 after items) more.3
  where
    by : (b : Bool) (behind : Input) (y : A) → (joined_from joint item turns (found ++ y ∷ []) behind ≡ Some (items, after) → suc (length (found ++ y ∷ [])) ≤ length items)
        → (if b then joined_from joint item turns (found ++ y ∷ []) else pure (found ++ y ∷ [])) behind ≡ Some (items, after) → suc (length found) ≤ length items
    by true behind y later e = omega (arith, later e, length-append found (y ∷ []))
    by false behind y later e = rw (← (some_pair_parts (found ++ y ∷ []) items behind after e).0) (omega (arith, length-append found (y ∷ [])))
