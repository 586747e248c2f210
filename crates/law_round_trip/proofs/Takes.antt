-- The law of printing for the steps that take tokens.
use Rattle.std.proofs.Common.{◌≡◌, ℕ, zero, suc, Bool, true, false, if◌then◌else◌, [], ◌∷◌, ◌++◌, length, Option, Some, None, refl, arith, rules, ap, ◌∙◌, append_assoc, append-nil}
use Rattle.std.proofs.lemmas.Option.{some_pair_parts}
use Rattle.tok_types.specs.declared.span.Span.{Span}
use Rattle.tok_types.specs.declared.span.Span.TheVariants.{CallSite}
use Rattle.tok_types.specs.declared.tree.Delimiter.{Delimiter}
use Rattle.tok_types.specs.declared.tree.Delimiter.TheVariants as delimiter
use Rattle.tok_types.specs.declared.tree.TokenTree.{TokenTree, the_lemmas}
use Rattle.syn_grammar.specs.Input.{Input, Outcome, Parser, and_then, ◌>>=◌, next, skipped, skip, skip_by, after_eat, eat, expect, taken, take_as, after_found, eat_as, is_end, finished, inside, start_of}
use Rattle.syn_grammar.specs.Token.{is_group, contents_of, span_of}
use Rattle.tok_types.specs.Delimiter.{same_delimiter}
use Rattle.print_core.specs.Marks.{Trees, group}
use Rattle.law_prefix.specs.SameLookahead.{Relation}
use Rattle.law_prefix.specs.ReadsByPrefix.{at}
use Rattle.law_round_trip.specs.Printed.{Reads, Printed}
use Rattle.law_round_trip.proofs.Steps.{Gives, Rest}

-- where one stands behind tokens that were skipped
pub skipped-over : (count : ℕ) (tokens tail : Trees) (last : Span) → length tokens ≡ count → (new : Span) × (skipped count (at (tokens ++ tail) last) ≡ at tail new)
unfolding skipped next
skipped-over zero [] tail last h = (last, refl)
skipped-over zero (tree ∷ trees) tail last h = absurd (omega (arith, h))
skipped-over (suc count) [] tail last h = absurd (omega (arith, h))
skipped-over (suc count) (tree ∷ trees) tail last h = skipped-over count trees tail (span_of tree) (omega (arith, h))

-- ---- tokens that the printing has

module _ {A B P Q : Type 0} {Ok : Q → Type 0} {bare : A → B} {print : A → Trees} {wrap : P → Trees → Trees} {Second G F : Relation} {f : Parser A} {g : Q → Parser A} where
  pub skip_by-rest : (count : ℕ) (tokens : P → Trees) → ((place : P) → length (tokens place) ≡ count) → Rest Ok bare print (λ place more. wrap place (tokens place ++ more)) Second F f g
      → ((input : Input) (tail : Trees) (place : P) → Second (skipped count input).rest tail → G input.rest (tokens place ++ tail)) → Rest Ok bare print wrap G F (skip_by count >>= (λ _. f)) (λ q. skip_by count >>= (λ _. g q))
  skip_by-rest count tokens sizes h starts = record {
    of = λ input after found e.
        let two = h.of (skipped count input) after found e in
        record {
          place = two.place;
          tokens = tokens two.place ++ two.tokens;
          is = two.is;
          again = λ q ok tail last f.
              let stands = skipped-over count (tokens two.place) (two.tokens ++ tail) last (sizes two.place) in
              let more = two.again q ok tail stands.0 f in
              record { value = more.value; new = more.new; is = rw (append_assoc (tokens two.place) two.tokens tail, stands.1) more.is; same = more.same };
          first = λ tail f. rw (append_assoc (tokens two.place) two.tokens tail) (starts input (two.tokens ++ tail) two.place (two.first tail f));
        };
  }

  pub skip-rest : (tokens : P → Trees) → ((place : P) → length (tokens place) ≡ 1) → Rest Ok bare print (λ place more. wrap place (tokens place ++ more)) Second F f g
      → ((input : Input) (tail : Trees) (place : P) → Second (next input).rest tail → G input.rest (tokens place ++ tail)) → Rest Ok bare print wrap G F (skip >>= (λ _. f)) (λ q. skip >>= (λ _. g q))
  unfolding skipped
  skip-rest tokens sizes h starts = skip_by-rest 1 tokens sizes h starts

  -- tokens for which a test holds
  pub expect-rest : (count : ℕ) (holds : Trees → Bool) (tokens : P → Trees) → ((place : P) → length (tokens place) ≡ count) → ((place : P) (tail : Trees) → holds (tokens place ++ tail) ≡ true)
      → Rest Ok bare print (λ place more. wrap place (tokens place ++ more)) Second F f g
      → ((input : Input) (tail : Trees) (place : P) → holds input.rest ≡ true → Second (skipped count input).rest tail → G input.rest (tokens place ++ tail))
      → Rest Ok bare print wrap G F (expect count holds >>= (λ _. f)) (λ q. expect count holds >>= (λ _. g q))
  expect-rest count holds tokens sizes peek h starts = record { of = λ input after found e. by input after found (holds input.rest) refl e }
    where
      by : (input after : Input) (found : A) (b : Bool) → holds input.rest ≡ b → and_then (if b then Some (tt {0}, skipped count input) else None) (λ _. f) ≡ Some (found, after)
          → Gives Ok bare print wrap (G input.rest) (F after.rest) (λ q. expect count holds >>= (λ _. g q)) found
      by input after found false is e = absurd cc
      by input after found true is e =
          let two = h.of (skipped count input) after found e in
          record {
            place = two.place;
            tokens = tokens two.place ++ two.tokens;
            is = two.is;
            again = λ q ok tail last f.
                let stands = skipped-over count (tokens two.place) (two.tokens ++ tail) last (sizes two.place) in
                let more = two.again q ok tail stands.0 f in
                record { value = more.value; new = more.new; is = rw (append_assoc (tokens two.place) two.tokens tail, peek two.place (two.tokens ++ tail), stands.1) more.is; same = more.same };
            first = λ tail f. rw (append_assoc (tokens two.place) two.tokens tail) (starts input (two.tokens ++ tail) two.place is (two.first tail f));
          }

-- tokens that may be there: they are printed where they were
module _ {A B P Q : Type 0} {Ok : Q → Type 0} {bare : A → B} {print : A → Trees} {wrap : P → Trees → Trees} {Yes No G F : Relation} {f one : Parser A} {g other : Q → Parser A} where
  pub eat_or-rest : (count : ℕ) (holds : Trees → Bool) (tokens : P → Trees) → ((place : P) → length (tokens place) ≡ count) → ((place : P) (tail : Trees) → holds (tokens place ++ tail) ≡ true)
      → Rest Ok bare print (λ place more. wrap place (tokens place ++ more)) Yes F f g → Rest Ok bare print wrap No F one other
      → ((input : Input) (tail : Trees) (place : P) → holds input.rest ≡ true → Yes (skipped count input).rest tail → G input.rest (tokens place ++ tail))
      → ((rest tail : Trees) → holds rest ≡ false → No rest tail → (holds tail ≡ false) × G rest tail)
      → Rest Ok bare print wrap G F (eat count holds >>= (λ b. if b then f else one)) (λ q. eat count holds >>= (λ b. if b then g q else other q))
  unfolding after_eat
  eat_or-rest count holds tokens sizes peek there none starts stays = record { of = λ input after found e. by input after found (holds input.rest) refl e }
    where
      by : (input after : Input) (found : A) (b : Bool) → holds input.rest ≡ b → (if b then f else one) (after_eat count b input) ≡ Some (found, after)
          → Gives Ok bare print wrap (G input.rest) (F after.rest) (λ q. eat count holds >>= (λ b. if b then g q else other q)) found
      by input after found true is e =
          let two = there.of (skipped count input) after found e in
          record {
            place = two.place;
            tokens = tokens two.place ++ two.tokens;
            is = two.is;
            again = λ q ok tail last f.
                let stands = skipped-over count (tokens two.place) (two.tokens ++ tail) last (sizes two.place) in
                let more = two.again q ok tail stands.0 f in
                record { value = more.value; new = more.new; is = rw (append_assoc (tokens two.place) two.tokens tail, peek two.place (two.tokens ++ tail), stands.1) more.is; same = more.same };
            first = λ tail f. rw (append_assoc (tokens two.place) two.tokens tail) (starts input (two.tokens ++ tail) two.place is (two.first tail f));
          }
      by input after found false is e =
          let two = none.of input after found e in
          record {
            place = two.place;
            tokens = two.tokens;
            is = two.is;
            again = λ q ok tail last f.
                let more = two.again q ok tail last f in
                record { value = more.value; new = more.new; is = rw ((stays input.rest (two.tokens ++ tail) is (two.first tail f)).0) more.is; same = more.same };
            first = λ tail f. (stays input.rest (two.tokens ++ tail) is (two.first tail f)).1;
          }

-- the same where only whether they were there matters
module _ {A B P Q : Type 0} {Ok : Q → Type 0} {bare : A → B} {print : A → Trees} {wrap : P → Trees → Trees} {Second : Bool → Relation} {G F : Relation} {f : Bool → Parser A} {g : Q → Bool → Parser A} where
  pub eat-rest : (count : ℕ) (holds : Trees → Bool) (tokens : P → Trees) → ((place : P) → length (tokens place) ≡ count) → ((place : P) (tail : Trees) → holds (tokens place ++ tail) ≡ true)
      → ((b : Bool) → Rest Ok bare print (λ place more. wrap place ((if b then tokens place else []) ++ more)) (Second b) F (f b) (λ q. g q b))
      → ((input : Input) (tail : Trees) (place : P) → holds input.rest ≡ true → Second true (skipped count input).rest tail → G input.rest (tokens place ++ tail))
      → ((rest tail : Trees) → holds rest ≡ false → Second false rest tail → (holds tail ≡ false) × G rest tail)
      → Rest Ok bare print wrap G F (eat count holds >>= f) (λ q. eat count holds >>= g q)
  unfolding after_eat
  eat-rest count holds tokens sizes peek h starts stays = record { of = λ input after found e. by input after found (holds input.rest) refl e }
    where
      by : (input after : Input) (found : A) (b : Bool) → holds input.rest ≡ b → f b (after_eat count b input) ≡ Some (found, after) → Gives Ok bare print wrap (G input.rest) (F after.rest) (λ q. eat count holds >>= g q) found
      by input after found true is e =
          let two = (h true).of (skipped count input) after found e in
          record {
            place = two.place;
            tokens = tokens two.place ++ two.tokens;
            is = two.is;
            again = λ q ok tail last f.
                let stands = skipped-over count (tokens two.place) (two.tokens ++ tail) last (sizes two.place) in
                let more = two.again q ok tail stands.0 f in
                record { value = more.value; new = more.new; is = rw (append_assoc (tokens two.place) two.tokens tail, peek two.place (two.tokens ++ tail), stands.1) more.is; same = more.same };
            first = λ tail f. rw (append_assoc (tokens two.place) two.tokens tail) (starts input (two.tokens ++ tail) two.place is (two.first tail f));
          }
      by input after found false is e =
          let two = (h false).of input after found e in
          record {
            place = two.place;
            tokens = two.tokens;
            is = two.is;
            again = λ q ok tail last f.
                let more = two.again q ok tail last f in
                record { value = more.value; new = more.new; is = rw ((stays input.rest (two.tokens ++ tail) is (two.first tail f)).0) more.is; same = more.same };
            first = λ tail f. (stays input.rest (two.tokens ++ tail) is (two.first tail f)).1;
          }

-- ---- one token, which is printed as it is

module _ {A B D P Q : Type 0} {Ok : Q → Type 0} {bare : B → D} {print : B → Trees} {wrap : P → Trees → Trees} {Second G F : Relation} {f : A → Parser B} {g : Q → A → Parser B} where
  pub take_as-rest : (of : Trees → Option A) (token : A → TokenTree) → ((rest tail : Trees) (x : A) → of rest ≡ Some x → of (token x ∷ tail) ≡ Some x)
      → ((x : A) → Rest Ok bare print (λ place more. wrap place (token x ∷ more)) Second F (f x) (λ q. g q x))
      → ((input : Input) (tail : Trees) (x : A) → of input.rest ≡ Some x → Second (next input).rest tail → G input.rest (token x ∷ tail)) → Rest Ok bare print wrap G F (take_as of >>= f) (λ q. take_as of >>= g q)
  unfolding next
  take_as-rest of token peek h starts = record { of = λ input after found e. by input after found (of input.rest) refl e }
    where
      by : (input after : Input) (found : B) (o : Option A) → of input.rest ≡ o → and_then (taken o (next input)) f ≡ Some (found, after) → Gives Ok bare print wrap (G input.rest) (F after.rest) (λ q. take_as of >>= g q) found
      by input after found None is e = absurd cc
      by input after found (Some x) is e =
          let two = (h x).of (next input) after found e in
          record {
            place = two.place;
            tokens = token x ∷ two.tokens;
            is = two.is;
            again = λ q ok tail last f.
                let more = two.again q ok tail (span_of (token x)) f in
                record { value = more.value; new = more.new; is = rw (peek input.rest (two.tokens ++ tail) x is) more.is; same = more.same };
            first = λ tail f. starts input (two.tokens ++ tail) x is (two.first tail f);
          }

module _ {A B D P Q : Type 0} {Ok : Q → Type 0} {bare : B → D} {print : B → Trees} {wrap : P → Trees → Trees} {Second : Option A → Relation} {G F : Relation} {f : Option A → Parser B} {g : Q → Option A → Parser B} where
  -- a token that may be there
  pub eat_as-rest : (of : Trees → Option A) (print₁ : Option A → Trees) (token : A → TokenTree) → print₁ None ≡ [] → ((x : A) → print₁ (Some x) ≡ token x ∷ [])
      → ((rest tail : Trees) (x : A) → of rest ≡ Some x → of (token x ∷ tail) ≡ Some x)
      → ((o : Option A) → Rest Ok bare print (λ place more. wrap place (print₁ o ++ more)) (Second o) F (f o) (λ q. g q o))
      → ((input : Input) (tail : Trees) (x : A) → of input.rest ≡ Some x → Second (Some x) (next input).rest tail → G input.rest (token x ∷ tail))
      → ((rest tail : Trees) → of rest ≡ None → Second None rest tail → (of tail ≡ None) × G rest tail) → Rest Ok bare print wrap G F (eat_as of >>= f) (λ q. eat_as of >>= g q)
  unfolding next
  eat_as-rest of print₁ token empty one peek h starts stays = record { of = λ input after found e. by input after found (of input.rest) refl e }
    where
      by : (input after : Input) (found : B) (o : Option A) → of input.rest ≡ o → f o (after_found o input) ≡ Some (found, after) → Gives Ok bare print wrap (G input.rest) (F after.rest) (λ q. eat_as of >>= g q) found
      by input after found None is e =
          let two = (h None).of input after found e in
          record {
            place = two.place;
            tokens = two.tokens;
            is = two.is ∙ rw empty refl;
            again = λ q ok tail last f.
                let more = two.again q ok tail last f in
                record { value = more.value; new = more.new; is = rw ((stays input.rest (two.tokens ++ tail) is (two.first tail f)).0) more.is; same = more.same };
            first = λ tail f. (stays input.rest (two.tokens ++ tail) is (two.first tail f)).1;
          }
      by input after found (Some x) is e =
          let two = (h (Some x)).of (next input) after found e in
          record {
            place = two.place;
            tokens = token x ∷ two.tokens;
            is = two.is ∙ rw (one x) refl;
            again = λ q ok tail last f.
                let more = two.again q ok tail (span_of (token x)) f in
                record { value = more.value; new = more.new; is = rw (peek input.rest (two.tokens ++ tail) x is) more.is; same = more.same };
            first = λ tail f. starts input (two.tokens ++ tail) x is (two.first tail f);
          }

-- the same as a part
pub take_as-printed : {A : Type 0} {G F : Relation} (of : Trees → Option A) (token : A → TokenTree) → ((rest tail : Trees) (x : A) → of rest ≡ Some x → of (token x ∷ tail) ≡ Some x)
    → ((input : Input) (tail : Trees) (x : A) → of input.rest ≡ Some x → F (next input).rest tail → G input.rest (token x ∷ tail)) → Printed (λ (it : A). it) (λ x. token x ∷ []) G F (take_as of) (take_as of)
unfolding next
take_as-printed {A} {G} {F} of token peek starts = record { of = λ input after found e. by input after found (of input.rest) refl e }
  where
    by : (input after : Input) (found : A) (o : Option A) → of input.rest ≡ o → taken o (next input) ≡ Some (found, after) → Reads (λ (it : A). it) (G input.rest) (F after.rest) (take_as of) (token found ∷ []) found
    by input after found None is e = absurd cc
    by input after found (Some x) is e =
        let both = some_pair_parts x found (next input) after e in
        rw (← both.0) (record {
          again = λ tail last f. record { value = x; new = span_of (token x); is = rw (peek input.rest tail x is) refl; same = refl };
          first = λ tail f. starts input tail x is (rw both.1 f);
        })

-- ---- groups

same-itself : (between : Delimiter) → same_delimiter between between ≡ true
same-itself delimiter.Parenthesis = refl
same-itself delimiter.Bracket = refl
same-itself delimiter.Brace = refl
same-itself delimiter.None = refl

pub group-length : (between : Delimiter) (inner : Trees) (span : Span) → length (group between inner span) ≡ 1
unfolding group
group-length between inner span = refl

pub is_group-group : (between : Delimiter) (inner tail : Trees) (span : Span) → is_group between (group between inner span ++ tail) ≡ true
unfolding is_group group
is_group-group between inner tail span = search (rules, the_lemmas, same-itself)

pub contents_of-group : (between : Delimiter) (inner tail : Trees) (span : Span) → contents_of (group between inner span ++ tail) ≡ inner
unfolding contents_of group
contents_of-group between inner tail span = search (rules, the_lemmas)

next-group : (between : Delimiter) (inner tail : Trees) (span last : Span) → next (at (group between inner span ++ tail) last) ≡ at tail span
unfolding next group span_of
next-group between inner tail span last = search (rules, the_lemmas)

-- no token comes
abbrev pub AtEnd : Relation
AtEnd rest tail = tail ≡ []

finished-parts : {A : Type 0} (outcome : Outcome A) (one after : Input) (found : A) → finished one outcome ≡ Some (found, after) → (end : Input) × (outcome ≡ Some (found, end)) × (one ≡ after)
finished-parts None one after found e = absurd cc
finished-parts {A} (Some pair) one after found e = by (is_end pair.1.rest) e
  where
    by : (b : Bool) → ◌≡◌ {A = Outcome A} (if b then Some (pair.0, one) else None) (Some (found, after)) → (end : Input) × (Some pair ≡ Some (found, end)) × (one ≡ after)
    by true e = let both = some_pair_parts pair.0 found one after e in (pair.1, ap (λ value. Some (value, pair.1)) both.0, both.1)
    by false e = absurd cc

module _ {A B P Q : Type 0} {Ok : Q → Type 0} {bare : A → B} {print : A → Trees} {wrap : P → Trees → Trees} {Inner G F : Relation} {p : Parser A} {p' : Q → Parser A} where
  -- a group, all of whose tokens are read
  pub inside-rest : (between : Delimiter) (spot : P → Span) → Rest Ok bare print (λ place more. wrap place (group between more (spot place))) Inner AtEnd p p'
      → ((rest inner tail : Trees) (span : Span) → is_group between rest ≡ true → Inner (contents_of rest) (inner ++ []) → G rest (group between inner span ++ tail)) → Rest Ok bare print wrap G F (inside between p) (λ q. inside between (p' q))
  inside-rest between spot h starts = record { of = λ input after found e. by input after found (is_group between input.rest) refl e }
    where
      by : (input after : Input) (found : A) (b : Bool) → is_group between input.rest ≡ b → ◌≡◌ {A = Outcome A} (if b then finished (next input) (p (start_of (contents_of input.rest))) else None) (Some (found, after))
          → Gives Ok bare print wrap (G input.rest) (F after.rest) (λ q. inside between (p' q)) found
      by input after found false is e = absurd cc
      by input after found true is e =
          let parts = finished-parts (p (start_of (contents_of input.rest))) (next input) after found e in
          let two = h.of (start_of (contents_of input.rest)) parts.0 found parts.1 in
          record {
            place = two.place;
            tokens = group between two.tokens (spot two.place);
            is = two.is;
            again = λ q ok tail last f.
                let more = two.again q ok [] CallSite refl in
                let reads = rw append-nil at more.is in
                record { value = more.value; new = spot two.place; is = rw (is_group-group between two.tokens tail (spot two.place), contents_of-group between two.tokens tail (spot two.place), next-group between two.tokens tail (spot two.place) last, reads) refl; same = more.same };
            first = λ tail f. starts input.rest two.tokens tail (spot two.place) is (two.first [] refl);
          }
