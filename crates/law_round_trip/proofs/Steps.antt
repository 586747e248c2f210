-- The law of printing for the steps that every rule is made of.
use Rattle.std.proofs.Common.{◌≡◌, Bool, true, false, if◌then◌else◌, [], ◌++◌, Some, None, refl, ap, sym, subst, ◌∙◌, append_assoc}
use Rattle.std.proofs.lemmas.Option.{some_pair_parts}
use Rattle.tok_types.specs.Span.{joined}
use Rattle.tok_types.specs.declared.span.Span.{Span}
use Rattle.syn_grammar.specs.Input.{Input, Outcome, Parser, and_then, ◌>>=◌, pure, refuse, test, here, first_span, upto}
use Rattle.print_core.specs.Marks.{Trees}
use Rattle.law_prefix.specs.SameLookahead.{Relation}
use Rattle.law_prefix.specs.ReadsByPrefix.{at}
use Rattle.law_round_trip.specs.Printed.{Again, Reads, Printed}

pub bind-at : {A B : Type 0} (outcome : Outcome A) (next : A → Parser B) (found : B) (after : Input) → and_then outcome next ≡ Some (found, after)
    → (value : A) × (between : Input) × (outcome ≡ Some (value, between)) × (next value between ≡ Some (found, after))
bind-at None next found after e = absurd cc
bind-at (Some one) next found after e = (one.0, one.1, refl, e)

-- ---- what is left of a rule

-- The printing is what was printed so far, with the tokens in its hole, for some place. Each of the parsers that are told reads the tokens.
pub record Gives {A B P Q : Type 0} (Ok : Q → Type 0) (bare : A → B) (print : A → Trees) (wrap : P → Trees → Trees) (Begins After : Trees → Type 0) (others : Q → Parser A) (found : A) : Type 0 where
  pub place : P
  pub tokens : Trees
  pub is : print found ≡ wrap place tokens
  pub again : (q : Q) → Ok q → (tail : Trees) (last : Span) → After tail → Again bare (others q) (at (tokens ++ tail) last) tail found
  pub first : (tail : Trees) → After tail → Begins (tokens ++ tail)

-- Whatever the parser reads, the others read from the tokens in the hole.
pub record Rest {A B P Q : Type 0} (Ok : Q → Type 0) (bare : A → B) (print : A → Trees) (wrap : P → Trees → Trees) (Begins After : Relation) (parser : Parser A) (others : Q → Parser A) : Type 0 where
  pub of : (input after : Input) (found : A) → parser input ≡ Some (found, after) → Gives Ok bare print wrap (Begins input.rest) (After after.rest) others found

-- nothing was printed so far
abbrev pub hole : {P : Type 0} → P → Trees → Trees
hole place tokens = tokens

-- nothing is asked of the others
abbrev pub Free : {Q : Type 0} → Q → Type 0
Free q = Unit {0}

pub whole : {A B P : Type 0} {bare : A → B} {print : A → Trees} {G F : Relation} {p p' : Parser A} → Rest {P = P} {Q = Unit {0}} Free bare print hole G F p (λ q. p') → Printed bare print G F p p'
whole {A} {B} {P} {bare} {print} {G} {F} {p} {p'} h = record {
  of = λ input after found e.
      let one = h.of input after found e in
      subst (λ tokens. Reads bare (G input.rest) (F after.rest) p' tokens found) (sym one.is) (record { again = λ tail last f. one.again tt tt tail last f; first = one.first });
}

-- a part, whatever was bound before it
pub part : {A B Q : Type 0} {Ok : Q → Type 0} {bare : A → B} {print : A → Trees} {G F : Relation} {p p' : Parser A} → Printed bare print G F p p' → Rest {P = Unit {0}} Ok bare print hole G F p (λ q. p')
part {print = print} h = record {
  of = λ input after found e.
      let one = h.of input after found e in
      record { place = tt; tokens = print found; is = refl; again = λ q ok tail last f. one.again tail last f; first = one.first };
}

-- the last part
pub shown-rest : {A B P Q : Type 0} {Ok : Q → Type 0} {bare : A → B} {print₁ print : A → Trees} {wrap : P → Trees → Trees} {G F : Relation} {p p' : Parser A} (place : P) → ((x : A) → print x ≡ wrap place (print₁ x)) → Printed bare print₁ G F p p'
    → Rest Ok bare print wrap G F p (λ q. p')
shown-rest {print₁ = print₁} place same h = record {
  of = λ input after found e.
      let one = h.of input after found e in
      record { place = place; tokens = print₁ found; is = same found; again = λ q ok tail last f. one.again tail last f; first = one.first };
}

-- more is asked of what follows, and less is said of where it starts
pub weak-printed : {A B : Type 0} {bare : A → B} {print : A → Trees} {G Less F More : Relation} {p p' : Parser A}
    → ((rest tail : Trees) → More rest tail → F rest tail) → ((rest tail : Trees) → G rest tail → Less rest tail) → Printed bare print G F p p' → Printed bare print Less More p p'
weak-printed more less h = record {
  of = λ input after found e.
      let one = h.of input after found e in
      record { again = λ tail last f. one.again tail last (more after.rest tail f); first = λ tail f. less _ _ (one.first tail (more after.rest tail f)) };
}

module _ {A B P Q : Type 0} {Ok : Q → Type 0} {bare : A → B} {print : A → Trees} {wrap : P → Trees → Trees} where
  pub weak-rest : {G Less F More : Relation} {p : Parser A} {p' : Q → Parser A} → ((rest tail : Trees) → More rest tail → F rest tail) → ((rest tail : Trees) → G rest tail → Less rest tail)
      → Rest Ok bare print wrap G F p p' → Rest Ok bare print wrap Less More p p'
  weak-rest more less h = record {
    of = λ input after found e.
        let one = h.of input after found e in
        record {
          place = one.place;
          tokens = one.tokens;
          is = one.is;
          again = λ q ok tail last f. one.again q ok tail last (more after.rest tail f);
          first = λ tail f. less _ _ (one.first tail (more after.rest tail f));
        };
  }

  -- the same printing in another form
  pub wrap-rest : {wrap' : P → Trees → Trees} {G F : Relation} {p : Parser A} {p' : Q → Parser A} → ((place : P) (tokens : Trees) → wrap' place tokens ≡ wrap place tokens)
      → Rest Ok bare print wrap' G F p p' → Rest Ok bare print wrap G F p p'
  wrap-rest same h = record {
    of = λ input after found e.
        let one = h.of input after found e in
        record { place = one.place; tokens = one.tokens; is = one.is ∙ same one.place one.tokens; again = one.again; first = one.first };
  }

  -- other parsers that come to the same where the tokens begin so
  pub instead-rest : {G F : Relation} {p : Parser A} {p' other : Q → Parser A} → ((q : Q) (rest tail : Trees) (last : Span) → G rest tail → other q (at tail last) ≡ p' q (at tail last)) → Rest Ok bare print wrap G F p p'
      → Rest Ok bare print wrap G F p other
  instead-rest same h = record {
    of = λ input after found e.
        let one = h.of input after found e in
        record {
          place = one.place;
          tokens = one.tokens;
          is = one.is;
          again = λ q ok tail last f.
              let more = one.again q ok tail last f in
              record { value = more.value; new = more.new; is = same q input.rest (one.tokens ++ tail) last (one.first tail f) ∙ more.is; same = more.same };
          first = one.first;
        };
  }

  pub refuse-rest : {G F : Relation} {p' : Q → Parser A} → Rest Ok bare print wrap G F refuse p'
  refuse-rest = record { of = λ input after found e. absurd cc }

  pub if-rest : {G F : Relation} {p one : Parser A} {p' one' : Q → Parser A} (b : Bool) → Rest Ok bare print wrap G F p p' → Rest Ok bare print wrap G F one one'
      → Rest Ok bare print wrap G F (if b then p else one) (λ q. if b then p' q else one' q)
  if-rest true h g = h
  if-rest false h g = g

  -- nothing more
  pub pure-rest : {F : Relation} (place : P) (x : A) (x' : Q → A) → print x ≡ wrap place [] → ((q : Q) → Ok q → bare (x' q) ≡ bare x) → Rest Ok bare print wrap F F (pure x) (λ q. pure (x' q))
  pure-rest {F} place x x' is same = record {
    of = λ input after found e.
        let both = some_pair_parts x found input after e in
        subst (λ found. Gives Ok bare print wrap (F input.rest) (F after.rest) (λ q. pure (x' q)) found) both.0 (record {
          place = place;
          tokens = [];
          is = is;
          again = λ q ok tail last f. record { value = x' q; new = last; is = refl; same = same q ok };
          first = λ tail f. rw both.1 f;
        });
  }

  -- nothing is done with what was made
  pub returned-rest : {G F : Relation} {p : Parser A} {p' : Q → Parser A} → Rest Ok bare print wrap G F p p' → Rest Ok bare print wrap G F (p >>= pure) (λ q. p' q >>= pure)
  returned-rest {p = p} h = record {
    of = λ input after found e.
        let parts = bind-at (p input) pure found after e in
        let one = h.of input after found (parts.2 ∙ parts.3) in
        record {
          place = one.place;
          tokens = one.tokens;
          is = one.is;
          again = λ q ok tail last f. let more = one.again q ok tail last f in record { value = more.value; new = more.new; is = rw (more.is) refl; same = more.same };
          first = one.first;
        };
  }

  -- ---- places

  pub here-rest : {G F : Relation} {f : Span → Parser A} {g : Q × Span → Parser A} → ((span : Span) → Rest {Q = Q × Span} (λ q. Ok q.0) bare print wrap G F (f span) g)
      → Rest Ok bare print wrap G F (here >>= f) (λ q. here >>= (λ span. g (q, span)))
  here-rest h = record {
    of = λ input after found e.
        let one = (h (first_span input.rest)).of input after found e in
        record {
          place = one.place;
          tokens = one.tokens;
          is = one.is;
          again = λ q ok tail last f. let more = one.again (q, first_span (one.tokens ++ tail)) ok tail last f in record { value = more.value; new = more.new; is = more.is; same = more.same };
          first = one.first;
        };
  }

  pub upto-rest : {G F : Relation} {f : Span → Parser A} {g : Q × Span → Parser A} (start : Span) (start' : Q → Span) → ((span : Span) → Rest {Q = Q × Span} (λ q. Ok q.0) bare print wrap G F (f span) g)
      → Rest Ok bare print wrap G F (upto start >>= f) (λ q. upto (start' q) >>= (λ span. g (q, span)))
  upto-rest start start' h = record {
    of = λ input after found e.
        let one = (h (joined start input.last)).of input after found e in
        record {
          place = one.place;
          tokens = one.tokens;
          is = one.is;
          again = λ q ok tail last f. let more = one.again (q, joined (start' q) last) ok tail last f in record { value = more.value; new = more.new; is = more.is; same = more.same };
          first = one.first;
        };
  }

  -- ---- what was seen

  -- what can be seen at all has a law
  pub sure_test-rest : {V : Type 0} {Valid : V → Type 0} {by : V → Relation} {G F : Relation} {f : V → Parser A} {g : Q → V → Parser A} (look : Trees → V) → ((trees : Trees) → Valid (look trees))
      → ((value : V) → Valid value → Rest Ok bare print wrap (by value) F (f value) (λ q. g q value)) → ((value : V) (rest tail : Trees) → look rest ≡ value → by value rest tail → (look tail ≡ value) × G rest tail)
      → Rest Ok bare print wrap G F (test look >>= f) (λ q. test look >>= g q)
  sure_test-rest {g = g} look valid h peek = record {
    of = λ input after found e.
        let one = (h (look input.rest) (valid input.rest)).of input after found e in
        record {
          place = one.place;
          tokens = one.tokens;
          is = one.is;
          again = λ q ok tail last f.
              let more = one.again q ok tail last f in
              let seen = (peek (look input.rest) input.rest (one.tokens ++ tail) refl (one.first tail f)).0 in
              record { value = more.value; new = more.new; is = ap (λ value. g q value (at (one.tokens ++ tail) last)) seen ∙ more.is; same = more.same };
          first = λ tail f. (peek (look input.rest) input.rest (one.tokens ++ tail) refl (one.first tail f)).1;
        };
  }

  pub test-rest : {V : Type 0} {by : V → Relation} {G F : Relation} {f : V → Parser A} {g : Q → V → Parser A} (look : Trees → V) → ((value : V) → Rest Ok bare print wrap (by value) F (f value) (λ q. g q value))
      → ((value : V) (rest tail : Trees) → look rest ≡ value → by value rest tail → (look tail ≡ value) × G rest tail) → Rest Ok bare print wrap G F (test look >>= f) (λ q. test look >>= g q)
  test-rest look h peek = sure_test-rest {Valid = λ value. Unit {0}} look (λ trees. tt) (λ value valid. h value) peek

-- whatever the place was, of which the printing so far does not speak
pub placed-rest : {A B P Q : Type 0} {Ok : Q → Type 0} {bare : A → B} {print : A → Trees} {wrap : Trees → Trees} {G F : Relation} {p : Parser A} {p' : Q → Parser A} → Rest {P = P} Ok bare print (λ place tokens. wrap tokens) G F p p'
    → Rest {P = Unit {0}} Ok bare print (λ place tokens. wrap tokens) G F p p'
placed-rest h = record {
  of = λ input after found e.
      let one = h.of input after found e in
      record { place = tt; tokens = one.tokens; is = one.is; again = one.again; first = one.first };
}

-- what a rule ends with
pub close-rest : {A B Q : Type 0} {Ok : Q → Type 0} {bare : A → B} {print : A → Trees} {wrap : Span → Trees → Trees} {F : Relation} (start : Span) (start' : Q → Span) (make : Span → A) (make' : Q → Span → A)
    → ((span : Span) → print (make span) ≡ wrap span []) → ((span other : Span) (q : Q) → Ok q → bare (make' q other) ≡ bare (make span))
    → Rest Ok bare print wrap F F (upto start >>= (λ span. pure (make span))) (λ q. upto (start' q) >>= (λ span. pure (make' q span)))
close-rest start start' make make' is same = upto-rest start start' (λ span. pure-rest span (make span) (λ q. make' q.0 q.1) (is span) (λ q ok. same span q.1 q.0 ok))

-- ---- one step behind another

module _ {A B C D P Q : Type 0} {Ok : Q → Type 0} {bare₁ : A → C} {bare : B → D} {print₁ : P → A → Trees} {print : B → Trees} {wrap : P → Trees → Trees} {Start Middle Second G F : Relation} where
  -- a part that looks at what was bound, and what comes after it
  pub part-rest : {p : Parser A} {p' : Q → Parser A} {f : A → Parser B} {g : Q × A → Parser B} → ((place : P) → Rest {P = Unit {0}} Ok bare₁ (print₁ place) hole Start Middle p p')
      → ((y : A) → Rest {Q = Q × A} (λ q. Ok q.0 × (bare₁ q.1 ≡ bare₁ y)) bare print (λ place tokens. wrap place (print₁ place y ++ tokens)) Second F (f y) g)
      → ((rest tail : Trees) → Second rest tail → Middle rest tail) → ((rest tail : Trees) → Start rest tail → G rest tail) → Rest Ok bare print wrap G F (p >>= f) (λ q. p' q >>= (λ y. g (q, y)))
  part-rest {p} {p'} {f} {g} h next follows starts = record {
    of = λ input after found e.
        let parts = bind-at (p input) f found after e in
        let two = (next parts.0).of parts.1 after found parts.3 in
        let one = (h two.place).of input parts.1 parts.0 parts.2 in
        let behind = λ (tail : Trees) (f : F after.rest tail). follows parts.1.rest (two.tokens ++ tail) (two.first tail f) in
        record {
          place = two.place;
          tokens = one.tokens ++ two.tokens;
          is = two.is ∙ ap (λ tokens. wrap two.place (tokens ++ two.tokens)) one.is;
          again = λ q ok tail last f.
              let mine = one.again q ok (two.tokens ++ tail) last (behind tail f) in
              let more = two.again (q, mine.value) (ok, mine.same) tail mine.new f in
              record { value = more.value; new = more.new; is = rw (append_assoc one.tokens two.tokens tail, mine.is) more.is; same = more.same };
          first = λ tail f. rw (append_assoc one.tokens two.tokens tail) (starts input.rest _ (one.first (two.tokens ++ tail) (behind tail f)));
        };
  }

  -- a part of which more is known, and what comes after it
  pub sure-rest : {V : A → Type 0} {p p' : Parser A} {f : A → Parser B} {g : Q × A → Parser B} → ((place : P) → Printed bare₁ (print₁ place) Start Middle p p') → ((input after : Input) (y : A) → p input ≡ Some (y, after) → V y)
      → ((y : A) → V y → Rest {Q = Q × A} (λ q. Ok q.0 × (bare₁ q.1 ≡ bare₁ y)) bare print (λ place tokens. wrap place (print₁ place y ++ tokens)) Second F (f y) g)
      → ((rest tail : Trees) → Second rest tail → Middle rest tail) → ((rest tail : Trees) → Start rest tail → G rest tail) → Rest Ok bare print wrap G F (p >>= f) (λ q. p' >>= (λ y. g (q, y)))
  sure-rest {V} {p} {p'} {f} {g} h valid next follows starts = record {
    of = λ input after found e.
        let parts = bind-at (p input) f found after e in
        let two = (next parts.0 (valid input parts.1 parts.0 parts.2)).of parts.1 after found parts.3 in
        let one = (h two.place).of input parts.1 parts.0 parts.2 in
        let behind = λ (tail : Trees) (f : F after.rest tail). follows parts.1.rest (two.tokens ++ tail) (two.first tail f) in
        record {
          place = two.place;
          tokens = print₁ two.place parts.0 ++ two.tokens;
          is = two.is;
          again = λ q ok tail last f.
              let mine = one.again (two.tokens ++ tail) last (behind tail f) in
              let more = two.again (q, mine.value) (ok, mine.same) tail mine.new f in
              record { value = more.value; new = more.new; is = rw (append_assoc (print₁ two.place parts.0) two.tokens tail, mine.is) more.is; same = more.same };
          first = λ tail f. rw (append_assoc (print₁ two.place parts.0) two.tokens tail) (starts input.rest _ (one.first (two.tokens ++ tail) (behind tail f)));
        };
  }

  -- a part, and what comes after it
  pub then-rest : {p p' : Parser A} {f : A → Parser B} {g : Q × A → Parser B} → ((place : P) → Printed bare₁ (print₁ place) Start Middle p p')
      → ((y : A) → Rest {Q = Q × A} (λ q. Ok q.0 × (bare₁ q.1 ≡ bare₁ y)) bare print (λ place tokens. wrap place (print₁ place y ++ tokens)) Second F (f y) g)
      → ((rest tail : Trees) → Second rest tail → Middle rest tail) → ((rest tail : Trees) → Start rest tail → G rest tail) → Rest Ok bare print wrap G F (p >>= f) (λ q. p' >>= (λ y. g (q, y)))
  then-rest h next follows starts = part-rest (λ place. part (h place)) next follows starts

-- a part that is read exactly
module _ {A B D P Q : Type 0} {Ok : Q → Type 0} {bare : B → D} {print₁ : P → A → Trees} {print : B → Trees} {wrap : P → Trees → Trees} {Start Middle Second G F : Relation} where
  pub exact-rest : {p p' : Parser A} {f : A → Parser B} {g : Q → A → Parser B} → ((place : P) → Printed (λ (it : A). it) (print₁ place) Start Middle p p')
      → ((y : A) → Rest Ok bare print (λ place tokens. wrap place (print₁ place y ++ tokens)) Second F (f y) (λ q. g q y))
      → ((rest tail : Trees) → Second rest tail → Middle rest tail) → ((rest tail : Trees) → Start rest tail → G rest tail) → Rest Ok bare print wrap G F (p >>= f) (λ q. p' >>= g q)
  exact-rest {f = f} {g = g} h next follows starts = then-rest {g = λ q. g q.0 q.1} h (λ y. same y (next y)) follows starts
    where
      same : (y : A) → Rest Ok bare print (λ place tokens. wrap place (print₁ place y ++ tokens)) Second F (f y) (λ q. g q y)
          → Rest {Q = Q × A} (λ q. Ok q.0 × (q.1 ≡ y)) bare print (λ place tokens. wrap place (print₁ place y ++ tokens)) Second F (f y) (λ q. g q.0 q.1)
      same y h = record {
        of = λ input after found e.
            let one = h.of input after found e in
            record {
              place = one.place;
              tokens = one.tokens;
              is = one.is;
              again = λ q ok tail last f. let more = one.again q.0 ok.0 tail last f in record { value = more.value; new = more.new; is = rw (ok.1) more.is; same = more.same };
              first = one.first;
            };
      }
