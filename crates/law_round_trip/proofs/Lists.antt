-- The law of printing for lists, over any item.
use Rattle.std.proofs.Common.{All, ◌≡◌, ◌⊎◌, inl, inr, ℕ, zero, suc, ◌≤◌, Bool, true, false, if◌then◌else◌, List, [], ◌∷◌, ◌++◌, length, map, Some, None, refl, arith, ap, sym, subst, ◌∙◌, ◌==◌, append_assoc, append-nil, length-append}
use Rattle.std.proofs.lemmas.List.{append_cancel_left, map-append}
use Rattle.std.proofs.lemmas.List.Elements.{All-cons, All-head, All-nil, All-tail}
use Rattle.std.proofs.lemmas.Bool.{eq-eqb}
use Rattle.std.proofs.lemmas.Option.{some_pair_parts}
use Rattle.tok_types.specs.declared.span.Span.{Span}
use Rattle.syn_grammar.specs.Input.{Input, Outcome, Parser, and_then, ◌>>=◌, ◌>>◌, pure, skipped, after_eat, eat, expect, is_end, items_from, items_after, until_from, until}
use Rattle.syn_grammar.specs.Token.{is_comma, is_mark}
use Rattle.print_core.specs.Marks.{Trees, comma, joined, after, ended, mark}
use Rattle.law_prefix.specs.SameLookahead.{Relation, Any}
use Rattle.law_prefix.specs.ReadsByPrefix.{at}
use Rattle.law_round_trip.specs.Printed.{Again, Reads, Printed}
use Rattle.law_round_trip.proofs.Marks.{is_comma-comma, mark_of-mark}
use Rattle.law_round_trip.proofs.Steps.{bind-at}
use Rattle.law_round_trip.proofs.Takes.{AtEnd, skipped-over}

-- ---- the printing of one item more

module _ {A : Type 0} (separator : Trees) (print : A → Trees) where
  after-behind : (found : List A) (x : A) (more : List A) → after separator (map print (found ++ x ∷ more)) ≡ separator ++ (ended separator (map print found) ++ joined separator (map print (x ∷ more)))
  after-behind [] x more = append_assoc separator (print x) (after separator (map print more))
  after-behind (y ∷ ys) x more = rw (after-behind ys x more, append_assoc, append_assoc, append_assoc) refl

  -- a list is printed as what was found, with the separator behind each, and the others
  joined-behind : (found : List A) (x : A) (more : List A) → joined separator (map print (found ++ x ∷ more)) ≡ ended separator (map print found) ++ joined separator (map print (x ∷ more))
  joined-behind [] x more = refl
  joined-behind (y ∷ ys) x more = rw (after-behind ys x more, append_assoc, append_assoc) refl

  pub joined-push : (found : List A) (x : A) → joined separator (map print (found ++ x ∷ [])) ≡ ended separator (map print found) ++ print x
  joined-push found x = joined-behind found x [] ∙ ap (λ tokens. ended separator (map print found) ++ tokens) (append-nil (print x))

  pub ended-push : (found : List A) (x : A) → ended separator (map print (found ++ x ∷ [])) ≡ ended separator (map print found) ++ (print x ++ separator)
  ended-push [] x = rw append-nil refl
  ended-push (y ∷ ys) x = rw (ended-push ys x, append_assoc, append_assoc, append_assoc) refl

-- the same items but for places, and one more
pub same-push : {A C : Type 0} (bare : A → C) (one two : List A) (x y : A) → map bare one ≡ map bare two → bare x ≡ bare y → map bare (one ++ x ∷ []) ≡ map bare (two ++ y ∷ [])
same-push bare one two x y h g = rw (map-append bare one (x ∷ []), map-append bare two (y ∷ []), h, g) refl

pub some-length : (trees : Trees) → is_end (trees ++ []) ≡ false → 1 ≤ length trees
some-length [] h = absurd cc
some-length (tree ∷ trees) h = omega arith

some-left : (trees more : Trees) → is_end (trees ++ []) ≡ false → is_end (trees ++ more) ≡ false
some-left [] more h = absurd cc
some-left (tree ∷ trees) more h = refl

pub comma-length : (span : Span) → length (comma span) ≡ 1
unfolding mark
comma-length span = refl

-- More of a list: its printing goes on behind the items that were found, and a loop with enough turns reads it.
pub record More {A C : Type 0} (bare : A → C) (before : Trees) (loop : ℕ → List A → Parser (List A)) (After : Trees → Type 0) (whole : Trees) (found items : List A) : Type 0 where
  pub tokens : Trees
  pub is : whole ≡ before ++ tokens
  pub longer : suc (length found) ≤ length items
  pub some : is_end tokens ≡ false
  pub again : (turns : ℕ) (others : List A) → map bare others ≡ map bare found → (tail : Trees) (last : Span) → length tokens ≤ turns → After tail → Again (map bare) (loop turns others) (at (tokens ++ tail) last) tail items

-- ---- to the end of a group

abbrev MoreItems : {A C : Type 0} → (A → C) → (A → Trees) → Parser A → Span → List A → List A → Type 0
MoreItems bare print other span found items = More bare (ended (comma span) (map print found)) (items_from other) (λ tail. tail ≡ []) (joined (comma span) (map print items)) found items

-- Each item may stand before the printing of the items behind it. Of the last one nothing is asked.
module _ {A : Type 0} (print : A → Trees) (span : Span) (Fits : A → Trees → Type 0) where
  abbrev pub AllFit : List A → Type 0
  AllFit [] = Unit {0}
  AllFit (x ∷ []) = Unit {0}
  AllFit (x ∷ next ∷ more) = Fits x (comma span ++ joined (comma span) (map print (next ∷ more))) × AllFit (next ∷ more)

-- some items have a law, before what fits them, as nothing does
module _ {A C : Type 0} (bare : A → C) (print : A → Trees) (item other : Parser A) (Good : A → Type 0) (Fits : A → Trees → Type 0) (G F : Relation)
    (rule : (input after : Input) (x : A) → item input ≡ Some (x, after) → Good x → Fits x [] × Reads bare (G input.rest) (λ tail. F after.rest tail × Fits x tail) other (print x) x)
    (starts : (rest tail : Trees) → G rest tail → is_end tail ≡ false) (ends : (rest : Trees) → F rest []) (before_comma : (rest tail : Trees) (span : Span) → F rest (comma span ++ tail))
    (span : Span) where
  abbrev ReadsItem : Input → Input → A → Type 0
  ReadsItem input after x = Fits x [] × Reads bare (G input.rest) (λ tail. F after.rest tail × Fits x tail) other (print x) x

  some-printed : (input after : Input) (x : A) → ReadsItem input after x → is_end (print x ++ []) ≡ false
  some-printed input after x one = starts input.rest (print x ++ []) (one.1.first [] (ends after.rest, one.0))

  items-last : (found : List A) (input after : Input) (x : A) → ReadsItem input after x → MoreItems bare print other span found (found ++ x ∷ [])
  unfolding items_from after_eat Rattle.syn_grammar.specs.Token.mark_of
  items-last found input after x one = record {
    tokens = print x;
    is = joined-push (comma span) print found x;
    longer = omega (arith, length-append found (x ∷ []));
    some = rw append-nil at (some-printed input after x one);
    again = go;
  }
    where
      go : (turns : ℕ) (others : List A) → map bare others ≡ map bare found → (tail : Trees) (last : Span) → length (print x) ≤ turns → tail ≡ [] → Again (map bare) (items_from other turns others) (at (print x ++ tail) last) tail (found ++ x ∷ [])
      go zero others same tail last fits f = absurd (omega (arith, some-length (print x) (some-printed input after x one)))
      go (suc turns) others same tail last fits f = rw f read
        where
          read : Again (map bare) (items_from other (suc turns) others) (at (print x ++ []) last) [] (found ++ x ∷ [])
          read =
              let more = one.1.again [] last (ends after.rest, one.0) in
              record { value = others ++ more.value ∷ []; new = more.new; is = rw (some-printed input after x one, more.is) refl; same = same-push bare others found more.value x same more.same }

  items-more : (found items : List A) (input after : Input) (x : A) → ReadsItem input after x → (two : MoreItems bare print other span (found ++ x ∷ []) items) → Fits x (comma span ++ two.tokens) → MoreItems bare print other span found items
  unfolding items_from after_eat
  items-more found items input after x one two behind = record {
    tokens = print x ++ (comma span ++ two.tokens);
    is = two.is ∙ rw (ended-push (comma span) print found x, append_assoc, append_assoc) refl;
    longer = omega (arith, length-append found (x ∷ []), two.longer);
    some = some-left (print x) (comma span ++ two.tokens) (some-printed input after x one);
    again = go;
  }
    where
      go : (turns : ℕ) (others : List A) → map bare others ≡ map bare found → (tail : Trees) (last : Span) → length (print x ++ (comma span ++ two.tokens)) ≤ turns → tail ≡ [] → Again (map bare) (items_from other turns others) (at ((print x ++ (comma span ++ two.tokens)) ++ tail) last) tail items
      go zero others same tail last fits f = absurd (omega (arith, some-length (print x) (some-printed input after x one), length-append (print x) (comma span ++ two.tokens)))
      go (suc turns) others same tail last fits f =
          let follows : F after.rest (comma span ++ (two.tokens ++ tail)) × Fits x (comma span ++ (two.tokens ++ tail)) = (before_comma after.rest (two.tokens ++ tail) span, rw (f, append-nil) behind) in
          let more = one.1.again (comma span ++ (two.tokens ++ tail)) last follows in
          let stands = skipped-over 1 (comma span) (two.tokens ++ tail) more.new (comma-length span) in
          let last = two.again turns (others ++ more.value ∷ []) (same-push bare others found more.value x same more.same) tail stands.0 (omega (arith, some-length (print x) (some-printed input after x one), length-append (print x) (comma span ++ two.tokens), length-append (comma span) two.tokens)) f in
          record {
            value = last.value;
            new = last.new;
            is = rw (append_assoc (print x) (comma span ++ two.tokens) tail, append_assoc (comma span) two.tokens tail, starts input.rest (print x ++ (comma span ++ (two.tokens ++ tail))) (one.1.first (comma span ++ (two.tokens ++ tail)) follows), more.is, is_comma-comma (two.tokens ++ tail) span, stands.1) last.is;
            same = last.same;
          }

  -- one item, and those behind it
  items-then : (found items : List A) (input after : Input) (x : A) → ReadsItem input after x → (more : List A) → items ≡ (found ++ x ∷ []) ++ more
      → (AllFit print span Fits more → (items ≡ found ++ x ∷ []) ⊎ MoreItems bare print other span (found ++ x ∷ []) items) → AllFit print span Fits (x ∷ more) → MoreItems bare print other span found items
  items-then found items input after x one [] is prints fit = subst (MoreItems bare print other span found) (sym (is ∙ append-nil (found ++ x ∷ []))) (items-last found input after x one)
  items-then found items input after x one (next ∷ more) is prints fit =
      elim (prints (fit.1)) [ inl same ↦ subst (MoreItems bare print other span found) (sym same) (items-last found input after x one) | inr two ↦ items-more found items input after x one two (behind two) ]
    where
      behind : (two : MoreItems bare print other span (found ++ x ∷ []) items) → Fits x (comma span ++ two.tokens)
      behind two =
          let before : Trees = ended (comma span) (map print (found ++ x ∷ [])) in
          let printed = sym (joined-behind (comma span) print (found ++ x ∷ []) next more) ∙ (ap (λ items. joined (comma span) (map print items)) (sym is) ∙ two.is) in
          let same = append_cancel_left before (joined (comma span) (map print (next ∷ more))) two.tokens printed in
          subst (λ tokens. Fits x (comma span ++ tokens)) same fit.0

  -- the items behind those that were found, which are printed behind them where they have the law and fit
  pub record Behind (found items : List A) : Type 0 where
    pub more : List A
    pub is : items ≡ found ++ more
    pub prints : All Good more → AllFit print span Fits more → (items ≡ found) ⊎ MoreItems bare print other span found items

  no-more : (found items : List A) (input after : Input) → ◌≡◌ {A = Outcome (List A)} (Some (found, input)) (Some (items, after)) → Behind found items
  no-more found items input after e =
      let same = sym (some_pair_parts found items input after e).0 in
      record { more = []; is = same ∙ sym (append-nil found); prints = λ good fit. inl same }

  one-more : (b : Bool) (count : ℕ) (found items : List A) (input between behind after : Input) (x : A) → item input ≡ Some (x, between) → ((next : Input) → items_from item count (found ++ x ∷ []) next ≡ Some (items, after) → Behind (found ++ x ∷ []) items)
      → (if b then items_from item count (found ++ x ∷ []) else pure (found ++ x ∷ [])) behind ≡ Some (items, after) → Behind found items
  one-more true count found items input between behind after x read later e =
      let two = later behind e in
      record {
        more = x ∷ two.more;
        is = two.is ∙ append_assoc found (x ∷ []) two.more;
        prints = λ good fit. inr (items-then found items input between x (rule input between x read (All-head Good x two.more good)) two.more two.is (two.prints (All-tail Good x two.more good)) fit);
      }
  one-more false count found items input between behind after x read later e =
      let same = (some_pair_parts (found ++ x ∷ []) items behind after e).0 in
      record { more = x ∷ []; is = sym same; prints = λ good fit. inr (subst (MoreItems bare print other span found) same (items-last found input between x (rule input between x read (All-head Good x [] good)))) }

  pub items_from-behind : (count : ℕ) (found : List A) (input after : Input) (items : List A) → items_from item count found input ≡ Some (items, after) → Behind found items
  unfolding items_from
  items_from-behind zero found input after items e = by (is_end input.rest) e
    where
      by : (b : Bool) → ◌≡◌ {A = Outcome (List A)} ((if b then pure found else (λ input. None)) input) (Some (items, after)) → Behind found items
      by true e = no-more found items input after e
      by false e = absurd cc
  items_from-behind (suc count) found input after items e = by (is_end input.rest) (λ y next. items_from-behind count (found ++ y ∷ []) next after items) e
    where
      by : (b : Bool) → ((y : A) (next : Input) → items_from item count (found ++ y ∷ []) next ≡ Some (items, after) → Behind (found ++ y ∷ []) items)
          → (if b then pure found else (item >>= (λ y. eat 1 is_comma >>= (λ more. if more then items_from item count (found ++ y ∷ []) else pure (found ++ y ∷ []))))) input ≡ Some (items, after) → Behind found items
      by true later e = no-more found items input after e
      by false later e =
          let parts = bind-at (item input) (λ y. eat 1 is_comma >>= (λ more. if more then items_from item count (found ++ y ∷ []) else pure (found ++ y ∷ []))) items after e in
          one-more (is_comma parts.1.rest) count found items input parts.1 (after_eat 1 (is_comma parts.1.rest) parts.1) after parts.0 parts.2 (later parts.0) parts.3

  -- the list, where all of its items have the law and fit
  pub items-read : (input after : Input) (items : List A) → items_after item [] input ≡ Some (items, after) → All Good items → AllFit print span Fits items → Reads (map bare) (λ tail. Unit {0}) (λ tail. tail ≡ []) (items_after other []) (joined (comma span) (map print items)) items
  unfolding items_from
  items-read input after items e good fit =
      let behind = items_from-behind (length input.rest) [] input after items e in
      made (behind.prints (rw behind.is at good) (rw behind.is at fit))
    where
      made : (items ≡ []) ⊎ MoreItems bare print other span [] items → Reads (map bare) (λ tail. Unit {0}) (λ tail. tail ≡ []) (items_after other []) (joined (comma span) (map print items)) items
      made (inl none) = rw none (record { again = λ tail last f. rw f (record { value = []; new = last; is = refl; same = refl }); first = λ tail f. tt })
      made (inr more) = record {
        again = λ tail last f.
            let last = more.again (length (more.tokens ++ tail)) [] refl tail last (omega (arith, length-append more.tokens tail)) f in
            record { value = last.value; new = last.new; is = rw (more.is) last.is; same = last.same };
        first = λ tail f. tt;
      }

-- every item has a law
module _ {A C : Type 0} (bare : A → C) (print : A → Trees) (item other : Parser A) {G F : Relation} (rule : Printed bare print G F item other)
    (starts : (rest tail : Trees) → G rest tail → is_end tail ≡ false) (ends : (rest : Trees) → F rest []) (before_comma : (rest tail : Trees) (span : Span) → F rest (comma span ++ tail))
    (span : Span) where
  abbrev pub ItemsMore : List A → List A → Type 0
  ItemsMore = MoreItems bare print other span

  abbrev Free : A → Type 0
  Free x = Unit {0}

  abbrev Before : A → Trees → Type 0
  Before x tail = Unit {0}

  all-free : (items : List A) → All Free items
  all-free [] = All-nil Free
  all-free (x ∷ items) = All-cons Free x items tt (all-free items)

  all-before : (items : List A) → AllFit print span Before items
  all-before [] = tt
  all-before (x ∷ []) = tt
  all-before (x ∷ next ∷ more) = (tt, all-before (next ∷ more))

  free-rule : (input after : Input) (x : A) → item input ≡ Some (x, after) → Free x → Before x [] × Reads bare (G input.rest) (λ tail. F after.rest tail × Before x tail) other (print x) x
  free-rule input after x e free =
      let one = rule.of input after x e in
      (tt, record { again = λ tail last f. one.again tail last f.0; first = λ tail f. one.first tail f.0 })

  pub items_from-more : (count : ℕ) (found : List A) (input after : Input) (items : List A) → items_from item count found input ≡ Some (items, after) → (items ≡ found) ⊎ ItemsMore found items
  items_from-more count found input after items e =
      let behind = items_from-behind bare print item other Free Before G F free-rule starts ends before_comma span count found input after items e in
      behind.prints (all-free behind.more) (all-before behind.more)

  pub items-printed : Printed (map bare) (λ items. joined (comma span) (map print items)) Any AtEnd (items_after item []) (items_after other [])
  items-printed = record { of = λ input after items e. items-read bare print item other Free Before G F free-rule starts ends before_comma span input after items e (all-free items) (all-before items) }

-- ---- to a mark

module _ {A C : Type 0} (bare : A → C) (print : A → Trees) (closing : ℕ) (apart : (closing == 44) ≡ false) (item other : Parser A) {G F : Relation} (rule : Printed bare print G F item other)
    (starts : (rest tail : Trees) → G rest tail → (is_end tail ≡ false) × (is_mark closing tail ≡ false)) (before_comma : (rest tail : Trees) (span : Span) → F rest (comma span ++ tail)) (before_closing : (rest tail : Trees) (span : Span) → F rest (mark (closing ∷ []) span ++ tail)) (span : Span) where
  abbrev pub until_tokens : List A → Trees
  until_tokens items = joined (comma span) (map print items) ++ mark (closing ∷ []) span

  abbrev pub UntilMore : List A → List A → Type 0
  UntilMore found items = More bare (ended (comma span) (map print found)) (until_from closing other) (λ tail. Unit {0}) (until_tokens items) found items

  is_closing : (tail : Trees) → is_mark closing (mark (closing ∷ []) span ++ tail) ≡ true
  is_closing tail = rw (mark_of-mark closing [] span tail) (eq-eqb closing closing refl)

  no-comma : (tail : Trees) → is_comma (mark (closing ∷ []) span ++ tail) ≡ false
  no-comma tail = rw (mark_of-mark closing [] span tail) apart

  closing-length : length (mark (closing ∷ []) span) ≡ 1
  unfolding mark
  closing-length = refl

  until-last : (found : List A) (input after : Input) (x : A) → Reads bare (G input.rest) (F after.rest) other (print x) x → UntilMore found (found ++ x ∷ [])
  unfolding until_from after_eat
  until-last found input after x one = record {
    tokens = print x ++ mark (closing ∷ []) span;
    is = rw (joined-push (comma span) print found x, append_assoc) refl;
    longer = omega (arith, length-append found (x ∷ []));
    some = (starts input.rest (print x ++ mark (closing ∷ []) span) (one.first (mark (closing ∷ []) span) (rw append-nil at (before_closing after.rest [] span)))).0;
    again = go;
  }
    where
      go : (turns : ℕ) (others : List A) → map bare others ≡ map bare found → (tail : Trees) (last : Span) → length (print x ++ mark (closing ∷ []) span) ≤ turns → Unit {0}
          → Again (map bare) (until_from closing other turns others) (at ((print x ++ mark (closing ∷ []) span) ++ tail) last) tail (found ++ x ∷ [])
      go zero others same tail last fits f = absurd (omega (arith, length-append (print x) (mark (closing ∷ []) span), closing-length))
      go (suc turns) others same tail last fits f =
          let behind = before_closing after.rest tail span in
          let more = one.again (mark (closing ∷ []) span ++ tail) last behind in
          let stands = skipped-over 1 (mark (closing ∷ []) span) tail more.new closing-length in
          let unclosed = (starts input.rest (print x ++ (mark (closing ∷ []) span ++ tail)) (one.first (mark (closing ∷ []) span ++ tail) behind)).1 in
          record {
            value = others ++ more.value ∷ [];
            new = stands.0;
            is = rw (append_assoc (print x) (mark (closing ∷ []) span) tail, unclosed, more.is, no-comma tail, is_closing tail, stands.1) refl;
            same = same-push bare others found more.value x same more.same;
          }

  until-more : (found items : List A) (input after : Input) (x : A) → Reads bare (G input.rest) (F after.rest) other (print x) x → UntilMore (found ++ x ∷ []) items → UntilMore found items
  unfolding until_from after_eat
  until-more found items input after x one two = record {
    tokens = print x ++ (comma span ++ two.tokens);
    is = two.is ∙ rw (ended-push (comma span) print found x, append_assoc, append_assoc) refl;
    longer = omega (arith, length-append found (x ∷ []), two.longer);
    some = (starts input.rest (print x ++ (comma span ++ two.tokens)) (one.first (comma span ++ two.tokens) (before_comma after.rest two.tokens span))).0;
    again = go;
  }
    where
      go : (turns : ℕ) (others : List A) → map bare others ≡ map bare found → (tail : Trees) (last : Span) → length (print x ++ (comma span ++ two.tokens)) ≤ turns → Unit {0}
          → Again (map bare) (until_from closing other turns others) (at ((print x ++ (comma span ++ two.tokens)) ++ tail) last) tail items
      go zero others same tail last fits f = absurd (omega (arith, comma-length span, length-append (print x) (comma span ++ two.tokens), length-append (comma span) two.tokens))
      go (suc turns) others same tail last fits f =
          let behind = before_comma after.rest (two.tokens ++ tail) span in
          let more = one.again (comma span ++ (two.tokens ++ tail)) last behind in
          let stands = skipped-over 1 (comma span) (two.tokens ++ tail) more.new (comma-length span) in
          let unclosed = (starts input.rest (print x ++ (comma span ++ (two.tokens ++ tail))) (one.first (comma span ++ (two.tokens ++ tail)) behind)).1 in
          let last = two.again turns (others ++ more.value ∷ []) (same-push bare others found more.value x same more.same) tail stands.0 (omega (arith, comma-length span, length-append (print x) (comma span ++ two.tokens), length-append (comma span) two.tokens)) f in
          record {
            value = last.value;
            new = last.new;
            is = rw (append_assoc (print x) (comma span ++ two.tokens) tail, append_assoc (comma span) two.tokens tail, unclosed, more.is, is_comma-comma (two.tokens ++ tail) span, stands.1) last.is;
            same = last.same;
          }

  until_from-more : (count : ℕ) (found : List A) (input after : Input) (items : List A) → until_from closing item count found input ≡ Some (items, after) → (items ≡ found) ⊎ UntilMore found items
  unfolding until_from
  until_from-more zero found input after items e = absurd cc
  until_from-more (suc count) found input after items e = closed (is_mark closing input.rest) (after_eat 1 (is_mark closing input.rest) input) (λ y between. until_from-more count (found ++ y ∷ []) between after items) e
    where
      Later : Type 0
      Later = (y : A) (between : Input) → until_from closing item count (found ++ y ∷ []) between ≡ Some (items, after) → (items ≡ found ++ y ∷ []) ⊎ UntilMore (found ++ y ∷ []) items

      ended : (b : Bool) (start between behind : Input) (y : A) → Reads bare (G start.rest) (F between.rest) other (print y) y
          → and_then (if b then Some (tt {0}, skipped 1 behind) else None) (λ _. pure (found ++ y ∷ [])) ≡ Some (items, after) → UntilMore found items
      ended true start between behind y one e = subst (λ items. UntilMore found items) (some_pair_parts (found ++ y ∷ []) items (skipped 1 behind) after e).0 (until-last found start between y one)
      ended false start between behind y one e = absurd cc

      goes : (b : Bool) (start between behind : Input) (y : A) → Reads bare (G start.rest) (F between.rest) other (print y) y → Later
          → (if b then until_from closing item count (found ++ y ∷ []) else (expect 1 (is_mark closing) >> pure (found ++ y ∷ []))) behind ≡ Some (items, after) → UntilMore found items
      goes true start between behind y one later e = again (later y behind e)
        where
          again : (items ≡ found ++ y ∷ []) ⊎ UntilMore (found ++ y ∷ []) items → UntilMore found items
          again (inl same) = subst (λ items. UntilMore found items) (sym same) (until-last found start between y one)
          again (inr two) = until-more found items start between y one two
      goes false start between behind y one later e = ended (is_mark closing behind.rest) start between behind y one e

      closed : (b : Bool) (input : Input) → Later → (if b then pure found else (item >>= (λ y. eat 1 is_comma >>= (λ more. if more then until_from closing item count (found ++ y ∷ []) else (expect 1 (is_mark closing) >> pure (found ++ y ∷ [])))))) input ≡ Some (items, after)
          → (items ≡ found) ⊎ UntilMore found items
      closed true input later e = inl (sym (some_pair_parts found items input after e).0)
      closed false input later e =
          let parts = bind-at (item input) (λ y. eat 1 is_comma >>= (λ more. if more then until_from closing item count (found ++ y ∷ []) else (expect 1 (is_mark closing) >> pure (found ++ y ∷ [])))) items after e in
          inr (goes (is_comma parts.1.rest) input parts.1 (after_eat 1 (is_comma parts.1.rest) parts.1) parts.0 (rule.of input parts.1 parts.0 parts.2) later parts.3)

  pub until-printed : Printed (map bare) until_tokens Any Any (until closing item) (until closing other)
  unfolding until_from after_eat
  until-printed = record { of = λ input after items e. made input after items (until_from-more (length input.rest) [] input after items e) }
    where
      none : (turns : ℕ) (tail : Trees) (last : Span) → 1 ≤ turns → Again (map bare) (until_from closing other turns []) (at (mark (closing ∷ []) span ++ tail) last) tail []
      none zero tail last h = absurd (omega (arith, h))
      none (suc turns) tail last h =
          let stands = skipped-over 1 (mark (closing ∷ []) span) tail last closing-length in
          record { value = []; new = stands.0; is = rw (is_closing tail, stands.1) refl; same = refl }

      made : (input after : Input) (items : List A) → (items ≡ []) ⊎ UntilMore [] items → Reads (map bare) (λ tail. Unit {0}) (λ tail. Unit {0}) (until closing other) (until_tokens items) items
      made input after items (inl empty) = rw empty (record {
        again = λ tail last f.
            let last = none (length (mark (closing ∷ []) span ++ tail)) tail last (omega (arith, length-append (mark (closing ∷ []) span) tail, closing-length)) in
            record { value = last.value; new = last.new; is = last.is; same = last.same };
        first = λ tail f. tt;
      })
      made input after items (inr more) = record {
        again = λ tail last f.
            let last = more.again (length (more.tokens ++ tail)) [] refl tail last (omega (arith, length-append more.tokens tail)) f in
            record { value = last.value; new = last.new; is = rw (more.is) last.is; same = last.same };
        first = λ tail f. tt;
      }
