-- The law of printing for what stands in a group: nothing, one item and no comma, or a list. Over any item.
use Rattle.std.proofs.Common.{◌≡◌, ◌⊎◌, inl, inr, ℕ, suc, ◌≤◌, Bool, true, false, ◌==◌, if◌then◌else◌, List, [], ◌∷◌, ◌++◌, map, length, Some, refl, arith, ap, subst, ◌∙◌, append_assoc, append-nil, length-append}
use Rattle.std.proofs.lemmas.Bool.Decides.{nat_tests}
use Rattle.std.proofs.lemmas.List.{length-map}
use Rattle.std.proofs.lemmas.Option.{some_pair_parts}
use Rattle.tok_types.specs.declared.span.Span.{Span}
use Rattle.tok_types.specs.declared.tree.Delimiter.{Delimiter}
use Rattle.syn_grammar.specs.Input.{Input, Parser, ◌>>=◌, ◌<$>◌, pure, after_eat, at_end, eat, is_end, items_after, items_from}
use Rattle.syn_grammar.specs.Token.{is_comma, mark_of}
use Rattle.print_core.specs.Marks.{Trees, comma, group, joined, mark, tuple}
use Rattle.law_prefix.specs.SameLookahead.{Relation, Any, stops}
use Rattle.law_round_trip.specs.Printed.{Printed}
use Rattle.law_round_trip.proofs.Lists.{ItemsMore, comma-length, items_from-more}
use Rattle.law_round_trip.proofs.Marks.{is_comma-comma}
use Rattle.law_round_trip.proofs.Steps.{Gives, Rest, bind-at, pure-rest, test-rest, then-rest}
use Rattle.law_round_trip.proofs.Takes.{AtEnd, skipped-over}

-- two or more are not one
not-one : (n : ℕ) → (suc (suc n) == 1) ≡ false
not-one n = grind (arith, nat_tests)

pub tuple-long : (parts : List Trees) (span : Span) → 2 ≤ length parts → tuple parts span ≡ joined (comma span) parts
tuple-long [] span h = absurd (omega (arith, h))
tuple-long (part ∷ []) span h = absurd (omega (arith, h))
tuple-long (part ∷ second ∷ parts) span h = rw (not-one (length parts), append-nil) refl

pub tuple-single : (part : Trees) (span : Span) → tuple (part ∷ []) span ≡ part ++ comma span
tuple-single part span = rw append-nil refl

-- nothing, or something
abbrev pub Filled : Bool → Relation
Filled true = AtEnd
Filled false = λ rest tail. is_end tail ≡ false

pub filled-seen : (done : Bool) (rest tail : Trees) → Filled done rest tail → is_end tail ≡ done
filled-seen true rest tail f = rw f refl
filled-seen false rest tail f = f

-- Items in a group print as told. One that was read with a comma keeps it, or is the same as without.
module _ {A C : Type 0} (bare : A → C) (print : A → Trees) (item : Parser A) {G F : Relation} (rule : Printed bare print G F item item)
    (starts : (rest tail : Trees) → G rest tail → is_end tail ≡ false) (ends : (rest : Trees) → F rest []) (before_comma : (rest tail : Trees) (span : Span) → F rest (comma span ++ tail))
    (between : Delimiter) (inside : List Trees → Span → Trees) (empty : (span : Span) → inside [] span ≡ []) (long : (parts : List Trees) (span : Span) → 2 ≤ length parts → inside parts span ≡ joined (comma span) parts)
    (Many : List A → Span → A) (One : A → Span → A) (single : ((part : Trees) (span : Span) → inside (part ∷ []) span ≡ part ++ comma span) ⊎ ((it : A) (span : Span) → One it span ≡ Many (it ∷ []) span))
    (print-Many : (items : List A) (span : Span) → print (Many items span) ≡ group between (inside (map print items) span) span) (print-One : (it : A) (span : Span) → print (One it span) ≡ group between (print it) span)
    (bare-Many : (one two : List A) (span other : Span) → map bare one ≡ map bare two → bare (Many one span) ≡ bare (Many two other)) (bare-One : (one two : A) (span other : Span) → bare one ≡ bare two → bare (One one span) ≡ bare (One two other)) where
  -- what stands behind the first item
  abbrev pub others : Span → A → Parser A
  others span first = eat 1 is_comma >>= (λ more. if more then (λ items. Many items span) <$> items_after item (first ∷ []) else pure (One first span))

  -- what may follow an item, and begins with a comma if with anything
  abbrev pub Separated : Relation
  Separated rest tail = F rest tail × (stops tail ≡ true)

  module _ (span : Span) (first : A) where
    abbrev pub Env : Type 0
    Env = (Unit {0} × Span) × A

    abbrev pub Fine : Env → Type 0
    Fine q = Unit {0} × (bare q.1 ≡ bare first)

    abbrev OthersGive : Trees → A → Type 0
    OthersGive rest found = Gives {P = Unit {0}} {Q = Env} Fine bare print (λ place tokens. group between (print first ++ tokens) span) (Separated rest) (λ tail. tail ≡ []) (λ q. others q.0.1 q.1) found

    stops-comma : (tail : Trees) → stops (comma span ++ tail) ≡ true
    unfolding mark
    stops-comma tail = is_comma-comma tail span

    alone : (rest : Trees) → OthersGive rest (One first span)
    unfolding after_eat mark_of
    alone rest = record {
      place = tt;
      tokens = [];
      is = rw (print-One, append-nil) refl;
      again = λ q ok tail last f. rw f (record { value = One q.1 q.0.1; new = last; is = refl; same = bare-One q.1 first q.0.1 span ok.1 });
      first = λ tail f. rw f (ends rest, refl);
    }

    -- where nothing comes behind the comma
    with-comma : (rest : Trees) → OthersGive rest (Many (first ∷ []) span)
    unfolding after_eat items_from
    with-comma rest = by single
      where
        by : ((part : Trees) (span : Span) → inside (part ∷ []) span ≡ part ++ comma span) ⊎ ((it : A) (span : Span) → One it span ≡ Many (it ∷ []) span) → OthersGive rest (Many (first ∷ []) span)
        by (inr same) = subst (OthersGive rest) (same first span) (alone rest)
        by (inl keeps) = record {
          place = tt;
          tokens = comma span;
          is = rw (print-Many (first ∷ []) span, keeps (print first) span) refl;
          again = λ q ok tail last f. rw f (
              let stands = skipped-over 1 (comma span) [] last (comma-length span) in
              record { value = Many (q.1 ∷ []) q.0.1; new = stands.0; is = rw (is_comma-comma [] span, stands.1) refl; same = bare-Many (q.1 ∷ []) (first ∷ []) q.0.1 span (rw (ok.1) refl) });
          first = λ tail f. (before_comma rest tail span, stops-comma tail);
        }

    more-items : (rest : Trees) (items : List A) → ItemsMore bare print item item rule starts ends before_comma span (first ∷ []) items → OthersGive rest (Many items span)
    unfolding after_eat
    more-items rest items two = record {
      place = tt;
      tokens = comma span ++ two.tokens;
      is = print-Many items span ∙ ap (λ tokens. group between tokens span) (long (map print items) span (rw (length-map items print) two.longer) ∙ two.is ∙ rw (append-nil, append_assoc) refl);
      again = λ q ok tail last f. rw f (
          let stands = skipped-over 1 (comma span) (two.tokens ++ []) last (comma-length span) in
          let more = two.again (length (two.tokens ++ [])) (q.1 ∷ []) (rw (ok.1) refl) [] stands.0 (omega (arith, length-append two.tokens [])) refl in
          record {
            value = Many more.value q.0.1;
            new = more.new;
            is = rw (append_assoc (comma span) two.tokens [], is_comma-comma (two.tokens ++ []) span, stands.1, more.is) refl;
            same = bare-Many more.value items q.0.1 span more.same;
          });
      first = λ tail f. rw (append_assoc (comma span) two.tokens tail) (before_comma rest (two.tokens ++ tail) span, stops-comma (two.tokens ++ tail));
    }

    pub others-rest : Rest {P = Unit {0}} {Q = Env} Fine bare print (λ place tokens. group between (print first ++ tokens) span) Separated AtEnd (others span first) (λ q. others q.0.1 q.1)
    others-rest = record { of = λ input after found e. by input after found (is_comma input.rest) e }
      where
        choose : (rest : Trees) (items : List A) → (items ≡ first ∷ []) ⊎ ItemsMore bare print item item rule starts ends before_comma span (first ∷ []) items → OthersGive rest (Many items span)
        choose rest items (inl same) = rw same (with-comma rest)
        choose rest items (inr two) = more-items rest items two

        by : (input after : Input) (found : A) (b : Bool) → (if b then (λ items. Many items span) <$> items_after item (first ∷ []) else pure (One first span)) (after_eat 1 b input) ≡ Some (found, after) → OthersGive input.rest found
        by input after found false e = subst (OthersGive input.rest) (some_pair_parts (One first span) found (after_eat 1 false input) after e).0 (alone input.rest)
        by input after found true e =
            let behind = after_eat 1 true input in
            let parts = bind-at (items_after item (first ∷ []) behind) (λ items. pure (Many items span)) found after e in
            subst (OthersGive input.rest) (some_pair_parts (Many parts.0 span) found parts.1 after parts.3).0
            (choose input.rest parts.0 (items_from-more bare print item item rule starts ends before_comma span (length behind.rest) (first ∷ []) behind parts.1 parts.0 parts.2))

  -- ---- the whole group

  abbrev pub inner : Span → Parser A
  inner span = at_end >>= (λ done. if done then pure (Many [] span) else (item >>= others span))

  inner_by : (span : Span) (done : Bool) → Rest {P = Unit {0}} {Q = Unit {0} × Span} (λ q. Unit {0}) bare print (λ place tokens. group between tokens span) (Filled done) AtEnd (if done then pure (Many [] span) else (item >>= others span)) (λ q. if done then pure (Many [] q.1) else (item >>= others q.1))
  inner_by span true = pure-rest tt (Many [] span) (λ q. Many [] q.1) (rw (print-Many [] span, empty span) refl) (λ q ok. bare-Many [] [] q.1 span refl)
  inner_by span false = then-rest {Second = Separated} (λ place. rule) (λ first. others-rest span first) (λ rest tail f. f.0) (λ rest tail f. starts rest tail f)

  pub inner-rest : (span : Span) → Rest {P = Unit {0}} {Q = Unit {0} × Span} (λ q. Unit {0}) bare print (λ place tokens. group between tokens span) Any AtEnd (inner span) (λ q. inner q.1)
  inner-rest span = test-rest {by = Filled} is_end (inner_by span) (λ done rest tail seen f. (filled-seen done rest tail f, tt))
