-- The law of fronts for the steps that every rule is made of.
use Rattle.std.proofs.Common.{◌≡◌, ◌⊎◌, inl, inr, ℕ, suc, ◌-◌, ◌≤◌, ◌<◌, Bool, true, false, if◌then◌else◌, List, [], ◌∷◌, ◌++◌, length, take, Some, None, refl, arith, ap, sym, subst, ◌∙◌, append_assoc, length-append}
use Rattle.std.proofs.lemmas.List.{append_cancel_right, take_at}
use Rattle.std.proofs.lemmas.Option.{some_pair_parts}
use Rattle.tok_types.specs.Span.{joined}
use Rattle.tok_types.specs.declared.span.Span.{Span}
use Rattle.tok_types.specs.declared.tree.TokenTree.{TokenTree}
use Rattle.syn_grammar.specs.Input.{Input, Outcome, Parser, and_then, ◌>>=◌, ◌<$>◌, pure, refuse, test, here, first_span, upto, state, read_since, by_turns}
use Rattle.law_prefix.specs.SameLookahead.{Relation}
use Rattle.law_prefix.specs.ReadsByPrefix.{at}

-- ---- what a step reads again

-- that a token is among them, where that is told
abbrev pub Begins : Bool → List TokenTree → Type 0
Begins false read = Unit {0}
Begins true [] = ⊥
Begins true (tree ∷ trees) = Unit {0}

-- Where a parser stands anew, it finds the same before the tail. The last token is the same if it was the same, or if one was taken.
pub record Again {A : Type 0} (some : Bool) (other : Parser A) (anew : Input) (tail : List TokenTree) (input after : Input) (found : A) : Type 0 where
  pub new : Span
  pub reads : other anew ≡ Some (found, at tail new)
  pub kept : input.last ≡ anew.last → after.last ≡ new
  pub taken : some ≡ true → after.last ≡ new

-- What was read between two inputs. The other parser reads it again where at most so many tokens are left then. What is free may stand behind any token.
pub record Took {A : Type 0} (limit : ℕ) (Start End : Relation) (some free : Bool) (other : Parser A) (input after : Input) (found : A) : Type 0 where
  pub read : List TokenTree
  pub is : input.rest ≡ read ++ after.rest
  pub begins : Begins some read
  pub again : (tail : List TokenTree) (last : Span) → (free ≡ false → input.last ≡ last) → End after.rest tail → length (read ++ tail) ≤ limit → Again some other (at (read ++ tail) last) tail input after found
  pub first : (tail : List TokenTree) → End after.rest tail → Start input.rest (read ++ tail)

-- what the first parser reads there, the second reads again
pub record FrontAt {A : Type 0} (limit : ℕ) (Start End : Relation) (some free : Bool) (parser other : Parser A) (input : Input) : Type 0 where
  pub of : (after : Input) (found : A) → parser input ≡ Some (found, after) → Took limit Start End some free other input after found

-- the same wherever the parser stands
pub record Fronts {A : Type 0} (limit : ℕ) (Start End : Relation) (some free : Bool) (parser other : Parser A) : Type 0 where
  pub at : (input : Input) → FrontAt limit Start End some free parser other input

begins-left : (some : Bool) (read more : List TokenTree) → Begins some read → Begins some (read ++ more)
begins-left false read more h = tt
begins-left true [] more h = absurd h
begins-left true (tree ∷ trees) more h = tt

begins-right : (some : Bool) (read more : List TokenTree) → Begins some more → Begins some (read ++ more)
begins-right false read more h = tt
begins-right true [] more h = h
begins-right true (tree ∷ trees) more h = tt

pub begins-length : (read : List TokenTree) → Begins true read → 0 < length read
begins-length [] h = absurd h
begins-length (tree ∷ trees) h = omega arith

pub refuse_at-front : {A : Type 0} {limit : ℕ} {Start End : Relation} {some free : Bool} {other : Parser A} {input : Input} → FrontAt limit Start End some free refuse other input
refuse_at-front = record { of = λ after found e. absurd cc }

-- a parser that reads nothing
pub refuse-front : {A : Type 0} {limit : ℕ} {Start End : Relation} {some free : Bool} (other : Parser A) → Fronts limit Start End some free refuse other
refuse-front other = record { at = λ input. refuse_at-front }

-- a parser that takes nothing there
pub stay-front : {A : Type 0} {limit : ℕ} {Same : Relation} {parser other : Parser A} {input : Input} (value : A) → parser input ≡ Some (value, input)
    → ((tail : List TokenTree) (last : Span) → Same input.rest tail → length tail ≤ limit → other (at tail last) ≡ Some (value, at tail last)) → FrontAt limit Same Same false true parser other input
stay-front {A} {limit} {Same} {parser} {other} {input} value is stays = record {
  of = λ after found e.
      let both = some_pair_parts value found input after (sym is ∙ e) in
      rw (← both.0, ← both.1) (stay);
}
  where
    stay : Took limit Same Same false true other input input value
    stay = record {
      read = [];
      is = refl;
      begins = tt;
      again = λ tail last free same fits. record { new = last; reads = stays tail last same fits; kept = λ h. h; taken = λ h. absurd cc };
      first = λ tail same. same;
    }

pub pure-front : {A : Type 0} {limit : ℕ} {Same : Relation} (value : A) → Fronts limit Same Same false true (pure value) (pure value)
pure-front value = record { at = λ input. stay-front value refl (λ tail last same fits. refl) }

pub upto-front : {limit : ℕ} {Same : Relation} (start : Span) → Fronts limit Same Same false false (upto start) (upto start)
upto-front {limit} {Same} start = record {
  at = λ input. record {
    of = λ after found e.
        let both = some_pair_parts (joined start input.last) found input after e in
        rw (← both.0, ← both.1) (stay input);
  };
}
  where
    stay : (input : Input) → Took limit Same Same false false (upto start) input input (joined start input.last)
    stay input = record {
      read = [];
      is = refl;
      begins = tt;
      again = λ tail last late same fits. record { new = last; reads = ap (λ old. Some (joined start old, at tail last)) (sym (late refl)); kept = λ h. h; taken = λ h. absurd cc };
      first = λ tail same. same;
    }

-- ---- one step behind another

pub bind-at : {A B : Type 0} (outcome : Outcome A) (next : A → Parser B) (found : B) (after : Input) → and_then outcome next ≡ Some (found, after)
    → (value : A) × (between : Input) × (outcome ≡ Some (value, between)) × (next value between ≡ Some (found, after))
bind-at None next found after e = absurd cc
bind-at (Some one) next found after e = (one.0, one.1, refl, e)

-- how two steps stand to the whole: where the first looks at the last token, the whole does; where the second does, the first takes one, or the whole does; and one of them takes a token if the whole does
record Joins (one two some first second free : Bool) : Type 0 where
  late : first ≡ false → free ≡ false
  later : second ≡ false → (one ≡ true) ⊎ (free ≡ false)
  taken : some ≡ true → (one ≡ true) ⊎ (two ≡ true)
  begins : (read more : List TokenTree) → Begins one read → Begins two more → Begins some (read ++ more)

again-last : (one free : Bool) (input between : Input) (last new : Span) → (one ≡ true) ⊎ (free ≡ false) → (one ≡ true → between.last ≡ new) → (input.last ≡ last → between.last ≡ new) → (free ≡ false → input.last ≡ last)
    → between.last ≡ new
again-last one free input between last new (inl h) taken kept late = taken h
again-last one free input between last new (inr h) taken kept late = kept (late h)

again-taken : (one two : Bool) (between after : Input) (new newer : Span) → (one ≡ true) ⊎ (two ≡ true) → (one ≡ true → between.last ≡ new) → (between.last ≡ new → after.last ≡ newer) → (two ≡ true → after.last ≡ newer)
    → after.last ≡ newer
again-taken one two between after new newer (inl h) taken kept more = kept (taken h)
again-taken one two between after new newer (inr h) taken kept more = more h

joined_at-front : {A B : Type 0} {limit under : ℕ} {Start Middle End : Relation} {one two some first second free : Bool} {parser other : Parser A} {next following : A → Parser B} {input : Input}
    → FrontAt limit Start Middle one first parser other input → ((value : A) → Fronts under Middle End two second (next value) (following value)) → Joins one two some first second free
    → ((read behind : List TokenTree) → Begins one read → length (read ++ behind) ≤ limit → length behind ≤ under)
    → FrontAt limit Start End some free (parser >>= next) (other >>= following) input
joined_at-front {one = one} {two = two} {some = some} {free = free} {parser = parser} {other = other} {next = next} {following = following} {input = input} h g joins fewer = record {
  of = λ after found e.
      let parts = bind-at (parser input) next found after e in
      let one' = h.of parts.1 parts.0 parts.2 in
      let two' = ((g parts.0).at parts.1).of after found parts.3 in
      record {
        read = one'.read ++ two'.read;
        is = one'.is ∙ ap (λ trees. one'.read ++ trees) two'.is ∙ sym (append_assoc one'.read two'.read after.rest);
        begins = joins.begins one'.read two'.read one'.begins two'.begins;
        again = λ tail last late same fits.
            let fit = rw (append_assoc one'.read two'.read tail) at fits in
            let less = fewer one'.read (two'.read ++ tail) one'.begins fit in
            let again = one'.again (two'.read ++ tail) last (λ h. late (joins.late h)) (two'.first tail same) fit in
            let more = two'.again tail again.new (λ h. again-last one free input parts.1 last again.new (joins.later h) again.taken again.kept late) same less in
            record {
              new = more.new;
              reads = rw (append_assoc one'.read two'.read tail, again.reads) more.reads;
              kept = λ h. more.kept (again.kept h);
              taken = λ h. again-taken one two parts.1 after again.new more.new (joins.taken h) again.taken more.kept more.taken;
            };
        first = λ tail same. rw (append_assoc one'.read two'.read tail) (one'.first (two'.read ++ tail) (two'.first tail same));
      };
}

fewer-same : (limit : ℕ) (read behind : List TokenTree) → length (read ++ behind) ≤ limit → length behind ≤ limit
fewer-same limit read behind fits = omega (arith, length-append read behind)

fewer-turn : (limit : ℕ) (read behind : List TokenTree) → Begins true read → length (read ++ behind) ≤ suc limit → length behind ≤ limit
fewer-turn limit read behind begins fits = omega (arith, length-append read behind, begins-length read begins)

-- the second takes a token where that is told, and looks at the last token where that is told
pub then_at-front : {A B : Type 0} {limit : ℕ} {Start Middle End : Relation} {one some free : Bool} {parser other : Parser A} {next following : A → Parser B} {input : Input}
    → FrontAt limit Start Middle one true parser other input → ((value : A) → Fronts limit Middle End some free (next value) (following value))
    → FrontAt limit Start End some free (parser >>= next) (other >>= following) input
then_at-front {limit = limit} {some = some} h g =
    joined_at-front h g (record { late = λ h. absurd cc; later = inr; taken = inr; begins = λ read more _ begins. begins-right some read more begins }) (λ read behind _ fits. fewer-same limit read behind fits)

-- the first takes a token
pub first_at-front : {A B : Type 0} {limit : ℕ} {Start Middle End : Relation} {two free any : Bool} {parser other : Parser A} {next following : A → Parser B} {input : Input}
    → FrontAt limit Start Middle true free parser other input → ((value : A) → Fronts limit Middle End two any (next value) (following value))
    → FrontAt limit Start End true free (parser >>= next) (other >>= following) input
first_at-front {limit = limit} h g =
    joined_at-front h g (record { late = λ h. h; later = λ _. inl refl; taken = λ _. inl refl; begins = λ read more begins _. begins-left true read more begins }) (λ read behind _ fits. fewer-same limit read behind fits)

-- a turn: the first takes a token, and one turn less is left
pub turn_at-front : {A B : Type 0} {limit : ℕ} {Start Middle End : Relation} {two free any : Bool} {parser other : Parser A} {next following : A → Parser B} {input : Input}
    → FrontAt (suc limit) Start Middle true free parser other input → ((value : A) → Fronts limit Middle End two any (next value) (following value))
    → FrontAt (suc limit) Start End true free (parser >>= next) (other >>= following) input
turn_at-front {limit = limit} h g =
    joined_at-front h g (record { late = λ h. h; later = λ _. inl refl; taken = λ _. inl refl; begins = λ read more begins _. begins-left true read more begins }) (λ read behind begins fits. fewer-turn limit read behind begins fits)

-- the same wherever they stand
pub then-front : {A B : Type 0} {limit : ℕ} {Start Middle End : Relation} {one some free : Bool} {parser other : Parser A} {next following : A → Parser B}
    → Fronts limit Start Middle one true parser other → ((value : A) → Fronts limit Middle End some free (next value) (following value)) → Fronts limit Start End some free (parser >>= next) (other >>= following)
then-front h g = record { at = λ input. then_at-front (h.at input) g }

pub first-front : {A B : Type 0} {limit : ℕ} {Start Middle End : Relation} {two free any : Bool} {parser other : Parser A} {next following : A → Parser B}
    → Fronts limit Start Middle true free parser other → ((value : A) → Fronts limit Middle End two any (next value) (following value)) → Fronts limit Start End true free (parser >>= next) (other >>= following)
first-front h g = record { at = λ input. first_at-front (h.at input) g }

pub turn-front : {A B : Type 0} {limit : ℕ} {Start Middle End : Relation} {two free any : Bool} {parser other : Parser A} {next following : A → Parser B}
    → Fronts (suc limit) Start Middle true free parser other → ((value : A) → Fronts limit Middle End two any (next value) (following value)) → Fronts (suc limit) Start End true free (parser >>= next) (other >>= following)
turn-front h g = record { at = λ input. turn_at-front (h.at input) g }

pub map-front : {A B : Type 0} {limit : ℕ} {Start End : Relation} {some free : Bool} {parser other : Parser A} (make : A → B)
    → Fronts limit Start End some free parser other → Fronts limit Start End some free (make <$> parser) (make <$> other)
map-front {limit = limit} {some = some} make h = record {
  at = λ input. joined_at-front (h.at input) (λ value. pure-front (make value)) (record { late = λ h. h; later = λ h. absurd cc; taken = inl; begins = λ read more begins _. begins-left some read more begins })
      (λ read behind _ fits. fewer-same limit read behind fits);
}

-- behind the place of the last token
pub upto_then-front : {A : Type 0} {limit : ℕ} {Same End : Relation} {some any : Bool} {next following : Span → Parser A} (start : Span) → ((span : Span) → Fronts limit Same End some any (next span) (following span))
    → Fronts limit Same End some false (upto start >>= next) (upto start >>= following)
upto_then-front {limit = limit} {some = some} start g = record {
  at = λ input. joined_at-front ((upto-front start).at input) g (record { late = λ h. h; later = λ _. inr refl; taken = inr; begins = λ read more _ begins. begins-right some read more begins })
      (λ read behind _ fits. fewer-same limit read behind fits);
}

-- what a rule ends with
pub close-front : {A : Type 0} {limit : ℕ} {Same : Relation} (start : Span) (make : Span → A) → Fronts limit Same Same false false (upto start >>= (λ span. pure (make span))) (upto start >>= (λ span. pure (make span)))
close-front start make = upto_then-front start (λ span. pure-front (make span))

-- ---- other forms of one law

-- it is not asked that a token is taken
pub maybe_at-front : {A : Type 0} {limit : ℕ} {Start End : Relation} {some free : Bool} {parser other : Parser A} {input : Input}
    → FrontAt limit Start End some free parser other input → FrontAt limit Start End false free parser other input
maybe_at-front h = record {
  of = λ after found e.
      let took = h.of after found e in
      record {
        read = took.read;
        is = took.is;
        begins = tt;
        again = λ tail last late same fits. let again = took.again tail last late same fits in record { new = again.new; reads = again.reads; kept = again.kept; taken = λ h. absurd cc };
        first = took.first;
      };
}

-- where no token is left, nothing is read that takes one
pub none_at-front : {A : Type 0} {Start End : Relation} {free : Bool} {parser other another : Parser A} {input : Input}
    → FrontAt 0 Start End true free parser other input → FrontAt 0 Start End true free parser another input
none_at-front h = record {
  of = λ after found e.
      let took = h.of after found e in
      record {
        read = took.read;
        is = took.is;
        begins = took.begins;
        again = λ tail last late same fits. absurd (omega (arith, length-append took.read tail, begins-length took.read took.begins));
        first = took.first;
      };
}

-- more is asked of what follows, and less is said of where it starts
pub weak_at-front : {A : Type 0} {limit : ℕ} {Start Less End More : Relation} {some free : Bool} {parser other : Parser A} {input : Input}
    → ((rest tail : List TokenTree) → More rest tail → End rest tail) → ((rest tail : List TokenTree) → Start rest tail → Less rest tail)
    → FrontAt limit Start End some free parser other input → FrontAt limit Less More some free parser other input
weak_at-front weak start h = record {
  of = λ after found e.
      let took = h.of after found e in
      record {
        read = took.read;
        is = took.is;
        begins = took.begins;
        again = λ tail last late same fits. took.again tail last late (weak after.rest tail same) fits;
        first = λ tail same. start _ _ (took.first tail (weak after.rest tail same));
      };
}

-- it may look at the last token
pub late-front : {A : Type 0} {limit : ℕ} {Start End : Relation} {some free : Bool} {parser other : Parser A} → Fronts limit Start End some free parser other → Fronts limit Start End some false parser other
late-front h = record {
  at = λ input. record {
    of = λ after found e.
        let took = (h.at input).of after found e in
        record {
          read = took.read;
          is = took.is;
          begins = took.begins;
          again = λ tail last late same fits.
              took.again tail last (λ h. late refl) same fits;
          first = took.first;
        };
  };
}

pub maybe-front : {A : Type 0} {limit : ℕ} {Start End : Relation} {some free : Bool} {parser other : Parser A} → Fronts limit Start End some free parser other → Fronts limit Start End false free parser other
maybe-front h = record { at = λ input. maybe_at-front (h.at input) }

pub none-front : {A : Type 0} {Start End : Relation} {free : Bool} {parser other : Parser A} (another : Parser A) → Fronts 0 Start End true free parser other → Fronts 0 Start End true free parser another
none-front another h = record { at = λ input. none_at-front (h.at input) }

pub weak-front : {A : Type 0} {limit : ℕ} {Start Less End More : Relation} {some free : Bool} {parser other : Parser A}
    → ((rest tail : List TokenTree) → More rest tail → End rest tail) → ((rest tail : List TokenTree) → Start rest tail → Less rest tail)
    → Fronts limit Start End some free parser other → Fronts limit Less More some free parser other
weak-front weak start h = record { at = λ input. weak_at-front weak start (h.at input) }

-- ---- choices

pub if-front : {A : Type 0} {limit : ℕ} {Start End : Relation} {some free : Bool} {parser other parser' other' : Parser A} (b : Bool)
    → Fronts limit Start End some free parser other → Fronts limit Start End some free parser' other' → Fronts limit Start End some free (if b then parser else parser') (if b then other else other')
if-front true h g = h
if-front false h g = g

-- a choice by what was seen
pub case_at-front : {A : Type 0} {limit : ℕ} {Start End : Relation} {some free : Bool} {parser other parser' other' : Parser A} {input : Input} (b : Bool)
    → (b ≡ true → FrontAt limit Start End some free parser other input) → (b ≡ false → FrontAt limit Start End some free parser' other' input)
    → FrontAt limit Start End some free (if b then parser else parser') (if b then other else other') input
case_at-front true h g = h refl
case_at-front false h g = g refl

-- what is seen there
pub seen-front : {A B : Type 0} {limit : ℕ} {Start End : Relation} {some free : Bool} {other : Parser B} {input : Input} (look : List TokenTree → A) (next : A → Parser B)
    → FrontAt limit Start End some free (next (look input.rest)) other input → FrontAt limit Start End some free (test look >>= next) other input
seen-front look next h = record { of = h.of }

-- what is seen alike
pub test_at-front : {A B : Type 0} {limit : ℕ} {Start End : Relation} {some free : Bool} {input : Input} (look : List TokenTree → A) (next following : A → Parser B)
    → ((rest tail : List TokenTree) → Start rest tail → look rest ≡ look tail)
    → ((value : A) → look input.rest ≡ value → FrontAt limit Start End some free (next value) (following value) input)
    → FrontAt limit Start End some free (test look >>= next) (test look >>= following) input
test_at-front {input = input} look next following alike h = record {
  of = λ after found e.
      let took = (h (look input.rest) refl).of after found e in
      record {
        read = took.read;
        is = took.is;
        begins = took.begins;
        again = λ tail last late same fits.
            let again = took.again tail last late same fits in
            let seen = alike input.rest (took.read ++ tail) (took.first tail same) in
            record { new = again.new; reads = ap (λ value. following value (at (took.read ++ tail) last)) (sym seen) ∙ again.reads; kept = again.kept; taken = again.taken };
        first = took.first;
      };
}

pub test-front : {A B : Type 0} {limit : ℕ} {Start End : Relation} {some free : Bool} {next following : A → Parser B} (look : List TokenTree → A)
    → ((rest tail : List TokenTree) → Start rest tail → look rest ≡ look tail) → ((value : A) → Fronts limit Start End some free (next value) (following value))
    → Fronts limit Start End some free (test look >>= next) (test look >>= following)
test-front {next = next} {following = following} look alike h = record { at = λ input. test_at-front look next following alike (λ value is. (h value).at input) }

-- the same first token
same-first : {A : Type 0} (look : List TokenTree → A) (Start : Relation) → ((tree : TokenTree) (rest tail : List TokenTree) → Start (tree ∷ rest) (tree ∷ tail) → look (tree ∷ rest) ≡ look (tree ∷ tail))
    → (read rest tail : List TokenTree) → Begins true read → Start (read ++ rest) (read ++ tail) → look (read ++ rest) ≡ look (read ++ tail)
same-first look Start alike [] rest tail begins start = absurd begins
same-first look Start alike (tree ∷ trees) rest tail begins start = alike tree (trees ++ rest) (trees ++ tail) start

-- what is seen alike where a token is taken
pub look_at-front : {A B : Type 0} {limit : ℕ} {Start End : Relation} {free : Bool} {input : Input} (look : List TokenTree → A) (next following : A → Parser B)
    → ((tree : TokenTree) (rest tail : List TokenTree) → Start (tree ∷ rest) (tree ∷ tail) → look (tree ∷ rest) ≡ look (tree ∷ tail))
    → ((value : A) → look input.rest ≡ value → FrontAt limit Start End true free (next value) (following value) input)
    → FrontAt limit Start End true free (test look >>= next) (test look >>= following) input
look_at-front {Start = Start} {input = input} look next following alike h = record {
  of = λ after found e.
      let took = (h (look input.rest) refl).of after found e in
      record {
        read = took.read;
        is = took.is;
        begins = took.begins;
        again = λ tail last late same fits.
            let again = took.again tail last late same fits in
            let start : Start (took.read ++ after.rest) (took.read ++ tail) = subst (λ trees. Start trees (took.read ++ tail)) took.is (took.first tail same) in
            let seen : look input.rest ≡ look (took.read ++ tail) = ap look took.is ∙ same-first look Start alike took.read after.rest tail took.begins start in
            record { new = again.new; reads = ap (λ value. following value (at (took.read ++ tail) last)) (sym seen) ∙ again.reads; kept = again.kept; taken = again.taken };
        first = took.first;
      };
}

pub look-front : {A B : Type 0} {limit : ℕ} {Start End : Relation} {free : Bool} {next following : A → Parser B} (look : List TokenTree → A)
    → ((tree : TokenTree) (rest tail : List TokenTree) → Start (tree ∷ rest) (tree ∷ tail) → look (tree ∷ rest) ≡ look (tree ∷ tail))
    → ((value : A) → Fronts limit Start End true free (next value) (following value)) → Fronts limit Start End true free (test look >>= next) (test look >>= following)
look-front {next = next} {following = following} look alike h = record { at = λ input. look_at-front look next following alike (λ value is. (h value).at input) }

-- where a token is taken, it begins at one place
pub here_at-front : {A : Type 0} {limit : ℕ} {Start End : Relation} {free : Bool} {next following : Span → Parser A} {input : Input}
    → ((span : Span) → FrontAt limit Start End true free (next span) (following span) input) → FrontAt limit Start End true free (here >>= next) (here >>= following) input
unfolding first_span
here_at-front {next = next} {following = following} h = look_at-front first_span next following (λ tree rest tail _. refl) (λ span _. h span)

pub here-front : {A : Type 0} {limit : ℕ} {Start End : Relation} {free : Bool} {next following : Span → Parser A}
    → ((span : Span) → Fronts limit Start End true free (next span) (following span)) → Fronts limit Start End true free (here >>= next) (here >>= following)
here-front h = record { at = λ input. here_at-front (λ span. (h span).at input) }

-- ---- turns

turns-again : {A : Type 0} (loop : ℕ → Parser A) (one two tail : List TokenTree) (last : Span) (outcome : Outcome A) → one ≡ two → loop (length (two ++ tail)) (at (one ++ tail) last) ≡ outcome
    → by_turns loop (at (two ++ tail) last) ≡ outcome
turns-again loop one two tail last outcome same e = ap (λ read. loop (length (two ++ tail)) (at (read ++ tail) last)) (sym same) ∙ e

-- a loop with as many turns as there are tokens
pub turns_at-front : {A : Type 0} {limit : ℕ} {Start End : Relation} {some free : Bool} {loop : ℕ → Parser A} {input : Input}
    → ((limit : ℕ) → FrontAt limit Start End some free (loop (length input.rest)) (loop limit) input) → FrontAt limit Start End some free (by_turns loop) (by_turns loop) input
turns_at-front {loop = loop} {input = input} h = record {
  of = λ after found e.
      let took = (h 0).of after found e in
      record {
        read = took.read;
        is = took.is;
        begins = took.begins;
        again = λ tail last late same fits.
            let other = (h (length (took.read ++ tail))).of after found e in
            let one = append_cancel_right other.read took.read after.rest (sym other.is ∙ took.is) in
            let again = other.again tail last late same (rw one (omega arith)) in
            record { new = again.new; reads = turns-again loop other.read took.read tail last (Some (found, at tail again.new)) one again.reads; kept = again.kept; taken = again.taken };
        first = took.first;
      };
}

pub turns-front : {A : Type 0} {limit : ℕ} {Start End : Relation} {some free : Bool} {loop : ℕ → Parser A}
    → ((limit turns : ℕ) → Fronts limit Start End some free (loop turns) (loop limit)) → Fronts limit Start End some free (by_turns loop) (by_turns loop)
turns-front h = record { at = λ input. turns_at-front (λ limit. (h limit (length input.rest)).at input) }

-- ---- parsers that are one

pub same-front : {A : Type 0} {limit : ℕ} {Start End : Relation} {some free : Bool} {parser other one another : Parser A} → ((input : Input) → parser input ≡ one input)
    → ((input : Input) → other input ≡ another input) → Fronts limit Start End some free one another → Fronts limit Start End some free parser other
same-front same same' h = record {
  at = λ input. record {
    of = λ after found e.
        let took = (h.at input).of after found (sym (same input) ∙ e) in
        record {
          read = took.read;
          is = took.is;
          begins = took.begins;
          again = λ tail last late alike fits.
              let again = took.again tail last late alike fits in
              record { new = again.new; reads = same' (at (took.read ++ tail) last) ∙ again.reads; kept = again.kept; taken = again.taken };
          first = took.first;
        };
  };
}

-- ---- tokens that are kept

pub take-read : (read rest : List TokenTree) → take (length (read ++ rest) - length rest) (read ++ rest) ≡ read
take-read read rest = take_at read rest (length (read ++ rest) - length rest) (omega (arith, length-append read rest))

-- what a head took is kept
pub kept-front : {A B : Type 0} {limit : ℕ} {Start Middle End : Relation} {free two any : Bool} {head other : Parser A} (next following : A → List TokenTree → Parser B)
    → Fronts limit Start Middle true free head other → ((value : A) (kept : List TokenTree) → Fronts limit Middle End two any (next value kept) (following value kept))
    → Fronts limit Start End true free (state >>= (λ before. head >>= (λ value. read_since before.rest >>= next value))) (state >>= (λ before. other >>= (λ value. read_since before.rest >>= following value)))
kept-front {limit = limit} {head = head} next following h g = record {
  at = λ input. record {
    of = λ after found e.
        let parts = bind-at (head input) (λ value. read_since input.rest >>= next value) found after e in
        let one = (h.at input).of parts.1 parts.0 parts.2 in
        let kept = ap (λ trees. take (length trees - length parts.1.rest) trees) one.is ∙ take-read one.read parts.1.rest in
        let two = ((g parts.0 one.read).at parts.1).of after found (ap (λ kept. next parts.0 kept parts.1) (sym kept) ∙ parts.3) in
        record {
          read = one.read ++ two.read;
          is = one.is ∙ ap (λ trees. one.read ++ trees) two.is ∙ sym (append_assoc one.read two.read after.rest);
          begins = begins-left true one.read two.read one.begins;
          again = λ tail last late same fits.
              let fit = rw (append_assoc one.read two.read tail) at fits in
              let less = fewer-same limit one.read (two.read ++ tail) fit in
              let again = one.again (two.read ++ tail) last late (two.first tail same) fit in
              let more = two.again tail again.new (λ h. again.taken refl) same less in
              record {
                new = more.new;
                reads = rw (append_assoc one.read two.read tail, again.reads, take-read one.read (two.read ++ tail)) more.reads;
                kept = λ h. more.kept (again.taken refl);
                taken = λ h. more.kept (again.taken refl);
              };
          first = λ tail same. rw (append_assoc one.read two.read tail) (one.first (two.read ++ tail) (two.first tail same));
        };
  };
}
