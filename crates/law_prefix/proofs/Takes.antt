-- The law of fronts for the steps that take tokens.
use Rattle.std.proofs.Common.{◌≡◌, ◌⊎◌, inl, inr, ℕ, zero, suc, ◌≤◌, ◌<◌, Bool, true, false, ◌==◌, if◌then◌else◌, List, [], ◌∷◌, ◌++◌, length, Option, Some, None, refl, arith, ap, sym, ◌∙◌}
use Rattle.std.proofs.lemmas.Bool.{and_parts, both_ways, cases_lt}
use Rattle.std.proofs.lemmas.Option.{some_pair_parts}
use Rattle.tok_types.specs.declared.span.Span.{Span}
use Rattle.tok_types.specs.declared.tree.Delimiter.{Delimiter}
use Rattle.tok_types.specs.declared.tree.TokenTree.{TokenTree, out-TokenTree}
use Rattle.tok_types.specs.declared.tree.TokenTree.TheOpen.{TokenTree-F}
use Rattle.syn_grammar.specs.Input.{Input, Outcome, Parser, and_then, ◌>>=◌, here, first_span, next, skipped, skip, skip_by, after_eat, eat, expect, taken, take_as, after_found, eat_as, is_end, finished, inside, start_of}
use Rattle.syn_grammar.specs.Token.{Layer, span_of, mark_in, is_group_in, is_group, contents_in, contents_of, mark_of, is_mark, is_joint, is_pair, is_closed_dots, is_turbofish, is_semicolon}
use Rattle.law_prefix.specs.SameLookahead.{Relation, Any, SameLookahead, more, closes_in}
use Rattle.law_prefix.specs.ReadsByPrefix.{at}
use Rattle.law_prefix.proofs.Looks.{like-refl, alike-behind, alike-closed, alike-mark}
use Rattle.law_prefix.proofs.Steps.{Begins, Took, FrontAt, Fronts, then_at-front, weak-front}

-- ---- several tokens

pub record Skips (count : ℕ) (trees : List TokenTree) (last : Span) : Type 0 where
  pub read : List TokenTree
  pub rest : List TokenTree
  pub new : Span
  pub is : trees ≡ read ++ rest
  pub sizes : length read ≡ count
  pub again : (tail : List TokenTree) (other : Span) → (newer : Span) × (skipped count (at (read ++ tail) other) ≡ at tail newer) × (last ≡ other → new ≡ newer) × (0 < count → new ≡ newer)

skips : (count : ℕ) (trees : List TokenTree) (last : Span) → count ≤ length trees → Skips count trees last
unfolding skipped next
skips zero trees last h = record { read = []; rest = trees; new = last; is = refl; sizes = refl; again = λ tail other. (other, refl, (λ h. h), (λ h. absurd (omega arith))) }
skips (suc count) [] last h = absurd (omega arith)
skips (suc count) (tree ∷ trees) last h =
    let more = skips count trees (span_of tree) (omega arith) in
    record { read = tree ∷ more.read; rest = more.rest; new = more.new; is = ap (λ trees. tree ∷ trees) more.is; sizes = ap suc more.sizes; again = λ tail other. let later = more.again tail (span_of tree) in (later.0, later.1, (λ h. later.2 refl), (λ h. later.2 refl)) }

begins-from : (some : Bool) (read : List TokenTree) → (some ≡ true → 0 < length read) → Begins some read
begins-from false read h = tt
begins-from true [] h = absurd (omega (arith, h refl))
begins-from true (tree ∷ trees) h = tt

-- a relation that the same tokens keep
abbrev pub Behind : Relation → Type 0
Behind Same = (read rest tail : List TokenTree) → Same rest tail → Same (read ++ rest) (read ++ tail)

skipped-took : {A : Type 0} {limit : ℕ} {Same : Relation} {some : Bool} {other : Parser A} (behind : Behind Same) (count : ℕ) (input after : Input) (found : A) → count ≤ length input.rest → skipped count input ≡ after
    → (some ≡ true → 0 < count) → ((trees : List TokenTree) (last : Span) → Same input.rest trees → other (at trees last) ≡ Some (found, skipped count (at trees last)))
    → Took limit Same Same some true other input after found
skipped-took {A} {limit} {Same} {some} {other} behind count input after found enough is begins reads =
    let skip = skips count input.rest input.last enough in
    let same = skip.again skip.rest input.last in
    let stands = sym is ∙ ap (λ trees. skipped count (at trees input.last)) skip.is ∙ same.1 ∙ ap (λ new. at skip.rest new) (sym (same.2 refl)) in
    rw stands (took skip)
  where
    took : (skip : Skips count input.rest input.last) → Took limit Same Same some true other input (at skip.rest skip.new) found
    took skip = record {
      read = skip.read;
      is = skip.is;
      begins = begins-from some skip.read (λ h. let more = begins h in rw skip.sizes more);
      again = λ tail last free alike fits.
          let anew = skip.again tail last in
          record { new = anew.0; reads = reads (skip.read ++ tail) last (rw skip.is (behind skip.read skip.rest tail alike)) ∙ ap (λ input. Some (found, input)) anew.1; kept = anew.2; taken = λ h. anew.3 (begins h) };
      first = λ tail alike. rw skip.is (behind skip.read skip.rest tail alike);
    }

pub skip_by_at-front : {limit : ℕ} {input : Input} (some : Bool) (count : ℕ) → (some ≡ true → 0 < count) → count ≤ length input.rest → FrontAt limit SameLookahead SameLookahead some true (skip_by count) (skip_by count) input
skip_by_at-front {limit} {input} some count begins enough = record {
  of = λ after found e.
      let both = some_pair_parts tt found (skipped count input) after e in
      skipped-took alike-behind count input after found enough both.1 begins (λ trees last alike. ap (λ value. Some (value, skipped count (at trees last))) both.0);
}

pub skip_at-front : {limit : ℕ} {input : Input} → 1 ≤ length input.rest → FrontAt limit SameLookahead SameLookahead true true skip skip input
unfolding skipped
skip_at-front enough = skip_by_at-front true 1 (λ _. omega arith) enough

pub expect_at-front : {limit : ℕ} {input : Input} (some : Bool) (count : ℕ) (holds : List TokenTree → Bool) → (some ≡ true → 0 < count)
    → ((rest tail : List TokenTree) → SameLookahead rest tail → holds rest ≡ holds tail) → ((trees : List TokenTree) → holds trees ≡ true → count ≤ length trees)
    → FrontAt limit SameLookahead SameLookahead some true (expect count holds) (expect count holds) input
expect_at-front {limit} {input} some count holds begins same enough = record { of = λ after found e. go (holds input.rest) refl after found e }
  where
    go : (b : Bool) → holds input.rest ≡ b → (after : Input) (found : Unit {0}) → ◌≡◌ {A = Outcome (Unit {0})} (if b then Some (tt, skipped count input) else None) (Some (found, after))
        → Took limit SameLookahead SameLookahead some true (expect count holds) input after found
    go false is after found e = absurd cc
    go true is after found e =
        let both = some_pair_parts tt found (skipped count input) after e in
        skipped-took alike-behind count input after found (enough input.rest is) both.1 begins (λ trees last alike. rw (← same input.rest trees alike, is) (ap (λ value. Some (value, skipped count (at trees last))) both.0))

eat_by_at-front : {limit : ℕ} {Same : Relation} {input : Input} (behind : Behind Same) (count : ℕ) (holds : List TokenTree → Bool)
    → ((rest tail : List TokenTree) → Same rest tail → holds rest ≡ holds tail) → ((trees : List TokenTree) → holds trees ≡ true → count ≤ length trees)
    → FrontAt limit Same Same false true (eat count holds) (eat count holds) input
unfolding after_eat
eat_by_at-front {limit} {Same} {input} behind count holds same enough = record { of = λ after found e. go (holds input.rest) refl after found e }
  where
    go : (b : Bool) → holds input.rest ≡ b → (after : Input) (found : Bool) → ◌≡◌ {A = Outcome Bool} (Some (b, if b then skipped count input else input)) (Some (found, after))
        → Took limit Same Same false true (eat count holds) input after found
    go false is after found e =
        let both = some_pair_parts false found input after e in
        rw (← both.0, ← both.1) (record {
          read = [];
          is = refl;
          begins = tt;
          again = λ tail last free alike fits. record { new = last; reads = rw (← same input.rest tail alike, is) refl; kept = λ h. h; taken = λ h. absurd cc };
          first = λ tail alike. alike;
        })
    go true is after found e =
        let both = some_pair_parts true found (skipped count input) after e in
        skipped-took behind count input after found (enough input.rest is) both.1 (λ h. absurd cc) (λ trees last alike. rw (← same input.rest trees alike, is, ← both.0) refl)

pub expect-front : {limit : ℕ} (some : Bool) (count : ℕ) (holds : List TokenTree → Bool) → (some ≡ true → 0 < count)
    → ((rest tail : List TokenTree) → SameLookahead rest tail → holds rest ≡ holds tail) → ((trees : List TokenTree) → holds trees ≡ true → count ≤ length trees)
    → Fronts limit SameLookahead SameLookahead some true (expect count holds) (expect count holds)
expect-front some count holds begins same enough = record { at = λ input. expect_at-front some count holds begins same enough }

pub eat_by-front : {limit : ℕ} {Same : Relation} (behind : Behind Same) (count : ℕ) (holds : List TokenTree → Bool)
    → ((rest tail : List TokenTree) → Same rest tail → holds rest ≡ holds tail) → ((trees : List TokenTree) → holds trees ≡ true → count ≤ length trees)
    → Fronts limit Same Same false true (eat count holds) (eat count holds)
eat_by-front behind count holds same enough = record { at = λ input. eat_by_at-front behind count holds same enough }

pub eat-front : {limit : ℕ} (count : ℕ) (holds : List TokenTree → Bool)
    → ((rest tail : List TokenTree) → SameLookahead rest tail → holds rest ≡ holds tail) → ((trees : List TokenTree) → holds trees ≡ true → count ≤ length trees)
    → Fronts limit SameLookahead SameLookahead false true (eat count holds) (eat count holds)
eat-front count holds same enough = eat_by-front alike-behind count holds same enough

-- ---- how many tokens there are

pub one-enough : (holds : List TokenTree → Bool) → holds [] ≡ false → (trees : List TokenTree) → holds trees ≡ true → 1 ≤ length trees
one-enough holds none [] h = absurd (both_ways _ none h)
one-enough holds none (tree ∷ trees) h = omega arith

pub pair-enough : (first second : ℕ) → (0 == second) ≡ false → (trees : List TokenTree) → is_pair first second trees ≡ true → 2 ≤ length trees
unfolding is_pair is_joint mark_of
pair-enough first second none [] h = absurd cc
pair-enough first second none (tree ∷ []) h = absurd (both_ways _ none (and_parts _ _ (and_parts _ _ h).1).1)
pair-enough first second none (tree ∷ other ∷ trees) h = omega arith

pub fish-enough : (trees : List TokenTree) → is_turbofish trees ≡ true → 3 ≤ length trees
unfolding mark_of
fish-enough [] h = absurd (omega (arith, pair-enough 58 58 refl [] (and_parts _ _ h).0))
fish-enough (one ∷ []) h = absurd (both_ways _ refl (and_parts _ _ h).1)
fish-enough (one ∷ two ∷ []) h = absurd (both_ways _ refl (and_parts _ _ h).1)
fish-enough (one ∷ two ∷ three ∷ trees) h = omega arith

pub closed_dots-enough : (trees : List TokenTree) → is_closed_dots trees ≡ true → 3 ≤ length trees
closed_dots-enough [] h = absurd (omega (arith, pair-enough 46 46 refl [] (and_parts _ _ h).0))
closed_dots-enough (tree ∷ trees) h = let two = pair-enough 46 61 refl trees (and_parts _ _ h).1 in omega (arith, two)

-- ---- marks

pub eat_mark-front : {limit : ℕ} (ch : ℕ) → (0 == ch) ≡ false → (44 == ch) ≡ false → Fronts limit SameLookahead SameLookahead false true (eat 1 (is_mark ch)) (eat 1 (is_mark ch))
unfolding mark_of
eat_mark-front ch none comma = eat-front 1 (is_mark ch) (alike-mark ch none comma) (one-enough (is_mark ch) none)

pub mark-front : {limit : ℕ} (ch : ℕ) → (0 == ch) ≡ false → (44 == ch) ≡ false → Fronts limit SameLookahead SameLookahead true true (expect 1 (is_mark ch)) (expect 1 (is_mark ch))
unfolding mark_of
mark-front ch none comma = expect-front true 1 (is_mark ch) (λ _. omega arith) (alike-mark ch none comma) (one-enough (is_mark ch) none)

-- ---- one token

alike-one : (tree : TokenTree) (rest tail : List TokenTree) → SameLookahead rest tail → SameLookahead (tree ∷ rest) (tree ∷ tail)
alike-one tree rest tail alike = more tree tree rest tail (like-refl (out-TokenTree tree)) alike

take_as_at-front : {A : Type 0} {limit : ℕ} {input : Input} (of : List TokenTree → Option A) → of [] ≡ None
    → ((tree : TokenTree) (rest tail : List TokenTree) → of (tree ∷ rest) ≡ of (tree ∷ tail)) → FrontAt limit SameLookahead SameLookahead true true (take_as of) (take_as of) input
unfolding next
take_as_at-front {A} {limit} {input} of none same = record { of = λ after found e. go input.rest input.last after found e }
  where
    by : (tree : TokenTree) (trees : List TokenTree) (last : Span) (o : Option A) → of (tree ∷ trees) ≡ o → (after : Input) (found : A) → taken o (at trees (span_of tree)) ≡ Some (found, after)
        → Took limit SameLookahead SameLookahead true true (take_as of) (at (tree ∷ trees) last) after found
    by tree trees last None is after found e = absurd cc
    by tree trees last (Some value) is after found e =
        let both = some_pair_parts value found (at trees (span_of tree)) after e in
        rw (← both.0, ← both.1) (record {
          read = tree ∷ [];
          is = refl;
          begins = tt;
          again = λ tail last free alike fits. record { new = span_of tree; reads = rw (← same tree trees tail, is) refl; kept = λ h. refl; taken = λ h. refl };
          first = λ tail alike. alike-one tree trees tail alike;
        })

    go : (trees : List TokenTree) (last : Span) (after : Input) (found : A) → take_as of (at trees last) ≡ Some (found, after) → Took limit SameLookahead SameLookahead true true (take_as of) (at trees last) after found
    go [] last after found e = let refused = rw none at e in absurd cc
    go (tree ∷ trees) last after found e = by tree trees last (of (tree ∷ trees)) refl after found e

pub take_as-front : {A : Type 0} {limit : ℕ} (of : List TokenTree → Option A) → of [] ≡ None
    → ((tree : TokenTree) (rest tail : List TokenTree) → of (tree ∷ rest) ≡ of (tree ∷ tail)) → Fronts limit SameLookahead SameLookahead true true (take_as of) (take_as of)
take_as-front of none same = record { at = λ input. take_as_at-front of none same }

-- a token that may be read, where more is
pub eat_as-front : {A B : Type 0} {limit : ℕ} {End : Relation} {next following : Option A → Parser B} (of : List TokenTree → Option A) → of [] ≡ None
    → ((tree : TokenTree) (rest tail : List TokenTree) → of (tree ∷ rest) ≡ of (tree ∷ tail))
    → ((found : Option A) → Fronts limit SameLookahead End true true (next found) (following found))
    → Fronts limit SameLookahead End true true (eat_as of >>= next) (eat_as of >>= following)
unfolding Rattle.syn_grammar.specs.Input.next
eat_as-front {A} {B} {limit} {End} {next} {following} of none same h = record { at = λ input. record { of = λ after found e. go input.rest input.last after found e } }
  where
    empty : (trees read rest tail : List TokenTree) → Begins true read → trees ≡ read ++ rest → of trees ≡ of (read ++ tail)
    empty trees [] rest tail begins is = absurd begins
    empty trees (tree ∷ read) rest tail begins is = rw is (same tree (read ++ rest) (read ++ tail))

    by : (trees : List TokenTree) (last : Span) (o : Option A) → of trees ≡ o → (after : Input) (found : B) → next o (after_found o (at trees last)) ≡ Some (found, after)
        → Took limit SameLookahead End true true (eat_as of >>= following) (at trees last) after found
    by trees last None is after found e =
        let two = ((h None).at (at trees last)).of after found e in
        record {
          read = two.read;
          is = two.is;
          begins = two.begins;
          again = λ tail last free alike fits.
              let again = two.again tail last free alike fits in
              record { new = again.new; reads = rw (← empty trees two.read after.rest tail two.begins two.is, is) again.reads; kept = again.kept; taken = again.taken };
          first = two.first;
        }
    by [] last (Some value) is after found e = let none = sym none ∙ is in absurd cc
    by (tree ∷ trees) last (Some value) is after found e =
        let two = ((h (Some value)).at (at trees (span_of tree))).of after found e in
        record {
          read = tree ∷ two.read;
          is = ap (λ trees. tree ∷ trees) two.is;
          begins = tt;
          again = λ tail last free alike fits.
              let again = two.again tail (span_of tree) (λ h. refl) alike (omega arith) in
              record { new = again.new; reads = rw (← same tree trees (two.read ++ tail), is) again.reads; kept = λ h. again.kept refl; taken = λ h. again.kept refl };
          first = λ tail alike. alike-one tree trees (two.read ++ tail) (two.first tail alike);
        }

    go : (trees : List TokenTree) (last : Span) (after : Input) (found : B) → (eat_as of >>= next) (at trees last) ≡ Some (found, after) → Took limit SameLookahead End true true (eat_as of >>= following) (at trees last) after found
    go trees last after found e = by trees last (of trees) refl after found e

-- a token before what is related is alike
abbrev pub Before : Relation → (List TokenTree → Bool) → Type 0
Before Behind holds = (tree : TokenTree) (rest tail : List TokenTree) → holds (tree ∷ rest) ≡ true → Behind rest tail → SameLookahead (tree ∷ rest) (tree ∷ tail)

pub any-before : (holds : List TokenTree → Bool) → Before SameLookahead holds
any-before holds tree rest tail is alike = alike-one tree rest tail alike

-- a token that may be there, and else more is read
pub eat_or_before-front : {A : Type 0} {limit : ℕ} {Behind End : Relation} {any : Bool} {one one' two two' : Parser A} (holds : List TokenTree → Bool) → holds [] ≡ false
    → ((tree : TokenTree) (rest tail : List TokenTree) → holds (tree ∷ rest) ≡ holds (tree ∷ tail)) → Before Behind holds
    → Fronts limit Behind End false any one one'
    → Fronts limit SameLookahead End true true two two'
    → Fronts limit SameLookahead End true true (eat 1 holds >>= (λ b. if b then one else two)) (eat 1 holds >>= (λ b. if b then one' else two'))
unfolding after_eat skipped Rattle.syn_grammar.specs.Input.next
eat_or_before-front {A} {limit} {Behind} {End} {any} {one} {one'} {two} {two'} holds none same before h g = record { at = λ input. record { of = λ after found e. by input.rest input.last (holds input.rest) refl after found e } }
  where
    whole : Parser A
    whole = eat 1 holds >>= (λ b. if b then one' else two')

    seen : (trees read rest tail : List TokenTree) → Begins true read → trees ≡ read ++ rest → holds trees ≡ holds (read ++ tail)
    seen trees [] rest tail begins is = absurd begins
    seen trees (tree ∷ read) rest tail begins is = rw is (same tree (read ++ rest) (read ++ tail))

    by : (trees : List TokenTree) (last : Span) (b : Bool) → holds trees ≡ b → (after : Input) (found : A)
        → (if b then one else two) (if b then skipped 1 (at trees last) else at trees last) ≡ Some (found, after) → Took limit SameLookahead End true true whole (at trees last) after found
    by trees last false is after found e =
        let two = (g.at (at trees last)).of after found e in
        record {
          read = two.read;
          is = two.is;
          begins = two.begins;
          again = λ tail last free alike fits.
              let again = two.again tail last free alike fits in
              record { new = again.new; reads = rw (← seen trees two.read after.rest tail two.begins two.is, is) again.reads; kept = again.kept; taken = again.taken };
          first = two.first;
        }
    by [] last true is after found e = absurd (both_ways _ none is)
    by (tree ∷ trees) last true is after found e =
        let two = (h.at (at trees (span_of tree))).of after found e in
        record {
          read = tree ∷ two.read;
          is = ap (λ trees. tree ∷ trees) two.is;
          begins = tt;
          again = λ tail last free alike fits.
              let again = two.again tail (span_of tree) (λ h. refl) alike (omega arith) in
              record { new = again.new; reads = rw (← same tree trees (two.read ++ tail), is) again.reads; kept = λ h. again.kept refl; taken = λ h. again.kept refl };
          first = λ tail alike. before tree trees (two.read ++ tail) is (two.first tail alike);
        }

pub eat_or-front : {A : Type 0} {limit : ℕ} {End : Relation} {any : Bool} {one one' two two' : Parser A} (holds : List TokenTree → Bool) → holds [] ≡ false
    → ((tree : TokenTree) (rest tail : List TokenTree) → holds (tree ∷ rest) ≡ holds (tree ∷ tail))
    → Fronts limit SameLookahead End false any one one'
    → Fronts limit SameLookahead End true true two two'
    → Fronts limit SameLookahead End true true (eat 1 holds >>= (λ b. if b then one else two)) (eat 1 holds >>= (λ b. if b then one' else two'))
eat_or-front holds none same h g = eat_or_before-front holds none same (any-before holds) h g

-- ---- groups, behind which anything may follow

group-closes : (between : Delimiter) (layer : Layer) → is_group_in between layer ≡ true → closes_in layer ≡ true
group-closes between (TokenTree-F.Group group) h = refl
group-closes between (TokenTree-F.Ident ident) h = absurd cc
group-closes between (TokenTree-F.Lifetime lifetime) h = absurd cc
group-closes between (TokenTree-F.Punct punct) h = absurd cc
group-closes between (TokenTree-F.Literal literal) h = absurd cc

finished-again : {A : Type 0} (outcome : Outcome A) (one after : Input) (found : A) → finished one outcome ≡ Some (found, after)
    → (one ≡ after) × ((other : Input) → finished other outcome ≡ Some (found, other))
finished-again None one after found e = absurd cc
finished-again {A} (Some pair) one after found e = by (is_end pair.1.rest) e
  where
    by : (b : Bool) → ◌≡◌ {A = Outcome A} (if b then Some (pair.0, one) else None) (Some (found, after)) → (one ≡ after) × ((other : Input) → ◌≡◌ {A = Outcome A} (if b then Some (pair.0, other) else None) (Some (found, other)))
    by true e = let both = some_pair_parts pair.0 found one after e in (both.1, λ other. ap (λ value. Some (value, other)) both.0)
    by false e = absurd cc

inside_any_at-front : {A : Type 0} {limit : ℕ} {input : Input} (between : Delimiter) (parser : Parser A) → FrontAt limit SameLookahead Any true true (inside between parser) (inside between parser) input
unfolding is_group contents_of next
inside_any_at-front {A} {limit} {input} between parser = record { of = λ after found e. go input.rest input.last after found e }
  where
    by : (tree : TokenTree) (trees : List TokenTree) (last : Span) (b : Bool) → is_group_in between (out-TokenTree tree) ≡ b → (after : Input) (found : A)
        → ◌≡◌ {A = Outcome A} (if b then finished (at trees (span_of tree)) (parser (start_of (contents_in (out-TokenTree tree)))) else None) (Some (found, after))
        → Took limit SameLookahead Any true true (inside between parser) (at (tree ∷ trees) last) after found
    by tree trees last false is after found e = absurd cc
    by tree trees last true is after found e =
        let same = finished-again (parser (start_of (contents_in (out-TokenTree tree)))) (at trees (span_of tree)) after found e in
        rw (← same.0) (record {
          read = tree ∷ [];
          is = refl;
          begins = tt;
          again = λ tail last free any fits. record { new = span_of tree; reads = rw is (same.1 (at tail (span_of tree))); kept = λ h. refl; taken = λ h. refl };
          first = λ tail any. alike-closed tree trees tail (group-closes between (out-TokenTree tree) is);
        })

    go : (trees : List TokenTree) (last : Span) (after : Input) (found : A) → inside between parser (at trees last) ≡ Some (found, after) → Took limit SameLookahead Any true true (inside between parser) (at trees last) after found
    go [] last after found e = absurd cc
    go (tree ∷ trees) last after found e = by tree trees last (is_group_in between (out-TokenTree tree)) refl after found e

pub inside_any-front : {A : Type 0} {limit : ℕ} (between : Delimiter) (parser : Parser A) → Fronts limit SameLookahead Any true true (inside between parser) (inside between parser)
inside_any-front between parser = record { at = λ input. inside_any_at-front between parser }

pub inside-front : {A : Type 0} {limit : ℕ} (between : Delimiter) (parser : Parser A) → Fronts limit SameLookahead SameLookahead true true (inside between parser) (inside between parser)
inside-front between parser = weak-front (λ rest tail alike. tt) (λ rest tail alike. alike) (inside_any-front between parser)

-- ---- marks, with what may follow

mark_before_at-front : {limit : ℕ} {End : Relation} {input : Input} (ch : ℕ) → (0 == ch) ≡ false → Before End (is_mark ch) → FrontAt limit SameLookahead End true true (expect 1 (is_mark ch)) (expect 1 (is_mark ch)) input
unfolding mark_of next skipped
mark_before_at-front {limit} {End} {input} ch some before = record { of = λ after found e. go input.rest input.last after found e }
  where
    by : (tree : TokenTree) (trees : List TokenTree) (last : Span) (b : Bool) → (mark_in (out-TokenTree tree) == ch) ≡ b → (after : Input) (found : Unit {0})
        → ◌≡◌ {A = Outcome (Unit {0})} (if b then Some (tt, at trees (span_of tree)) else None) (Some (found, after)) → Took limit SameLookahead End true true (expect 1 (is_mark ch)) (at (tree ∷ trees) last) after found
    by tree trees last false is after found e = absurd cc
    by tree trees last true is after found e =
        let both = some_pair_parts tt found (at trees (span_of tree)) after e in
        rw (← both.0, ← both.1) (record {
          read = tree ∷ [];
          is = refl;
          begins = tt;
          again = λ tail last free end fits. record { new = span_of tree; reads = rw is refl; kept = λ h. refl; taken = λ h. refl };
          first = λ tail end. before tree trees tail is end;
        })

    none : (b : Bool) (last : Span) (after : Input) (found : Unit {0}) → b ≡ false → ◌≡◌ {A = Outcome (Unit {0})} (if b then Some (tt, at [] last) else None) (Some (found, after)) → Took limit SameLookahead End true true (expect 1 (is_mark ch)) (at [] last) after found
    none false last after found is e = absurd cc
    none true last after found is e = absurd cc

    go : (trees : List TokenTree) (last : Span) (after : Input) (found : Unit {0}) → expect 1 (is_mark ch) (at trees last) ≡ Some (found, after) → Took limit SameLookahead End true true (expect 1 (is_mark ch)) (at trees last) after found
    go [] last after found e = none (0 == ch) last after found some e
    go (tree ∷ trees) last after found e = by tree trees last (mark_in (out-TokenTree tree) == ch) refl after found e

pub mark_before-front : {limit : ℕ} {End : Relation} (ch : ℕ) → (0 == ch) ≡ false → Before End (is_mark ch) → Fronts limit SameLookahead End true true (expect 1 (is_mark ch)) (expect 1 (is_mark ch))
mark_before-front ch some before = record { at = λ input. mark_before_at-front ch some before }

semicolon-closes : (layer : Layer) → (mark_in layer == 59) ≡ true → closes_in layer ≡ true
semicolon-closes (TokenTree-F.Punct punct) h = rw h refl
semicolon-closes (TokenTree-F.Group group) h = refl
semicolon-closes (TokenTree-F.Ident ident) h = absurd cc
semicolon-closes (TokenTree-F.Lifetime lifetime) h = refl
semicolon-closes (TokenTree-F.Literal literal) h = refl

-- `;`, behind which anything may follow
pub semicolon_any-front : {limit : ℕ} → Fronts limit SameLookahead Any true true (expect 1 is_semicolon) (expect 1 is_semicolon)
unfolding mark_of
semicolon_any-front = mark_before-front 59 refl (λ tree rest tail is any. alike-closed tree rest tail (semicolon-closes (out-TokenTree tree) is))

-- ---- tokens before more that is read

skipped-short : (count : ℕ) (trees : List TokenTree) (last : Span) → length trees < count → (skipped count (at trees last)).rest ≡ []
unfolding skipped next
skipped-short zero trees last h = absurd (omega arith)
skipped-short (suc count) [] last h = skipped-none count last
  where
    skipped-none : (count : ℕ) (last : Span) → (skipped count (at [] last)).rest ≡ []
    skipped-none zero last = refl
    skipped-none (suc count) last = skipped-none count last
skipped-short (suc count) (tree ∷ trees) last h = skipped-short count trees (span_of tree) (omega arith)

-- nothing begins where no token is
begins-none : {B : Type 0} (trees read rest : List TokenTree) → trees ≡ [] → trees ≡ read ++ rest → Begins true read → B
begins-none trees [] rest none is h = absurd h
begins-none trees (tree ∷ read) rest none is h = let e = sym none ∙ is in absurd (cc)

-- so many tokens, where more is read
pub skip_more-front : {A : Type 0} {limit : ℕ} {End : Relation} {free : Bool} {next following : Parser A} (count : ℕ) → Fronts limit SameLookahead End true free next following
    → Fronts limit SameLookahead End true free (skip_by count >>= (λ _. next)) (skip_by count >>= (λ _. following))
skip_more-front {A} {limit} {End} {free} {next} {following} count h = record { at = λ input. by input (cases_lt (length input.rest) count) }
  where
    by : (input : Input) → (length input.rest < count) ⊎ (count ≤ length input.rest) → FrontAt limit SameLookahead End true free (skip_by count >>= (λ _. next)) (skip_by count >>= (λ _. following)) input
    by input (inr enough) = then_at-front {Middle = SameLookahead} (skip_by_at-front false count (λ h. absurd cc) enough) (λ _. h)
    by input (inl short) = record {
      of = λ after found e.
          let took = (h.at (skipped count input)).of after found e in
          begins-none (skipped count input).rest took.read after.rest (skipped-short count input.rest input.last short) took.is took.begins;
    }

pub skip_then-front : {A : Type 0} {limit : ℕ} {End : Relation} {free : Bool} {next following : Parser A} → Fronts limit SameLookahead End true free next following
    → Fronts limit SameLookahead End true free (skip >>= (λ _. next)) (skip >>= (λ _. following))
unfolding skipped
skip_then-front h = skip_more-front 1 h

-- where something was seen that no end is, there is a token
pub seen-enough : {A : Type 0} (look : List TokenTree → A) (value : A) (trees : List TokenTree) → look trees ≡ value → (look [] ≡ value → ⊥) → 1 ≤ length trees
seen-enough look value [] is some = absurd (some is)
seen-enough look value (tree ∷ trees) is some = omega arith

-- ---- what stands from a mark on, where it does

pub here_eat-front : {A : Type 0} {limit : ℕ} {any : Bool} {next : Span → Parser A} {none : Parser A} (holds : List TokenTree → Bool) → holds [] ≡ false
    → ((rest tail : List TokenTree) → SameLookahead rest tail → holds rest ≡ holds tail)
    → ((start : Span) → Fronts limit SameLookahead SameLookahead false any (next start) (next start))
    → Fronts limit SameLookahead SameLookahead false true none none
    → Fronts limit SameLookahead SameLookahead false true (here >>= (λ start. eat 1 holds >>= (λ b. if b then next start else none))) (here >>= (λ start. eat 1 holds >>= (λ b. if b then next start else none)))
unfolding first_span after_eat skipped Rattle.syn_grammar.specs.Input.next
here_eat-front {A} {limit} {any} {next} {none} holds empty same h g = record { at = λ input. record { of = λ after found e. by input.rest input.last (holds input.rest) refl after found e } }
  where
    whole : Parser A
    whole = here >>= (λ start. eat 1 holds >>= (λ b. if b then next start else none))

    by : (trees : List TokenTree) (last : Span) (b : Bool) → holds trees ≡ b → (after : Input) (found : A)
        → (if b then next (first_span trees) else none) (if b then skipped 1 (at trees last) else at trees last) ≡ Some (found, after) → Took limit SameLookahead SameLookahead false true whole (at trees last) after found
    by trees last false is after found e =
        let two = (g.at (at trees last)).of after found e in
        record {
          read = two.read;
          is = two.is;
          begins = two.begins;
          again = λ tail last free alike fits.
              let again = two.again tail last free alike fits in
              record { new = again.new; reads = rw (← same trees (two.read ++ tail) (two.first tail alike), is) again.reads; kept = again.kept; taken = λ h. absurd cc };
          first = two.first;
        }
    by [] last true is after found e = absurd (both_ways _ empty is)
    by (tree ∷ trees) last true is after found e =
        let two = ((h (span_of tree)).at (at trees (span_of tree))).of after found e in
        record {
          read = tree ∷ two.read;
          is = ap (λ trees. tree ∷ trees) two.is;
          begins = tt;
          again = λ tail last free alike fits.
              let again = two.again tail (span_of tree) (λ h. refl) alike (omega arith) in
              record {
                new = again.new;
                reads = rw (← same (tree ∷ trees) (tree ∷ (two.read ++ tail)) (alike-one tree trees (two.read ++ tail) (two.first tail alike)), is) again.reads;
                kept = λ h. again.kept refl;
                taken = λ h. absurd cc;
              };
          first = λ tail alike. alike-one tree trees (two.read ++ tail) (two.first tail alike);
        }

-- ---- what stands behind tokens that are there

expected : {A : Type 0} (b : Bool) (stands input after : Input) (found : A) (one two : Parser A) → and_then (if b then Some (tt {0}, stands) else None) (λ _. one) ≡ Some (found, after)
    → (if b then one else two) (if b then stands else input) ≡ Some (found, after)
expected true stands input after found one two e = e
expected false stands input after found one two e = absurd cc

pub eaten-front : {A : Type 0} {limit : ℕ} {End : Relation} {some any : Bool} {input : Input} (one one' two two' : Parser A) (count : ℕ) (holds : List TokenTree → Bool) → holds input.rest ≡ true
    → FrontAt limit SameLookahead End some any (expect count holds >>= (λ _. one)) (expect count holds >>= (λ _. one')) input
    → FrontAt limit SameLookahead End some any (eat count holds >>= (λ b. if b then one else two)) (eat count holds >>= (λ b. if b then one' else two')) input
unfolding after_eat
eaten-front {input = input} one one' two two' count holds is h = record {
  of = λ after found e.
      let took = h.of after found (rw is (rw is at e)) in
      record {
        read = took.read;
        is = took.is;
        begins = took.begins;
        again = λ tail last free same fits.
            let again = took.again tail last free same fits in
            let anew = at (took.read ++ tail) last in
            record { new = again.new; reads = expected (holds anew.rest) (skipped count anew) anew (at tail again.new) found one' two' again.reads; kept = again.kept; taken = again.taken };
        first = took.first;
      };
}
