-- A pattern is read again from its tokens, whatever follows: it ends with a word or a group.
use Rattle.std.proofs.Common.{◌≡◌, ℕ, zero, suc, ◌≤◌, Bool, true, false, if◌then◌else◌, [], ◌∷◌, ◌++◌, length, Option, Some, None, refl, arith, ap, sym, ◌∙◌, append_assoc, length-append}
use Rattle.std.proofs.lemmas.Bool.{both_ways}
use Rattle.std.proofs.lemmas.Option.{some_pair_parts}
use Rattle.tok_types.specs.declared.ident.Ident.{Ident}
use Rattle.tok_types.specs.declared.span.Span.{Span}
use Rattle.tok_types.specs.declared.tree.Delimiter.{Delimiter}
use Rattle.tok_types.specs.declared.tree.Delimiter.TheVariants as delimiter
use Rattle.tok_types.specs.declared.tree.TokenTree.{TokenTree, out-TokenTree}
use Rattle.tok_types.specs.declared.tree.TokenTree.TheOpen.{TokenTree-F}
use Rattle.syn_grammar.specs.declared.word.Word.{Word}
use Rattle.syn_grammar.specs.declared.word.Word.TheVariants as word
use Rattle.syn_grammar.specs.Input.{Input, Outcome, Parser, and_then, ◌>>=◌, after_eat, skipped, next, taken, finished, inside, is_end, start_of, test}
use Rattle.syn_grammar.specs.Patterns.{ands_from, is_underscore, pattern, pattern_word, patterns_by, skip_ands}
use Rattle.syn_grammar.specs.Token.{Layer, contents_in, contents_of, ident_in, ident_of, is_and, is_group, mark_of, span_of}
use Rattle.syn_grammar.specs.Words.{name_of, next_word, is_word, peek, word_at}
use Rattle.print_core.specs.Marks.{Trees}
use Rattle.law_prefix.specs.SameLookahead.{Any}
use Rattle.law_prefix.specs.ReadsByPrefix.{at, ReadsByPrefix}
use Rattle.law_round_trip.proofs.Steps.{bind-at}

-- ---- the marks before it

and-none : is_and [] ≡ false
unfolding mark_of
and-none = refl

and-same : (tree : TokenTree) (trees tail : Trees) → is_and (tree ∷ trees) ≡ is_and (tree ∷ tail)
unfolding mark_of
and-same tree trees tail = refl

ands-stop : (turns : ℕ) (trees : Trees) (last : Span) → is_and trees ≡ false → ands_from turns (at trees last) ≡ Some (tt, at trees last)
unfolding ands_from after_eat
ands-stop zero trees last none = refl
ands-stop (suc turns) trees last none = rw none refl

ands-turn : (turns : ℕ) (tree : TokenTree) (trees : Trees) (last : Span) → is_and (tree ∷ trees) ≡ true → ands_from (suc turns) (at (tree ∷ trees) last) ≡ ands_from turns (at trees (span_of tree))
unfolding ands_from after_eat skipped next
ands-turn turns tree trees last some = rw some refl

ands-zero : (trees : Trees) (last : Span) → ands_from 0 (at trees last) ≡ Some (tt, at trees last)
unfolding ands_from
ands-zero trees last = refl

-- Marks that were taken are taken again, where no further one follows and there are turns enough.
record Marks (trees : Trees) (between : Input) : Type 0 where
  read : Trees
  is : trees ≡ read ++ between.rest
  again : (turns : ℕ) (tail : Trees) (last : Span) → is_and tail ≡ false → length (read ++ tail) ≤ turns → (new : Span) × (ands_from turns (at (read ++ tail) last) ≡ Some (tt, at tail new))

no-marks : (between : Input) → Marks between.rest between
no-marks between = record { read = []; is = refl; again = λ turns tail last none fits. (last, ands-stop turns tail last none) }

ands-again : (turns : ℕ) (trees : Trees) (last : Span) (between : Input) (done : Unit {0}) → ands_from turns (at trees last) ≡ Some (done, between) → Marks trees between
ands-again turns trees last between done e = by turns trees last (is_and trees) refl e
  where
    stopped : (trees : Trees) (last : Span) → ◌≡◌ {A = Outcome (Unit {0})} (Some (tt, at trees last)) (Some (done, between)) → Marks trees between
    stopped trees last e = rw (ap (λ (input : Input). input.rest) (some_pair_parts tt done (at trees last) between e).1) (no-marks between)

    by : (turns : ℕ) (trees : Trees) (last : Span) (b : Bool) → is_and trees ≡ b → ands_from turns (at trees last) ≡ Some (done, between) → Marks trees between
    by turns trees last false is e = stopped trees last (sym (ands-stop turns trees last is) ∙ e)
    by turns [] last true is e = absurd (both_ways _ and-none is)
    by zero (tree ∷ trees) last true is e = stopped (tree ∷ trees) last (sym (ands-zero (tree ∷ trees) last) ∙ e)
    by (suc turns) (tree ∷ trees) last true is e =
        let more = by turns trees (span_of tree) (is_and trees) refl (sym (ands-turn turns tree trees last is) ∙ e) in
        record { read = tree ∷ more.read; is = ap (λ trees. tree ∷ trees) more.is; again = go more }
      where
        go : (more : Marks trees between) (turns : ℕ) (tail : Trees) (last : Span) → is_and tail ≡ false → length (tree ∷ (more.read ++ tail)) ≤ turns → (new : Span) × (ands_from turns (at (tree ∷ (more.read ++ tail)) last) ≡ Some (tt, at tail new))
        go more zero tail last none fits = absurd (omega (arith, fits))
        go more (suc turns) tail last none fits =
            let rest = more.again turns tail (span_of tree) none (omega (arith, fits)) in
            (rest.0, ands-turn turns tree (more.read ++ tail) last (sym (and-same tree trees (more.read ++ tail)) ∙ is) ∙ rest.1)

-- ---- what ends it

-- Tokens that are read again, whatever follows. They begin with no `&`.
record Ends (parser : Parser (Unit {0})) (trees : Trees) (after : Input) : Type 0 where
  read : Trees
  is : trees ≡ read ++ after.rest
  some : is_end read ≡ false
  quiet : (tail : Trees) → is_and (read ++ tail) ≡ false
  again : (tail : Trees) (last : Span) → parser (at (read ++ tail) last) ≡ Some (tt, at tail after.last)

-- a word is no `&`
word-quiet : (tree : TokenTree) (tail : Trees) → (word_at (ident_in (out-TokenTree tree)) ≡ word.None → ⊥) → is_and (tree ∷ tail) ≡ false
unfolding mark_of
word-quiet tree tail some = by (out-TokenTree tree) refl
  where
    by : (layer : Layer) → out-TokenTree tree ≡ layer → is_and (tree ∷ tail) ≡ false
    by (TokenTree-F.Ident ident) is = rw is refl
    by (TokenTree-F.Lifetime lifetime) is = absurd (some (rw is refl))
    by (TokenTree-F.Literal literal) is = absurd (some (rw is refl))
    by (TokenTree-F.Group group) is = absurd (some (rw is refl))
    by (TokenTree-F.Punct punct) is = absurd (some (rw is refl))

group-quiet : (between : Delimiter) (tree : TokenTree) (trees tail : Trees) → is_group between (tree ∷ trees) ≡ true → is_and (tree ∷ tail) ≡ false
unfolding mark_of is_group
group-quiet between tree trees tail some = by (out-TokenTree tree) refl
  where
    by : (layer : Layer) → out-TokenTree tree ≡ layer → is_and (tree ∷ tail) ≡ false
    by (TokenTree-F.Group group) is = rw is refl
    by (TokenTree-F.Ident ident) is = let none = rw is at some in absurd cc
    by (TokenTree-F.Lifetime lifetime) is = let none = rw is at some in absurd cc
    by (TokenTree-F.Literal literal) is = let none = rw is at some in absurd cc
    by (TokenTree-F.Punct punct) is = let none = rw is at some in absurd cc

seen-some : (test : Word → Bool) → test word.None ≡ false → (tree : TokenTree) (trees : Trees) → test (next_word (tree ∷ trees)) ≡ true → word_at (ident_in (out-TokenTree tree)) ≡ word.None → ⊥
unfolding next_word ident_of
seen-some test none tree trees is same = both_ways _ (ap test same ∙ none) is

name-some : (tree : TokenTree) (trees : Trees) (it : Ident) → name_of (tree ∷ trees) ≡ Some it → word_at (ident_in (out-TokenTree tree)) ≡ word.None → ⊥
unfolding name_of next_word ident_of
name-some tree trees it is same = let none = rw same at is in absurd cc

word-same : (tree : TokenTree) (trees tail : Trees) → next_word (tree ∷ trees) ≡ next_word (tree ∷ tail)
unfolding next_word ident_of
word-same tree trees tail = refl

name-same : (tree : TokenTree) (trees tail : Trees) → name_of (tree ∷ trees) ≡ name_of (tree ∷ tail)
unfolding name_of next_word ident_of
name-same tree trees tail = refl

module _ (tree : TokenTree) (trees : Trees) (last : Span) where
  word-wild : is_underscore (next_word (tree ∷ trees)) ≡ true → pattern_word (at (tree ∷ trees) last) ≡ Some (tt, at trees (span_of tree))
  unfolding pattern_word after_eat skipped next
  word-wild wild = rw wild refl

  word-plain : is_underscore (next_word (tree ∷ trees)) ≡ false → peek word.Mut (tree ∷ trees) ≡ false → pattern_word (at (tree ∷ trees) last) ≡ and_then (taken (name_of (tree ∷ trees)) (at trees (span_of tree))) (λ name input. Some (tt, input))
  unfolding pattern_word after_eat skipped next
  word-plain wild mutable = rw (wild, mutable) refl

  word-mutable : is_underscore (next_word (tree ∷ trees)) ≡ false → peek word.Mut (tree ∷ trees) ≡ true → pattern_word (at (tree ∷ trees) last) ≡ and_then (taken (name_of trees) (next (at trees (span_of tree)))) (λ name input. Some (tt, input))
  unfolding pattern_word after_eat skipped next
  word-mutable wild mutable = rw (wild, mutable) refl

no-word : (last : Span) → pattern_word (at [] last) ≡ None
unfolding pattern_word after_eat next_word ident_of name_of
no-word last = refl

no-name : name_of [] ≡ None
unfolding name_of next_word ident_of
no-name = refl

module _ (after : Input) (done : Unit {0}) where
  -- one word
  name-ends : (tree : TokenTree) (trees : Trees) (found : Option Ident) → name_of (tree ∷ trees) ≡ found → is_underscore (next_word (tree ∷ trees)) ≡ false → peek word.Mut (tree ∷ trees) ≡ false
      → and_then (taken found (at trees (span_of tree))) (λ name input. Some (tt, input)) ≡ Some (done, after) → Ends pattern_word (tree ∷ trees) after
  name-ends tree trees None is wild mutable e = absurd cc
  name-ends tree trees (Some it) is wild mutable e = rw (← (some_pair_parts tt done (at trees (span_of tree)) after e).1) (record {
    read = tree ∷ [];
    is = refl;
    some = refl;
    quiet = λ tail. word-quiet tree tail (name-some tree trees it is);
    again = λ tail last. word-plain tree tail last (ap is_underscore (word-same tree tail trees) ∙ wild) (ap (is_word word.Mut) (word-same tree tail trees) ∙ mutable) ∙ rw (name-same tree tail trees, is) refl;
  })

  -- `mut` and a word
  mutable-ends : (tree : TokenTree) (trees : Trees) (found : Option Ident) → name_of trees ≡ found → is_underscore (next_word (tree ∷ trees)) ≡ false → peek word.Mut (tree ∷ trees) ≡ true
      → and_then (taken found (next (at trees (span_of tree)))) (λ name input. Some (tt, input)) ≡ Some (done, after) → Ends pattern_word (tree ∷ trees) after
  unfolding next
  mutable-ends tree trees None is wild mutable e = absurd cc
  mutable-ends tree [] (Some it) is wild mutable e = let none = sym no-name ∙ is in absurd cc
  mutable-ends tree (second ∷ trees) (Some it) is wild mutable e = rw (← (some_pair_parts tt done (at trees (span_of second)) after e).1) (record {
    read = tree ∷ (second ∷ []);
    is = refl;
    some = refl;
    quiet = λ tail. word-quiet tree (second ∷ tail) (seen-some (is_word word.Mut) refl tree (second ∷ trees) mutable);
    again = λ tail last.
        word-mutable tree (second ∷ tail) last (ap is_underscore (word-same tree (second ∷ tail) (second ∷ trees)) ∙ wild) (ap (is_word word.Mut) (word-same tree (second ∷ tail) (second ∷ trees)) ∙ mutable)
        ∙ rw (name-same second tail trees, is) refl;
  })

  word-ends : (trees : Trees) (last : Span) → pattern_word (at trees last) ≡ Some (done, after) → Ends pattern_word trees after
  word-ends [] last e = let none = sym (no-word last) ∙ e in absurd cc
  word-ends (tree ∷ trees) last e = by (is_underscore (next_word (tree ∷ trees))) refl (peek word.Mut (tree ∷ trees)) refl
    where
      by : (wild : Bool) → is_underscore (next_word (tree ∷ trees)) ≡ wild → (mutable : Bool) → peek word.Mut (tree ∷ trees) ≡ mutable → Ends pattern_word (tree ∷ trees) after
      by true wild mutable is = rw (← (some_pair_parts tt done (at trees (span_of tree)) after (sym (word-wild tree trees last wild) ∙ e)).1) (record {
        read = tree ∷ [];
        is = refl;
        some = refl;
        quiet = λ tail. word-quiet tree tail (seen-some is_underscore refl tree trees wild);
        again = λ tail last. word-wild tree tail last (ap is_underscore (word-same tree tail trees) ∙ wild);
      })
      by false wild false is = name-ends tree trees (name_of (tree ∷ trees)) refl wild is (sym (word-plain tree trees last wild is) ∙ e)
      by false wild true is = mutable-ends tree trees (name_of trees) refl wild is (sym (word-mutable tree trees last wild is) ∙ e)

-- a group is read from its token
module _ (between : Delimiter) (parser : Parser (Unit {0})) where
  finished-again : (outcome : Outcome (Unit {0})) (one after : Input) (done : Unit {0}) → finished one outcome ≡ Some (done, after) → (one ≡ after) × ((other : Input) → finished other outcome ≡ Some (tt, other))
  finished-again None one after done e = absurd cc
  finished-again (Some found) one after done e = by (is_end found.1.rest) refl e
    where
      by : (b : Bool) → is_end found.1.rest ≡ b → ◌≡◌ {A = Outcome (Unit {0})} (if b then Some (found.0, one) else None) (Some (done, after)) → (one ≡ after) × ((other : Input) → finished other (Some found) ≡ Some (tt, other))
      by true is e = ((some_pair_parts found.0 done one after e).1, λ other. rw is refl)
      by false is e = absurd cc

  inside-same : (tree : TokenTree) (trees : Trees) (last : Span) → is_group between (tree ∷ trees) ≡ true → inside between parser (at (tree ∷ trees) last) ≡ finished (at trees (span_of tree)) (parser (start_of (contents_in (out-TokenTree tree))))
  unfolding contents_of next
  inside-same tree trees last is = rw is refl

  inside-ends : (tree : TokenTree) (trees : Trees) (last : Span) (after : Input) (done : Unit {0}) → is_group between (tree ∷ trees) ≡ true → inside between parser (at (tree ∷ trees) last) ≡ Some (done, after) → Ends (inside between parser) (tree ∷ trees) after
  unfolding is_group
  inside-ends tree trees last after done is e =
      let both = finished-again (parser (start_of (contents_in (out-TokenTree tree)))) (at trees (span_of tree)) after done (sym (inside-same tree trees last is) ∙ e) in
      rw (← both.0) (record {
        read = tree ∷ [];
        is = refl;
        some = refl;
        quiet = λ tail. group-quiet between tree trees tail is;
        again = λ tail last. inside-same tree tail last is ∙ both.1 (at tail (span_of tree));
      })

-- ---- patterns

group-front : (between : Delimiter) (read rest tail : Trees) → is_end read ≡ false → is_group between (read ++ rest) ≡ is_group between (read ++ tail)
unfolding is_group
group-front between [] rest tail some = absurd cc
group-front between (tree ∷ read) rest tail some = refl

no-group : is_group delimiter.Parenthesis [] ≡ false
unfolding is_group
no-group = refl

some-length : (read more : Trees) → is_end more ≡ false → 1 ≤ length (read ++ more)
some-length read [] some = absurd cc
some-length read (tree ∷ more) some = omega (arith, length-append read (tree ∷ more))

-- marks before what is read again
behind-ands : (parser : Parser (Unit {0})) → ((trees : Trees) (last : Span) (after : Input) (done : Unit {0}) → parser (at trees last) ≡ Some (done, after) → Ends parser trees after) → ReadsByPrefix Any (skip_ands >>= (λ marks. parser))
behind-ands parser ends = record {
  of = λ input after found e.
      let parts = bind-at (skip_ands input) (λ marks. parser) found after e in
      let marks = ands-again (length input.rest) input.rest input.last parts.1 parts.0 parts.2 in
      let end = ends parts.1.rest parts.1.last after found parts.3 in
      record {
        read = marks.read ++ end.read;
        is = marks.is ∙ ap (λ trees. marks.read ++ trees) end.is ∙ sym (append_assoc marks.read end.read after.rest);
        some = some-length marks.read end.read end.some;
        again = λ tail last any.
            let first = marks.again (length (marks.read ++ (end.read ++ tail))) (end.read ++ tail) last (end.quiet tail) (omega arith) in
            rw (append_assoc marks.read end.read tail, first.1) (end.again tail first.0);
      };
}

pub pattern-front : (below : ℕ) → ReadsByPrefix Any (pattern below)
unfolding pattern
pattern-front zero = behind-ands pattern_word (λ trees last after done e. word-ends after done trees last e)
pattern-front (suc below) = behind-ands parser ends
  where
    inner : Parser (Unit {0})
    inner = inside delimiter.Parenthesis (patterns_by (pattern below))

    parser : Parser (Unit {0})
    parser = test (is_group delimiter.Parenthesis) >>= (λ grouped. if grouped then inner else pattern_word)

    ends : (trees : Trees) (last : Span) (after : Input) (done : Unit {0}) → parser (at trees last) ≡ Some (done, after) → Ends parser trees after
    ends trees last after done e = by (is_group delimiter.Parenthesis trees) refl e
      where
        worded : Ends pattern_word trees after → is_group delimiter.Parenthesis trees ≡ false → Ends parser trees after
        worded one is = record {
          read = one.read;
          is = one.is;
          some = one.some;
          quiet = one.quiet;
          again = λ tail last. rw (group-front delimiter.Parenthesis one.read tail after.rest one.some ∙ ap (is_group delimiter.Parenthesis) (sym one.is) ∙ is) (one.again tail last);
        }

        grouped : (trees : Trees) → is_group delimiter.Parenthesis trees ≡ true → inner (at trees last) ≡ Some (done, after) → Ends parser trees after
        grouped [] is e = absurd (both_ways _ no-group is)
        grouped (tree ∷ trees) is e =
            let one = inside-ends delimiter.Parenthesis (patterns_by (pattern below)) tree trees last after done is e in
            record {
              read = one.read;
              is = one.is;
              some = one.some;
              quiet = one.quiet;
              again = λ tail last. rw (group-front delimiter.Parenthesis one.read tail after.rest one.some ∙ ap (is_group delimiter.Parenthesis) (sym one.is) ∙ is) (one.again tail last);
            }

        by : (b : Bool) → is_group delimiter.Parenthesis trees ≡ b → (if b then inner else pattern_word) (at trees last) ≡ Some (done, after) → Ends parser trees after
        by true is e = grouped trees is e
        by false is e = worded (word-ends after done trees last e) is
