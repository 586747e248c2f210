-- The law of printing for the arguments of a path's segments.
use Rattle.std.proofs.Common.{◌≡◌, Bool, true, false, ◌&&◌, if◌then◌else◌, List, [], ◌∷◌, ◌++◌, map, Some, None, refl, ap, sym, ◌∙◌, append_assoc, append-nil, codes}
use Rattle.std.proofs.lemmas.Option.{some_pair_parts}
use Rattle.tok_types.specs.declared.ident.Ident.{Ident}
use Rattle.tok_types.specs.declared.ident.Lifetime.{Lifetime}
use Rattle.tok_types.specs.declared.span.Span.{Span}
use Rattle.tok_types.specs.declared.tree.Delimiter.{Delimiter}
use Rattle.tok_types.specs.declared.tree.Delimiter.TheVariants as delimiter
use Rattle.tok_types.specs.declared.tree.TokenTree.TheVariants as tree
use Rattle.node_expr.specs.declared.path.PathArguments.TheVariants as made
use Rattle.node_expr.specs.declared.ty.ReturnType.TheVariants as return
use Rattle.syn_grammar.specs.declared.word.Word.TheVariants as word
use Rattle.syn_grammar.specs.Input.{Input, Parser, and_then, ◌>>◌, pure, skipped, after_eat, expect, take_as, inside, is_end}
use Rattle.node_expr.specs.declared.path.GenericArgument.TheVariants as generic
use Rattle.syn_grammar.specs.declared.look.ArgumentStart.{ArgumentStart}
use Rattle.syn_grammar.specs.declared.look.ArgumentStart.TheVariants as argument
use Rattle.syn_grammar.specs.declared.word.Word.{Word}
use Rattle.syn_grammar.specs.Look.{argument_name, argument_start, argument_word, begins_constant, is_there}
use Rattle.syn_grammar.specs.Paths.{list, angle_list, binder, return_type, parenthesized, assoc_const, assoc_type, constraint, argument_by, generic_argument}
use Rattle.syn_grammar.specs.Readers.{Readers, constant_level}
use Rattle.syn_grammar.specs.Token.{after_one, ident_of, is_arrow, is_colon, is_equals, is_group, is_less, is_pair, lifetime_of, literal_of, mark_of}
use Rattle.syn_grammar.specs.Words.{is_name, name_of, next_word, peek}
use Rattle.print_core.specs.declared.path.PathStyle.{PathStyle}
use Rattle.print_core.specs.Kinds.{printed_return}
use Rattle.print_core.specs.Marks.{Trees, comma, group, joined, lifetime, mark, word as printed_word}
use Rattle.print_core.specs.Nodes.{argument_tokens, arguments_tokens}
use Rattle.print_core.specs.Paths.{binder as printed_binder, return_of}
use Rattle.law_spans.specs.Erased.{erased_argument, erased_arguments, erased_output}
use Rattle.law_spans.proofs.Made.{bare_arguments-Parenthesized, bare_argument-AssocConst, bare_argument-AssocType, bare_argument-Constraint, bare_argument-Const, bare_argument-Ty}
use Rattle.law_prefix.specs.SameLookahead.{Relation, Any}
use Rattle.law_prefix.specs.ReadsByPrefix.{at}
use Rattle.law_round_trip.specs.Follow.{AfterType, BeginsExpr, BeginsType, Keep, Open, NotEnded, name_before}
use Rattle.law_round_trip.specs.Printed.{Again, Reads, Printed, RoundTrips}
use Rattle.law_round_trip.proofs.Follows.{keep-false, never, type-end, type_before-mark, type-seen, constant-seen}
use Rattle.law_round_trip.proofs.Lists.{items-printed, until-printed}
use Rattle.law_round_trip.proofs.Marks.{mark_of-mark, is_joint-mark, out-Ident, name-word, name_of-Ident, mark-length, word-length, lifetime_of-Lifetime, sees-for, is_arrow-arrow, mark_of-Lifetime}
use Rattle.law_round_trip.specs.Parts.{AllRoundTrip}
use Rattle.law_round_trip.proofs.Prints.{print-Parenthesized, print-AssocConst, print-AssocType, print-Constraint, print-Const, print-Lifetime, print-Ty}
use Rattle.law_round_trip.proofs.Steps.{Free, Rest, hole, whole, test-rest, pure-rest, here-rest, then-rest, close-rest, shown-rest}
use Rattle.law_round_trip.proofs.Takes.{eat_or-rest, skip-rest, take_as-rest, inside-rest, take_as-printed, skipped-over, is_group-group}

-- a list between delimiters, which the comma and the group put at one place
pub group-printed : {A C : Type 0} {bare : A → C} {print : A → Trees} {item other : Parser A} {G F Start End : Relation} (between : Delimiter) → Printed bare print G F item other → ((rest tail : Trees) → G rest tail → is_end tail ≡ false)
    → ((rest : Trees) → F rest []) → ((rest tail : Trees) (span : Span) → F rest (comma span ++ tail)) → (span : Span) → ((rest inner tail : Trees) (own : Span) → Start rest (group between inner own ++ tail))
    → Printed (map bare) (λ items. group between (joined (comma span) (map print items)) span) Start End (inside between (list item)) (inside between (list other))
group-printed {bare = bare} {print = print} {item = item} {other = other} between rule starts ends commas span begins =
    whole {P = Unit {0}} (inside-rest {Inner = Any} between (λ place. span) (shown-rest tt (λ items. refl) (items-printed bare print item other rule starts ends commas span)) (λ rest inner tail span' seen f. begins rest inner tail span'))

-- ---- lifetimes

lifetime-printed : Printed (λ (it : Lifetime). it) (λ it. tree.Lifetime it ∷ []) Open Any (take_as lifetime_of) (take_as lifetime_of)
lifetime-printed = take_as-printed lifetime_of tree.Lifetime (λ rest tail it is. lifetime_of-Lifetime it tail) (λ input tail it is f. (refl, rw (mark_of-Lifetime it tail) refl))

pub lifetimes-printed : (span : Span) → Printed (map (λ (it : Lifetime). it)) (λ items. joined (comma span) (map lifetime items) ++ mark (codes ">") span) Any Any (angle_list (take_as lifetime_of)) (angle_list (take_as lifetime_of))
lifetimes-printed span = until-printed (λ (it : Lifetime). it) (λ it. tree.Lifetime it ∷ []) 62 refl (take_as lifetime_of) (take_as lifetime_of) lifetime-printed (λ rest tail f. f) (λ rest tail span. tt) (λ rest tail span. tt) span

-- no `for` comes, and what is told
abbrev pub NoForBut : (Trees → Type 0) → Relation
NoForBut Sight rest tail = (peek word.For tail ≡ false) × Sight tail

map-same : (items : List Lifetime) → map (λ (it : Lifetime). it) items ≡ items
map-same [] = refl
map-same (it ∷ items) = ap (λ more. it ∷ more) (map-same items)

pub binder-printed : (Sight : Trees → Type 0) (span : Span) → ((tail : Trees) → Sight (printed_word (codes "for") span ++ tail)) → Printed (λ (it : List Lifetime). it) (λ lifetimes. printed_binder lifetimes span) (λ rest tail. Sight tail) (NoForBut Sight) binder binder
unfolding binder after_eat
binder-printed Sight span begins = record { of = λ input after found e. by input after found (peek word.For input.rest) e }
  where
    none : (input after : Input) → Reads (λ (it : List Lifetime). it) Sight (NoForBut Sight after.rest) binder [] []
    none input after = record { again = λ tail last f. record { value = []; new = last; is = rw (f.0) refl; same = refl }; first = λ tail f. f.1 }

    some : (input after : Input) (it : Lifetime) (items : List Lifetime) → Reads (map (λ (it : Lifetime). it)) (λ tail. Unit {0}) (λ tail. Unit {0}) (angle_list (take_as lifetime_of)) (joined (comma span) (map lifetime (it ∷ items)) ++ mark (codes ">") span) (it ∷ items)
        → Reads (λ (it : List Lifetime). it) Sight (NoForBut Sight after.rest) binder (printed_binder (it ∷ items) span) (it ∷ items)
    some input after it items one = record {
      again = λ tail last f. read tail last;
      first = λ tail f. rw (flat tail) (begins (mark (codes "<") span ++ (inner ++ tail)));
    }
      where
        inner : Trees
        inner = joined (comma span) (map lifetime (it ∷ items)) ++ mark (codes ">") span

        flat : (tail : Trees) → printed_binder (it ∷ items) span ++ tail ≡ printed_word (codes "for") span ++ (mark (codes "<") span ++ (inner ++ tail))
        flat tail = rw (append_assoc, append_assoc, append_assoc, append_assoc, append_assoc, append_assoc) refl

        read : (tail : Trees) (last : Span) → Again (λ (it : List Lifetime). it) binder (at (printed_binder (it ∷ items) span ++ tail) last) tail (it ∷ items)
        read tail last =
            let for = skipped-over 1 (printed_word (codes "for") span) (mark (codes "<") span ++ (inner ++ tail)) last (word-length (codes "for") span) in
            let less = skipped-over 1 (mark (codes "<") span) (inner ++ tail) for.0 (mark-length (codes "<") span) in
            let more = one.again tail less.0 tt in
            record {
              value = more.value;
              new = more.new;
              is = rw (flat tail, sees-for span (mark (codes "<") span ++ (inner ++ tail)), for.1, mark_of-mark 60 [] span (inner ++ tail), less.1) more.is;
              same = sym (map-same more.value) ∙ more.same ∙ map-same (it ∷ items);
            }

    found-by : (input after : Input) (items : List Lifetime) → Reads (map (λ (it : Lifetime). it)) (λ tail. Unit {0}) (λ tail. Unit {0}) (angle_list (take_as lifetime_of)) (joined (comma span) (map lifetime items) ++ mark (codes ">") span) items
        → Reads (λ (it : List Lifetime). it) Sight (NoForBut Sight after.rest) binder (printed_binder items span) items
    found-by input after [] one = none input after
    found-by input after (it ∷ items) one = some input after it items one

    by : (input after : Input) (found : List Lifetime) (b : Bool) → (if b then expect 1 is_less >> angle_list (take_as lifetime_of) else pure []) (after_eat 1 b input) ≡ Some (found, after)
        → Reads (λ (it : List Lifetime). it) Sight (NoForBut Sight after.rest) binder (printed_binder found span) found
    by input after found false e = rw (← (some_pair_parts [] found input after e).0) (none input after)
    by input after found true e = opened (is_less (skipped 1 input).rest) e
      where
        opened : (b : Bool) → and_then (if b then Some (tt {0}, skipped 1 (skipped 1 input)) else None) (λ _. angle_list (take_as lifetime_of)) ≡ Some (found, after)
            → Reads (λ (it : List Lifetime). it) Sight (NoForBut Sight after.rest) binder (printed_binder found span) found
        opened false e = absurd cc
        opened true e = found-by input after found ((lifetimes-printed span).of (skipped 1 (skipped 1 input)) after found e)

module _ (readers : Readers) (parts : AllRoundTrip readers) where
  pub return_type-back : (span : Span) → RoundTrips erased_output (λ it. return_of (printed_return it) span) (λ rest tail. Keep is_equals rest tail × Keep is_colon rest tail) (AfterType false) (return_type readers)
  unfolding return_type
  return_type-back span = whole {P = Unit {0}} (eat_or-rest {Yes = Any} {No = AfterType false} 2 is_arrow (λ place. mark (codes "->") span) (λ place. mark-length (codes "->") span) (λ place tail. is_arrow-arrow tail span)
      (then-rest {Second = AfterType false} (λ place. parts.ty false) (λ it. pure-rest tt (return.Ty it) (λ q. return.Ty q.1) (rw append-nil refl) (λ q ok. ap return.Ty ok.1)) (λ rest tail f. f) (λ rest tail f. tt))
      (pure-rest tt return.Default (λ q. return.Default) refl (λ q ok. refl))
      (λ input tail place seen f. (never is_equals input.rest (mark (codes "->") span ++ tail) (rw (mark_of-mark 45 (62 ∷ []) span tail) refl), never is_colon input.rest (mark (codes "->") span ++ tail) (rw (mark_of-mark 45 (62 ∷ []) span tail) refl)))
      (λ rest tail seen f. (keep-false is_arrow rest tail seen f.0.1.arrow, (f.0.1.equals, f.0.1.colon))))

  pub parenthesized-back : (style : PathStyle) (span : Span) → RoundTrips erased_arguments (λ it. arguments_tokens it style span) (λ rest tail. is_group delimiter.Parenthesis tail ≡ true) (AfterType false) (parenthesized readers)
  unfolding parenthesized
  parenthesized-back style span = whole (here-rest (λ start.
      then-rest {Middle = Any} {Second = Any} (λ place. group-printed {Start = λ rest tail. is_group delimiter.Parenthesis tail ≡ true} {End = Any} delimiter.Parenthesis (parts.ty true) (λ rest tail f. (type-seen tail f.0).some) (type-end true) (λ rest tail span. type_before-mark 44 refl refl refl refl span rest tail true) place (λ rest inner tail own. is_group-group delimiter.Parenthesis inner tail own)) (λ inputs.
      then-rest {Second = AfterType false} (λ place. return_type-back place) (λ output. close-rest start (λ q. q.0.0.1) (made.Parenthesized inputs output) (λ q. made.Parenthesized q.0.1 q.1)
      (λ own. rw (print-Parenthesized inputs output own style span, append-nil) refl) (λ own other q ok. rw (bare_arguments-Parenthesized, bare_arguments-Parenthesized, ok.0.1, ok.1) refl))
      (λ rest tail f. f) (λ rest tail f. tt))
      (λ rest tail f. tt) (λ rest tail f. f)))

-- ---- arguments in `<..>`

-- an argument that begins so
abbrev pub Argument : ArgumentStart → Relation
Argument begins rest tail = (argument_start tail ≡ begins) × Open rest tail

-- a name, and what it is a part of
abbrev pub Behind_name : ArgumentStart → Relation
Behind_name begins rest tail = argument_name tail ≡ begins

name-begin : (begins : ArgumentStart) (it : Ident) (rest source tail : Trees) → name_of source ≡ Some it → argument_name tail ≡ begins → Argument begins rest (tree.Ident it ∷ tail)
unfolding argument_start begins_constant lifetime_of literal_of is_group next_word ident_of mark_of
name-begin begins it rest source tail is h =
    let name = name-word source it is in
    (rw (out-Ident it, name) h, (refl, rw (out-Ident it) refl))

equals-name : (tail : Trees) (span : Span) (b : Bool) → begins_constant tail ≡ b → argument_name (mark (codes "=") span ++ tail) ≡ (if b then argument.AssocConst else argument.AssocType)
unfolding mark
equals-name tail span b is = rw (mark_of-mark 61 [] span tail, is) refl

colon-name : (tail : Trees) (span : Span) → argument_name (mark (codes ":") span ++ tail) ≡ argument.Constraint
unfolding is_pair
colon-name tail span = rw (mark_of-mark 58 [] span tail, is_joint-mark 58 [] span tail) refl

lifetime-begin : (it : Lifetime) (rest tail : Trees) → Argument argument.Lifetime rest (tree.Lifetime it ∷ tail)
unfolding argument_start
lifetime-begin it rest tail = (rw (lifetime_of-Lifetime it tail) refl, (refl, rw (mark_of-Lifetime it tail) refl))

constant-begin : (rest tail : Trees) → begins_constant tail ≡ true → Argument argument.Constant rest tail
unfolding argument_start
constant-begin rest tail h = let seen = constant-seen tail h in (rw (seen.lifetime, h) refl, (seen.some, seen.greater))

-- nothing that makes a name more than a type stands behind it
word-type : (it : Word) (behind : Trees) → argument_word it behind ≡ argument.Type → ((is_name it && is_equals behind) ≡ false) × ((is_name it && is_colon behind) ≡ false)
word-type word.Name behind h = by (is_equals behind) (is_colon behind) (begins_constant (after_one behind)) h
  where
    by : (equals colon constant : Bool) → (if equals then (if constant then argument.AssocConst else argument.AssocType) else (if colon then argument.Constraint else argument.Type)) ≡ argument.Type → (equals ≡ false) × (colon ≡ false)
    by true colon true h = absurd cc
    by true colon false h = absurd cc
    by false true constant h = absurd cc
    by false false constant h = (refl, refl)
word-type _ behind h = (refl, refl)

type-word : (it : Word) (behind : Trees) → (is_name it && is_equals behind) ≡ false → (is_name it && is_colon behind) ≡ false → argument_word it behind ≡ argument.Type
type-word word.Name behind equals colon = rw (equals, colon) refl
type-word _ behind equals colon = refl

start-word : (trees : Trees) → argument_start trees ≡ argument.Type → argument_word (next_word trees) (after_one trees) ≡ argument.Type
unfolding argument_start
start-word trees h = by (is_there (lifetime_of trees)) (begins_constant trees) h
  where
    by : (living constant : Bool) → (if living then argument.Lifetime else (if constant then argument.Constant else argument_word (next_word trees) (after_one trees))) ≡ argument.Type → argument_word (next_word trees) (after_one trees) ≡ argument.Type
    by true constant h = absurd cc
    by false true h = absurd cc
    by false false h = h

type-begin : (rest tail : Trees) → argument_start rest ≡ argument.Type → BeginsType rest tail → Argument argument.Type rest tail
unfolding argument_start
type-begin rest tail is f =
    let seen = type-seen tail f.0 in
    let source = word-type (next_word rest) (after_one rest) (start-word rest is) in
    let word = type-word (next_word tail) (after_one tail) (keep-false (name_before is_equals) rest tail source.0 f.1.0) (keep-false (name_before is_colon) rest tail source.1 f.1.1) in
    (rw (seen.lifetime, seen.constant) word, (seen.some, seen.greater))

-- what any argument is followed by
abbrev pub AfterArgument : Relation
AfterArgument = AfterType true

module _ (readers : Readers) (parts : AllRoundTrip readers) where
  assoc_const-back : RoundTrips erased_argument argument_tokens (Argument argument.AssocConst) AfterArgument (assoc_const readers)
  unfolding assoc_const
  assoc_const-back = whole (here-rest (λ start. take_as-rest {Second = Behind_name argument.AssocConst} name_of tree.Ident (λ rest tail it is. name_of-Ident rest tail it is) (λ name.
      skip-rest {Second = BeginsExpr constant_level} (λ place. mark (codes "=") place) (mark-length (codes "="))
      (then-rest {Second = AfterArgument} (λ place. parts.expr constant_level) (λ value. close-rest start (λ q. q.0.1) (λ span. generic.AssocConst name value span) (λ q span. generic.AssocConst name q.1 span)
      (λ span. rw (print-AssocConst, append-nil, append_assoc) refl) (λ span other q ok. rw (bare_argument-AssocConst, bare_argument-AssocConst, ok.1) refl))
      (λ rest tail f other. absurd cc) (λ rest tail f. f))
      (λ input tail place f. equals-name tail place true f.begins))
      (λ input tail name is f. name-begin argument.AssocConst name input.rest input.rest tail is f)))

  assoc_type-back : RoundTrips erased_argument argument_tokens (Argument argument.AssocType) AfterArgument (assoc_type readers)
  unfolding assoc_type
  assoc_type-back = whole (here-rest (λ start. take_as-rest {Second = Behind_name argument.AssocType} name_of tree.Ident (λ rest tail it is. name_of-Ident rest tail it is) (λ name.
      skip-rest {Second = BeginsType} (λ place. mark (codes "=") place) (mark-length (codes "="))
      (then-rest {Second = AfterArgument} (λ place. parts.ty true) (λ it. close-rest start (λ q. q.0.1) (λ span. generic.AssocType name it span) (λ q span. generic.AssocType name q.1 span)
      (λ span. rw (print-AssocType, append-nil, append_assoc) refl) (λ span other q ok. rw (bare_argument-AssocType, bare_argument-AssocType, ok.1) refl))
      (λ rest tail f. f) (λ rest tail f. f))
      (λ input tail place f. equals-name tail place false (type-seen tail f.0).constant))
      (λ input tail name is f. name-begin argument.AssocType name input.rest input.rest tail is f)))

  constraint-back : RoundTrips erased_argument argument_tokens (Argument argument.Constraint) AfterArgument (constraint readers)
  unfolding constraint
  constraint-back = whole (here-rest (λ start. take_as-rest {Second = Behind_name argument.Constraint} name_of tree.Ident (λ rest tail it is. name_of-Ident rest tail it is) (λ name.
      skip-rest {Second = NotEnded} (λ place. mark (codes ":") place) (mark-length (codes ":"))
      (then-rest {Second = AfterArgument} (λ place. parts.bounds place) (λ found. close-rest start (λ q. q.0.1) (λ span. generic.Constraint name found span) (λ q span. generic.Constraint name q.1 span)
      (λ span. rw (print-Constraint, append-nil, append_assoc) refl) (λ span other q ok. rw (bare_argument-Constraint, bare_argument-Constraint, ok.1) refl))
      (λ rest tail f. f) (λ rest tail f. f))
      (λ input tail place f. colon-name tail place))
      (λ input tail name is f. name-begin argument.Constraint name input.rest input.rest tail is f)))

  -- what begins an argument, by its kind
  abbrev Begun : ArgumentStart → Relation
  Begun argument.Type = BeginsType
  Begun argument.Lifetime = Argument argument.Lifetime
  Begun argument.Constant = Argument argument.Constant
  Begun argument.AssocConst = Argument argument.AssocConst
  Begun argument.AssocType = Argument argument.AssocType
  Begun argument.Constraint = Argument argument.Constraint

  argument_by-rest : (begins : ArgumentStart) → Rest {P = Unit {0}} {Q = Unit {0}} Free erased_argument argument_tokens hole (Begun begins) AfterArgument (argument_by readers begins) (λ q. argument_by readers begins)
  argument_by-rest argument.Lifetime = take_as-rest {Second = AfterArgument} lifetime_of tree.Lifetime (λ rest tail it is. lifetime_of-Lifetime it tail)
      (λ it. pure-rest tt (generic.Lifetime it) (λ q. generic.Lifetime it) (rw (print-Lifetime) refl) (λ q ok. refl)) (λ input tail it is f. lifetime-begin it input.rest tail)
  argument_by-rest argument.Constant = then-rest {Second = AfterArgument} (λ place. parts.expr constant_level)
      (λ it. pure-rest tt (generic.Const it) (λ q. generic.Const q.1) (rw (print-Const, append-nil) refl) (λ q ok. rw (bare_argument-Const, bare_argument-Const, ok.1) refl)) (λ rest tail f other. absurd cc) (λ rest tail f. constant-begin rest tail f.begins)
  argument_by-rest argument.AssocConst = shown-rest tt (λ it. refl) assoc_const-back
  argument_by-rest argument.AssocType = shown-rest tt (λ it. refl) assoc_type-back
  argument_by-rest argument.Constraint = shown-rest tt (λ it. refl) constraint-back
  argument_by-rest argument.Type = then-rest {Second = AfterArgument} (λ place. parts.ty true)
      (λ it. pure-rest tt (generic.Ty it) (λ q. generic.Ty q.1) (rw (print-Ty, append-nil) refl) (λ q ok. rw (bare_argument-Ty, bare_argument-Ty, ok.1) refl)) (λ rest tail f. f) (λ rest tail f. f)

  begun : (begins : ArgumentStart) (rest tail : Trees) → argument_start rest ≡ begins → Begun begins rest tail → (argument_start tail ≡ begins) × Open rest tail
  begun argument.Type rest tail is f = type-begin rest tail is f
  begun argument.Lifetime rest tail is f = f
  begun argument.Constant rest tail is f = f
  begun argument.AssocConst rest tail is f = f
  begun argument.AssocType rest tail is f = f
  begun argument.Constraint rest tail is f = f

  pub generic_argument-back : RoundTrips erased_argument argument_tokens Open AfterArgument (generic_argument readers)
  unfolding generic_argument
  generic_argument-back = whole (test-rest {by = Begun} argument_start argument_by-rest begun)

  pub generic_arguments-back : (span : Span) → RoundTrips (map erased_argument) (λ items. joined (comma span) (map argument_tokens items) ++ mark (codes ">") span) Any Any (angle_list (generic_argument readers))
  generic_arguments-back span = until-printed erased_argument argument_tokens 62 refl (generic_argument readers) (generic_argument readers) generic_argument-back (λ rest tail f. f)
      (λ rest tail span. type_before-mark 44 refl refl refl refl span rest tail true) (λ rest tail span. type_before-mark 62 refl refl refl refl span rest tail true) span
