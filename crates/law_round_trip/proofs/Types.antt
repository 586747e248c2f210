-- The law of printing for types.
use Rattle.std.proofs.Common.{◌≡◌, inl, ℕ, Bool, true, false, if◌then◌else◌, List, [], ◌++◌, Some, None, refl, ap, append_assoc, append-nil, codes, option_map, sym, ◌∙◌}
use Rattle.tok_types.specs.declared.span.Span.{Span}
use Rattle.tok_types.specs.declared.tree.Delimiter.TheVariants as delimiter
use Rattle.tok_types.specs.declared.tree.TokenTree.TheVariants as tree
use Rattle.syn_grammar.specs.declared.look.TypeStart.{TypeStart}
use Rattle.syn_grammar.specs.declared.look.TypeStart.TheVariants as begin
use Rattle.syn_grammar.specs.declared.word.Word.TheVariants as word
use Rattle.syn_grammar.specs.Input.{Parser, ◌>>=◌, ◌>>◌, pure, here, skip, upto, expect}
use Rattle.syn_grammar.specs.Look.{type_start, type_word}
use Rattle.syn_grammar.specs.Make as make
use Rattle.syn_grammar.specs.Readers.{Readers, any_level}
use Rattle.syn_grammar.specs.Token.{ident_of, is_colon, is_equals, is_group, is_joint, is_pair, is_semicolon, lifetime_of, mark_of}
use Rattle.syn_grammar.specs.Types.{type_bracket, type_in_brackets, type_reference, type_pointer, type_trait_object, type_impl_trait, type_path, type_qualified, type_group, type_in_parentheses, type_by, type_step}
use Rattle.syn_grammar.specs.Words.{is_name, named_words, next_word, other_keywords, peek, word_of}
use Rattle.print_core.specs.Marks.{Trees, group, lifetime, mark, optional, tuple, word as printed_word}
use Rattle.print_core.specs.Nodes.{type_tokens}
use Rattle.law_spans.specs.Erased.{erased_type}
use Rattle.law_spans.proofs.Made.{bare_type-Tuple, bare_type-Paren, bare_type-Ptr, bare_type-TraitObject, bare_type-ImplTrait, bare_type-Path, bare_type_path-make, bare_type-Never, bare_type-Infer, bare_type-Array, bare_array-make, bare_type-Slice, bare_type-Reference}
use Rattle.law_prefix.specs.SameLookahead.{Relation, Any}
use Rattle.law_round_trip.specs.Follow.{AfterType, BeginsType, KeepsName, NotEnded, name_before}
use Rattle.law_round_trip.specs.Printed.{RoundTrips}
use Rattle.law_round_trip.proofs.Bounds.{bounds-back}
use Rattle.law_round_trip.proofs.Follows.{never, path-seen, type-end, type_before-mark, type-seen, unnamed, looser-end, no-semicolon, one_bound, Unliving}
use Rattle.law_round_trip.proofs.Functions.{type_fn_ptr-back}
use Rattle.law_round_trip.proofs.Groups.{inner-rest, tuple-long, tuple-single}
use Rattle.law_round_trip.proofs.Marks.{mark_of-mark, is_group-mark, next_word-mark, mark-length, word-length, sees-mut, lifetime_of-Lifetime, lifetime_of-word, next_word-group, no-group, out-Ident, sees-const}
use Rattle.law_round_trip.specs.Parts.{AllRoundTrip}
use Rattle.law_round_trip.proofs.Paths.{path-back}
use Rattle.law_round_trip.proofs.Prints.{print-tuple, print-paren, print-type_qualified, print-impl_trait, print-infer, print-never, print-ptr, print-trait_object, print-type_path, print-array, print-reference, print-slice}
use Rattle.law_round_trip.proofs.Qualified.{Pair, qualified-back}
use Rattle.law_round_trip.proofs.Steps.{Free, Rest, hole, refuse-rest, shown-rest, test-rest, whole, pure-rest, here-rest, then-rest, close-rest}
use Rattle.law_round_trip.proofs.Takes.{AtEnd, skip-rest, expect-rest, eat_or-rest, eat-rest, eat_as-rest, inside-rest, is_group-group}

-- a type begins so
abbrev pub Begin : TypeStart → Relation
Begin begins rest tail = (type_start tail ≡ begins) × KeepsName true rest tail

group-begin : (rest inner tail : Trees) (span : Span) → Begin begin.Parenthesis rest (group delimiter.Parenthesis inner span ++ tail)
unfolding type_start
group-begin rest inner tail span = (rw (is_group-group delimiter.Parenthesis inner tail span) refl, unnamed rest (group delimiter.Parenthesis inner span ++ tail) (next_word-group delimiter.Parenthesis inner tail span))

brackets-begin : (rest inner tail : Trees) (span : Span) → Begin begin.Bracket rest (group delimiter.Bracket inner span ++ tail)
unfolding type_start
brackets-begin rest inner tail span =
    (rw (no-group delimiter.Bracket delimiter.Parenthesis inner tail span refl, is_group-group delimiter.Bracket inner tail span) refl, unnamed rest (group delimiter.Bracket inner span ++ tail) (next_word-group delimiter.Bracket inner tail span))

and-begin : (rest tail : Trees) (span : Span) → Begin begin.Reference rest (mark (codes "&") span ++ tail)
unfolding type_start
and-begin rest tail span =
    (rw (is_group-mark 38 [] span tail delimiter.Parenthesis, is_group-mark 38 [] span tail delimiter.Bracket, mark_of-mark 38 [] span tail) refl, unnamed rest (mark (codes "&") span ++ tail) (next_word-mark 38 [] span tail))

star-begin : (rest tail : Trees) (span : Span) → Begin begin.Pointer rest (mark (codes "*") span ++ tail)
unfolding type_start
star-begin rest tail span =
    (rw (is_group-mark 42 [] span tail delimiter.Parenthesis, is_group-mark 42 [] span tail delimiter.Bracket, mark_of-mark 42 [] span tail) refl, unnamed rest (mark (codes "*") span ++ tail) (next_word-mark 42 [] span tail))

bang-begin : (rest tail : Trees) (span : Span) → Begin begin.Never rest (mark (codes "!") span ++ tail)
unfolding type_start
bang-begin rest tail span =
    (rw (is_group-mark 33 [] span tail delimiter.Parenthesis, is_group-mark 33 [] span tail delimiter.Bracket, mark_of-mark 33 [] span tail) refl, unnamed rest (mark (codes "!") span ++ tail) (next_word-mark 33 [] span tail))

-- a word alone
word-begin : (text : List ℕ) (begins : TypeStart) (rest tail : Trees) (span : Span) → type_word (word_of (record { text = text; raw = false; span = span })) ≡ begins → is_name (word_of (record { text = text; raw = false; span = span })) ≡ false
    → Begin begins rest (printed_word text span ++ tail)
unfolding type_start printed_word is_group mark_of is_pair is_joint next_word ident_of
word-begin text begins rest tail span is none = (
  rw (out-Ident (record { text = text; raw = false; span = span })) is,
  (
    never (name_before is_equals) rest (printed_word text span ++ tail) (rw (out-Ident (record { text = text; raw = false; span = span }), none) refl),
    never (name_before is_colon) rest (printed_word text span ++ tail) (rw (out-Ident (record { text = text; raw = false; span = span }), none) refl),
  ),
)

dyn-begin : (rest tail : Trees) (span : Span) → Begin begin.TraitObject rest (printed_word (codes "dyn") span ++ tail)
unfolding word_of named_words other_keywords
dyn-begin rest tail span = word-begin (codes "dyn") begin.TraitObject rest tail span refl refl

impl-begin : (rest tail : Trees) (span : Span) → Begin begin.ImplTrait rest (printed_word (codes "impl") span ++ tail)
unfolding word_of named_words other_keywords
impl-begin rest tail span = word-begin (codes "impl") begin.ImplTrait rest tail span refl refl

infer-begin : (rest tail : Trees) (span : Span) → Begin begin.Infer rest (printed_word (codes "_") span ++ tail)
unfolding word_of named_words other_keywords
infer-begin rest tail span = word-begin (codes "_") begin.Infer rest tail span refl refl

module _ (readers : Readers) (parts : AllRoundTrip readers) where
  type_in_brackets-back : (allow_plus : Bool) → RoundTrips erased_type type_tokens (Begin begin.Bracket) (AfterType allow_plus) (type_in_brackets readers)
  unfolding type_in_brackets type_bracket
  type_in_brackets-back allow_plus = whole (here-rest (λ span. inside-rest {Inner = Any} delimiter.Bracket (λ (place : Unit {0}). span)
      (then-rest {Second = AfterType true} (λ place. parts.ty true) (λ elem. eat_or-rest {Yes = Any} {No = AtEnd} 1 is_semicolon (λ place. mark (codes ";") span) (λ place. mark-length (codes ";") span) (λ place tail. rw (mark_of-mark 59 [] span tail) refl)
      (then-rest {Second = AtEnd} (λ place. parts.expr any_level) (λ len. pure-rest tt (make.type_array elem len span) (λ q. make.type_array q.0.1 q.1 q.0.0.1)
      (rw (print-array, append-nil, append_assoc) refl) (λ q ok. rw (bare_type-Array, bare_type-Array, bare_array-make, bare_array-make, ok.0.1, ok.1) refl))
      (λ rest tail f. rw f (λ other. looser-end any_level rest)) (λ rest tail f. tt))
      (pure-rest tt (make.type_slice elem span) (λ q. make.type_slice q.1 q.0.1) (rw (print-slice, append-nil) refl) (λ q ok. rw (bare_type-Slice, bare_type-Slice, ok.1) refl))
      (λ input tail place seen f. type_before-mark 59 refl refl refl refl span input.rest tail true)
      (λ rest tail seen f. rw f (no-semicolon, type-end true rest)))
      (λ rest tail f. f) (λ rest tail f. tt))
      (λ rest inner tail span seen f. brackets-begin rest inner tail span)))

  type_reference-back : (allow_plus : Bool) → RoundTrips erased_type type_tokens (Begin begin.Reference) (AfterType allow_plus) (type_reference readers)
  unfolding type_reference
  type_reference-back allow_plus = whole (here-rest (λ start. skip-rest {Second = Any} (λ place. mark (codes "&") place) (mark-length (codes "&"))
      (eat_as-rest {Second = λ o. Unliving} lifetime_of (λ o. optional (option_map lifetime o)) tree.Lifetime refl (λ it. refl) (λ rest tail it is. lifetime_of-Lifetime it tail) (λ it.
      eat-rest {Second = λ b. BeginsType} 1 (peek word.Mut) (λ place. printed_word (codes "mut") place) (word-length (codes "mut")) (λ place tail. rw (sees-mut place tail) refl) (λ mutable.
      then-rest {Second = AfterType allow_plus} (λ place. parts.ty false) (λ elem. close-rest start (λ q. q.0.1) (make.type_reference it mutable elem) (λ q. make.type_reference it mutable q.1)
      (λ span. rw (print-reference, append-nil, append_assoc, append_assoc) refl) (λ span other q ok. rw (bare_type-Reference, bare_type-Reference, ok.1) refl))
      (λ rest tail f. one_bound allow_plus rest tail f) (λ rest tail f. f))
      (λ input tail place seen f. lifetime_of-word (codes "mut") place tail)
      (λ rest tail seen f. ((type-seen tail f.0).mutable, (type-seen tail f.0).lifetime)))
      (λ input tail it is f. tt) (λ rest tail none f. (f, tt)))
      (λ input tail place f. and-begin input.rest tail place)))

  -- ---- pointers

  abbrev pointer_rest : Bool → Parser (Unit {0})
  pointer_rest mutable = if mutable then pure tt else expect 1 (peek word.Const)

  pointer_by : (allow_plus : Bool) (start : Span) (mutable : Bool)
      → Rest {P = Span} {Q = Unit {0} × Span} (λ q. Unit {0}) erased_type type_tokens (λ place more. mark (codes "*") place ++ ((if mutable then printed_word (codes "mut") place else []) ++ more)) (λ rest tail. mutable ≡ false → peek word.Mut tail ≡ false) (AfterType allow_plus)
      (pointer_rest mutable >>= (λ constant. readers.ty false >>= (λ elem. upto start >>= (λ span. pure (make.type_ptr mutable elem span)))))
      (λ q. pointer_rest mutable >>= (λ constant. readers.ty false >>= (λ elem. upto q.1 >>= (λ span. pure (make.type_ptr mutable elem span)))))
  pointer_by allow_plus start true = then-rest {Second = AfterType allow_plus} (λ place. parts.ty false) (λ elem. close-rest start (λ q. q.0.1) (make.type_ptr true elem) (λ q. make.type_ptr true q.1)
      (λ span. rw (print-ptr, append-nil, append_assoc) refl) (λ span other q ok. rw (bare_type-Ptr, bare_type-Ptr, ok.1) refl))
      (λ rest tail f. one_bound allow_plus rest tail f) (λ rest tail f h. absurd cc)
  pointer_by allow_plus start false = expect-rest {Second = BeginsType} 1 (peek word.Const) (λ place. printed_word (codes "const") place) (word-length (codes "const")) (λ place tail. rw (sees-const place tail) refl)
      (then-rest {Second = AfterType allow_plus} (λ place. parts.ty false) (λ elem. close-rest start (λ q. q.0.1) (make.type_ptr false elem) (λ q. make.type_ptr false q.1)
      (λ span. rw (print-ptr, append-nil, append_assoc) refl) (λ span other q ok. rw (bare_type-Ptr, bare_type-Ptr, ok.1) refl))
      (λ rest tail f. one_bound allow_plus rest tail f) (λ rest tail f. f))
      (λ input tail place seen f h. rw (sees-const place tail) refl)

  type_pointer-back : (allow_plus : Bool) → RoundTrips erased_type type_tokens (Begin begin.Pointer) (AfterType allow_plus) (type_pointer readers)
  unfolding type_pointer
  type_pointer-back allow_plus = whole (here-rest (λ start. skip-rest {Second = Any} (λ place. mark (codes "*") place) (mark-length (codes "*"))
      (eat-rest {Second = λ mutable rest tail. mutable ≡ false → peek word.Mut tail ≡ false} 1 (peek word.Mut) (λ place. printed_word (codes "mut") place) (word-length (codes "mut")) (λ place tail. rw (sees-mut place tail) refl) (pointer_by allow_plus start)
      (λ input tail place seen f. tt) (λ rest tail seen f. (f refl, tt)))
      (λ input tail place f. star-begin input.rest tail place)))

  -- ---- bounds, paths, and single tokens

  type_trait_object-back : (allow_plus : Bool) → RoundTrips erased_type type_tokens (Begin begin.TraitObject) (AfterType allow_plus) (type_trait_object readers allow_plus)
  unfolding type_trait_object
  type_trait_object-back allow_plus = whole (here-rest (λ start. skip-rest {Second = NotEnded} (λ place. printed_word (codes "dyn") place) (word-length (codes "dyn"))
      (then-rest {Second = AfterType allow_plus} (λ place. bounds-back readers parts allow_plus place) (λ found. close-rest start (λ q. q.0.1) (make.type_trait_object found) (λ q. make.type_trait_object q.1)
      (λ span. rw (print-trait_object, append-nil) refl) (λ span other q ok. rw (bare_type-TraitObject, bare_type-TraitObject, ok.1) refl))
      (λ rest tail f. f) (λ rest tail f. f))
      (λ input tail place f. dyn-begin input.rest tail place)))

  type_impl_trait-back : (allow_plus : Bool) → RoundTrips erased_type type_tokens (Begin begin.ImplTrait) (AfterType allow_plus) (type_impl_trait readers allow_plus)
  unfolding type_impl_trait
  type_impl_trait-back allow_plus = whole (here-rest (λ start. skip-rest {Second = NotEnded} (λ place. printed_word (codes "impl") place) (word-length (codes "impl"))
      (then-rest {Second = AfterType allow_plus} (λ place. bounds-back readers parts allow_plus place) (λ found. close-rest start (λ q. q.0.1) (make.type_impl_trait found) (λ q. make.type_impl_trait q.1)
      (λ span. rw (print-impl_trait, append-nil) refl) (λ span other q ok. rw (bare_type-ImplTrait, bare_type-ImplTrait, ok.1) refl))
      (λ rest tail f. f) (λ rest tail f. f))
      (λ input tail place f. impl-begin input.rest tail place)))

  type_path-back : (allow_plus : Bool) → RoundTrips erased_type type_tokens (Begin begin.Path) (AfterType allow_plus) (type_path readers)
  unfolding type_path
  type_path-back allow_plus = whole (here-rest (λ start.
      then-rest {Second = AfterType allow_plus} (λ (place : Span). path-back readers parts true) (λ found. close-rest start (λ q. q.0.1) (make.type_path None found) (λ q. make.type_path None q.1)
      (λ span. rw (print-type_path, append-nil) refl) (λ span other q ok. rw (bare_type-Path, bare_type-Path, bare_type_path-make, bare_type_path-make, ok.1) refl))
      (λ rest tail f. f.0) (λ rest tail f. ((path-seen tail f.0).start, f.1))))

  type_never-back : (allow_plus : Bool) → RoundTrips erased_type type_tokens (Begin begin.Never) (AfterType allow_plus) (here >>= (λ span. skip >> pure (make.type_never span)))
  type_never-back allow_plus = whole (here-rest (λ span. skip-rest {Second = AfterType allow_plus} (λ (place : Unit {0}). mark (codes "!") span) (λ place. mark-length (codes "!") span)
      (pure-rest tt (make.type_never span) (λ q. make.type_never q.1) (rw (print-never, append-nil) refl) (λ q ok. rw (bare_type-Never, bare_type-Never) refl)) (λ input tail place f. bang-begin input.rest tail span)))

  type_infer-back : (allow_plus : Bool) → RoundTrips erased_type type_tokens (Begin begin.Infer) (AfterType allow_plus) (here >>= (λ span. skip >> pure (make.type_infer span)))
  type_infer-back allow_plus = whole (here-rest (λ span. skip-rest {Second = AfterType allow_plus} (λ (place : Unit {0}). printed_word (codes "_") span) (λ place. word-length (codes "_") span)
      (pure-rest tt (make.type_infer span) (λ q. make.type_infer q.1) (rw (print-infer, append-nil) refl) (λ q ok. rw (bare_type-Infer, bare_type-Infer) refl)) (λ input tail place f. infer-begin input.rest tail span)))

  type_qualified-back : (allow_plus : Bool) → RoundTrips erased_type type_tokens (Begin begin.Qualified) (AfterType allow_plus) (type_qualified readers)
  unfolding type_qualified
  type_qualified-back allow_plus = whole (here-rest (λ start.
      then-rest {Second = AfterType allow_plus} (λ (place : Span). qualified-back readers parts true) (λ found. close-rest start (λ q. q.0.1) (make.type_path (Some found.0) found.1) (λ q. make.type_path (Some q.1.0) q.1.1)
      (λ span. rw (print-type_qualified, append-nil) refl)
      (λ span other q ok. rw (bare_type-Path, bare_type-Path, bare_type_path-make, bare_type_path-make, ap (λ (it : Pair). it.0) ok.1, ap (λ (it : Pair). it.1) ok.1) refl))
      (λ rest tail f. f.0) (λ rest tail f. f)))

  -- ---- parentheses

  type_in_parentheses-back : (allow_plus : Bool) → RoundTrips erased_type type_tokens (Begin begin.Parenthesis) (AfterType allow_plus) (type_in_parentheses readers)
  unfolding type_in_parentheses type_group
  type_in_parentheses-back allow_plus = whole (here-rest (λ span. inside-rest {Inner = Any} delimiter.Parenthesis (λ (place : Unit {0}). span)
      (inner-rest erased_type type_tokens (readers.ty true) (parts.ty true) (λ rest tail f. (type-seen tail f.0).some) (type-end true) (λ rest tail span. type_before-mark 44 refl refl refl refl span rest tail true)
      delimiter.Parenthesis tuple (λ span. refl) tuple-long make.type_tuple make.type_paren (inl tuple-single) print-tuple print-paren
      (λ one two span other same. rw (bare_type-Tuple, bare_type-Tuple, same) refl) (λ one two span other same. rw (bare_type-Paren, bare_type-Paren, same) refl) span)
      (λ rest inner tail span' seen f. group-begin rest inner tail span')))

  -- ---- all types

  -- what begins a type, by its kind
  abbrev Begun : TypeStart → Relation
  Begun begin.Nothing = λ rest tail. ⊥
  Begun begins = Begin begins

  type_by-rest : (allow_plus : Bool) (begins : TypeStart) → Rest {P = Unit {0}} {Q = Unit {0}} Free erased_type type_tokens hole (Begun begins) (AfterType allow_plus) (type_by readers allow_plus begins) (λ q. type_by readers allow_plus begins)
  type_by-rest allow_plus begin.Parenthesis = shown-rest tt (λ it. refl) (type_in_parentheses-back allow_plus)
  type_by-rest allow_plus begin.Bracket = shown-rest tt (λ it. refl) (type_in_brackets-back allow_plus)
  type_by-rest allow_plus begin.Never = shown-rest tt (λ it. refl) (type_never-back allow_plus)
  type_by-rest allow_plus begin.Infer = shown-rest tt (λ it. refl) (type_infer-back allow_plus)
  type_by-rest allow_plus begin.Reference = shown-rest tt (λ it. refl) (type_reference-back allow_plus)
  type_by-rest allow_plus begin.Pointer = shown-rest tt (λ it. refl) (type_pointer-back allow_plus)
  type_by-rest allow_plus begin.FnPtr = shown-rest tt (λ it. refl) (type_fn_ptr-back readers parts allow_plus)
  type_by-rest allow_plus begin.TraitObject = shown-rest tt (λ it. refl) (type_trait_object-back allow_plus)
  type_by-rest allow_plus begin.ImplTrait = shown-rest tt (λ it. refl) (type_impl_trait-back allow_plus)
  type_by-rest allow_plus begin.Qualified = shown-rest tt (λ it. refl) (type_qualified-back allow_plus)
  type_by-rest allow_plus begin.Path = shown-rest tt (λ it. refl) (type_path-back allow_plus)
  type_by-rest allow_plus begin.Nothing = refuse-rest

  begun : (begins : TypeStart) (rest tail : Trees) → type_start rest ≡ begins → Begun begins rest tail → (type_start tail ≡ begins) × BeginsType rest tail
  begun begin.Parenthesis rest tail is f = (f.0, (rw (f.0) refl, f.1))
  begun begin.Bracket rest tail is f = (f.0, (rw (f.0) refl, f.1))
  begun begin.Never rest tail is f = (f.0, (rw (f.0) refl, f.1))
  begun begin.Infer rest tail is f = (f.0, (rw (f.0) refl, f.1))
  begun begin.Reference rest tail is f = (f.0, (rw (f.0) refl, f.1))
  begun begin.Pointer rest tail is f = (f.0, (rw (f.0) refl, f.1))
  begun begin.FnPtr rest tail is f = (f.0, (rw (f.0) refl, f.1))
  begun begin.TraitObject rest tail is f = (f.0, (rw (f.0) refl, f.1))
  begun begin.ImplTrait rest tail is f = (f.0, (rw (f.0) refl, f.1))
  begun begin.Qualified rest tail is f = (f.0, (rw (f.0) refl, f.1))
  begun begin.Path rest tail is f = (f.0, (rw (f.0) refl, f.1))
  begun begin.Nothing rest tail is f = absurd f

  pub type_step-back : (allow_plus : Bool) → RoundTrips erased_type type_tokens BeginsType (AfterType allow_plus) (type_step readers allow_plus)
  unfolding type_step
  type_step-back allow_plus = whole (test-rest {by = Begun} type_start (type_by-rest allow_plus) (λ begins rest tail is f. begun begins rest tail is f))

  -- a type begins as the source's did
  pub type_start-back : (allow_plus : Bool) → RoundTrips erased_type type_tokens (λ rest tail. type_start tail ≡ type_start rest) (AfterType allow_plus) (type_step readers allow_plus)
  unfolding type_step
  type_start-back allow_plus = whole (test-rest {by = Begun} type_start (type_by-rest allow_plus) (λ begins rest tail is f. let begin = begun begins rest tail is f in (begin.0, begin.0 ∙ sym is)))
