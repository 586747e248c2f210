-- The law of printing for the types of functions.
use Rattle.std.proofs.Common.{◌≡◌, ℕ, Bool, true, false, ◌&&◌, if◌then◌else◌, List, [], ◌∷◌, ◌++◌, length, Option, Some, None, refl, sym, append_assoc, append-nil, codes}
use Rattle.tok_types.specs.declared.ident.Ident.{Ident}
use Rattle.tok_types.specs.declared.span.Span.{Span}
use Rattle.tok_types.specs.declared.tree.Delimiter.TheVariants as delimiter
use Rattle.tok_types.specs.declared.tree.TokenTree.TheVariants as tree
use Rattle.node_expr.specs.declared.ty.«Type».{«Type» as Ty}
use Rattle.node_expr.specs.declared.ty.NamedArg.{NamedArg}
use Rattle.syn_grammar.specs.declared.look.TypeStart.TheVariants as begin
use Rattle.syn_grammar.specs.declared.word.Word.{Word}
use Rattle.syn_grammar.specs.declared.word.Word.TheVariants as word
use Rattle.syn_grammar.specs.Input.{Parser, ◌>>=◌, pure, upto, is_end}
use Rattle.syn_grammar.specs.Look.{type_start, type_word}
use Rattle.syn_grammar.specs.Make as make
use Rattle.syn_grammar.specs.Readers.{Readers}
use Rattle.syn_grammar.specs.Token.{after_one, ident_of, is_colon, is_equals, is_group, is_joint, is_pair, mark_of}
use Rattle.syn_grammar.specs.Types.{arg_name_by, name_before_colon, named_arg, type_fn_ptr}
use Rattle.syn_grammar.specs.Words.{is_name, name_at, name_of, named_words, next_word, other_keywords, peek, word_at, word_of}
use Rattle.print_core.specs.Kinds.{named_arg_tokens}
use Rattle.print_core.specs.Marks.{Trees, mark, word as printed_word}
use Rattle.print_core.specs.Nodes.{type_tokens}
use Rattle.law_spans.specs.Erased.{erased_named_arg, erased_type}
use Rattle.law_spans.proofs.Made.{bare_type-FnPtr}
use Rattle.law_prefix.specs.SameLookahead.{Relation, Any}
use Rattle.law_round_trip.specs.Follow.{AfterType, BeginsType, KeepsName, NotEnded, name_before}
use Rattle.law_round_trip.specs.Printed.{RoundTrips}
use Rattle.law_round_trip.proofs.Arguments.{NoForBut, binder-printed, group-printed, return_type-back}
use Rattle.law_round_trip.proofs.Follows.{keep-false, never, one_bound, type-end, type_before-mark, type-seen}
use Rattle.law_round_trip.proofs.Marks.{mark_of-mark, is_joint-mark, mark-length, word-length, name_of-Ident, out-Ident}
use Rattle.law_round_trip.specs.Parts.{AllRoundTrip}
use Rattle.law_round_trip.proofs.Prints.{print-fn_ptr}
use Rattle.law_round_trip.proofs.Steps.{Rest, whole, here-rest, test-rest, then-rest, exact-rest, close-rest}
use Rattle.law_round_trip.proofs.Takes.{expect-rest, skip_by-rest}

-- ---- names before a colon

pub colon-mark : (tail : Trees) (span : Span) → is_colon (mark (codes ":") span ++ tail) ≡ true
unfolding is_pair
colon-mark tail span = rw (mark_of-mark 58 [] span tail, is_joint-mark 58 [] span tail) refl

named-colon : (rest tail : Trees) (name : Ident) (span : Span) → name_before_colon rest ≡ Some name → name_before_colon (tree.Ident name ∷ (mark (codes ":") span ++ tail)) ≡ Some name
unfolding name_before_colon
named-colon rest tail name span is = by (is_colon (after_one rest)) is
  where
    by : (b : Bool) → (if b then name_of rest else None) ≡ Some name → (if is_colon (mark (codes ":") span ++ tail) then name_of (tree.Ident name ∷ (mark (codes ":") span ++ tail)) else None) ≡ Some name
    by true e = rw (colon-mark tail span, name_of-Ident rest (mark (codes ":") span ++ tail) name e) refl
    by false e = absurd cc

-- no name before a colon is one where the first word is no name or no colon is behind it
name-none : (it : Word) (found : Option Ident) (colon : Bool) → (is_name it && colon) ≡ false → (if colon then name_at it found else None) ≡ None
name-none word.Name found true h = absurd cc
name-none word.Name found false h = refl
name-none _ found true h = refl
name-none _ found false h = refl

none-name : (found : Option Ident) (colon : Bool) → (if colon then name_at (word_at found) found else None) ≡ None → (is_name (word_at found) && colon) ≡ false
none-name None colon h = refl
none-name (Some it) colon h = by (word_of it) colon h
  where
    by : (found : Word) (colon : Bool) → (if colon then name_at found (Some it) else None) ≡ None → (is_name found && colon) ≡ false
    by word.Name true h = absurd cc
    by word.Name false h = refl
    by _ colon h = refl

unnamed-type : (rest tail : Trees) → name_before_colon rest ≡ None → BeginsType rest tail → name_before_colon tail ≡ None
unfolding name_before_colon name_of next_word
unnamed-type rest tail is f =
    name-none (word_at (ident_of tail)) (ident_of tail) (is_colon (after_one tail)) (keep-false (name_before is_colon) rest tail (none-name (ident_of rest) (is_colon (after_one rest)) is) f.1.1)

module _ (readers : Readers) (parts : AllRoundTrip readers) where
  abbrev named_rest : Span → Option Ident → Parser (NamedArg Ty)
  named_rest start name = readers.ty true >>= (λ ty. upto start >>= (λ span. pure (make.named_arg name ty span)))

  -- an argument begins so
  abbrev ArgBegin : Option Ident → Relation
  ArgBegin None = BeginsType
  ArgBegin (Some name) = λ rest tail. (is_end tail ≡ false) × (name_before_colon rest ≡ Some name → name_before_colon tail ≡ Some name)

  named_by : (start : Span) (name : Option Ident) → Rest {P = Span} {Q = Unit {0} × Span} (λ q. Unit {0}) erased_named_arg named_arg_tokens (λ place tokens. tokens) (ArgBegin name) (AfterType true)
      (arg_name_by name >>= named_rest start) (λ q. arg_name_by name >>= named_rest q.1)
  named_by start None = then-rest {Second = AfterType true} (λ place. parts.ty true) (λ it. close-rest start (λ q. q.0.1) (make.named_arg None it) (λ q. make.named_arg None q.1)
      (λ span. sym (append-nil (type_tokens it))) (λ span other q ok. rw (ok.1) refl)) (λ rest tail f. f) (λ rest tail f. f)
  named_by start (Some name) = skip_by-rest {Second = BeginsType} 2 (λ place. tree.Ident name ∷ mark (codes ":") place) (λ place. named-length name place)
      (then-rest {Second = AfterType true} (λ place. parts.ty true) (λ it. close-rest start (λ q. q.0.1) (make.named_arg (Some name) it) (λ q. make.named_arg (Some name) q.1)
      (λ span. rw append-nil refl) (λ span other q ok. rw (ok.1) refl)) (λ rest tail f. f) (λ rest tail f. f))
      (λ input tail place f. (refl, λ is. named-colon input.rest tail name place is))
    where
      named-length : (name : Ident) (place : Span) → length (tree.Ident name ∷ mark (codes ":") place) ≡ 2
      named-length name place = rw (mark-length (codes ":") place) refl

  seen_by : (name : Option Ident) (rest tail : Trees) → name_before_colon rest ≡ name → ArgBegin name rest tail → (name_before_colon tail ≡ name) × NotEnded rest tail
  seen_by None rest tail is f = (unnamed-type rest tail is f, (type-seen tail f.0).some)
  seen_by (Some name) rest tail is f = (f.1 is, f.0)

  named_arg-back : RoundTrips erased_named_arg named_arg_tokens NotEnded (AfterType true) (named_arg readers)
  unfolding named_arg
  named_arg-back = whole (here-rest (λ start. test-rest {by = ArgBegin} name_before_colon (named_by start) seen_by))

  -- ---- `fn`

  abbrev FnSight : Trees → Type 0
  FnSight trees = (type_start trees ≡ begin.FnPtr) × (is_name (next_word trees) ≡ false)

  fn-word : (text : List ℕ) (tail : Trees) (span : Span) → type_word (word_of (record { text = text; raw = false; span = span })) ≡ begin.FnPtr → is_name (word_of (record { text = text; raw = false; span = span })) ≡ false → FnSight (printed_word text span ++ tail)
  unfolding type_start printed_word is_group mark_of is_pair is_joint next_word ident_of
  fn-word text tail span is none = (rw (out-Ident (record { text = text; raw = false; span = span })) is, rw (out-Ident (record { text = text; raw = false; span = span })) none)

  for-sight : (span : Span) (tail : Trees) → FnSight (printed_word (codes "for") span ++ tail)
  unfolding word_of named_words other_keywords
  for-sight span tail = fn-word (codes "for") tail span refl refl

  fn-sight : (span : Span) (tail : Trees) → FnSight (printed_word (codes "fn") span ++ tail)
  unfolding word_of named_words other_keywords
  fn-sight span tail = fn-word (codes "fn") tail span refl refl

  sees-fn : (span : Span) (tail : Trees) → next_word (printed_word (codes "fn") span ++ tail) ≡ word.Fn
  unfolding printed_word next_word ident_of word_of named_words other_keywords
  sees-fn span tail = rw (out-Ident (record { text = codes "fn"; raw = false; span = span })) refl

  pub type_fn_ptr-back : (allow_plus : Bool) → RoundTrips erased_type type_tokens (λ rest tail. (type_start tail ≡ begin.FnPtr) × KeepsName true rest tail) (AfterType allow_plus) (type_fn_ptr readers)
  unfolding type_fn_ptr
  type_fn_ptr-back allow_plus = whole (here-rest (λ start.
      exact-rest {Second = NoForBut FnSight} (λ place. binder-printed FnSight place (for-sight place)) (λ lifetimes.
      expect-rest {Second = Any} 1 (peek word.Fn) (λ place. printed_word (codes "fn") place) (word-length (codes "fn")) (λ place tail. rw (sees-fn place tail) refl)
      (then-rest {Start = Any} {Middle = Any} {Second = Any} (λ place. group-printed delimiter.Parenthesis named_arg-back (λ rest tail f. f) (type-end true) (λ rest tail span. type_before-mark 44 refl refl refl refl span rest tail true) place (λ rest inner tail own. tt)) (λ inputs.
      then-rest {Second = AfterType allow_plus} (λ place. return_type-back readers parts place) (λ output. close-rest start (λ q. q.0.0.1) (make.type_fn_ptr lifetimes inputs output) (λ q. make.type_fn_ptr lifetimes q.0.1 q.1)
      (λ span. rw (print-fn_ptr, append-nil, append_assoc, append_assoc) refl) (λ span other q ok. rw (bare_type-FnPtr, bare_type-FnPtr, ok.0.1, ok.1) refl))
      (λ rest tail f. one_bound allow_plus rest tail f) (λ rest tail f. tt))
      (λ rest tail f. tt) (λ rest tail f. tt))
      (λ input tail place seen f. (rw (sees-fn place tail) refl, fn-sight place tail)))
      (λ rest tail f. f)
      (λ rest tail f. (f.0, (never (name_before is_equals) rest tail (rw (f.1) refl), never (name_before is_colon) rest tail (rw (f.1) refl))))))
