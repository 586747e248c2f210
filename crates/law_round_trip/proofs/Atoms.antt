-- The law of printing for atoms.
use Rattle.std.proofs.Common.{◌≡◌, inl, inr, Bool, true, false, if◌then◌else◌, [], ◌∷◌, ◌++◌, Some, None, refl, ap, sym, subst, ◌∙◌, append_assoc, append-nil, codes}
use Rattle.std.proofs.lemmas.Bool.{eqb-true}
use Rattle.std.proofs.lemmas.Option.{some_pair_parts}
use Rattle.tok_types.specs.declared.span.Span.{Span}
use Rattle.tok_types.specs.declared.tree.Delimiter.TheVariants as delimiter
use Rattle.tok_types.specs.declared.tree.TokenTree.TheVariants as tree
use Rattle.node_expr.specs.declared.expr.Expr.{Expr}
use Rattle.node_expr.specs.declared.expr.Expr.TheVariants as expr
use Rattle.node_expr.specs.declared.lit.Lit.TheVariants as lit
use Rattle.syn_grammar.specs.declared.look.AtomStart.{AtomStart}
use Rattle.syn_grammar.specs.declared.look.AtomStart.TheVariants as atom
use Rattle.syn_grammar.specs.declared.word.Word.{Word}
use Rattle.syn_grammar.specs.declared.word.Word.TheVariants as word
use Rattle.syn_grammar.specs.Expressions.{lit_bool, expr_bool, literal, expr_group, expr_elements, expr_bracket, expr_in_parentheses, expr_in_brackets, expr_path, expr_qualified, invisible}
use Rattle.syn_grammar.specs.Input.{Parser, ◌>>=◌, ◌>>◌, ◌<$>◌, pure, next, first_span, here, skip, skipped, eat, is_end, items_after}
use Rattle.syn_grammar.specs.Literals.{lit_of}
use Rattle.syn_grammar.specs.Look.{atom_start}
use Rattle.syn_grammar.specs.Make as make
use Rattle.syn_grammar.specs.Readers.{Readers, any_level}
use Rattle.syn_grammar.specs.Token.{ident_of, is_comma, is_semicolon, literal_of, mark_of}
use Rattle.syn_grammar.specs.Words.{named_words, next_word, other_keywords, word_of}
use Rattle.print_core.specs.Marks.{Trees, comma, group, joined, mark, tuple, word as printed_word}
use Rattle.print_core.specs.Nodes.{expr_tokens}
use Rattle.law_spans.specs.Erased.{erased_expr}
use Rattle.law_spans.proofs.Made.{bare_expr-Array, bare_expr-Group, bare_expr-Infer, bare_expr-Lit, bare_expr-Paren, bare_expr-Path, bare_expr-Repeat, bare_expr-Tuple, bare_expr_path-make}
use Rattle.law_prefix.specs.SameLookahead.{Relation, Any, stops}
use Rattle.law_round_trip.specs.Follow.{AfterExpr, AfterPath}
use Rattle.law_round_trip.specs.Parts.{AllRoundTrip}
use Rattle.law_round_trip.specs.Printed.{Reads, RoundTrips}
use Rattle.law_round_trip.proofs.Exprs.{print-Array, print-bool, print-expr_path, print-expr_qualified, print-Group, print-Infer, print-literal, print-Paren, print-Repeat, print-Tuple}
use Rattle.law_round_trip.proofs.Follows.{no-semicolon}
use Rattle.law_round_trip.proofs.Groups.{Filled, filled-seen, inner-rest, others-rest, tuple-long, tuple-single}
use Rattle.law_round_trip.proofs.Infix.{expr-end, expr_before-comma, expr_before-semicolon}
use Rattle.law_round_trip.proofs.Marks.{mark-length, mark_of-mark, out-Ident, word-length}
use Rattle.law_round_trip.proofs.Paths.{path-back}
use Rattle.law_round_trip.proofs.Qualified.{Pair, qualified-back}
use Rattle.law_round_trip.proofs.AtomStarts.{expr-some, group-atom, literal-atom, literal_of-Literal, path-atom, qualified-atom, word-atom}
use Rattle.law_round_trip.proofs.Steps.{Rest, whole, pure-rest, here-rest, test-rest, then-rest, close-rest, weak-rest}
use Rattle.law_round_trip.proofs.Takes.{AtEnd, eat_or-rest, inside-rest, skip-rest, skipped-over, take_as-rest}

-- an atom that begins so
abbrev pub Atom : AtomStart → Relation
Atom begins rest tail = atom_start tail ≡ begins

-- ---- literals, and single words

pub literal-back : RoundTrips erased_expr expr_tokens (Atom atom.Literal) Any literal
unfolding literal
literal-back = whole {P = Unit {0}} (take_as-rest {Second = Any} literal_of tree.Literal (λ rest tail it is. literal_of-Literal it tail)
    (λ it. pure-rest tt (expr.Lit (lit_of it)) (λ q. expr.Lit (lit_of it)) (print-literal it) (λ q ok. refl)) (λ input tail it is f. literal-atom it tail))

abbrev pub is_true : Word → Bool
is_true word.True = true
is_true _ = false

abbrev truth : Bool → Span → Expr
truth value span = expr.Lit (lit.Bool (record { value = value; span = span }))

lit_bool-is : (it : Word) (span : Span) → lit_bool it span ≡ truth (is_true it) span
lit_bool-is word.True span = refl
lit_bool-is _ span = refl

-- `true` or `false` as it is printed
abbrev pub truth_tokens : Bool → Span → Trees
truth_tokens value span = printed_word (if value then codes "true" else codes "false") span

abbrev pub truth_word : Bool → Word
truth_word true = word.True
truth_word false = word.False

pub sees-truth : (value : Bool) (span : Span) (tail : Trees) → next_word (truth_tokens value span ++ tail) ≡ truth_word value
unfolding printed_word next_word ident_of word_of named_words other_keywords
sees-truth true span tail = rw (out-Ident (record { text = codes "true"; raw = false; span = span })) refl
sees-truth false span tail = rw (out-Ident (record { text = codes "false"; raw = false; span = span })) refl

is_true-truth : (value : Bool) → is_true (truth_word value) ≡ value
is_true-truth true = refl
is_true-truth false = refl

truth-atom : (value : Bool) (span : Span) (tail : Trees) → atom_start (truth_tokens value span ++ tail) ≡ atom.Bool
unfolding word_of named_words other_keywords
truth-atom true span tail = word-atom (codes "true") span tail
truth-atom false span tail = word-atom (codes "false") span tail

pub expr_bool-back : RoundTrips erased_expr expr_tokens (Atom atom.Bool) Any expr_bool
unfolding expr_bool next skipped
expr_bool-back = record {
  of = λ input after found e.
      let both = some_pair_parts (lit_bool (next_word input.rest) (first_span input.rest)) found (next input) after e in
      subst (λ found. Reads erased_expr (λ tail. atom_start tail ≡ atom.Bool) (λ tail. Unit {0}) expr_bool (expr_tokens found) found) (sym (lit_bool-is (next_word input.rest) (first_span input.rest)) ∙ both.0) (read (is_true (next_word input.rest)) (first_span input.rest));
}
  where
    read : (value : Bool) (span : Span) → Reads erased_expr (λ tail. atom_start tail ≡ atom.Bool) (λ tail. Unit {0}) expr_bool (expr_tokens (truth value span)) (truth value span)
    read value span = rw (print-bool value span) (record {
      again = λ tail last f.
          let tokens = truth_tokens value span in
          let stands = skipped-over 1 tokens tail last (word-length (if value then codes "true" else codes "false") span) in
          record {
            value = lit_bool (next_word (tokens ++ tail)) (first_span (tokens ++ tail));
            new = stands.0;
            is = ap (λ input. Some (lit_bool (next_word (tokens ++ tail)) (first_span (tokens ++ tail)), input)) stands.1;
            same = rw (lit_bool-is (next_word (tokens ++ tail)) (first_span (tokens ++ tail)), sees-truth value span tail, is_true-truth value, bare_expr-Lit, bare_expr-Lit) refl;
          };
      first = λ tail f. truth-atom value span tail;
    })

-- `_`
infer-atom : (span : Span) (tail : Trees) → atom_start (printed_word (codes "_") span ++ tail) ≡ atom.Infer
unfolding word_of named_words other_keywords
infer-atom span tail = word-atom (codes "_") span tail

pub infer-back : RoundTrips erased_expr expr_tokens (Atom atom.Infer) Any (here >>= (λ span. skip >> pure (expr.Infer span)))
infer-back = whole (here-rest (λ span. skip-rest {Second = Any} (λ (place : Unit {0}). printed_word (codes "_") span) (λ place. word-length (codes "_") span)
    (pure-rest tt (expr.Infer span) (λ q. expr.Infer q.1) (rw (print-Infer, append-nil) refl) (λ q ok. rw (bare_expr-Infer, bare_expr-Infer) refl)) (λ input tail place f. infer-atom span tail)))

module _ (readers : Readers) (parts : AllRoundTrip readers) where
  -- ---- paths

  pub expr_path-back : RoundTrips erased_expr expr_tokens (Atom atom.Path) (AfterPath false) (expr_path readers)
  unfolding expr_path
  expr_path-back = whole (here-rest (λ start.
      then-rest {Second = AfterPath false} (λ (place : Span). path-back readers parts false) (λ found. close-rest start (λ q. q.0.1) (make.expr_path None found) (λ q. make.expr_path None q.1)
      (λ span. rw (print-expr_path, append-nil) refl) (λ span other q ok. rw (bare_expr-Path, bare_expr-Path, bare_expr_path-make, bare_expr_path-make, ok.1) refl))
      (λ rest tail f. f) (λ rest tail f. path-atom tail f.0)))

  pub expr_qualified-back : RoundTrips erased_expr expr_tokens (Atom atom.Qualified) (AfterPath false) (expr_qualified readers)
  unfolding expr_qualified
  expr_qualified-back = whole (here-rest (λ start.
      then-rest {Second = AfterPath false} (λ (place : Span). qualified-back readers parts false) (λ found. close-rest start (λ q. q.0.1) (make.expr_path (Some found.0) found.1) (λ q. make.expr_path (Some q.1.0) q.1.1)
      (λ span. rw (print-expr_qualified, append-nil) refl)
      (λ span other q ok. rw (bare_expr-Path, bare_expr-Path, bare_expr_path-make, bare_expr_path-make, ap (λ (it : Pair). it.0) ok.1, ap (λ (it : Pair). it.1) ok.1) refl))
      (λ rest tail f. f) (λ rest tail f. qualified-atom tail f.0)))

  -- ---- groups

  pub parentheses-back : RoundTrips erased_expr expr_tokens (Atom atom.Parenthesis) Any (expr_in_parentheses readers)
  unfolding expr_in_parentheses expr_group
  parentheses-back = whole (here-rest (λ span. inside-rest {Inner = Any} delimiter.Parenthesis (λ (place : Unit {0}). span)
      (inner-rest erased_expr expr_tokens (readers.expr any_level) (parts.expr any_level) (λ rest tail f. expr-some any_level tail f.begins) (λ rest. expr-end any_level rest) (λ rest tail span. expr_before-comma any_level rest tail span)
      delimiter.Parenthesis tuple (λ span. refl) tuple-long expr.Tuple expr.Paren (inl tuple-single) print-Tuple print-Paren
      (λ one two span other same. rw (bare_expr-Tuple, bare_expr-Tuple, same) refl) (λ one two span other same. rw (bare_expr-Paren, bare_expr-Paren, same) refl) span)
      (λ rest inner tail span' seen f. group-atom delimiter.Parenthesis inner tail span')))

  pub invisible-back : RoundTrips erased_expr expr_tokens (Atom atom.Invisible) Any (invisible readers)
  unfolding invisible
  invisible-back = whole (here-rest (λ span. inside-rest {Inner = Any} delimiter.None (λ (place : Unit {0}). span)
      (then-rest {Second = AtEnd} (λ place. parts.expr any_level) (λ found. pure-rest tt (expr.Group found span) (λ q. expr.Group q.1 q.0.1) (rw (print-Group, append-nil) refl) (λ q ok. rw (bare_expr-Group, bare_expr-Group, ok.1) refl))
      (λ rest tail f. rw f (expr-end any_level rest)) (λ rest tail f. tt))
      (λ rest inner tail span' seen f. group-atom delimiter.None inner tail span')))

  -- ---- brackets

  -- no `;`, and what may follow an element
  abbrev NoLength : Relation
  NoLength rest tail = (is_semicolon tail ≡ false) × (AfterExpr any_level rest tail × (stops tail ≡ true))

  no-length : (tail : Trees) → stops tail ≡ true → is_semicolon tail ≡ false
  no-length [] h = no-semicolon
  no-length (tree ∷ trees) h = rw (eqb-true (mark_of (tree ∷ trees)) 44 h) refl

  -- what stands behind the first element, where it is not repeated
  abbrev elements : Span → Expr → Parser Expr
  elements span first = eat 1 is_comma >>= (λ more. if more then (λ elems. make.expr_array elems span) <$> items_after (readers.expr any_level) (first ∷ []) else pure (make.expr_array (first ∷ []) span))

  elements-rest : (span : Span) (first : Expr)
      → Rest {P = Unit {0}} {Q = (Unit {0} × Span) × Expr} (λ q. Unit {0} × (erased_expr q.1 ≡ erased_expr first)) erased_expr expr_tokens (λ place tokens. group delimiter.Bracket (expr_tokens first ++ tokens) span) NoLength AtEnd
      (elements span first) (λ q. elements q.0.1 q.1)
  elements-rest span first = weak-rest (λ rest tail f. f) (λ rest tail f. (no-length tail f.1, f))
      (others-rest erased_expr expr_tokens (readers.expr any_level) (parts.expr any_level) (λ rest tail f. expr-some any_level tail f.begins) (λ rest. expr-end any_level rest) (λ rest tail span. expr_before-comma any_level rest tail span)
      delimiter.Bracket (λ elems span. joined (comma span) elems) (λ span. refl) (λ elems span some. refl) make.expr_array (λ it span. make.expr_array (it ∷ []) span) (inr (λ it span. refl)) print-Array (λ it span. rw (print-Array, append-nil) refl)
      (λ one two span other same. rw (bare_expr-Array, bare_expr-Array, same) refl) (λ one two span other same. rw (bare_expr-Array, bare_expr-Array, same) refl) span first)

  bracket_by : (span : Span) (done : Bool) → Rest {P = Unit {0}} {Q = Unit {0} × Span} (λ q. Unit {0}) erased_expr expr_tokens (λ place tokens. group delimiter.Bracket tokens span) (Filled done) AtEnd
      (if done then pure (make.expr_array [] span) else readers.expr any_level >>= expr_elements readers span) (λ q. if done then pure (make.expr_array [] q.1) else readers.expr any_level >>= expr_elements readers q.1)
  unfolding expr_elements
  bracket_by span true = pure-rest tt (make.expr_array [] span) (λ q. make.expr_array [] q.1) (print-Array [] span) (λ q ok. rw (bare_expr-Array, bare_expr-Array) refl)
  bracket_by span false =
      then-rest {Second = AfterExpr any_level} (λ place. parts.expr any_level) (λ first.
      eat_or-rest {Yes = Any} {No = NoLength} 1 is_semicolon (λ place. mark (codes ";") span) (λ place. mark-length (codes ";") span) (λ place tail. rw (mark_of-mark 59 [] span tail) refl)
      (then-rest {Second = AtEnd} (λ place. parts.expr any_level) (λ len. pure-rest tt (expr.Repeat first len span) (λ q. expr.Repeat q.0.1 q.1 q.0.0.1)
      (rw (print-Repeat, append-nil, append_assoc) refl) (λ q ok. rw (bare_expr-Repeat, bare_expr-Repeat, ok.0.1, ok.1) refl))
      (λ rest tail f. rw f (expr-end any_level rest)) (λ rest tail f. tt))
      (elements-rest span first)
      (λ input tail place seen f. expr_before-semicolon any_level input.rest tail span)
      (λ rest tail seen f. (f.0, f.1.0)))
      (λ rest tail f. f) (λ rest tail f. expr-some any_level tail f.begins)

  pub brackets-back : RoundTrips erased_expr expr_tokens (Atom atom.Bracket) Any (expr_in_brackets readers)
  unfolding expr_in_brackets expr_bracket
  brackets-back = whole (here-rest (λ span. inside-rest {Inner = Any} delimiter.Bracket (λ (place : Unit {0}). span)
      (test-rest {by = Filled} is_end (bracket_by span) (λ done rest tail seen f. (filled-seen done rest tail f, tt)))
      (λ rest inner tail span' seen f. group-atom delimiter.Bracket inner tail span')))
