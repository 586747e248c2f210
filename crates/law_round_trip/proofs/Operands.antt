-- The law of printing for operands: marks in front, and an atom with what stands behind it.
use Rattle.std.proofs.Common.{◌≡◌, ℕ, Bool, true, false, [], ◌∷◌, ◌++◌, refl, sym, ◌∙◌, length, append_assoc, append-nil, codes}
use Rattle.std.proofs.Math.Bool.{and-false}
use Rattle.tok_types.specs.declared.span.Span.{Span}
use Rattle.node_expr.specs.declared.expr.Expr.TheVariants as expr
use Rattle.node_expr.specs.declared.expr.UnOp.{UnOp}
use Rattle.node_expr.specs.declared.expr.UnOp.TheVariants as op
use Rattle.syn_grammar.specs.declared.look.AtomStart.{AtomStart}
use Rattle.syn_grammar.specs.declared.look.AtomStart.TheVariants as atom
use Rattle.syn_grammar.specs.declared.look.OperandStart.{OperandStart}
use Rattle.syn_grammar.specs.declared.look.OperandStart.TheVariants as begin
use Rattle.syn_grammar.specs.declared.word.Word.TheVariants as word
use Rattle.syn_grammar.specs.Expressions.{operand, operand_by, postfixed, reference, unary}
use Rattle.syn_grammar.specs.Input.{Input, next}
use Rattle.syn_grammar.specs.Look.{begins_operand, is_operand, operand_start}
use Rattle.syn_grammar.specs.Readers.{Readers, operand_level}
use Rattle.syn_grammar.specs.Token.{after_one, is_arrow, is_joint, is_mark, is_pair}
use Rattle.syn_grammar.specs.Words.{peek}
use Rattle.print_core.specs.Exprs.{un_op_tokens}
use Rattle.print_core.specs.Marks.{Trees, mark, word as printed_word}
use Rattle.print_core.specs.Nodes.{expr_tokens}
use Rattle.law_spans.specs.Erased.{erased_expr}
use Rattle.law_spans.proofs.Made.{bare_expr-Reference, bare_expr-Unary}
use Rattle.law_prefix.specs.SameLookahead.{Relation, Any}
use Rattle.law_round_trip.specs.Follow.{BeginsAtom, BeginsExpr, Looser}
use Rattle.law_round_trip.specs.Parts.{AllRoundTrip}
use Rattle.law_round_trip.specs.Printed.{RoundTrips}
use Rattle.law_round_trip.proofs.Marks.{is_joint-mark, mark-length, mark_of-mark, sees-mut, word-length}
use Rattle.law_round_trip.proofs.Paths.{next-behind}
use Rattle.law_round_trip.proofs.Prints.{print-expr_reference, print-unary}
use Rattle.law_round_trip.proofs.Starts.{arrow-start, operand-bodies, operand-seen}
use Rattle.law_round_trip.proofs.Steps.{Free, Rest, close-rest, here-rest, hole, shown-rest, test-rest, then-rest, whole}
use Rattle.law_round_trip.proofs.Takes.{eat-rest, skip-rest}

-- An operand starts so. No arrow is printed, nor was one read.
abbrev pub Started : OperandStart → Relation
Started begins rest tail = (operand_start tail ≡ begins) × (is_arrow rest ≡ false) × (is_arrow tail ≡ false)

-- ---- marks in front

-- how an operator in front starts
abbrev start_of : UnOp → OperandStart
start_of op.Neg = begin.Neg
start_of op.Not = begin.Not
start_of op.Deref = begin.Deref

un_op-start : (it : UnOp) (span : Span) (tail : Trees) → operand_start (un_op_tokens it span ++ tail) ≡ start_of it
unfolding operand_start
un_op-start op.Neg span tail = rw (mark_of-mark 45 [] span tail) refl
un_op-start op.Not span tail = rw (mark_of-mark 33 [] span tail) refl
un_op-start op.Deref span tail = rw (mark_of-mark 42 [] span tail) refl

no-arrow : (ch : ℕ) (span : Span) (tail : Trees) → is_arrow (mark (ch ∷ []) span ++ tail) ≡ false
unfolding is_pair
no-arrow ch span tail = rw (is_joint-mark ch [] span tail) refl

un_op-arrow : (it : UnOp) (span : Span) (tail : Trees) → is_arrow (un_op_tokens it span ++ tail) ≡ false
un_op-arrow op.Neg span tail = no-arrow 45 span tail
un_op-arrow op.Not span tail = no-arrow 33 span tail
un_op-arrow op.Deref span tail = no-arrow 42 span tail

un_op-length : (it : UnOp) (span : Span) → length (un_op_tokens it span) ≡ 1
un_op-length op.Neg span = mark-length (codes "-") span
un_op-length op.Not span = mark-length (codes "!") span
un_op-length op.Deref span = mark-length (codes "*") span

-- behind the first mark of an arrow no operand begins
source-arrow : (input : Input) → begins_operand (next input).rest ≡ true → is_arrow input.rest ≡ false
unfolding is_pair
source-arrow input begins =
    let behind : is_mark 62 (after_one input.rest) ≡ false = rw (next-behind input) at ((operand-seen (next input).rest begins).greater) in
    rw (behind, and-false (is_mark 45 input.rest)) (and-false (is_joint input.rest))

and-start : (span : Span) (tail : Trees) → operand_start (mark (codes "&") span ++ tail) ≡ begin.Reference
unfolding operand_start
and-start span tail = rw (mark_of-mark 38 [] span tail) refl

-- ---- what begins an operand

started : (begins : OperandStart) (rest tail : Trees) → is_operand begins ≡ true → operand_start rest ≡ begins → Started begins rest tail → (operand_start tail ≡ begins) × BeginsExpr operand_level rest tail
unfolding begins_operand
started begins rest tail is seen f = (f.0, record { source = rw seen is; begins = rw (f.0) is; bodies = operand-bodies rest tail (seen ∙ sym f.0) (rw seen is) (rw (f.0) is) f.1 f.2 })

abbrev is_minus : OperandStart → Bool
is_minus begin.Neg = true
is_minus _ = false

arrowless : (trees : Trees) → is_minus (operand_start trees) ≡ false → is_arrow trees ≡ false
arrowless trees h = by (is_arrow trees) refl
  where
    by : (b : Bool) → is_arrow trees ≡ b → is_arrow trees ≡ false
    by false is = is
    by true is = let none = rw (arrow-start trees is) at h in absurd cc

-- what does not begin with `-` begins no arrow
unarmed : (begins : OperandStart) (rest tail : Trees) → is_operand begins ≡ true → is_minus begins ≡ false → operand_start rest ≡ begins → operand_start tail ≡ begins → (operand_start tail ≡ begins) × BeginsExpr operand_level rest tail
unarmed begins rest tail is none seen f = started begins rest tail is seen (f, arrowless rest (rw seen none), arrowless tail (rw f none))

module _ (readers : Readers) (parts : AllRoundTrip readers) where
  unary-back : (it : UnOp) → RoundTrips erased_expr expr_tokens (Started (start_of it)) (Looser operand_level) (unary readers it)
  unfolding unary
  unary-back it = whole (here-rest (λ start. skip-rest {Second = BeginsExpr operand_level} (λ place. un_op_tokens it place) (un_op-length it)
      (then-rest {Second = Looser operand_level} (λ place. parts.expr operand_level) (λ operand. close-rest start (λ q. q.0.1) (expr.Unary it operand) (λ q. expr.Unary it q.1)
      (λ span. rw (print-unary, append-nil) refl) (λ span other q ok. rw (bare_expr-Unary, bare_expr-Unary, ok.1) refl))
      (λ rest tail f other. f) (λ rest tail f. f))
      (λ input tail place f. (un_op-start it place tail, source-arrow input f.source, un_op-arrow it place tail))))

  reference-back : RoundTrips erased_expr expr_tokens (λ rest tail. operand_start tail ≡ begin.Reference) (Looser operand_level) (reference readers)
  unfolding reference
  reference-back = whole (here-rest (λ start. skip-rest {Second = Any} (λ place. mark (codes "&") place) (mark-length (codes "&"))
      (eat-rest {Second = λ b. BeginsExpr operand_level} 1 (peek word.Mut) (λ place. printed_word (codes "mut") place) (word-length (codes "mut")) (λ place tail. rw (sees-mut place tail) refl) (λ mutable.
      then-rest {Second = Looser operand_level} (λ place. parts.expr operand_level) (λ operand. close-rest start (λ q. q.0.1) (expr.Reference mutable operand) (λ q. expr.Reference mutable q.1)
      (λ span. rw (print-expr_reference, append-nil, append_assoc) refl) (λ span other q ok. rw (bare_expr-Reference, bare_expr-Reference, ok.1) refl))
      (λ rest tail f other. f) (λ rest tail f. f))
      (λ input tail place seen f. tt)
      (λ rest tail seen f. ((operand-seen tail f.begins).mutable, tt)))
      (λ input tail place f. and-start place tail)))

  -- ---- all operands

  -- what begins an operand, by its kind
  abbrev Begun : OperandStart → Relation
  Begun begin.Reference = λ rest tail. operand_start tail ≡ begin.Reference
  Begun (begin.Atom atom.Nothing) = λ rest tail. ⊥
  Begun (begin.Atom begins) = BeginsAtom begins
  Begun begins = Started begins

  begun : (begins : OperandStart) (rest tail : Trees) → operand_start rest ≡ begins → Begun begins rest tail → (operand_start tail ≡ begins) × BeginsExpr operand_level rest tail
  begun begin.Neg rest tail is f = started begin.Neg rest tail refl is f
  begun begin.Not rest tail is f = started begin.Not rest tail refl is f
  begun begin.Deref rest tail is f = started begin.Deref rest tail refl is f
  begun begin.Reference rest tail is f = unarmed begin.Reference rest tail refl refl is f
  begun (begin.Atom atom.Nothing) rest tail is f = absurd f
  begun (begin.Atom atom.Literal) rest tail is f = unarmed (begin.Atom atom.Literal) rest tail refl refl is f
  begun (begin.Atom atom.Bool) rest tail is f = unarmed (begin.Atom atom.Bool) rest tail refl refl is f
  begun (begin.Atom atom.Path) rest tail is f = unarmed (begin.Atom atom.Path) rest tail refl refl is f
  begun (begin.Atom atom.Qualified) rest tail is f = unarmed (begin.Atom atom.Qualified) rest tail refl refl is f
  begun (begin.Atom atom.Parenthesis) rest tail is f = unarmed (begin.Atom atom.Parenthesis) rest tail refl refl is f
  begun (begin.Atom atom.Bracket) rest tail is f = unarmed (begin.Atom atom.Bracket) rest tail refl refl is f
  begun (begin.Atom atom.Brace) rest tail is f = unarmed (begin.Atom atom.Brace) rest tail refl refl is f
  begun (begin.Atom atom.Invisible) rest tail is f = unarmed (begin.Atom atom.Invisible) rest tail refl refl is f
  begun (begin.Atom atom.Infer) rest tail is f = unarmed (begin.Atom atom.Infer) rest tail refl refl is f

  module _ (postfixed-back : (begins : AtomStart) → RoundTrips erased_expr expr_tokens (BeginsAtom begins) (Looser operand_level) (postfixed readers begins)) where
    atom-rest : (begins : AtomStart) → Rest {P = Unit {0}} {Q = Unit {0}} Free erased_expr expr_tokens hole (BeginsAtom begins) (Looser operand_level) (postfixed readers begins) (λ q. postfixed readers begins)
    atom-rest begins = shown-rest tt (λ it. refl) (postfixed-back begins)

    operand_by-rest : (begins : OperandStart) → Rest {P = Unit {0}} {Q = Unit {0}} Free erased_expr expr_tokens hole (Begun begins) (Looser operand_level) (operand_by readers begins) (λ q. operand_by readers begins)
    unfolding postfixed
    operand_by-rest begin.Neg = shown-rest tt (λ it. refl) (unary-back op.Neg)
    operand_by-rest begin.Not = shown-rest tt (λ it. refl) (unary-back op.Not)
    operand_by-rest begin.Deref = shown-rest tt (λ it. refl) (unary-back op.Deref)
    operand_by-rest begin.Reference = shown-rest tt (λ it. refl) reference-back
    operand_by-rest (begin.Atom atom.Nothing) = record { of = λ input after found e. absurd cc }
    operand_by-rest (begin.Atom atom.Literal) = atom-rest atom.Literal
    operand_by-rest (begin.Atom atom.Bool) = atom-rest atom.Bool
    operand_by-rest (begin.Atom atom.Path) = atom-rest atom.Path
    operand_by-rest (begin.Atom atom.Qualified) = atom-rest atom.Qualified
    operand_by-rest (begin.Atom atom.Parenthesis) = atom-rest atom.Parenthesis
    operand_by-rest (begin.Atom atom.Bracket) = atom-rest atom.Bracket
    operand_by-rest (begin.Atom atom.Brace) = atom-rest atom.Brace
    operand_by-rest (begin.Atom atom.Invisible) = atom-rest atom.Invisible
    operand_by-rest (begin.Atom atom.Infer) = atom-rest atom.Infer

    pub operand-back : RoundTrips erased_expr expr_tokens (BeginsExpr operand_level) (Looser operand_level) (operand readers)
    unfolding operand
    operand-back = whole (test-rest {by = Begun} operand_start operand_by-rest (λ begins rest tail is f. begun begins rest tail is f))
