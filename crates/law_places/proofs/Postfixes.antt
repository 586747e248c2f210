-- What stands behind an operand stands from the operand's start on.
use Rattle.std.proofs.Common.{ℕ, zero, suc, Bool, true, false, []}
use Rattle.tok_types.specs.Ascii.{greater}
use Rattle.tok_types.specs.declared.ident.Ident.{Ident}
use Rattle.tok_types.specs.declared.span.Span.{Span}
use Rattle.tok_types.specs.declared.tree.Delimiter.TheVariants as delimiter
use Rattle.node_expr.specs.declared.expr.Expr.{Expr}
use Rattle.node_expr.specs.declared.expr.Expr.TheVariants as expr
use Rattle.node_expr.specs.declared.expr.Member.{Member}
use Rattle.node_expr.specs.declared.expr.Member.TheVariants as made
use Rattle.node_span.specs.Spanned.{expr_span}
use Rattle.syn_grammar.specs.declared.look.AtomStart.{AtomStart}
use Rattle.syn_grammar.specs.declared.look.PostfixStart.{PostfixStart}
use Rattle.syn_grammar.specs.declared.look.PostfixStart.TheVariants as postfix
use Rattle.syn_grammar.specs.Expressions.{args, turbofish_call, method_call, field, named_member, member_by, member, call, index, question, postfix_by, postfixes_by, postfixes_from, postfixed}
use Rattle.syn_grammar.specs.Input.{Input, Parser, is_end}
use Rattle.syn_grammar.specs.Literals.{index_of}
use Rattle.syn_grammar.specs.Look.{is_there, postfix_start}
use Rattle.syn_grammar.specs.Paths.{list}
use Rattle.syn_grammar.specs.Readers.{Readers, any_level}
use Rattle.syn_grammar.specs.Token.{is_group, is_turbofish}
use Rattle.syn_grammar.specs.Words.{name_of}
use Rattle.law_places.proofs.Atoms.{atom_by-here}
use Rattle.law_places.proofs.Lists.{until-goes}
use Rattle.law_places.proofs.Made.{call-span, method_call-span, field-span, index-span, question-span}
use Rattle.law_places.proofs.Paths.{AllStand, generic_argument-here}
use Rattle.law_places.proofs.Steps.{GoesAt, From, Goes, StandsHere, refuse-at, pure-at, then-at, so-at, if-at, seen-at, here_is-at, from-at, turns-at, close-at, skip-at, skip_by-at, take_as-at, inside-goes}

module _ (readers : Readers) (parts : AllStand readers) where
  args-goes : Goes (args readers)
  args-goes = inside-goes delimiter.Parenthesis (list (readers.expr any_level))

  -- what begins there
  module _ (start : Span) (left : Expr) where
    turbofish_call-from : (method : Ident) (input : Input) → GoesAt (From expr_span start) (turbofish_call readers start left method) input
    unfolding turbofish_call
    turbofish_call-from method input = so-at (skip_by-at 3 input) (λ marks input.
        so-at (until-goes (generic_argument-here readers parts) greater input) (λ turbofish input.
        so-at (args-goes input) (λ given input.
        close-at start (expr.MethodCall left method turbofish given) input (method_call-span left method turbofish given))))

    method_call-from : (method : Ident) (input : Input) → GoesAt (From expr_span start) (method_call readers start left method) input
    unfolding method_call
    method_call-from method input = so-at (args-goes input) (λ given input.
        close-at start (expr.MethodCall left method [] given) input (method_call-span left method [] given))

    field-from : (found : Member) (input : Input) → GoesAt (From expr_span start) (field readers start left found) input
    unfolding field
    field-from found input = close-at start (expr.Field left found) input (field-span left found)

    named_member-from : (name : Ident) (input : Input) → GoesAt (From expr_span start) (named_member readers start left name) input
    unfolding named_member
    named_member-from name input = seen-at is_turbofish (λ turbofish. seen-at (is_group delimiter.Parenthesis) (λ called.
        if-at turbofish (turbofish_call-from name input) (if-at called (method_call-from name input) (field-from (made.Named name) input))))

    member_by-from : (named : Bool) (input : Input) → GoesAt (From expr_span start) (member_by readers start left named) input
    member_by-from true input = so-at (take_as-at name_of input) (λ name input. named_member-from name input)
    member_by-from false input = so-at (take_as-at index_of input) (λ index input. field-from (made.Unnamed index) input)

    member-from : (input : Input) → GoesAt (From expr_span start) (member readers start left) input
    unfolding member
    member-from input = seen-at (λ trees. is_there (name_of trees)) (λ named. member_by-from named input)

    call-from : (input : Input) → GoesAt (From expr_span start) (call readers start left) input
    unfolding call
    call-from input = so-at (args-goes input) (λ given input. close-at start (expr.Call left given) input (call-span left given))

    index-from : (input : Input) → GoesAt (From expr_span start) (index readers start left) input
    unfolding index
    index-from input = so-at (inside-goes delimiter.Bracket (readers.expr any_level) input) (λ at input. close-at start (expr.Index left at) input (index-span left at))

    question-from : (input : Input) → GoesAt (From expr_span start) (question readers start left) input
    unfolding question
    question-from input = so-at (skip-at input) (λ mark input. close-at start (expr.Try left) input (question-span left))

    postfix_by-from : (begins : PostfixStart) (input : Input) → GoesAt (From expr_span start) (postfix_by readers start left begins) input
    postfix_by-from postfix.Call input = call-from input
    postfix_by-from postfix.Dot input = so-at (skip-at input) (λ mark input. member-from input)
    postfix_by-from postfix.Index input = index-from input
    postfix_by-from postfix.Try input = question-from input
    postfix_by-from postfix.Nothing input = refuse-at input

    postfixes_by-from : (more : Expr → Parser Expr) → ((longer : Expr) (input : Input) → From expr_span start longer input → GoesAt (From expr_span start) (more longer) input) → (begins : PostfixStart) (input : Input)
        → From expr_span start left input → GoesAt (From expr_span start) (postfixes_by readers more start left begins) input
    postfixes_by-from more h postfix.Nothing input l = pure-at left input l
    postfixes_by-from more h postfix.Call input l = then-at (postfix_by-from postfix.Call input) h
    postfixes_by-from more h postfix.Dot input l = then-at (postfix_by-from postfix.Dot input) h
    postfixes_by-from more h postfix.Index input l = then-at (postfix_by-from postfix.Index input) h
    postfixes_by-from more h postfix.Try input l = then-at (postfix_by-from postfix.Try input) h

  postfixes_from-from : (start : Span) (turns : ℕ) (left : Expr) (input : Input) → From expr_span start left input → GoesAt (From expr_span start) (postfixes_from readers start turns left) input
  unfolding postfixes_from
  postfixes_from-from start zero left input l = seen-at is_end (λ done. if-at done (pure-at left input l) (refuse-at input))
  postfixes_from-from start (suc turns) left input l = seen-at postfix_start (λ begins. postfixes_by-from start left (postfixes_from readers start turns) (postfixes_from-from start turns) begins input l)

  pub postfixed-here : (begins : AtomStart) → StandsHere expr_span (postfixed readers begins)
  unfolding postfixed
  postfixed-here begins input = here_is-at (λ start is. then-at (from-at is (atom_by-here readers parts begins input)) (λ left later l.
      turns-at (λ turns. postfixes_from-from start turns left later l)))
