-- The angles of what stands behind an operand close, if those of its parts do.
use Rattle.std.proofs.Common.{◌≡◌, ℕ, zero, suc, ◌≤◌, Bool, true, false, [], refl, arith, ◌∙◌}
use Rattle.tok_types.specs.declared.ident.Ident.{Ident}
use Rattle.tok_types.specs.declared.span.Span.{Span}
use Rattle.tok_types.specs.declared.tree.Delimiter.TheVariants as delimiter
use Rattle.node_expr.specs.declared.expr.Expr.{Expr}
use Rattle.node_expr.specs.declared.expr.Expr.TheVariants as expr
use Rattle.node_expr.specs.declared.expr.Member.{Member}
use Rattle.node_expr.specs.declared.expr.Member.TheVariants as made
use Rattle.syn_grammar.specs.declared.look.AtomStart.{AtomStart}
use Rattle.syn_grammar.specs.declared.look.PostfixStart.{PostfixStart}
use Rattle.syn_grammar.specs.declared.look.PostfixStart.TheVariants as postfix
use Rattle.syn_grammar.specs.Expressions.{args, turbofish_call, method_call, field, named_member, member_by, member, call, index, question, postfix_by, postfixes_by, postfixes_from, postfixed}
use Rattle.syn_grammar.specs.Input.{Input, Parser, is_end, skip}
use Rattle.syn_grammar.specs.Literals.{index_of}
use Rattle.syn_grammar.specs.Look.{atom_start, is_there, postfix_start}
use Rattle.syn_grammar.specs.Paths.{list}
use Rattle.syn_grammar.specs.Readers.{Readers, any_level}
use Rattle.syn_grammar.specs.Token.{is_group, is_turbofish}
use Rattle.syn_grammar.specs.Words.{name_of}
use Rattle.law_angles.specs.Ends.{max_angles}
use Rattle.law_angles.proofs.Walk.{turbofish-step, zero-step}
use Rattle.law_angles.proofs.Steps.{LeadsAt, Leads, refuse-at, pure-at, so-at, if-at, case-at, seen-at, here-at, close-at, turns-at, skip-at, skip_by-at, take_as-at, inside-at}
use Rattle.law_angles.proofs.Tokens.{name-unmarked, index-unmarked}
use Rattle.law_angles.proofs.Looks.{is_marked, postfix-mark}
use Rattle.law_angles.proofs.Paths.{AllLead, turbofish-leads}
use Rattle.law_angles.proofs.Atoms.{atom_by-leads}

module _ (limit : ℕ) (readers : Readers) (parts : AllLead limit readers) (fits : suc (suc limit) ≤ max_angles) where
  args-leads : Leads 0 0 (args readers)
  args-leads input = inside-at delimiter.Parenthesis (list (readers.expr any_level))

  module _ (start : Span) (left : Expr) where
    turbofish_call-leads : (method : Ident) (input : Input) → is_turbofish input.rest ≡ true → LeadsAt 0 0 (turbofish_call readers start left method) input
    unfolding turbofish_call
    turbofish_call-leads method input is =
        so-at {between = 1} (skip_by-at 3 (turbofish-step 0 input.rest (omega arith) is)) (λ marks input.
        so-at (turbofish-leads limit readers parts 0 (omega arith) input) (λ turbofish input.
        so-at (args-leads input) (λ given input. close-at start (expr.MethodCall left method turbofish given))))

    method_call-leads : (method : Ident) → Leads 0 0 (method_call readers start left method)
    unfolding method_call
    method_call-leads method input = so-at (args-leads input) (λ given input. close-at start (expr.MethodCall left method [] given))

    field-leads : (found : Member) → Leads 0 0 (field readers start left found)
    unfolding field
    field-leads found input = close-at start (expr.Field left found)

    named_member-leads : (name : Ident) → Leads 0 0 (named_member readers start left name)
    unfolding named_member
    named_member-leads name input =
        seen-at is_turbofish (λ turbofish is.
        seen-at (is_group delimiter.Parenthesis) (λ called _.
        case-at turbofish (λ h. turbofish_call-leads name input (is ∙ h))
        (if-at called (method_call-leads name input) (field-leads (made.Named name) input))))

    member_by-leads : (named : Bool) → Leads 0 0 (member_by readers start left named)
    member_by-leads true input = so-at (take_as-at name_of name-unmarked) (λ name input. named_member-leads name input)
    member_by-leads false input = so-at (take_as-at index_of index-unmarked) (λ index input. field-leads (made.Unnamed index) input)

    member-leads : Leads 0 0 (member readers start left)
    unfolding member
    member-leads input = seen-at (λ trees. is_there (name_of trees)) (λ named is. member_by-leads named input)

    call-leads : Leads 0 0 (call readers start left)
    unfolding call
    call-leads input = so-at (args-leads input) (λ given input. close-at start (expr.Call left given))

    index-leads : Leads 0 0 (index readers start left)
    unfolding index
    index-leads input = so-at (inside-at delimiter.Bracket (readers.expr any_level)) (λ at input. close-at start (expr.Index left at))

    -- the mark that was seen
    mark_skip-at : {input : Input} (begins : PostfixStart) → postfix_start input.rest ≡ begins → is_marked begins ≡ true → LeadsAt 0 0 skip input
    mark_skip-at {input} begins is marked = skip-at (zero-step input.rest (postfix-mark input.rest (rw is marked)))

    question-leads : (input : Input) → postfix_start input.rest ≡ postfix.Try → LeadsAt 0 0 (question readers start left) input
    unfolding question
    question-leads input is = so-at (mark_skip-at postfix.Try is refl) (λ mark input. close-at start (expr.Try left))

    postfix_by-leads : (input : Input) (begins : PostfixStart) → postfix_start input.rest ≡ begins → LeadsAt 0 0 (postfix_by readers start left begins) input
    postfix_by-leads input postfix.Call is = call-leads input
    postfix_by-leads input postfix.Dot is = so-at (mark_skip-at postfix.Dot is refl) (λ mark input. member-leads input)
    postfix_by-leads input postfix.Index is = index-leads input
    postfix_by-leads input postfix.Try is = question-leads input is
    postfix_by-leads input postfix.Nothing is = refuse-at

    postfixes_by-leads : (more : Expr → Parser Expr) → ((longer : Expr) → Leads 0 0 (more longer)) → (input : Input) (begins : PostfixStart) → postfix_start input.rest ≡ begins
        → LeadsAt 0 0 (postfixes_by readers more start left begins) input
    postfixes_by-leads more h input postfix.Nothing is = pure-at left
    postfixes_by-leads more h input postfix.Call is = so-at (postfix_by-leads input postfix.Call is) h
    postfixes_by-leads more h input postfix.Dot is = so-at (postfix_by-leads input postfix.Dot is) h
    postfixes_by-leads more h input postfix.Index is = so-at (postfix_by-leads input postfix.Index is) h
    postfixes_by-leads more h input postfix.Try is = so-at (postfix_by-leads input postfix.Try is) h

  postfixes_from-leads : (start : Span) (turns : ℕ) (left : Expr) → Leads 0 0 (postfixes_from readers start turns left)
  unfolding postfixes_from
  postfixes_from-leads start zero left input = seen-at is_end (λ done is. if-at done (pure-at left) refuse-at)
  postfixes_from-leads start (suc turns) left input =
      seen-at postfix_start (λ begins is. postfixes_by-leads start left (postfixes_from readers start turns) (postfixes_from-leads start turns) input begins is)

  pub postfixed-leads : (input : Input) (begins : AtomStart) → atom_start input.rest ≡ begins → LeadsAt 0 0 (postfixed readers begins) input
  unfolding postfixed
  postfixed-leads input begins is = here-at (λ start.
      so-at (atom_by-leads limit readers parts fits input begins is) (λ left input. turns-at (λ turns. postfixes_from-leads start turns left input)))
