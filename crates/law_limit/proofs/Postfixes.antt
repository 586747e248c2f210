-- The rules of what stands behind an operand read as much where the readers of their parts do.
use Rattle.std.proofs.Common.{ℕ, zero, suc, Bool, true, false, []}
use Rattle.tok_types.specs.Ascii.{greater}
use Rattle.tok_types.specs.declared.ident.Ident.{Ident}
use Rattle.tok_types.specs.declared.span.Span.{Span}
use Rattle.tok_types.specs.declared.tree.Delimiter.TheVariants as delimiter
use Rattle.node_expr.specs.declared.expr.Expr.{Expr}
use Rattle.node_expr.specs.declared.expr.Expr.TheVariants as expr
use Rattle.node_expr.specs.declared.expr.Member.{Member}
use Rattle.node_expr.specs.declared.expr.Member.TheVariants as made
use Rattle.syn_grammar.specs.declared.look.AtomStart.{AtomStart}
use Rattle.syn_grammar.specs.declared.look.PostfixStart.{PostfixStart}
use Rattle.syn_grammar.specs.declared.look.PostfixStart.TheVariants as postfix
use Rattle.syn_grammar.specs.Expressions.{args, turbofish_call, method_call, field, named_member, member_by, member, call, index, question, postfix_by, postfixes_by, postfixes_from, postfixed}
use Rattle.syn_grammar.specs.Input.{Parser, here, refuse, skip, skip_by, take_as, test}
use Rattle.syn_grammar.specs.Literals.{index_of}
use Rattle.syn_grammar.specs.Look.{is_there, postfix_start}
use Rattle.syn_grammar.specs.Readers.{Readers, any_level}
use Rattle.syn_grammar.specs.Token.{is_group, is_turbofish}
use Rattle.syn_grammar.specs.Words.{name_of}
use Rattle.law_limit.specs.IsExtendedBy.{IsExtendedBy}
use Rattle.law_limit.proofs.Atoms.{atom_by-more}
use Rattle.law_limit.proofs.Paths.{AllExtended, generic_argument-more}
use Rattle.law_limit.proofs.Steps.{same, gives, close, bind, so, branch, group, turns, items_after-more, until-more}

module _ (readers others : Readers) (parts : AllExtended readers others) where
  args-more : IsExtendedBy (args readers) (args others)
  args-more = group delimiter.Parenthesis (items_after-more (parts.expr any_level) [])

  module _ (start : Span) (left : Expr) where
    turbofish_call-more : (method : Ident) → IsExtendedBy (turbofish_call readers start left method) (turbofish_call others start left method)
    unfolding turbofish_call
    turbofish_call-more method = so (skip_by 3) (λ marks. bind (until-more (generic_argument-more readers others parts) greater) (λ turbofish. bind args-more (λ given. close start (expr.MethodCall left method turbofish given))))

    method_call-more : (method : Ident) → IsExtendedBy (method_call readers start left method) (method_call others start left method)
    unfolding method_call
    method_call-more method = bind args-more (λ given. close start (expr.MethodCall left method [] given))

    field-more : (found : Member) → IsExtendedBy (field readers start left found) (field others start left found)
    unfolding field
    field-more found = close start (expr.Field left found)

    question-more : IsExtendedBy (question readers start left) (question others start left)
    unfolding question
    question-more = so skip (λ mark. close start (expr.Try left))

    named_member-more : (name : Ident) → IsExtendedBy (named_member readers start left name) (named_member others start left name)
    unfolding named_member
    named_member-more name = so (test is_turbofish) (λ turbofish. so (test (is_group delimiter.Parenthesis)) (λ called. branch turbofish (turbofish_call-more name) (branch called (method_call-more name) (field-more (made.Named name)))))

    member_by-more : (named : Bool) → IsExtendedBy (member_by readers start left named) (member_by others start left named)
    member_by-more true = so (take_as name_of) named_member-more
    member_by-more false = so (take_as index_of) (λ index. field-more (made.Unnamed index))

    member-more : IsExtendedBy (member readers start left) (member others start left)
    unfolding member
    member-more = so (test (λ trees. is_there (name_of trees))) member_by-more

    call-more : IsExtendedBy (call readers start left) (call others start left)
    unfolding call
    call-more = bind args-more (λ given. close start (expr.Call left given))

    index-more : IsExtendedBy (index readers start left) (index others start left)
    unfolding index
    index-more = bind (group delimiter.Bracket (parts.expr any_level)) (λ at. close start (expr.Index left at))

    postfix_by-more : (begins : PostfixStart) → IsExtendedBy (postfix_by readers start left begins) (postfix_by others start left begins)
    postfix_by-more postfix.Call = call-more
    postfix_by-more postfix.Dot = so skip (λ mark. member-more)
    postfix_by-more postfix.Index = index-more
    postfix_by-more postfix.Try = question-more
    postfix_by-more postfix.Nothing = same refuse

    postfixes_by-more : (more also : Expr → Parser Expr) → ((longer : Expr) → IsExtendedBy (more longer) (also longer)) → (begins : PostfixStart)
        → IsExtendedBy (postfixes_by readers more start left begins) (postfixes_by others also start left begins)
    postfixes_by-more more also h postfix.Nothing = gives left
    postfixes_by-more more also h postfix.Call = bind (postfix_by-more postfix.Call) h
    postfixes_by-more more also h postfix.Dot = bind (postfix_by-more postfix.Dot) h
    postfixes_by-more more also h postfix.Index = bind (postfix_by-more postfix.Index) h
    postfixes_by-more more also h postfix.Try = bind (postfix_by-more postfix.Try) h

  postfixes_from-more : (start : Span) (count : ℕ) (left : Expr) → IsExtendedBy (postfixes_from readers start count left) (postfixes_from others start count left)
  unfolding postfixes_from
  postfixes_from-more start zero left = same (postfixes_from readers start zero left)
  postfixes_from-more start (suc count) left = so (test postfix_start) (postfixes_by-more start left (postfixes_from readers start count) (postfixes_from others start count) (postfixes_from-more start count))

  pub postfixed-more : (begins : AtomStart) → IsExtendedBy (postfixed readers begins) (postfixed others begins)
  unfolding postfixed
  postfixed-more begins = so here (λ start. bind (atom_by-more readers others parts begins) (λ left. turns (λ count. postfixes_from-more start count left)))
