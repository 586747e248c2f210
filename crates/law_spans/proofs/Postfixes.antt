-- The rules of what stands behind an operand do not see places.
use Rattle.std.proofs.Common.{◌≡◌, ℕ, zero, suc, Bool, true, false, [], map, refl}
use Rattle.tok_types.specs.declared.ident.Ident.{Ident}
use Rattle.tok_types.specs.declared.span.Span.{Span}
use Rattle.tok_types.specs.declared.span.Span.TheVariants.{CallSite}
use Rattle.tok_types.specs.declared.tree.Delimiter.TheVariants as delimiter
use Rattle.node_expr.specs.declared.expr.Expr.{Expr}
use Rattle.node_expr.specs.declared.expr.Expr.TheVariants as expr
use Rattle.node_expr.specs.declared.expr.Member.{Member}
use Rattle.node_expr.specs.declared.expr.Member.TheVariants as made
use Rattle.syn_grammar.specs.declared.look.AtomStart.{AtomStart}
use Rattle.syn_grammar.specs.declared.look.PostfixStart.{PostfixStart}
use Rattle.syn_grammar.specs.declared.look.PostfixStart.TheVariants as postfix
use Rattle.syn_grammar.specs.Expressions.{args, turbofish_call, method_call, field, named_member, member_by, member, call, index, question, postfix_by, postfixes_by, postfixes_from, postfixed}
use Rattle.syn_grammar.specs.Input.{Parser}
use Rattle.syn_grammar.specs.Literals.{index_of}
use Rattle.syn_grammar.specs.Look.{is_there, postfix_start}
use Rattle.syn_grammar.specs.Readers.{Readers, any_level}
use Rattle.syn_grammar.specs.Token.{is_group, is_turbofish}
use Rattle.syn_grammar.specs.Words.{name_of}
use Rattle.law_spans.specs.Erased.{erased_ident, erased_expr, erased_member}
use Rattle.law_spans.specs.IgnoresSpans.{IgnoresSpans}
use Rattle.law_spans.proofs.Atoms.{atom_by-blind}
use Rattle.law_spans.proofs.Made.{bare_expr-Call, bare_expr-MethodCall, bare_expr-Field, bare_expr-Index, bare_expr-Try}
use Rattle.law_spans.proofs.Paths.{AllIgnoreSpans, name-blind, generic_argument-blind}
use Rattle.law_spans.proofs.Seen.{is_group-bare, is_turbofish-bare, is_name-bare, index_of-bare, postfix_start-bare}
use Rattle.law_spans.proofs.Steps.{pure-blind, refuse-blind, then-blind, so-blind, if-blind, test-blind, here-blind, close-blind, skip-blind, skip_by-blind, take_as-blind, at_end-blind, inside-blind, by_turns-blind, items_after-blind, until-blind}

module _ (readers : Readers) (parts : AllIgnoreSpans readers) where
  args-blind : IgnoresSpans (map erased_expr) (args readers) (args readers)
  args-blind = inside-blind delimiter.Parenthesis (items_after-blind (parts.expr any_level) [] [] refl)

  -- what begins at one place in the source, and without places at another
  module _ (start there : Span) (s : CallSite ≡ there) (left left' : Expr) (l : erased_expr left ≡ left') where
    turbofish_call-blind : (method method' : Ident) → erased_ident method ≡ method' → IgnoresSpans erased_expr (turbofish_call readers start left method) (turbofish_call readers there left' method')
    unfolding turbofish_call
    turbofish_call-blind method method' m = so-blind (skip_by-blind 3) (λ marks.
        then-blind (until-blind (generic_argument-blind readers parts) 62) (λ turbofish turbofish' t.
        then-blind args-blind (λ given given' g.
        close-blind start there s (expr.MethodCall left method turbofish given) (expr.MethodCall left' method' turbofish' given')
        (λ span. rw (← l, ← m, ← t, ← g) (bare_expr-MethodCall left method turbofish given span)))))

    method_call-blind : (method method' : Ident) → erased_ident method ≡ method' → IgnoresSpans erased_expr (method_call readers start left method) (method_call readers there left' method')
    unfolding method_call
    method_call-blind method method' m = then-blind args-blind (λ given given' g.
        close-blind start there s (expr.MethodCall left method [] given) (expr.MethodCall left' method' [] given') (λ span. rw (← l, ← m, ← g) (bare_expr-MethodCall left method [] given span)))

    field-blind : (found found' : Member) → erased_member found ≡ found' → IgnoresSpans erased_expr (field readers start left found) (field readers there left' found')
    unfolding field
    field-blind found found' f = close-blind start there s (expr.Field left found) (expr.Field left' found') (λ span. rw (← l, ← f) (bare_expr-Field left found span))

    named_member-blind : (name name' : Ident) → erased_ident name ≡ name' → IgnoresSpans erased_expr (named_member readers start left name) (named_member readers there left' name')
    unfolding named_member
    named_member-blind name name' n = so-blind (test-blind is_turbofish is_turbofish is_turbofish-bare) (λ turbofish.
        so-blind (test-blind (is_group delimiter.Parenthesis) (is_group delimiter.Parenthesis) (is_group-bare delimiter.Parenthesis)) (λ called.
        if-blind turbofish (turbofish_call-blind name name' n)
        (if-blind called (method_call-blind name name' n) (field-blind (made.Named name) (made.Named name') (rw (n) refl)))))

    member_by-blind : (named : Bool) → IgnoresSpans erased_expr (member_by readers start left named) (member_by readers there left' named)
    member_by-blind true = then-blind name-blind named_member-blind
    member_by-blind false = then-blind (take_as-blind index_of index_of index_of-bare) (λ index index' i. field-blind (made.Unnamed index) (made.Unnamed index') (rw (i) refl))

    member-blind : IgnoresSpans erased_expr (member readers start left) (member readers there left')
    unfolding member
    member-blind = so-blind (test-blind (λ trees. is_there (name_of trees)) (λ trees. is_there (name_of trees)) is_name-bare) member_by-blind

    call-blind : IgnoresSpans erased_expr (call readers start left) (call readers there left')
    unfolding call
    call-blind = then-blind args-blind (λ given given' g.
        close-blind start there s (expr.Call left given) (expr.Call left' given') (λ span. rw (← l, ← g) (bare_expr-Call left given span)))

    index-blind : IgnoresSpans erased_expr (index readers start left) (index readers there left')
    unfolding index
    index-blind = then-blind (inside-blind delimiter.Bracket (parts.expr any_level)) (λ at at' a.
        close-blind start there s (expr.Index left at) (expr.Index left' at') (λ span. rw (← l, ← a) (bare_expr-Index left at span)))

    question-blind : IgnoresSpans erased_expr (question readers start left) (question readers there left')
    unfolding question
    question-blind = so-blind skip-blind (λ mark. close-blind start there s (expr.Try left) (expr.Try left') (λ span. rw (← l) (bare_expr-Try left span)))

    postfix_by-blind : (begins : PostfixStart) → IgnoresSpans erased_expr (postfix_by readers start left begins) (postfix_by readers there left' begins)
    postfix_by-blind postfix.Call = call-blind
    postfix_by-blind postfix.Dot = so-blind skip-blind (λ mark. member-blind)
    postfix_by-blind postfix.Index = index-blind
    postfix_by-blind postfix.Try = question-blind
    postfix_by-blind postfix.Nothing = refuse-blind

    postfixes_by-blind : (more more' : Expr → Parser Expr) → ((longer longer' : Expr) → erased_expr longer ≡ longer' → IgnoresSpans erased_expr (more longer) (more' longer')) → (begins : PostfixStart)
        → IgnoresSpans erased_expr (postfixes_by readers more start left begins) (postfixes_by readers more' there left' begins)
    postfixes_by-blind more more' h postfix.Nothing = pure-blind left left' l
    postfixes_by-blind more more' h postfix.Call = then-blind (postfix_by-blind postfix.Call) h
    postfixes_by-blind more more' h postfix.Dot = then-blind (postfix_by-blind postfix.Dot) h
    postfixes_by-blind more more' h postfix.Index = then-blind (postfix_by-blind postfix.Index) h
    postfixes_by-blind more more' h postfix.Try = then-blind (postfix_by-blind postfix.Try) h

  postfixes_from-blind : (start there : Span) → CallSite ≡ there → (turns : ℕ) (left left' : Expr) → erased_expr left ≡ left' → IgnoresSpans erased_expr (postfixes_from readers start turns left) (postfixes_from readers there turns left')
  unfolding postfixes_from
  postfixes_from-blind start there s zero left left' l = so-blind at_end-blind (λ done. if-blind done (pure-blind left left' l) refuse-blind)
  postfixes_from-blind start there s (suc turns) left left' l = so-blind (test-blind postfix_start postfix_start postfix_start-bare)
      (postfixes_by-blind start there s left left' l (postfixes_from readers start turns) (postfixes_from readers there turns) (postfixes_from-blind start there s turns))

  pub postfixed-blind : (begins : AtomStart) → IgnoresSpans erased_expr (postfixed readers begins) (postfixed readers begins)
  unfolding postfixed
  postfixed-blind begins = here-blind (λ start there s. then-blind (atom_by-blind readers parts begins) (λ left left' l.
      by_turns-blind (λ turns. postfixes_from-blind start there s turns left left' l)))
