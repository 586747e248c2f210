-- The law of fronts for what stands behind an operand.
use Rattle.std.proofs.Common.{◌≡◌, ℕ, zero, suc, ◌≤◌, Bool, true, false, List, [], ◌∷◌, length, Some, refl, arith, sym, ◌∙◌}
use Rattle.tok_types.specs.declared.ident.Ident.{Ident}
use Rattle.tok_types.specs.declared.span.Span.{Span}
use Rattle.tok_types.specs.declared.tree.Delimiter.TheVariants as delimiter
use Rattle.tok_types.specs.declared.tree.TokenTree.{TokenTree}
use Rattle.node_expr.specs.declared.expr.Expr.{Expr}
use Rattle.node_expr.specs.declared.expr.Expr.TheVariants as expr
use Rattle.node_expr.specs.declared.expr.Member.{Member}
use Rattle.node_expr.specs.declared.expr.Member.TheVariants as made
use Rattle.syn_grammar.specs.declared.look.AtomStart.{AtomStart}
use Rattle.syn_grammar.specs.declared.look.PostfixStart.{PostfixStart}
use Rattle.syn_grammar.specs.declared.look.PostfixStart.TheVariants as postfix
use Rattle.syn_grammar.specs.Expressions.{args, turbofish_call, method_call, field, named_member, member_by, member, call, index, question, postfix_by, postfixes_by, postfixes_from, postfixes, postfixed}
use Rattle.syn_grammar.specs.Input.{Input, Parser, ◌>>=◌, pure}
use Rattle.syn_grammar.specs.Look.{is_atom, is_there, postfix_start}
use Rattle.syn_grammar.specs.Paths.{list}
use Rattle.syn_grammar.specs.Readers.{Readers, any_level}
use Rattle.syn_grammar.specs.Token.{is_group, is_turbofish, mark_of, is_joint, is_pair}
use Rattle.syn_grammar.specs.Words.{name_of}
use Rattle.law_prefix.specs.SameLookahead.{SameLookahead}
use Rattle.law_prefix.specs.ReadsByPrefix.{at}
use Rattle.law_prefix.proofs.Looks.{alike-group, alike-name, alike-turbofish}
use Rattle.law_prefix.proofs.Begins.{alike-postfix_start}
use Rattle.law_prefix.proofs.Steps.{FrontAt, Fronts, refuse_at-front, stay-front, pure-front, then-front, first_at-front, first-front, turn_at-front, maybe_at-front, maybe-front, late-front, none_at-front, if-front, seen-front, test_at-front, test-front, here_at-front, close-front, turns-front}
use Rattle.law_prefix.proofs.Takes.{skip_at-front, skip_more-front, skip_then-front, inside-front, seen-enough}
use Rattle.law_prefix.proofs.Loops.{Rule}
use Rattle.law_prefix.proofs.Words.{name-front, index-front}
use Rattle.law_prefix.proofs.Paths.{AllFronts, generic_arguments-front}
use Rattle.law_prefix.proofs.Atoms.{atom_by-front}

module _ (readers : Readers) (parts : AllFronts readers) where
  args-front : Rule true (args readers)
  args-front limit = inside-front delimiter.Parenthesis (list (readers.expr any_level))

  turbofish_call-front : (start : Span) (receiver : Expr) (method : Ident) → Rule true (turbofish_call readers start receiver method)
  unfolding turbofish_call
  turbofish_call-front start receiver method limit = skip_more-front 3 (
      first-front (generic_arguments-front readers parts limit) (λ turbofish.
      then-front (args-front limit) (λ given. close-front start (expr.MethodCall receiver method turbofish given))))

  method_call-front : (start : Span) (receiver : Expr) (method : Ident) → Rule true (method_call readers start receiver method)
  unfolding method_call
  method_call-front start receiver method limit = first-front (args-front limit) (λ given. close-front start (expr.MethodCall receiver method [] given))

  field-front : (start : Span) (base : Expr) (found : Member) (limit : ℕ) → Fronts limit SameLookahead SameLookahead false false (field readers start base found) (field readers start base found)
  unfolding field
  field-front start base found limit = close-front start (expr.Field base found)

  named_member-front : (start : Span) (base : Expr) (name : Ident) (limit : ℕ) → Fronts limit SameLookahead SameLookahead false false (named_member readers start base name) (named_member readers start base name)
  unfolding named_member
  named_member-front start base name limit =
      test-front is_turbofish alike-turbofish (λ turbofish.
      test-front (is_group delimiter.Parenthesis) (alike-group delimiter.Parenthesis) (λ called.
      if-front turbofish (maybe-front (late-front (turbofish_call-front start base name limit)))
      (if-front called (maybe-front (late-front (method_call-front start base name limit))) (field-front start base (made.Named name) limit))))

  member_by-front : (start : Span) (base : Expr) (named : Bool) → Rule true (member_by readers start base named)
  member_by-front start base true limit = first-front (name-front limit) (λ name. named_member-front start base name limit)
  member_by-front start base false limit = first-front (index-front limit) (λ index. field-front start base (made.Unnamed index) limit)

  member-front : (start : Span) (base : Expr) → Rule true (member readers start base)
  unfolding member
  member-front start base limit = test-front (λ trees. is_there (name_of trees)) alike-name (λ named. member_by-front start base named limit)

  call-front : (start : Span) (func : Expr) → Rule true (call readers start func)
  unfolding call
  call-front start func limit = first-front (args-front limit) (λ given. close-front start (expr.Call func given))

  index_of-front : (start : Span) (base : Expr) → Rule true (index readers start base)
  unfolding index
  index_of-front start base limit = first-front (inside-front delimiter.Bracket (readers.expr any_level)) (λ at. close-front start (expr.Index base at))

  postfix-some : (trees : List TokenTree) → postfix_start trees ≡ postfix.Try → 1 ≤ length trees
  unfolding postfix_start is_group mark_of is_pair is_joint
  postfix-some trees is = seen-enough postfix_start postfix.Try trees is (λ h. absurd cc)

  postfix_by-front : (start : Span) (left : Expr) (begins : PostfixStart) (limit : ℕ) (input : Input) → postfix_start input.rest ≡ begins
      → FrontAt limit SameLookahead SameLookahead true true (postfix_by readers start left begins) (postfix_by readers start left begins) input
  unfolding question
  postfix_by-front start left postfix.Call limit input is = (call-front start left limit).at input
  postfix_by-front start left postfix.Dot limit input is = (skip_then-front (member-front start left limit)).at input
  postfix_by-front start left postfix.Index limit input is = (index_of-front start left limit).at input
  postfix_by-front start left postfix.Try limit input is = first_at-front (skip_at-front (postfix-some input.rest is)) (λ mark. close-front start (expr.Try left))
  postfix_by-front start left postfix.Nothing limit input is = refuse_at-front

  -- ---- the loop

  -- where nothing stands behind the operand, the loop ends
  postfixes-stop : (start : Span) (limit : ℕ) (left : Expr) (trees : List TokenTree) (last : Span) → postfix_start trees ≡ postfix.Nothing → length trees ≤ limit
      → postfixes_from readers start limit left (at trees last) ≡ Some (left, at trees last)
  unfolding postfixes_from
  postfixes-stop start zero left [] last is fits = refl
  postfixes-stop start zero left (tree ∷ trees) last is fits = absurd (omega arith)
  postfixes-stop start (suc limit) left trees last is fits = rw is refl

  postfix-none : postfix_start [] ≡ postfix.Nothing
  unfolding postfix_start is_group mark_of is_pair is_joint
  postfix-none = refl

  -- a turn, by what begins there
  postfixes_by-front : (start : Span) (left : Expr) (limit : ℕ) (more others : Expr → Parser Expr) (begins : PostfixStart) (input : Input)
      → FrontAt limit SameLookahead SameLookahead true true (postfix_by readers start left begins >>= more) (postfix_by readers start left begins >>= others) input
      → FrontAt limit SameLookahead SameLookahead false true (postfixes_by readers more start left begins) (postfixes_by readers others start left begins) input
  postfixes_by-front start left limit more others postfix.Nothing input h = (pure-front left).at input
  postfixes_by-front start left limit more others postfix.Call input h = maybe_at-front h
  postfixes_by-front start left limit more others postfix.Dot input h = maybe_at-front h
  postfixes_by-front start left limit more others postfix.Index input h = maybe_at-front h
  postfixes_by-front start left limit more others postfix.Try input h = maybe_at-front h

  -- where no token may be left, only an end is read again
  postfixes_by-none : (start : Span) (left : Expr) (more others : Expr → Parser Expr) (other : Parser Expr) (begins : PostfixStart) (input : Input)
      → FrontAt 0 SameLookahead SameLookahead true true (postfix_by readers start left begins >>= more) (postfix_by readers start left begins >>= others) input
      → (begins ≡ postfix.Nothing → FrontAt 0 SameLookahead SameLookahead false true (pure left) other input) → FrontAt 0 SameLookahead SameLookahead false true (postfixes_by readers more start left begins) other input
  postfixes_by-none start left more others other postfix.Nothing input h g = g refl
  postfixes_by-none start left more others other postfix.Call input h g = maybe_at-front (none_at-front h)
  postfixes_by-none start left more others other postfix.Dot input h g = maybe_at-front (none_at-front h)
  postfixes_by-none start left more others other postfix.Index input h g = maybe_at-front (none_at-front h)
  postfixes_by-none start left more others other postfix.Try input h g = maybe_at-front (none_at-front h)

  postfixes-ended : (start : Span) (limit : ℕ) (left : Expr) (trees : List TokenTree) (last : Span)
      → FrontAt limit SameLookahead SameLookahead false true (postfixes_from readers start 0 left) (postfixes_from readers start limit left) (at trees last)
  unfolding postfixes_from
  postfixes-ended start limit left [] last = stay-front left refl (λ tail new alike fits. postfixes-stop start limit left tail new (sym (alike-postfix_start [] tail alike) ∙ postfix-none) fits)
  postfixes-ended start limit left (tree ∷ trees) last = record { of = λ after found e. absurd cc }

  postfixes_from-front : (start : Span) (limit turns : ℕ) (left : Expr) → Fronts limit SameLookahead SameLookahead false true (postfixes_from readers start turns left) (postfixes_from readers start limit left)
  unfolding postfixes_from
  postfixes_from-front start limit zero left = record { at = λ input. postfixes-ended start limit left input.rest input.last }
  postfixes_from-front start zero (suc turns) left = record {
    at = λ input. seen-front postfix_start (postfixes_by readers (postfixes_from readers start turns) start left)
        (postfixes_by-none start left (postfixes_from readers start turns) (postfixes_from readers start 0) (postfixes_from readers start 0 left) (postfix_start input.rest) input
        (first_at-front (postfix_by-front start left (postfix_start input.rest) 0 input refl) (λ longer. postfixes_from-front start 0 turns longer))
        (λ none. stay-front left refl (λ tail new alike fits. postfixes-stop start 0 left tail new (sym (alike-postfix_start input.rest tail alike) ∙ none) fits)));
  }
  postfixes_from-front start (suc limit) (suc turns) left = record {
    at = λ input. test_at-front postfix_start (postfixes_by readers (postfixes_from readers start turns) start left) (postfixes_by readers (postfixes_from readers start limit) start left) alike-postfix_start (λ begins is.
        postfixes_by-front start left (suc limit) (postfixes_from readers start turns) (postfixes_from readers start limit) begins input
        (turn_at-front (postfix_by-front start left begins (suc limit) input is) (λ longer. postfixes_from-front start limit turns longer)));
  }

  postfixes-front : (start : Span) (left : Expr) → Rule false (postfixes readers start left)
  postfixes-front start left limit = turns-front {loop = λ turns. postfixes_from readers start turns left} (λ limit turns. postfixes_from-front start limit turns left)

  pub postfixed-front : (begins : AtomStart) (limit : ℕ) (input : Input) → (is_atom begins ≡ true → 1 ≤ length input.rest) → FrontAt limit SameLookahead SameLookahead true true (postfixed readers begins) (postfixed readers begins) input
  unfolding postfixed
  postfixed-front begins limit input some = here_at-front (λ start. first_at-front (atom_by-front readers parts begins limit input some) (λ left. postfixes-front start left limit))
