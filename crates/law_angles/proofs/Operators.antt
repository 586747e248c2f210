-- The angles of operators and ranges close, if those of their parts do.
use Rattle.std.proofs.Common.{◌≡◌, ◌⊎◌, inl, inr, ℕ, zero, suc, ◌≤◌, ◌==◌, Bool, true, false, if◌then◌else◌, List, Option, Some, None, refl, arith, ap, sym, subst, ◌∙◌}
use Rattle.std.proofs.lemmas.Bool.{and_parts}
use Rattle.tok_types.specs.declared.span.Span.{Span}
use Rattle.tok_types.specs.declared.tree.TokenTree.{TokenTree}
use Rattle.node_expr.specs.declared.expr.Expr.{Expr}
use Rattle.node_expr.specs.declared.expr.Expr.TheVariants as expr
use Rattle.node_expr.specs.declared.expr.UnOp.{UnOp}
use Rattle.node_expr.specs.declared.expr.UnOp.TheVariants as op
use Rattle.syn_grammar.specs.declared.look.Infix.{Infix}
use Rattle.syn_grammar.specs.declared.look.OperandStart.{OperandStart}
use Rattle.syn_grammar.specs.declared.look.OperandStart.TheVariants as begin
use Rattle.syn_grammar.specs.declared.word.Word.TheVariants as word
use Rattle.syn_grammar.specs.Expressions.{unary, reference, operand_by, operand, right_of, chain_by, chain_from, compared, chain, binary_from, binary, range_from, range, any, expr_step}
use Rattle.syn_grammar.specs.Input.{Input, Parser, is_end, pure, skip}
use Rattle.syn_grammar.specs.Look.{at_level, begins_closure, begins_operand, operand_start, operator_of}
use Rattle.syn_grammar.specs.Make as make
use Rattle.syn_grammar.specs.Readers.{Readers, operand_level, or_level, range_level, any_level, constant_level}
use Rattle.syn_grammar.specs.Token.{after_one, is_closed_dots, is_dots, is_mark, is_pair}
use Rattle.law_angles.specs.Ends.{max_angles}
use Rattle.law_angles.proofs.Walk.{pair-is, other-mark, zero-step}
use Rattle.law_angles.proofs.Steps.{LeadsAt, Leads, Over, refuse-at, pure-at, so-at, if-at, case-at, seen-at, here-at, close-at, turns-at, skip-at, skip_by-at}
use Rattle.law_angles.proofs.Looks.{is_unary, operand-atom, operand-mark, Operator, operator-seen, level-operator}
use Rattle.law_angles.proofs.Paths.{AllLead, eat_word-at}
use Rattle.law_angles.proofs.Atoms.{closure-leads, constant-leads}
use Rattle.law_angles.proofs.Postfixes.{postfixed-leads}

-- an operator of so many tokens
operator-over : (width : ℕ) (trees : List TokenTree) → Operator width trees → Over width 0 0 trees
operator-over width trees seen = go seen.many
  where
    one : Over 1 0 0 trees
    one holds = zero-step trees seen.one holds

    go : (width ≡ 1) ⊎ ((width ≡ 2) × (is_mark 58 (after_one trees) ≡ false)) → Over width 0 0 trees
    go (inl is) = subst (λ (width : ℕ). Over width 0 0 trees) (sym is) one
    go (inr two) = subst (λ (width : ℕ). Over width 0 0 trees) (sym two.0) (λ holds. one (zero-step (after_one trees) two.1 holds))

-- two marks and no colon
pair-over : (first second : ℕ) (trees : List TokenTree) → is_pair first second trees ≡ true → (first == 58) ≡ false → (second == 58) ≡ false → Over 2 0 0 trees
pair-over first second trees is one two holds =
    let pair = pair-is first second trees is in
    zero-step trees (other-mark first 58 trees pair.one one) (zero-step (after_one trees) (other-mark second 58 (after_one trees) pair.two two) holds)

-- `..` and `..=`
dots-over : (closed : Bool) (trees : List TokenTree) → is_dots trees ≡ true → is_closed_dots trees ≡ closed → Over (if closed then 3 else 2) 0 0 trees
dots-over false trees is closed holds = pair-over 46 46 trees is refl refl holds
dots-over true trees is closed holds =
    let first = pair-is 46 46 trees is in
    zero-step trees (other-mark 46 58 trees first.one refl) (pair-over 46 61 (after_one trees) (and_parts (is_dots trees) _ closed).1 refl refl holds)

module _ (limit : ℕ) (readers : Readers) (parts : AllLead limit readers) (fits : suc (suc limit) ≤ max_angles) where
  part-leads : (level : ℕ) → Leads 0 0 (readers.expr level)
  part-leads level = parts.expr level (omega arith)

  -- the operator that was seen before an operand
  operator_skip-at : {input : Input} (begins : OperandStart) → operand_start input.rest ≡ begins → is_unary begins ≡ true → LeadsAt 0 0 skip input
  operator_skip-at {input} begins is unary = skip-at (zero-step input.rest (operand-mark input.rest (rw is unary)))

  unary-leads : (op : UnOp) (begins : OperandStart) (input : Input) → operand_start input.rest ≡ begins → is_unary begins ≡ true → LeadsAt 0 0 (unary readers op) input
  unfolding unary
  unary-leads op begins input is one = here-at (λ start.
      so-at (operator_skip-at begins is one) (λ mark input.
      so-at (part-leads operand_level input) (λ operand input. close-at start (expr.Unary op operand))))

  reference-leads : (input : Input) → operand_start input.rest ≡ begin.Reference → LeadsAt 0 0 (reference readers) input
  unfolding reference
  reference-leads input is = here-at (λ start.
      so-at (operator_skip-at begin.Reference is refl) (λ mark input.
      so-at (eat_word-at word.Mut refl) (λ mutable input.
      so-at (part-leads operand_level input) (λ operand input. close-at start (expr.Reference mutable operand)))))

  operand_by-leads : (input : Input) (begins : OperandStart) → operand_start input.rest ≡ begins → LeadsAt 0 0 (operand_by readers begins) input
  operand_by-leads input begin.Neg is = unary-leads op.Neg begin.Neg input is refl
  operand_by-leads input begin.Not is = unary-leads op.Not begin.Not input is refl
  operand_by-leads input begin.Deref is = unary-leads op.Deref begin.Deref input is refl
  operand_by-leads input begin.Reference is = reference-leads input is
  operand_by-leads input (begin.Atom begins) is = postfixed-leads limit readers parts fits input begins (operand-atom input.rest begins is)

  operand-leads : Leads 0 0 (operand readers)
  unfolding operand
  operand-leads input = seen-at operand_start (λ begins is. operand_by-leads input begins is)

  -- ---- operators

  module _ (start : Span) where
    right_of-leads : (below : ℕ) (left : Expr) (op : Infix) (input : Input) → operator_of input.rest ≡ Some op → LeadsAt 0 0 (right_of readers start below left op) input
    unfolding right_of
    right_of-leads below left op input is =
        so-at (skip_by-at op.width (operator-over op.width input.rest (operator-seen input.rest op is))) (λ marks input.
        so-at (part-leads below input) (λ right input. close-at start (expr.Binary left op.op right)))

    chain_by-leads : (below : ℕ) (more : Expr → Parser Expr) → ((longer : Expr) → Leads 0 0 (more longer)) → (left : Expr) (input : Input) (found : Option Infix) → at_level (suc below) (operator_of input.rest) ≡ found
        → LeadsAt 0 0 (chain_by readers more start below left found) input
    chain_by-leads below more h left input (Some op) is = so-at (right_of-leads below left op input (level-operator (suc below) (operator_of input.rest) op is)) h
    chain_by-leads below more h left input None is = pure-at left

    chain_from-leads : (below turns : ℕ) (left : Expr) → Leads 0 0 (chain_from readers start below turns left)
    unfolding chain_from
    chain_from-leads below zero left input = seen-at is_end (λ done is. if-at done (pure-at left) refuse-at)
    chain_from-leads below (suc turns) left input =
        seen-at operator_of (λ found is. chain_by-leads below (chain_from readers start below turns) (chain_from-leads below turns) left input (at_level (suc below) found) (ap (at_level (suc below)) is))

    compared-leads : (below : ℕ) (left : Expr) → Leads 0 0 (compared readers start below left)
    unfolding compared
    compared-leads below left input = seen-at operator_of (λ found is. chain_by-leads below pure (λ longer input. pure-at longer) left input (at_level (suc below) found) (ap (at_level (suc below)) is))

    chain-leads : (below : ℕ) (left : Expr) → Leads 0 0 (chain readers start below left)
    unfolding chain
    chain-leads below left input = if-at (below == 6) (compared-leads below left input) (turns-at (λ turns. chain_from-leads below turns left input))

    binary_from-leads : (level : ℕ) → Leads 0 0 (binary_from readers start level)
    unfolding binary_from
    binary_from-leads zero input = operand-leads input
    binary_from-leads (suc below) input = so-at (binary_from-leads below input) (chain-leads below)

    -- ---- ranges

    range_from-leads : (left : Option Expr) (input : Input) → is_dots input.rest ≡ true → LeadsAt 0 0 (range_from readers start left) input
    unfolding range_from
    range_from-leads left input there =
        so-at (seen-at is_closed_dots (λ closed is. so-at (skip_by-at (if closed then 3 else 2) (dots-over closed input.rest there is)) (λ marks input. pure-at closed))) (λ closed input.
        seen-at begins_operand (λ bounded is.
        if-at bounded (so-at (part-leads or_level input) (λ right input. close-at start (make.expr_range left (Some right) closed)))
        (if-at closed refuse-at (close-at start (make.expr_range left None false)))))

  binary-leads : (level : ℕ) → Leads 0 0 (binary readers level)
  unfolding binary
  binary-leads level input = here-at (λ start. binary_from-leads start level input)

  range-leads : Leads 0 0 (range readers)
  unfolding range
  range-leads input = here-at (λ start.
      seen-at is_dots (λ unbounded is.
      case-at unbounded (λ h. range_from-leads start None input (is ∙ h))
      (so-at (binary-leads or_level input) (λ left input.
      seen-at is_dots (λ ranged is.
      case-at ranged (λ h. range_from-leads start (Some left) input (is ∙ h)) (pure-at left))))))

  any-leads : Leads 0 0 (any readers)
  unfolding any
  any-leads input = seen-at begins_closure (λ closed is. if-at closed (closure-leads limit readers parts fits input) (range-leads input))

  pub expr_step-leads : (level : ℕ) → Leads 0 0 (expr_step readers level)
  unfolding expr_step
  expr_step-leads level input =
      if-at (level == any_level) (any-leads input)
      (if-at (level == range_level) (range-leads input)
      (if-at (level == constant_level) (constant-leads readers 0 input) (binary-leads level input)))

-- a constant has no angles
pub constant_step-leads : (readers : Readers) (angles : ℕ) → Leads angles angles (expr_step readers constant_level)
unfolding expr_step
constant_step-leads readers angles = constant-leads readers angles
