-- The law of fronts for operators, ranges and all expressions.
use Rattle.std.proofs.Common.{◌≡◌, ℕ, zero, suc, ◌≤◌, ◌<◌, Bool, true, false, ◌==◌, if◌then◌else◌, List, [], ◌∷◌, length, Option, Some, None, refl, arith, sym, ap, ◌∙◌}
use Rattle.std.proofs.lemmas.Bool.{both_ways}
use Rattle.tok_types.specs.declared.span.Span.{Span}
use Rattle.tok_types.specs.declared.tree.TokenTree.{TokenTree}
use Rattle.node_expr.specs.declared.expr.Expr.{Expr}
use Rattle.node_expr.specs.declared.expr.Expr.TheVariants as expr
use Rattle.node_expr.specs.declared.expr.UnOp.{UnOp}
use Rattle.node_expr.specs.declared.expr.UnOp.TheVariants as op
use Rattle.syn_grammar.specs.declared.look.AtomStart.{AtomStart}
use Rattle.syn_grammar.specs.declared.look.Infix.{Infix}
use Rattle.syn_grammar.specs.declared.look.OperandStart.{OperandStart}
use Rattle.syn_grammar.specs.declared.look.OperandStart.TheVariants as begin
use Rattle.syn_grammar.specs.declared.word.Word.TheVariants as word
use Rattle.syn_grammar.specs.Expressions.{unary, reference, operand_by, operand, right_of, chain_by, chain_from, compared, chain_all, chain, binary_from, binary, dots, range_from, range, any, expr_step}
use Rattle.syn_grammar.specs.Input.{Input, Parser, ◌>>=◌, ◌>>◌, pure, refuse, test, skip_by}
use Rattle.syn_grammar.specs.Look.{atom_start, operand_start, is_atom, is_operand, begins_closure, begins_operand, operator_of, at_level}
use Rattle.syn_grammar.specs.Make as make
use Rattle.syn_grammar.specs.Readers.{Readers, operand_level, or_level, any_level, range_level, constant_level}
use Rattle.syn_grammar.specs.Token.{is_closed_dots, is_dots, is_group, mark_of, is_joint, is_pair, literal_of, ident_of}
use Rattle.syn_grammar.specs.Words.{next_word}
use Rattle.law_prefix.specs.SameLookahead.{SameLookahead}
use Rattle.law_prefix.specs.ReadsByPrefix.{at}
use Rattle.law_prefix.proofs.Looks.{alike-closed_dots, alike-dots, alike-operator}
use Rattle.law_prefix.proofs.Begins.{alike-closure, alike-operand, alike-operand_start}
use Rattle.law_prefix.proofs.Steps.{FrontAt, Fronts, refuse-front, stay-front, pure-front, then-front, first_at-front, first-front, turn_at-front, maybe_at-front, maybe-front, late-front, none_at-front, if-front, case_at-front, seen-front, test_at-front, test-front, here-front, close-front, turns-front}
use Rattle.law_prefix.proofs.Takes.{skip_by_at-front, skip_more-front, skip_then-front, pair-enough, closed_dots-enough}
use Rattle.law_prefix.proofs.Loops.{Rule}
use Rattle.law_prefix.proofs.Words.{eat_word-front}
use Rattle.law_prefix.proofs.Paths.{AllFronts}
use Rattle.law_prefix.proofs.Closures.{closure-front}
use Rattle.law_prefix.proofs.Atoms.{constant-front}
use Rattle.law_prefix.proofs.Postfixes.{postfixed-front}

-- ---- operands

operand-some : (trees : List TokenTree) (begins : AtomStart) → operand_start trees ≡ begin.Atom begins → is_atom begins ≡ true → 1 ≤ length trees
unfolding operand_start atom_start is_group mark_of is_pair is_joint next_word ident_of literal_of
operand-some [] begins is some = let none = ap is_operand is in absurd (both_ways _ (sym none) some)
operand-some (tree ∷ trees) begins is some = omega arith

module _ (readers : Readers) (parts : AllFronts readers) where
  unary-front : (op : UnOp) → Rule true (unary readers op)
  unfolding unary
  unary-front op limit = here-front (λ start. skip_then-front (first-front (parts.expr operand_level limit) (λ operand. close-front start (expr.Unary op operand))))

  reference-front : Rule true (reference readers)
  unfolding reference
  reference-front limit = here-front (λ start. skip_then-front (
      then-front (eat_word-front word.Mut refl limit) (λ mutable.
      first-front (parts.expr operand_level limit) (λ operand. close-front start (expr.Reference mutable operand)))))

  operand_by-front : (begins : OperandStart) (limit : ℕ) (input : Input) → operand_start input.rest ≡ begins → FrontAt limit SameLookahead SameLookahead true true (operand_by readers begins) (operand_by readers begins) input
  operand_by-front begin.Neg limit input is = (unary-front op.Neg limit).at input
  operand_by-front begin.Not limit input is = (unary-front op.Not limit).at input
  operand_by-front begin.Deref limit input is = (unary-front op.Deref limit).at input
  operand_by-front begin.Reference limit input is = (reference-front limit).at input
  operand_by-front (begin.Atom begins) limit input is = postfixed-front readers parts begins limit input (λ some. operand-some input.rest begins is some)

  operand-front : Rule true (operand readers)
  unfolding operand
  operand-front limit = record { at = λ input. test_at-front operand_start (operand_by readers) (operand_by readers) alike-operand_start (λ begins is. operand_by-front begins limit input is) }

  -- ---- operators

  right_of-front : (start : Span) (below : ℕ) (left : Expr) (found : Infix) → Rule true (right_of readers start below left found)
  unfolding right_of
  right_of-front start below left found limit = skip_more-front found.width (first-front (parts.expr below limit) (λ right. close-front start (expr.Binary left found.op right)))

  -- where no operator of the level stands, the loop ends
  chain-stop : (start : Span) (below limit : ℕ) (left : Expr) (trees : List TokenTree) (last : Span) → at_level (suc below) (operator_of trees) ≡ None → length trees ≤ limit
      → chain_from readers start below limit left (at trees last) ≡ Some (left, at trees last)
  unfolding chain_from
  chain-stop start below zero left [] last is fits = refl
  chain-stop start below zero left (tree ∷ trees) last is fits = absurd (omega arith)
  chain-stop start below (suc limit) left trees last is fits = rw is refl

  operator-none : operator_of [] ≡ None
  unfolding operator_of mark_of is_joint
  operator-none = refl

  chain_by-front : (start : Span) (below : ℕ) (left : Expr) (limit : ℕ) (more others : Expr → Parser Expr) (found : Option Infix) (input : Input)
      → ((op : Infix) → FrontAt limit SameLookahead SameLookahead true true (right_of readers start below left op >>= more) (right_of readers start below left op >>= others) input)
      → FrontAt limit SameLookahead SameLookahead false true (chain_by readers more start below left found) (chain_by readers others start below left found) input
  chain_by-front start below left limit more others (Some op) input h = maybe_at-front (h op)
  chain_by-front start below left limit more others None input h = (pure-front left).at input

  -- where no token may be left, only an end is read again
  chain_by-none : (start : Span) (below : ℕ) (left : Expr) (more others : Expr → Parser Expr) (other : Parser Expr) (found : Option Infix) (input : Input)
      → ((op : Infix) → FrontAt 0 SameLookahead SameLookahead true true (right_of readers start below left op >>= more) (right_of readers start below left op >>= others) input)
      → (found ≡ None → FrontAt 0 SameLookahead SameLookahead false true (pure left) other input) → FrontAt 0 SameLookahead SameLookahead false true (chain_by readers more start below left found) other input
  chain_by-none start below left more others other (Some op) input h g = maybe_at-front (none_at-front (h op))
  chain_by-none start below left more others other None input h g = g refl

  level-same : (below : ℕ) (rest tail : List TokenTree) → SameLookahead rest tail → at_level (suc below) (operator_of rest) ≡ None → at_level (suc below) (operator_of tail) ≡ None
  level-same below rest tail alike none = ap (at_level (suc below)) (sym (alike-operator rest tail alike)) ∙ none

  chain-ended : (start : Span) (below limit : ℕ) (left : Expr) (trees : List TokenTree) (last : Span)
      → FrontAt limit SameLookahead SameLookahead false true (chain_from readers start below 0 left) (chain_from readers start below limit left) (at trees last)
  unfolding chain_from
  chain-ended start below limit left [] last =
      stay-front left refl (λ tail new alike fits. chain-stop start below limit left tail new (level-same below [] tail alike (ap (at_level (suc below)) operator-none)) fits)
  chain-ended start below limit left (tree ∷ trees) last = record { of = λ after found e. absurd cc }

  -- what stands behind an operand, by the operator that is there
  abbrev chain_step : (Expr → Parser Expr) → Span → ℕ → Expr → Option Infix → Parser Expr
  chain_step more start below left found = chain_by readers more start below left (at_level (suc below) found)

  chain_from-front : (start : Span) (below limit turns : ℕ) (left : Expr) → Fronts limit SameLookahead SameLookahead false true (chain_from readers start below turns left) (chain_from readers start below limit left)
  unfolding chain_from
  chain_from-front start below limit zero left = record { at = λ input. chain-ended start below limit left input.rest input.last }
  chain_from-front start below zero (suc turns) left = record {
    at = λ input. seen-front operator_of (chain_step (chain_from readers start below turns) start below left)
        (chain_by-none start below left (chain_from readers start below turns) (chain_from readers start below 0) (chain_from readers start below 0 left) (at_level (suc below) (operator_of input.rest)) input
        (λ op. first_at-front ((right_of-front start below left op 0).at input) (λ longer. chain_from-front start below 0 turns longer))
        (λ none. stay-front left refl (λ tail new alike fits. chain-stop start below 0 left tail new (level-same below input.rest tail alike none) fits)));
  }
  chain_from-front start below (suc limit) (suc turns) left = record {
    at = λ input. test_at-front operator_of (chain_step (chain_from readers start below turns) start below left) (chain_step (chain_from readers start below limit) start below left) alike-operator (λ found is.
        chain_by-front start below left (suc limit) (chain_from readers start below turns) (chain_from readers start below limit) (at_level (suc below) found) input
        (λ op. turn_at-front ((right_of-front start below left op (suc limit)).at input) (λ longer. chain_from-front start below limit turns longer)));
  }

  compared-front : (start : Span) (below : ℕ) (left : Expr) → Rule false (compared readers start below left)
  unfolding compared
  compared-front start below left limit = record {
    at = λ input. test_at-front operator_of (chain_step pure start below left) (chain_step pure start below left) alike-operator (λ found is.
        chain_by-front start below left limit pure pure (at_level (suc below) found) input (λ op. first_at-front ((right_of-front start below left op limit).at input) (λ longer. pure-front longer)));
  }

  chain_all-front : (start : Span) (below : ℕ) (left : Expr) → Rule false (chain_all readers start below left)
  chain_all-front start below left limit = turns-front {loop = λ turns. chain_from readers start below turns left} (λ limit turns. chain_from-front start below limit turns left)

  chain-front : (start : Span) (below : ℕ) (left : Expr) → Rule false (chain readers start below left)
  unfolding chain
  chain-front start below left limit = if-front (below == 6) (compared-front start below left limit) (chain_all-front start below left limit)

  binary_from-front : (start : Span) (level : ℕ) → Rule true (binary_from readers start level)
  unfolding binary_from
  binary_from-front start zero limit = operand-front limit
  binary_from-front start (suc below) limit = first-front (binary_from-front start below limit) (λ left. chain-front start below left limit)

  pub binary-front : (level : ℕ) → Rule true (binary readers level)
  unfolding binary
  binary-front level limit = here-front (λ start. binary_from-front start level limit)

  -- ---- ranges

  dots-size : (closed : Bool) (trees : List TokenTree) → is_closed_dots trees ≡ closed → is_dots trees ≡ true → (if closed then 3 else 2) ≤ length trees
  dots-size true trees is there = closed_dots-enough trees is
  dots-size false trees is there = pair-enough 46 46 refl trees there

  dots-some : (closed : Bool) → 0 < (if closed then 3 else 2)
  dots-some true = omega arith
  dots-some false = omega arith

  dots-front : (limit : ℕ) (input : Input) → is_dots input.rest ≡ true → FrontAt limit SameLookahead SameLookahead true true (dots readers) (dots readers) input
  dots-front limit input there =
      test_at-front is_closed_dots (λ closed. skip_by (if closed then 3 else 2) >> pure closed) (λ closed. skip_by (if closed then 3 else 2) >> pure closed) alike-closed_dots (λ closed is.
      first_at-front (skip_by_at-front true (if closed then 3 else 2) (λ _. dots-some closed) (dots-size closed input.rest is there)) (λ marks. pure-front closed))

  range_from-front : (start : Span) (left : Option Expr) (limit : ℕ) (input : Input) → is_dots input.rest ≡ true → FrontAt limit SameLookahead SameLookahead true true (range_from readers start left) (range_from readers start left) input
  unfolding range_from
  range_from-front start left limit input there = first_at-front (dots-front limit input there) (λ closed.
      test-front begins_operand alike-operand (λ bounded.
      if-front bounded (maybe-front (late-front (first-front (parts.expr or_level limit) (λ right. close-front start (make.expr_range left (Some right) closed)))))
      (if-front closed (refuse-front refuse) (close-front start (make.expr_range left None false)))))

  -- what stands behind an operand of a range
  abbrev ranged_by : Span → Expr → Bool → Parser Expr
  ranged_by start left ranged = if ranged then range_from readers start (Some left) else pure left

  ranged-front : (start : Span) (left : Expr) → Rule false (test is_dots >>= ranged_by start left)
  ranged-front start left limit = record {
    at = λ input. test_at-front is_dots (ranged_by start left) (ranged_by start left) alike-dots (λ ranged is.
        case_at-front ranged (λ h. maybe_at-front (range_from-front start (Some left) limit input (is ∙ h))) (λ _. (pure-front left).at input));
  }

  -- a range, by whether it begins with its marks
  abbrev range_by : Span → Bool → Parser Expr
  range_by start unbounded = if unbounded then range_from readers start None else (binary readers or_level >>= (λ left. test is_dots >>= ranged_by start left))

  range-front : Rule true (range readers)
  unfolding range
  range-front limit = here-front {next = λ start. test is_dots >>= range_by start} {following = λ start. test is_dots >>= range_by start} (λ start. record {
    at = λ input. test_at-front is_dots (range_by start) (range_by start) alike-dots (λ unbounded is.
        case_at-front unbounded (λ h. range_from-front start None limit input (is ∙ h)) (λ _. (first-front (binary-front or_level limit) (λ left. ranged-front start left limit)).at input));
  })

  any-front : Rule true (any readers)
  unfolding any
  any-front limit = test-front begins_closure alike-closure (λ closed. if-front closed (closure-front readers parts limit) (range-front limit))

  pub expr_step-front : (level : ℕ) → Rule true (expr_step readers level)
  unfolding expr_step
  expr_step-front level limit = if-front (level == any_level) (any-front limit)
      (if-front (level == range_level) (range-front limit)
      (if-front (level == constant_level) (constant-front readers parts limit) (binary-front level limit)))
