-- The law of printing for operators between operands, level by level.
use Rattle.std.proofs.Common.{◌≡◌, ℕ, zero, suc, Bool, true, false, ◌==◌, if◌then◌else◌, [], ◌++◌, Option, Some, None, refl, arith, ap, sym, ◌∙◌, append_assoc, append-nil}
use Rattle.std.proofs.lemmas.Bool.{eq-eqb}
use Rattle.tok_types.specs.declared.span.Span.{Span}
use Rattle.node_expr.specs.declared.expr.Expr.{Expr}
use Rattle.node_expr.specs.declared.expr.Expr.TheVariants as expr
use Rattle.syn_grammar.specs.declared.look.AtomStart.{AtomStart}
use Rattle.syn_grammar.specs.declared.look.Infix.{Infix}
use Rattle.syn_grammar.specs.Expressions.{binary, binary_from, chain, chain_all, chain_by, chain_from, compared, postfixed, right_of}
use Rattle.syn_grammar.specs.Input.{Input, Parser, and_then, ◌>>=◌, is_end, pure, refuse, test}
use Rattle.syn_grammar.specs.Look.{at_level, infix_of, is_there, level_of, operator_of}
use Rattle.syn_grammar.specs.Readers.{Readers, operand_level}
use Rattle.syn_grammar.specs.Token.{is_joint, mark_of}
use Rattle.print_core.specs.Exprs.{bin_op_tokens}
use Rattle.print_core.specs.Marks.{Trees}
use Rattle.print_core.specs.Nodes.{expr_tokens}
use Rattle.law_spans.specs.Erased.{erased_expr}
use Rattle.law_spans.proofs.Made.{bare_expr-Binary}
use Rattle.law_prefix.specs.SameLookahead.{Relation, Any}
use Rattle.law_round_trip.specs.Follow.{BeginsAtom, BeginsExpr, Looser, operates}
use Rattle.law_round_trip.specs.Parts.{AllRoundTrip}
use Rattle.law_round_trip.specs.Printed.{RoundTrips}
use Rattle.law_round_trip.proofs.Follows.{keep-false, looser-end}
use Rattle.law_round_trip.proofs.Infix.{at_level-read, looser-operator, looser-tighter, operator-length, operator-some, operator_of-printed, width_of}
use Rattle.law_round_trip.proofs.Loops.{Loop, loop-rest}
use Rattle.law_round_trip.proofs.Operands.{operand-back}
use Rattle.law_round_trip.proofs.Prints.{print-binary}
use Rattle.law_round_trip.proofs.Steps.{Rest, close-rest, here-rest, hole, if-rest, part, part-rest, placed-rest, pure-rest, refuse-rest, returned-rest, sure_test-rest, then-rest, weak-rest, whole}
use Rattle.law_round_trip.proofs.Takes.{skip_by-rest}

abbrev operator_at : ℕ → Trees → Option Infix
operator_at level trees = at_level level (operator_of trees)

-- an operator of a level, as it is printed
abbrev IsOperator : ℕ → Option Infix → Type 0
IsOperator level o = (it : Infix) → o ≡ Some it → (it ≡ infix_of (width_of it.op) it.op) × (level_of it.op ≡ level)

-- it comes next, behind an expression that it does not go on with at a tighter level
abbrev Operator : ℕ → Option Infix → Relation
Operator below (Some it) rest tail = (operator_at (suc below) tail ≡ Some it) × (is_end tail ≡ false) × Looser below rest tail
Operator below None rest tail = ⊥

at_level-own : (level : ℕ) (it : Infix) → it.level ≡ level → at_level level (Some it) ≡ Some it
at_level-own level it is = rw (eq-eqb it.level level is) refl

printed-operator : (below : ℕ) (it : Infix) → it ≡ infix_of (width_of it.op) it.op → level_of it.op ≡ suc below → (span : Span) (rest tail : Trees) → Operator below (Some it) rest (bin_op_tokens it.op span ++ tail)
printed-operator below it is level span rest tail = (
  ap (at_level (suc below)) (operator_of-printed it.op span tail ∙ ap Some (sym is)) ∙ at_level-own (suc below) it (ap (λ (it : Infix). it.level) is ∙ level),
  operator-some it.op span tail,
  looser-operator it.op below (omega (arith, level)) span rest tail,
)

none-there : {A : Type 0} (o : Option A) → is_there o ≡ false → o ≡ None
none-there None h = refl
none-there (Some it) h = absurd cc

-- where no operator of this level was, none is
stays : (below : ℕ) (rest tail : Trees) → operates (suc below) rest ≡ false → Looser (suc below) rest tail → (operates (suc below) tail ≡ false) × Looser below rest tail
stays below rest tail seen f = (keep-false (operates (suc below)) rest tail seen (f.operator (suc below) (omega arith)), looser-tighter (suc below) below (omega arith) rest tail f)

no-operator : (below : ℕ) → operates (suc below) [] ≡ false
unfolding operator_of is_joint mark_of
no-operator below = refl

module _ (readers : Readers) (parts : AllRoundTrip readers) where
  right_of-rest : {Q : Type 0} {Ok : Q → Type 0} (start : Span) (start' : Q → Span) (below : ℕ) (left : Expr) (left' : Q → Expr) → ((q : Q) → Ok q → erased_expr (left' q) ≡ erased_expr left) → (it : Infix) → it ≡ infix_of (width_of it.op) it.op → level_of it.op ≡ suc below
      → Rest {P = Span} {Q = Q} Ok erased_expr expr_tokens (λ place tokens. expr_tokens left ++ tokens) (Operator below (Some it)) (Looser below) (right_of readers start below left it) (λ q. right_of readers (start' q) below (left' q) it)
  unfolding right_of
  right_of-rest start start' below left left' same it is level = skip_by-rest {Second = Any} it.width (λ place. bin_op_tokens it.op place) (λ place. operator-length it.op place ∙ sym (ap (λ (it : Infix). it.width) is))
      (then-rest {Second = Looser below} (λ place. parts.expr below) (λ right. close-rest start (λ q. start' q.0) (expr.Binary left it.op right) (λ q. expr.Binary (left' q.0) it.op q.1)
      (λ span. rw (print-binary, append-nil, append_assoc) refl) (λ span other q ok. rw (bare_expr-Binary, bare_expr-Binary, same q.0 ok.0, ok.1) refl))
      (λ rest tail f other. f) (λ rest tail f. tt))
      (λ input tail place f. printed-operator below it is level place input.rest tail)

  -- ---- one turn of a chain

  abbrev turn_by : Span → ℕ → Expr → Option Infix → Parser Expr
  turn_by start below left (Some it) = right_of readers start below left it
  turn_by start below left None = refuse

  abbrev turn : ℕ → Span → Expr → Parser Expr
  turn below start left = test (operator_at (suc below)) >>= turn_by start below left

  abbrev Turn : ℕ → Relation
  Turn below rest tail = (is_end tail ≡ false) × (operates (suc below) tail ≡ true) × Looser below rest tail

  turn_by-rest : (start : Span) (below : ℕ) (left : Expr) (o : Option Infix) → IsOperator (suc below) o
      → Rest {P = Span} {Q = Span × Expr} (λ q. erased_expr q.1 ≡ erased_expr left) erased_expr expr_tokens (λ place tokens. expr_tokens left ++ tokens) (Operator below o) (Looser below) (turn_by start below left o) (λ q. turn_by q.0 below q.1 o)
  turn_by-rest start below left (Some it) valid = right_of-rest start (λ q. q.0) below left (λ q. q.1) (λ q ok. ok) it (valid it refl).0 (valid it refl).1
  turn_by-rest start below left None valid = refuse-rest

  turned : (below : ℕ) (o : Option Infix) (rest tail : Trees) → operator_at (suc below) rest ≡ o → Operator below o rest tail → (operator_at (suc below) tail ≡ o) × Turn below rest tail
  turned below (Some it) rest tail is f = (f.0, (f.1, rw (f.0) refl, f.2))
  turned below None rest tail is f = absurd f

  turn-rest : (below : ℕ) (start : Span) (left : Expr)
      → Rest {P = Span} {Q = Span × Expr} (λ q. erased_expr q.1 ≡ erased_expr left) erased_expr expr_tokens (λ place tokens. expr_tokens left ++ tokens) (Turn below) (Looser below) (turn below start left) (λ q. turn below q.0 q.1)
  turn-rest below start left = sure_test-rest {Valid = IsOperator (suc below)} {by = Operator below} (operator_at (suc below)) (λ trees it e. at_level-read (suc below) trees it e) (turn_by-rest start below left) (turned below)

  chain-loop : (below : ℕ) → Loop (operates (suc below)) (turn below) (λ start turns left. chain_from readers start below turns left)
  unfolding chain_from
  chain-loop below = record {
    none = λ start left input. none left input (is_end input.rest);
    some = λ start turns left input. some start turns left input (operator_at (suc below) input.rest);
  }
    where
      none : (left : Expr) (input : Input) (b : Bool) → (if b then pure left else refuse) input ≡ (if b then Some (left, input) else None)
      none left input true = refl
      none left input false = refl

      some : (start : Span) (turns : ℕ) (left : Expr) (input : Input) (o : Option Infix)
          → chain_by readers (chain_from readers start below turns) start below left o input ≡ (if is_there o then and_then (turn_by start below left o input) (λ more. chain_from readers start below turns more) else Some (left, input))
      some start turns left input (Some it) = refl
      some start turns left input None = refl

  -- ---- a chain

  module _ {Q : Type 0} (Ok : Q → Type 0) (start : Span) (start' : Q → Span) (below : ℕ) (left : Expr) where
    abbrev ChainRest : Parser Expr → (Q × Expr → Parser Expr) → Type 0
    ChainRest p p' = Rest {P = Unit {0}} {Q = Q × Expr} (λ q. Ok q.0 × (erased_expr q.1 ≡ erased_expr left)) erased_expr expr_tokens (λ place tokens. expr_tokens left ++ tokens) (Looser below) (Looser (suc below)) p p'

    chain_all-rest : ChainRest (chain_all readers start below left) (λ q. chain_all readers (start' q.0) below q.1)
    chain_all-rest = loop-rest erased_expr expr_tokens (operates (suc below)) (turn below) (λ start turns left. chain_from readers start below turns left) (Turn below) (Looser below) (Looser (suc below))
        (chain-loop below) (turn-rest below) (no-operator below) (λ rest. looser-end below rest) (λ rest tail seen f. f) (stays below) Ok start start' left

    -- the operator of a comparison, or what goes on with none
    abbrev Compared : Option Infix → Relation
    Compared (Some it) = Operator below (Some it)
    Compared None = Looser (suc below)

    compared_by-rest : (o : Option Infix) → IsOperator (suc below) o
        → Rest {P = Unit {0}} {Q = Q × Expr} (λ q. Ok q.0 × (erased_expr q.1 ≡ erased_expr left)) erased_expr expr_tokens (λ place tokens. expr_tokens left ++ tokens) (Compared o) (Looser (suc below))
        (chain_by readers pure start below left o) (λ q. chain_by readers pure (start' q.0) below q.1 o)
    compared_by-rest (Some it) valid = weak-rest (λ rest tail f. looser-tighter (suc below) below (omega arith) rest tail f) (λ rest tail f. f)
        (returned-rest (placed-rest (right_of-rest start (λ q. start' q.0) below left (λ q. q.1) (λ q ok. ok.1) it (valid it refl).0 (valid it refl).1)))
    compared_by-rest None valid = pure-rest tt left (λ q. q.1) (rw append-nil refl) (λ q ok. ok.1)

    compared-seen : (o : Option Infix) (rest tail : Trees) → operator_at (suc below) rest ≡ o → Compared o rest tail → (operator_at (suc below) tail ≡ o) × Looser below rest tail
    compared-seen (Some it) rest tail is f = (f.0, f.2)
    compared-seen None rest tail is f = let behind = stays below rest tail (rw is refl) f in (none-there (operator_at (suc below) tail) behind.0, behind.1)

    compared-rest : ChainRest (compared readers start below left) (λ q. compared readers (start' q.0) below q.1)
    unfolding compared
    compared-rest = sure_test-rest {Valid = IsOperator (suc below)} {by = Compared} (operator_at (suc below)) (λ trees it e. at_level-read (suc below) trees it e) compared_by-rest compared-seen

    chain-rest : ChainRest (chain readers start below left) (λ q. chain readers (start' q.0) below q.1)
    unfolding chain
    chain-rest = if-rest (below == 6) compared-rest chain_all-rest

  -- ---- all levels of operators

  module _ (postfixed-back : (begins : AtomStart) → RoundTrips erased_expr expr_tokens (BeginsAtom begins) (Looser operand_level) (postfixed readers begins)) where
    binary_from-rest : (level : ℕ) (start : Span)
        → Rest {P = Unit {0}} {Q = Unit {0} × Span} (λ q. Unit {0}) erased_expr expr_tokens hole (BeginsExpr operand_level) (Looser level) (binary_from readers start level) (λ q. binary_from readers q.1 level)
    unfolding binary_from
    binary_from-rest zero start = part (operand-back readers parts postfixed-back)
    binary_from-rest (suc below) start = part-rest {Second = Looser below} (λ place. binary_from-rest below start) (λ left. chain-rest (λ q. Unit {0}) start (λ q. q.1) below left) (λ rest tail f. f) (λ rest tail f. f)

    pub binary-back : (level : ℕ) → RoundTrips erased_expr expr_tokens (BeginsExpr operand_level) (Looser level) (binary readers level)
    unfolding binary
    binary-back level = whole (here-rest (binary_from-rest level))
