-- How printed operators are seen, and what an expression does not go on with.
use Rattle.std.proofs.Common.{◌≡◌, ℕ, suc, ◌≤◌, Bool, true, false, ◌==◌, if◌then◌else◌, List, [], ◌∷◌, ◌++◌, length, Option, Some, None, refl, arith, ap, sym, subst, ◌∙◌}
use Rattle.std.proofs.Math.Bool.{and-false}
use Rattle.std.proofs.lemmas.Bool.{eqb-true}
use Rattle.std.proofs.lemmas.Option.{same_Some}
use Rattle.tok_types.specs.declared.span.Span.{Span}
use Rattle.tok_types.specs.declared.tree.Delimiter.TheVariants as delimiter
use Rattle.node_expr.specs.declared.expr.BinOp.{BinOp}
use Rattle.node_expr.specs.declared.expr.BinOp.TheVariants as op
use Rattle.syn_grammar.specs.declared.look.Infix.{Infix}
use Rattle.syn_grammar.specs.Input.{is_end}
use Rattle.syn_grammar.specs.Look.{at_level, atom_start, before_equals, begins_operand, double_of, doubled, infix_of, is_there, level_of, operand_start, operator_of, or_single, postfix_start, single_of, with_width}
use Rattle.syn_grammar.specs.Readers.{range_level}
use Rattle.syn_grammar.specs.Token.{after_one, is_colons, is_dots, is_group, is_joint, is_pair, is_turbofish, mark_of}
use Rattle.print_core.specs.Exprs.{bin_op_tokens}
use Rattle.print_core.specs.Marks.{Trees, comma, is_some, mark}
use Rattle.law_round_trip.specs.Follow.{AfterExpr, Looser, goes_on, operates}
use Rattle.law_round_trip.proofs.Follows.{looser-end, never}
use Rattle.law_round_trip.proofs.Marks.{after_one-mark, is_group-mark, is_joint-mark, literal_of-mark, mark-length, mark_of-mark, next_word-mark}

-- ---- each operator

-- of how many characters
abbrev pub width_of : BinOp → ℕ
width_of op.Or = 2
width_of op.And = 2
width_of op.Eq = 2
width_of op.Ne = 2
width_of op.Le = 2
width_of op.Ge = 2
width_of op.Shl = 2
width_of op.Shr = 2
width_of _ = 1

-- the operator of two characters, where there is a second one
abbrev pair_of : ℕ → List ℕ → Option BinOp
pair_of ch [] = None
pair_of ch (second ∷ more) = double_of ch second

pub operator_of-mark : (ch : ℕ) (more : List ℕ) (span : Span) (tail : Trees) → operator_of (mark (ch ∷ more) span ++ tail) ≡ or_single ch (pair_of ch more)
unfolding operator_of
operator_of-mark ch [] span tail = rw (is_joint-mark ch [] span tail, mark_of-mark ch [] span tail) refl
operator_of-mark ch (second ∷ more) span tail = rw (is_joint-mark ch (second ∷ more) span tail, mark_of-mark ch (second ∷ more) span tail, after_one-mark ch (second ∷ more) span tail, mark_of-mark second more span tail) refl

-- The characters of an operator: they are read as itself, and neither `:` (58), `.` (46) nor `?` (63) is the first one.
record Sign (it : BinOp) : Type 0 where
  ch : ℕ
  more : List ℕ
  is : (span : Span) → bin_op_tokens it span ≡ mark (ch ∷ more) span
  width : length (ch ∷ more) ≡ width_of it
  reads : or_single ch (pair_of ch more) ≡ Some (infix_of (width_of it) it)
  tight : level_of it ≤ 9
  colon : (ch == 58) ≡ false
  dot : (ch == 46) ≡ false
  question : (ch == 63) ≡ false

sign : (it : BinOp) → Sign it
sign op.Or = record { ch = 124; more = 124 ∷ []; is = λ span. refl; width = refl; reads = refl; tight = omega arith; colon = refl; dot = refl; question = refl }
sign op.And = record { ch = 38; more = 38 ∷ []; is = λ span. refl; width = refl; reads = refl; tight = omega arith; colon = refl; dot = refl; question = refl }
sign op.Eq = record { ch = 61; more = 61 ∷ []; is = λ span. refl; width = refl; reads = refl; tight = omega arith; colon = refl; dot = refl; question = refl }
sign op.Ne = record { ch = 33; more = 61 ∷ []; is = λ span. refl; width = refl; reads = refl; tight = omega arith; colon = refl; dot = refl; question = refl }
sign op.Lt = record { ch = 60; more = []; is = λ span. refl; width = refl; reads = refl; tight = omega arith; colon = refl; dot = refl; question = refl }
sign op.Gt = record { ch = 62; more = []; is = λ span. refl; width = refl; reads = refl; tight = omega arith; colon = refl; dot = refl; question = refl }
sign op.Le = record { ch = 60; more = 61 ∷ []; is = λ span. refl; width = refl; reads = refl; tight = omega arith; colon = refl; dot = refl; question = refl }
sign op.Ge = record { ch = 62; more = 61 ∷ []; is = λ span. refl; width = refl; reads = refl; tight = omega arith; colon = refl; dot = refl; question = refl }
sign op.BitOr = record { ch = 124; more = []; is = λ span. refl; width = refl; reads = refl; tight = omega arith; colon = refl; dot = refl; question = refl }
sign op.BitXor = record { ch = 94; more = []; is = λ span. refl; width = refl; reads = refl; tight = omega arith; colon = refl; dot = refl; question = refl }
sign op.BitAnd = record { ch = 38; more = []; is = λ span. refl; width = refl; reads = refl; tight = omega arith; colon = refl; dot = refl; question = refl }
sign op.Shl = record { ch = 60; more = 60 ∷ []; is = λ span. refl; width = refl; reads = refl; tight = omega arith; colon = refl; dot = refl; question = refl }
sign op.Shr = record { ch = 62; more = 62 ∷ []; is = λ span. refl; width = refl; reads = refl; tight = omega arith; colon = refl; dot = refl; question = refl }
sign op.Add = record { ch = 43; more = []; is = λ span. refl; width = refl; reads = refl; tight = omega arith; colon = refl; dot = refl; question = refl }
sign op.Sub = record { ch = 45; more = []; is = λ span. refl; width = refl; reads = refl; tight = omega arith; colon = refl; dot = refl; question = refl }
sign op.Mul = record { ch = 42; more = []; is = λ span. refl; width = refl; reads = refl; tight = omega arith; colon = refl; dot = refl; question = refl }
sign op.Div = record { ch = 47; more = []; is = λ span. refl; width = refl; reads = refl; tight = omega arith; colon = refl; dot = refl; question = refl }
sign op.Rem = record { ch = 37; more = []; is = λ span. refl; width = refl; reads = refl; tight = omega arith; colon = refl; dot = refl; question = refl }

pub operator-length : (it : BinOp) (span : Span) → length (bin_op_tokens it span) ≡ width_of it
operator-length it span = let s = sign it in rw (s.is span, mark-length (s.ch ∷ s.more) span) s.width

pub operator-some : (it : BinOp) (span : Span) (tail : Trees) → is_end (bin_op_tokens it span ++ tail) ≡ false
unfolding mark
operator-some it span tail = let s = sign it in rw (s.is span) refl

-- a printed operator is read as itself, whatever follows
pub operator_of-printed : (it : BinOp) (span : Span) (tail : Trees) → operator_of (bin_op_tokens it span ++ tail) ≡ Some (infix_of (width_of it) it)
operator_of-printed it span tail = let s = sign it in rw (s.is span, operator_of-mark s.ch s.more span tail) s.reads

-- ---- what was read as an operator

-- operators of one width
abbrev Wide : ℕ → BinOp → Type 0
Wide width it = width_of it ≡ width

or-found : (width : ℕ) (b : Bool) (it : BinOp) (other : Option BinOp) → Wide width it → ((found : BinOp) → other ≡ Some found → Wide width found) → (found : BinOp) → (if b then Some it else other) ≡ Some found → Wide width found
or-found width true it other fits more found e = subst (Wide width) (same_Some it found e) fits
or-found width false it other fits more found e = more found e

none-found : (width : ℕ) (found : BinOp) → None ≡ Some found → Wide width found
none-found width found e = absurd cc

before_equals-wide : (ch : ℕ) (found : BinOp) → before_equals ch ≡ Some found → Wide 2 found
before_equals-wide ch = or-found 2 (ch == 61) op.Eq _ refl (or-found 2 (ch == 33) op.Ne _ refl (or-found 2 (ch == 60) op.Le _ refl (or-found 2 (ch == 62) op.Ge _ refl (none-found 2))))

doubled-wide : (ch : ℕ) (found : BinOp) → doubled ch ≡ Some found → Wide 2 found
doubled-wide ch = or-found 2 (ch == 38) op.And _ refl (or-found 2 (ch == 124) op.Or _ refl (or-found 2 (ch == 60) op.Shl _ refl (or-found 2 (ch == 62) op.Shr _ refl (none-found 2))))

single_of-wide : (ch : ℕ) (found : BinOp) → single_of ch ≡ Some found → Wide 1 found
single_of-wide ch =
    or-found 1 (ch == 42) op.Mul _ refl (or-found 1 (ch == 47) op.Div _ refl (or-found 1 (ch == 37) op.Rem _ refl (or-found 1 (ch == 43) op.Add _ refl (or-found 1 (ch == 45) op.Sub _ refl
    (or-found 1 (ch == 38) op.BitAnd _ refl (or-found 1 (ch == 94) op.BitXor _ refl (or-found 1 (ch == 124) op.BitOr _ refl (or-found 1 (ch == 60) op.Lt _ refl (or-found 1 (ch == 62) op.Gt _ refl (none-found 1))))))))))

double_of-wide : (first second : ℕ) (found : BinOp) → double_of first second ≡ Some found → Wide 2 found
double_of-wide first second found e = by (second == 61) (first == second) e
  where
    by : (equals same : Bool) → (if equals then before_equals first else (if same then doubled first else None)) ≡ Some found → Wide 2 found
    by true same e = before_equals-wide first found e
    by false true e = doubled-wide first found e
    by false false e = none-found 2 found e

-- an operator that was read is one of the operators, as it is printed
pub operator_of-read : (trees : Trees) (found : Infix) → operator_of trees ≡ Some found → found ≡ infix_of (width_of found.op) found.op
unfolding operator_of
operator_of-read trees found e = pair (if is_joint trees then double_of (mark_of trees) (mark_of (after_one trees)) else None) (joint (is_joint trees) (mark_of (after_one trees))) e
  where
    joint : (b : Bool) (second : ℕ) (it : BinOp) → (if b then double_of (mark_of trees) second else None) ≡ Some it → Wide 2 it
    joint true second it e = double_of-wide (mark_of trees) second it e
    joint false second it e = none-found 2 it e

    made : (width : ℕ) (it : BinOp) → Wide width it → infix_of width it ≡ found → found ≡ infix_of (width_of found.op) found.op
    made width it fits e = rw (← e) (rw fits refl)

    one : (o : Option BinOp) → ((it : BinOp) → o ≡ Some it → Wide 1 it) → with_width 1 o ≡ Some found → found ≡ infix_of (width_of found.op) found.op
    one None fits e = absurd cc
    one (Some it) fits e = made 1 it (fits it refl) (same_Some (infix_of 1 it) found e)

    pair : (o : Option BinOp) → ((it : BinOp) → o ≡ Some it → Wide 2 it) → or_single (mark_of trees) o ≡ Some found → found ≡ infix_of (width_of found.op) found.op
    pair None fits e = one (single_of (mark_of trees)) (single_of-wide (mark_of trees)) e
    pair (Some it) fits e = made 2 it (fits it refl) (same_Some (infix_of 2 it) found e)

-- the same of an operator of one level
pub at_level-read : (level : ℕ) (trees : Trees) (found : Infix) → at_level level (operator_of trees) ≡ Some found → (found ≡ infix_of (width_of found.op) found.op) × (level_of found.op ≡ level)
at_level-read level trees found e = by (operator_of trees) (operator_of-read trees) e
  where
    made : (it : Infix) (b : Bool) → (it.level == level) ≡ b → it ≡ infix_of (width_of it.op) it.op → (if b then Some it else None) ≡ Some found → (found ≡ infix_of (width_of found.op) found.op) × (level_of found.op ≡ level)
    made it false is read e = absurd cc
    made it true is read e = rw (← same_Some it found e) (read, sym (ap (λ (it : Infix). it.level) read) ∙ eqb-true it.level level is)

    by : (o : Option Infix) → ((it : Infix) → o ≡ Some it → it ≡ infix_of (width_of it.op) it.op) → at_level level o ≡ Some found → (found ≡ infix_of (width_of found.op) found.op) × (level_of found.op ≡ level)
    by None reads e = absurd cc
    by (Some it) reads e = made it (it.level == level) refl (reads it refl) e

-- ---- what an expression does not go on with

pub pair-apart : (ch : ℕ) (more : List ℕ) (span : Span) (tail : Trees) (first second : ℕ) → (ch == first) ≡ false → is_pair first second (mark (ch ∷ more) span ++ tail) ≡ false
unfolding is_pair
pair-apart ch more span tail first second apart = rw (is_joint-mark ch more span tail, mark_of-mark ch more span tail, apart) (and-false (is_some more))

module _ (ch : ℕ) (more : List ℕ) (colon : (ch == 58) ≡ false) (dot : (ch == 46) ≡ false) (question : (ch == 63) ≡ false) (span : Span) (rest tail : Trees) where
  -- a mark that begins nothing behind an operand
  looser-mark : (level : ℕ) → ((tighter : ℕ) → tighter ≤ level → operates tighter (mark (ch ∷ more) span ++ tail) ≡ false) → (range_level ≤ level → begins_operand (mark (ch ∷ more) span ++ tail) ≡ false) → Looser level rest (mark (ch ∷ more) span ++ tail)
  unfolding postfix_start
  looser-mark level operator operand = record {
    colons = never is_colons rest _ (pair-apart ch more span tail 58 58 colon);
    turbofish = never is_turbofish rest _ (rw (pair-apart ch more span tail 58 58 colon) refl);
    called = never (is_group delimiter.Parenthesis) rest _ (is_group-mark ch more span tail delimiter.Parenthesis);
    postfix = never (λ trees. goes_on (postfix_start trees)) rest _ (rw (is_group-mark ch more span tail delimiter.Parenthesis, is_group-mark ch more span tail delimiter.Bracket, mark_of-mark ch more span tail, dot, question) refl);
    operator = λ tighter within. never (operates tighter) rest _ (operator tighter within);
    dots = λ within. never is_dots rest _ (pair-apart ch more span tail 46 46 dot);
    operand = λ within. never begins_operand rest _ (operand within);
  }

-- an operator that is looser
pub looser-operator : (it : BinOp) (level : ℕ) → suc level ≤ level_of it → (span : Span) (rest tail : Trees) → Looser level rest (bin_op_tokens it span ++ tail)
looser-operator it level looser span rest tail =
    let s = sign it in
    subst (λ tokens. Looser level rest (tokens ++ tail)) (sym (s.is span)) (looser-mark s.ch s.more s.colon s.dot s.question span rest tail level
    (λ tighter within. rw (← s.is span, operator_of-printed it span tail) (other tighter (level_of it == tighter) refl (omega (arith, looser, within))))
    (λ within. absurd (omega (arith, looser, within, s.tight))))
  where
    other : (tighter : ℕ) (b : Bool) → (level_of it == tighter) ≡ b → suc tighter ≤ level_of it → is_there (if b then Some (infix_of (width_of it) it) else None) ≡ false
    other tighter false is apart = refl
    other tighter true is apart = absurd (omega (arith, apart, eqb-true (level_of it) tighter is))

-- a mark between expressions
module _ (ch : ℕ) (none : single_of ch ≡ None) (colon : (ch == 58) ≡ false) (dot : (ch == 46) ≡ false) (question : (ch == 63) ≡ false) (minus : (ch == 45) ≡ false) (bang : (ch == 33) ≡ false) (star : (ch == 42) ≡ false) (both : (ch == 38) ≡ false) (less : (ch == 60) ≡ false) where
  no-operand : (span : Span) (tail : Trees) → begins_operand (mark (ch ∷ []) span ++ tail) ≡ false
  unfolding begins_operand operand_start atom_start is_pair
  no-operand span tail = rw (mark_of-mark ch [] span tail, is_joint-mark ch [] span tail, minus, bang, star, both, less, is_group-mark ch [] span tail delimiter.Parenthesis, is_group-mark ch [] span tail delimiter.Bracket, is_group-mark ch [] span tail delimiter.Brace, is_group-mark ch [] span tail delimiter.None, literal_of-mark ch [] span tail, next_word-mark ch [] span tail) refl

  looser_before-mark : (level : ℕ) (span : Span) (rest tail : Trees) → Looser level rest (mark (ch ∷ []) span ++ tail)
  looser_before-mark level span rest tail = looser-mark ch [] colon dot question span rest tail level (λ tighter within. rw (operator_of-mark ch [] span tail, none) refl) (λ within. no-operand span tail)

pub looser_before-comma : (level : ℕ) (span : Span) (rest tail : Trees) → Looser level rest (comma span ++ tail)
looser_before-comma level span rest tail = looser_before-mark 44 refl refl refl refl refl refl refl refl refl level span rest tail

pub looser_before-semicolon : (level : ℕ) (span : Span) (rest tail : Trees) → Looser level rest (mark (59 ∷ []) span ++ tail)
looser_before-semicolon level span rest tail = looser_before-mark 59 refl refl refl refl refl refl refl refl refl level span rest tail

pub expr_before-comma : (level : ℕ) (rest tail : Trees) (span : Span) → AfterExpr level rest (comma span ++ tail)
expr_before-comma level rest tail span other = looser_before-comma level span rest tail

pub expr_before-semicolon : (level : ℕ) (rest tail : Trees) (span : Span) → AfterExpr level rest (mark (59 ∷ []) span ++ tail)
expr_before-semicolon level rest tail span other = looser_before-semicolon level span rest tail

pub expr-end : (level : ℕ) (rest : Trees) → AfterExpr level rest []
expr-end level rest other = looser-end level rest

-- what goes on with a tighter expression goes on with a looser one
pub looser-tighter : (level below : ℕ) → below ≤ level → (rest tail : Trees) → Looser level rest tail → Looser below rest tail
looser-tighter level below tighter rest tail f = record {
  colons = f.colons;
  turbofish = f.turbofish;
  called = f.called;
  postfix = f.postfix;
  operator = λ it within. f.operator it (omega (arith, within, tighter));
  dots = λ within. f.dots (omega (arith, within, tighter));
  operand = λ within. f.operand (omega (arith, within, tighter));
}
