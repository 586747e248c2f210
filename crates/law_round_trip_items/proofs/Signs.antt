-- That an expression prints as a number with a sign only where its tokens were one.
use Rattle.std.proofs.Common.{◌≡◌, inl, inr, ℕ, zero, suc, Bool, true, false, ◌==◌, if◌then◌else◌, [], ◌∷◌, length, Option, Some, None, refl, ap, sym, ◌∙◌, nat_le, arith}
use Rattle.std.proofs.lemmas.Bool.{both_ways, eqb-true}
use Rattle.std.proofs.lemmas.Option.{some_pair_parts, same_Some}
use Rattle.tok_types.specs.Span.{joined}
use Rattle.tok_types.specs.declared.span.Span.{Span}
use Rattle.tok_types.specs.declared.tree.Literal.{Literal}
use Rattle.tok_types.specs.declared.tree.TokenTree.{out-TokenTree}
use Rattle.tok_types.specs.declared.tree.TokenTree.TheOpen.{TokenTree-F}
use Rattle.node_expr.specs.declared.expr.Expr.{Expr}
use Rattle.node_expr.specs.declared.expr.Expr.TheVariants as expr
use Rattle.node_expr.specs.declared.expr.UnOp.{UnOp}
use Rattle.node_expr.specs.declared.expr.UnOp.TheVariants as op
use Rattle.node_expr.specs.declared.lit.Lit.{Lit}
use Rattle.syn_grammar.specs.declared.look.AtomStart.{AtomStart}
use Rattle.syn_grammar.specs.declared.look.AtomStart.TheVariants as atom
use Rattle.syn_grammar.specs.declared.look.OperandStart.{OperandStart}
use Rattle.syn_grammar.specs.declared.look.OperandStart.TheVariants as begin
use Rattle.syn_grammar.specs.declared.word.Word.{Word}
use Rattle.syn_grammar.specs.declared.word.Word.TheVariants as word
use Rattle.syn_grammar.specs.Depth.{expr_depth}
use Rattle.syn_grammar.specs.Expressions.{any, atom_by, binary, binary_from, chain, chain_from, compared, expr_bool, expr_step, lit_bool, literal, operand, operand_by, postfixed, postfixes, postfixes_from, range, unary}
use Rattle.syn_grammar.specs.Grammar.{max_depth, within}
use Rattle.syn_grammar.specs.Input.{Input, ◌>>=◌, pure, first_span, next, start_of, take_as, upto}
use Rattle.syn_grammar.specs.Literals.{lit_of}
use Rattle.syn_grammar.specs.Look.{atom_start, begins_closure, operand_start, operator_of}
use Rattle.syn_grammar.specs.Readers.{Readers, any_level, operand_level, or_level}
use Rattle.syn_grammar.specs.Token.{Layer, ident_of, is_dots, is_group, is_joint, is_mark, is_pair, literal_of, mark_of}
use Rattle.syn_grammar.specs.Words.{next_word}
use Rattle.syn_items.specs.Attributes.{expr_in, number_in}
use Rattle.print_core.specs.Marks.{Trees}
use Rattle.print_core.specs.Nodes.{expr_tokens}
use Rattle.law_prefix.specs.ReadsByPrefix.{at}
use Rattle.law_round_trip.proofs.Follows.{looser-end}
use Rattle.law_round_trip.specs.Parts.{AllRoundTrip}
use Rattle.law_round_trip.proofs.Steps.{bind-at}
use Rattle.law_round_trip.proofs.Wholes.{all-again, all-parts}
use Rattle.law_round_trip_items.proofs.Makes.{kept-read}
use Rattle.law_round_trip_items.proofs.Numbers.{Number, is_number, number, number-of, number-parts, other-unsigned, signed-bare, signed_number, taken-parts}
use Rattle.law_round_trip_items.proofs.Others.{KeptOr, OperandOr, any-kept, atom_by-others, postfixes_from-kept, reference-others, is_other}
use Rattle.syn_grammar.proofs.Depths.{expr_depth-Lit, expr_depth-Unary}
use Rattle.syn_grammar.specs.Trees.{all}
use Rattle.std.proofs.lemmas.Bool.Decides.{nat_tests}
use Rattle.std.proofs.Math.Bool.{and-false}

-- ---- what begins a minus, and a literal

neg-start : (trees : Trees) → operand_start trees ≡ begin.Neg → is_mark 45 trees ≡ true
unfolding operand_start
neg-start trees h = by (is_mark 45 trees) (is_mark 33 trees) (is_mark 42 trees) (is_mark 38 trees) refl h
  where
    by : (minus bang star and : Bool) → is_mark 45 trees ≡ minus → (if minus then begin.Neg else (if bang then begin.Not else (if star then begin.Deref else (if and then begin.Reference else begin.Atom (atom_start trees))))) ≡ begin.Neg → is_mark 45 trees ≡ true
    by true bang star and is h = is
    by false true star and is h = absurd cc
    by false false true and is h = absurd cc
    by false false false true is h = absurd cc
    by false false false false is h = absurd cc

record MinusSeen (trees : Trees) : Type 0 where
  closure : begins_closure trees ≡ false
  dots : is_dots trees ≡ false
  start : operand_start trees ≡ begin.Neg

minus-seen : (trees : Trees) → is_mark 45 trees ≡ true → MinusSeen trees
unfolding begins_closure operand_start is_pair is_joint mark_of next_word ident_of
minus-seen [] is = absurd cc
minus-seen (tree ∷ trees) is = by (out-TokenTree tree) refl
  where
    by : (layer : Layer) → out-TokenTree tree ≡ layer → MinusSeen (tree ∷ trees)
    by (TokenTree-F.Ident other) same = let none = rw same at is in absurd cc
    by (TokenTree-F.Lifetime other) same = let none = rw same at is in absurd cc
    by (TokenTree-F.Literal other) same = let none = rw same at is in absurd cc
    by (TokenTree-F.Group other) same = let none = rw same at is in absurd cc
    by (TokenTree-F.Punct punct) same =
        let minus = eqb-true punct.ch 45 (rw same at is) in
        record { closure = rw (same, minus) refl; dots = rw (same, minus) (and-false punct.joint); start = rw (same, minus) refl }

literal-start : (trees : Trees) (it : Literal) → literal_of trees ≡ Some it → operand_start trees ≡ begin.Atom atom.Literal
unfolding operand_start atom_start is_group literal_of mark_of
literal-start [] it is = absurd cc
literal-start (tree ∷ trees) it is = by (out-TokenTree tree) refl
  where
    by : (layer : Layer) → out-TokenTree tree ≡ layer → operand_start (tree ∷ trees) ≡ begin.Atom atom.Literal
    by (TokenTree-F.Literal other) same = rw same refl
    by (TokenTree-F.Ident other) same = let none = rw same at is in absurd cc
    by (TokenTree-F.Lifetime other) same = let none = rw same at is in absurd cc
    by (TokenTree-F.Punct other) same = let none = rw same at is in absurd cc
    by (TokenTree-F.Group other) same = let none = rw same at is in absurd cc

-- ---- operands

-- an operator and its operand
record UnaryRead (readers : Readers) (op : UnOp) (input after : Input) (found : Expr) : Type 0 where
  it : Expr
  span : Span
  is : expr.Unary op it span ≡ found
  read : readers.expr operand_level (next input) ≡ Some (it, after)

-- a literal that is a number
record LiteralRead (input after : Input) (found : Expr) : Type 0 where
  token : Literal
  literal : literal_of input.rest ≡ Some token
  ends : next input ≡ after
  is : expr.Lit (lit_of token) ≡ found

lit-number : (it : Lit) → number (expr.Lit it) ≡ is_number it
lit-number it = rw (expr.outs-Lit) refl

lit-unsigned : (it : Lit) → signed_number (expr.Lit it) ≡ false
lit-unsigned it = rw (expr.outs-Lit) refl

bool-literal : (it : Word) (span : Span) → (number (lit_bool it span) ≡ false) × (signed_number (lit_bool it span) ≡ false)
bool-literal word.True span = (rw (expr.outs-Lit) refl, rw (expr.outs-Lit) refl)
bool-literal _ span = (rw (expr.outs-Lit) refl, rw (expr.outs-Lit) refl)

module _ (readers : Readers) where
  unary-read : (op : UnOp) (input after : Input) (found : Expr) → unary readers op input ≡ Some (found, after) → UnaryRead readers op input after found
  unfolding unary
  unary-read op input after found e =
      let parts = bind-at (readers.expr operand_level (next input)) (λ it. upto (first_span input.rest) >>= (λ span. pure (expr.Unary op it span))) found after e in
      let both = some_pair_parts (expr.Unary op parts.0 (joined (first_span input.rest) parts.1.last)) found parts.1 after parts.3 in
      record { it = parts.0; span = joined (first_span input.rest) parts.1.last; is = both.0; read = parts.2 ∙ ap (λ input. Some (parts.0, input)) both.1 }

  literal-read : (input after : Input) (found : Expr) → literal input ≡ Some (found, after) → LiteralRead input after found
  unfolding literal
  literal-read input after found e =
      let parts = bind-at (take_as literal_of input) (λ token. pure (expr.Lit (lit_of token))) found after e in
      let token = taken-parts (literal_of input.rest) (next input) parts.1 parts.0 parts.2 in
      let both = some_pair_parts (expr.Lit (lit_of parts.0)) found parts.1 after parts.3 in
      record { token = parts.0; literal = token.0; ends = token.1 ∙ both.1; is = both.0 }

  -- an atom that is a number is a literal, and none has a sign
  record AtomRead (input after : Input) (found : Expr) : Type 0 where
    unsigned : signed_number found ≡ false
    literal : number found ≡ true → LiteralRead input after found

  atom-other : (input after : Input) (found : Expr) → is_other found ≡ true → AtomRead input after found
  atom-other input after found is = let kind = other-unsigned found is in record { unsigned = kind.1; literal = λ h. absurd (both_ways _ kind.0 h) }

  atom-read : (begins : AtomStart) (input after : Input) (found : Expr) → atom_by readers begins input ≡ Some (found, after) → AtomRead input after found
  unfolding expr_bool
  atom-read atom.Literal input after found e = let one = literal-read input after found e in record { unsigned = rw (← one.is) (lit-unsigned (lit_of one.token)); literal = λ h. one }
  atom-read atom.Bool input after found e =
      let both = some_pair_parts (lit_bool (next_word input.rest) (first_span input.rest)) found (next input) after e in
      let kind = bool-literal (next_word input.rest) (first_span input.rest) in
      rw (← both.0) (record { unsigned = kind.1; literal = λ h. absurd (both_ways _ kind.0 h) })
  atom-read atom.Path input after found e = atom-other input after found ((atom_by-others readers atom.Path refl).of input after found e)
  atom-read atom.Qualified input after found e = atom-other input after found ((atom_by-others readers atom.Qualified refl).of input after found e)
  atom-read atom.Parenthesis input after found e = atom-other input after found ((atom_by-others readers atom.Parenthesis refl).of input after found e)
  atom-read atom.Bracket input after found e = atom-other input after found ((atom_by-others readers atom.Bracket refl).of input after found e)
  atom-read atom.Brace input after found e = atom-other input after found ((atom_by-others readers atom.Brace refl).of input after found e)
  atom-read atom.Invisible input after found e = atom-other input after found ((atom_by-others readers atom.Invisible refl).of input after found e)
  atom-read atom.Infer input after found e = atom-other input after found ((atom_by-others readers atom.Infer refl).of input after found e)
  atom-read atom.Nothing input after found e = absurd cc

  postfixed-read : (begins : AtomStart) (input after : Input) (found : Expr) → postfixed readers begins input ≡ Some (found, after) → AtomRead input after found
  unfolding postfixed
  postfixed-read begins input after found e =
      let parts = bind-at (atom_by readers begins input) (λ left. postfixes readers (first_span input.rest) left) found after e in
      by parts.0 parts.1 (atom-read begins input parts.1 parts.0 parts.2) (postfixes_from-kept readers (first_span input.rest) (length parts.1.rest) parts.0 parts.1 after found parts.3)
    where
      by : (left : Expr) (between : Input) → AtomRead input between left → KeptOr readers left between found after → AtomRead input after found
      by left between one (inl same) = rw (same.0, same.1) one
      by left between one (inr is) = atom-other input after found is

  -- what an operand is that is a number, or has a minus before one
  record OperandRead (input after : Input) (found : Expr) : Type 0 where
    signed : signed_number found ≡ true → (is_mark 45 input.rest ≡ true) × (it : Expr) × (readers.expr operand_level (next input) ≡ Some (it, after)) × (number it ≡ true)
    literal : number found ≡ true → LiteralRead input after found

  unsigned-read : (input after : Input) (found : Expr) → AtomRead input after found → OperandRead input after found
  unsigned-read input after found one = record { signed = λ h. absurd (both_ways _ one.unsigned h); literal = one.literal }

  operand-read : (input after : Input) (found : Expr) → operand readers input ≡ Some (found, after) → OperandRead input after found
  unfolding operand
  operand-read input after found e = by (operand_start input.rest) refl e
    where
      plain : (op : UnOp) → ((it : Expr) (span : Span) → (number (expr.Unary op it span) ≡ false) × (signed_number (expr.Unary op it span) ≡ false)) → unary readers op input ≡ Some (found, after) → OperandRead input after found
      plain op kinds e =
          let one = unary-read op input after found e in
          let kind = kinds one.it one.span in
          rw (← one.is) (record { signed = λ h. absurd (both_ways _ kind.1 h); literal = λ h. absurd (both_ways _ kind.0 h) })

      by : (begins : OperandStart) → operand_start input.rest ≡ begins → operand_by readers begins input ≡ Some (found, after) → OperandRead input after found
      by begin.Neg is e =
          let one = unary-read op.Neg input after found e in
          record {
            signed = λ h. let inner : number one.it ≡ true = rw (← one.is, expr.outs-Unary) at h in (neg-start input.rest is, one.it, one.read, inner);
            literal = λ h. let none = rw (← one.is, expr.outs-Unary) at h in absurd cc;
          }
      by begin.Not is e = plain op.Not (λ it span. (rw (expr.outs-Unary) refl, rw (expr.outs-Unary) refl)) e
      by begin.Deref is e = plain op.Deref (λ it span. (rw (expr.outs-Unary) refl, rw (expr.outs-Unary) refl)) e
      by begin.Reference is e = unsigned-read input after found (atom-other input after found ((reference-others readers).of input after found e))
      by (begin.Atom begins) is e = unsigned-read input after found (postfixed-read begins input after found e)

-- ---- all tokens, which are a number with a sign where the expression is

signed-tokens : (depth : ℕ) (trees : Trees) (found : Expr) (last : Span) → (within depth).expr any_level (start_of trees) ≡ Some (found, at [] last) → signed_number found ≡ true → Number trees
unfolding within expr_step binary binary_from
signed-tokens zero trees found last e sign = absurd cc
signed-tokens (suc below) trees found last e sign = by (any-kept (within below) (start_of trees) (at [] last) found (kept-read expr_depth (suc below) (any (within below) (start_of trees)) found (at [] last) e))
  where
    numbered : (below : ℕ) (it : Expr) → (within below).expr operand_level (next (start_of trees)) ≡ Some (it, at [] last) → number it ≡ true → LiteralRead (next (start_of trees)) (at [] last) it
    numbered zero it e is = absurd cc
    numbered (suc below) it e is = (operand-read (within below) (next (start_of trees)) (at [] last) it (kept-read expr_depth (suc below) (expr_step (within below) operand_level (next (start_of trees))) it (at [] last) e)).literal is

    by : OperandOr (within below) (start_of trees) (at [] last) found → Number trees
    by (inr is) = absurd (both_ways _ (other-unsigned found is).1 sign)
    by (inl read) =
        let minus = (operand-read (within below) (start_of trees) (at [] last) found read).signed sign in
        let one = numbered below minus.1 minus.2 minus.3 in
        record {
          token = one.token;
          minus = minus.0;
          literal = one.literal;
          ends = ap (λ (input : Input). input.rest) one.ends;
          number = sym (lit-number (lit_of one.token)) ∙ ap number one.is ∙ minus.3;
        }

-- ---- tokens that are a number with a sign are an expression

-- where no token is left, an operand is a whole expression
module _ (readers : Readers) (start : Span) where
  chain-end : (below : ℕ) (left : Expr) (last : Span) → chain readers start below left (at [] last) ≡ Some (left, at [] last)
  unfolding chain compared chain_from operator_of mark_of is_joint
  chain-end below left last = by (below == 6)
    where
      by : (b : Bool) → (if b then compared readers start below left else (λ input. chain_from readers start below (length input.rest) left input)) (at [] last) ≡ Some (left, at [] last)
      by true = refl
      by false = refl

  binary_from-end : (level : ℕ) (input : Input) (found : Expr) (last : Span) → operand readers input ≡ Some (found, at [] last) → binary_from readers start level input ≡ Some (found, at [] last)
  unfolding binary_from
  binary_from-end zero input found last e = e
  binary_from-end (suc below) input found last e = rw (binary_from-end below input found last e) (chain-end below found last)

any-end : (readers : Readers) (input : Input) (found : Expr) (last : Span) → begins_closure input.rest ≡ false → is_dots input.rest ≡ false → operand readers input ≡ Some (found, at [] last) → any readers input ≡ Some (found, at [] last)
unfolding any range binary is_pair is_joint
any-end readers input found last closed undotted e = rw (closed, undotted, binary_from-end readers (first_span input.rest) or_level input found last e) refl

-- a literal, and nothing behind it
literal-end : (readers : Readers) (input : Input) (token : Literal) → literal_of input.rest ≡ Some token → (next input).rest ≡ [] → operand readers input ≡ Some (expr.Lit (lit_of token), at [] (next input).last)
unfolding operand postfixed literal postfixes_from
literal-end readers input token is ends = rw (literal-start input.rest token is, is) (by (next input) ends)
  where
    by : (behind : Input) → behind.rest ≡ [] → postfixes readers (first_span input.rest) (expr.Lit (lit_of token)) behind ≡ Some (expr.Lit (lit_of token), at [] behind.last)
    by behind none = rw none refl

-- the expression that a number with a sign is
abbrev pub minus_of : (trees : Trees) → Number trees → Expr
minus_of trees it = expr.Unary op.Neg (expr.Lit (lit_of it.token)) (joined (first_span trees) (next (next (start_of trees))).last)

one-fits : (n : ℕ) → nat_le 1 (suc n) ≡ true
one-fits n = grind (arith, nat_tests)

two-fits : (n : ℕ) → nat_le 2 (suc (suc n)) ≡ true
two-fits n = grind (arith, nat_tests)

minus-within : (below : ℕ) (trees : Trees) (it : Number trees) → (within (suc (suc below))).expr any_level (start_of trees) ≡ Some (minus_of trees it, at [] (next (next (start_of trees))).last)
unfolding within expr_step binary binary_from operand unary
minus-within below trees it = rw (any-end (within (suc below)) (start_of trees) (minus_of trees it) (next (next (start_of trees))).last seen.closure seen.dots minus, expr_depth-Unary, expr_depth-Lit, two-fits below) refl
  where
    seen : MinusSeen trees
    seen = minus-seen trees it.minus

    literal : (within (suc below)).expr operand_level (next (start_of trees)) ≡ Some (expr.Lit (lit_of it.token), at [] (next (next (start_of trees))).last)
    literal = rw (literal-end (within below) (next (start_of trees)) it.token it.literal it.ends, expr_depth-Lit, one-fits below) refl

    minus : operand (within (suc below)) (start_of trees) ≡ Some (minus_of trees it, at [] (next (next (start_of trees))).last)
    minus = rw (seen.start, literal) refl

minus-expr : (trees : Trees) (it : Number trees) → expr_in trees ≡ Some (minus_of trees it)
minus-expr trees it = ap all (minus-within 254 trees it)

-- each number with a sign is an expression
pub number-expr : (trees : Trees) (found : Lit) → number_in trees ≡ Some found → (it : Expr) × (expr_in trees ≡ Some it)
number-expr trees found is = let it = number-parts trees found is in (minus_of trees it, minus-expr trees it)

-- an expression that is no number with a sign does not print as one
pub unsigned : AllRoundTrip (within max_depth) → (trees : Trees) (found : Expr) → expr_in trees ≡ Some found → number_in trees ≡ None → number_in (expr_tokens found) ≡ None
unsigned parts trees found e none = by (number_in (expr_tokens found)) refl
  where
    numbered : Number (expr_tokens found) → signed_number found ≡ true
    numbered it =
        let again = all-again (parts.expr any_level) (λ other. looser-end any_level []) trees found e in
        let same : minus_of (expr_tokens found) it ≡ again.0 = same_Some (minus_of (expr_tokens found) it) again.0 (sym (minus-expr (expr_tokens found) it) ∙ again.1) in
        let minus : signed_number (minus_of (expr_tokens found) it) ≡ true = rw (expr.outs-Unary, expr.outs-Lit) (it.number) in
        sym (signed-bare found) ∙ ap signed_number (sym again.2) ∙ signed-bare again.0 ∙ ap signed_number (sym same) ∙ minus

    by : (number : Option Lit) → number_in (expr_tokens found) ≡ number → number ≡ None
    by None is = refl
    by (Some it) is =
        let source = all-parts ((within max_depth).expr any_level (start_of trees)) found e in
        let there = number-of trees (signed-tokens max_depth trees found source.0 source.1 (numbered (number-parts (expr_tokens found) it is))) in
        let none' = rw none at there in
        absurd cc
