-- A run of one token that is a literal: an expression reads that literal of it.
use Rattle.std.proofs.Common.{◌≡◌, ℕ, suc, true, false, List, [], ◌∷◌, Some, refl, arith, ap, ◌∙◌, nat_le, option_map}
use Rattle.std.proofs.lemmas.Bool.Decides.{nat_tests}
use Rattle.std.proofs.lemmas.Option.{same_Some}
use Rattle.tok_types.specs.declared.tree.Literal.{Literal}
use Rattle.tok_types.specs.declared.tree.TokenTree.{TokenTree, out-TokenTree}
use Rattle.tok_types.specs.declared.tree.TokenTree.TheOpen.{TokenTree-F}
use Rattle.node_expr.specs.declared.expr.Expr.TheVariants as expr
use Rattle.node_expr.specs.declared.lit.Lit.{Lit}
use Rattle.syn_grammar.proofs.Depths.{expr_depth-Lit}
use Rattle.syn_grammar.specs.declared.look.AtomStart.TheVariants as atom
use Rattle.syn_grammar.specs.declared.look.OperandStart.TheVariants as begin
use Rattle.syn_grammar.specs.Expressions.{any, binary, binary_from, chain, chain_from, compared, expr_step, literal, operand, postfixed, postfixes_from, range}
use Rattle.syn_grammar.specs.Grammar.{max_depth, within}
use Rattle.syn_grammar.specs.Input.{next, start_of}
use Rattle.syn_grammar.specs.Literals.{lit_of}
use Rattle.syn_grammar.specs.Look.{atom_start, begins_closure, operand_start, operator_of}
use Rattle.syn_grammar.specs.Readers.{Readers, any_level}
use Rattle.syn_grammar.specs.Token.{Layer, ident_of, is_dots, is_group, is_joint, is_pair, literal_in, literal_of, mark_in, mark_of, span_of}
use Rattle.syn_grammar.specs.Words.{next_word}
use Rattle.law_prefix.specs.ReadsByPrefix.{at}
use Rattle.law_prefix.specs.SameLookahead.{stops}
use Rattle.meta_nested.specs.Values.{next_literal, run_of}
use Rattle.meta_nested.proofs.Readings.{run-parts}

-- ---- a literal token alone

module _ (readers : Readers) (one : TokenTree) (token : Literal) (is : out-TokenTree one ≡ TokenTree-F.Literal token) where
  no-closure : begins_closure (one ∷ []) ≡ false
  unfolding begins_closure next_word ident_of mark_of
  no-closure = rw is refl

  no-dots : is_dots (one ∷ []) ≡ false
  unfolding is_pair is_joint
  no-dots = rw is refl

  starts : operand_start (one ∷ []) ≡ begin.Atom atom.Literal
  unfolding operand_start atom_start is_group literal_of mark_of
  starts = rw is refl

  seen : literal_of (one ∷ []) ≡ Some token
  unfolding literal_of
  seen = rw is refl

  -- and nothing stands behind it
  operand-literal : operand readers (start_of (one ∷ [])) ≡ Some (expr.Lit (lit_of token), at [] (span_of one))
  unfolding operand postfixed literal postfixes_from next
  operand-literal = rw (starts, seen) refl

  any-literal : any readers (start_of (one ∷ [])) ≡ Some (expr.Lit (lit_of token), at [] (span_of one))
  unfolding any range binary binary_from chain chain_from compared operator_of mark_of is_joint is_pair
  any-literal = rw (no-closure, no-dots, operand-literal) refl

-- it is an expression, whatever the depth
expr-literal : (below : ℕ) (one : TokenTree) (token : Literal) → out-TokenTree one ≡ TokenTree-F.Literal token
    → (within (suc below)).expr any_level (start_of (one ∷ [])) ≡ Some (expr.Lit (lit_of token), at [] (span_of one))
unfolding within expr_step
expr-literal below one token is = rw (any-literal (within below) one token is, expr_depth-Lit (lit_of token), fits) refl
  where
    fits : nat_le 1 (suc below) ≡ true
    fits = grind (arith, nat_tests)

-- ---- the run

layer-literal : (layer : Layer) (found : Lit) → option_map lit_of (literal_in layer) ≡ Some found → (token : Literal) × (layer ≡ TokenTree-F.Literal token) × (lit_of token ≡ found)
layer-literal (TokenTree-F.Literal token) found e = (token, refl, same_Some (lit_of token) found e)
layer-literal (TokenTree-F.Ident it) found e = absurd cc
layer-literal (TokenTree-F.Lifetime it) found e = absurd cc
layer-literal (TokenTree-F.Punct it) found e = absurd cc
layer-literal (TokenTree-F.Group it) found e = absurd cc

-- the token, which is no mark; what follows it stops
pub record IsLiteralRun (trees : List TokenTree) (found : Lit) : Type 0 where
  pub one : TokenTree
  pub rest : List TokenTree
  pub is : trees ≡ one ∷ rest
  pub mark : mark_of trees ≡ 0
  pub reads : (within max_depth).expr any_level (start_of (one ∷ [])) ≡ Some (expr.Lit found, at [] (span_of one))
  pub stop : stops rest ≡ true

pub literal-run : (trees : List TokenTree) (found : Lit) → run_of next_literal trees 1 ≡ Some found → IsLiteralRun trees found
unfolding literal_of mark_of
literal-run [] found e = absurd cc
literal-run (one ∷ rest) found e =
    let run = run-parts next_literal (one ∷ rest) 1 found e in
    let literal = layer-literal (out-TokenTree one) found run.1 in
    record {
      one = one;
      rest = rest;
      is = refl;
      mark = ap mark_in literal.1;
      reads = expr-literal 255 one literal.0 literal.1 ∙ ap (λ lit. Some (expr.Lit lit, at [] (span_of one))) literal.2;
      stop = run.0;
    }
