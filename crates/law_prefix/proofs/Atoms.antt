-- The law of fronts for atoms.
use Rattle.std.proofs.Common.{◌≡◌, ℕ, ◌≤◌, true, false, List, [], ◌∷◌, length, Some, None, refl, arith, sym, ap}
use Rattle.std.proofs.lemmas.Bool.{both_ways}
use Rattle.tok_types.specs.declared.tree.Delimiter.TheVariants as delimiter
use Rattle.tok_types.specs.declared.tree.TokenTree.{TokenTree}
use Rattle.node_expr.specs.declared.expr.Expr.TheVariants as expr
use Rattle.syn_grammar.specs.declared.look.AtomStart.{AtomStart}
use Rattle.syn_grammar.specs.declared.look.AtomStart.TheVariants as atom
use Rattle.syn_grammar.specs.Expressions.{lit_bool, expr_bool, literal, expr_group, expr_bracket, statements, block, expr_in_parentheses, expr_in_brackets, expr_path, expr_qualified, invisible, atom_by, constant_by, constant}
use Rattle.syn_grammar.specs.Input.{Input, ◌>>◌, ◌<$>◌, pure, skip}
use Rattle.syn_grammar.specs.Look.{atom_start, is_atom}
use Rattle.syn_grammar.specs.Literals.{lit_of}
use Rattle.syn_grammar.specs.Make as make
use Rattle.syn_grammar.specs.Readers.{Readers, any_level}
use Rattle.syn_grammar.specs.Token.{is_group, ident_of, literal_of, mark_of, is_joint, is_pair}
use Rattle.syn_grammar.specs.Words.{next_word}
use Rattle.law_prefix.specs.SameLookahead.{SameLookahead}
use Rattle.law_prefix.proofs.Begins.{alike-atom_start}
use Rattle.law_prefix.proofs.Steps.{FrontAt, refuse_at-front, pure-front, first_at-front, first-front, map-front, test_at-front, look_at-front, here_at-front, here-front, close-front}
use Rattle.law_prefix.proofs.Takes.{skip_at-front, inside-front}
use Rattle.law_prefix.proofs.Loops.{Rule}
use Rattle.law_prefix.proofs.Words.{literal-front}
use Rattle.law_prefix.proofs.Paths.{AllFronts, path-front, qualified-front}

pub literal_expr-front : Rule true literal
unfolding literal
literal_expr-front limit = map-front (λ token. expr.Lit (lit_of token)) (literal-front limit)

pub expr_bool-front : (limit : ℕ) (input : Input) → 1 ≤ length input.rest → FrontAt limit SameLookahead SameLookahead true true expr_bool expr_bool input
unfolding expr_bool next_word ident_of
expr_bool-front limit input enough = here_at-front (λ span.
    look_at-front next_word (λ value. skip >> pure (lit_bool value span)) (λ value. skip >> pure (lit_bool value span)) (λ tree rest tail _. refl) (λ value _.
    first_at-front (skip_at-front enough) (λ mark. pure-front (lit_bool value span))))

-- a token that is an atom
atom-some : (trees : List TokenTree) (begins : AtomStart) → atom_start trees ≡ begins → is_atom begins ≡ true → 1 ≤ length trees
unfolding atom_start is_group mark_of is_pair is_joint next_word ident_of literal_of
atom-some [] begins is some = let none = ap is_atom is in absurd (both_ways _ (sym none) some)
atom-some (tree ∷ trees) begins is some = omega arith

module _ (readers : Readers) (parts : AllFronts readers) where
  pub block-front : Rule true (block readers)
  unfolding block
  block-front limit = here-front (λ span. inside-front delimiter.Brace (statements readers span))

  expr_in_parentheses-front : Rule true (expr_in_parentheses readers)
  unfolding expr_in_parentheses
  expr_in_parentheses-front limit = here-front (λ span. inside-front delimiter.Parenthesis (expr_group readers span))

  expr_in_brackets-front : Rule true (expr_in_brackets readers)
  unfolding expr_in_brackets
  expr_in_brackets-front limit = here-front (λ span. inside-front delimiter.Bracket (expr_bracket readers span))

  invisible-front : Rule true (invisible readers)
  unfolding invisible
  invisible-front limit = here-front (λ span. inside-front delimiter.None ((λ found. expr.Group found span) <$> readers.expr any_level))

  expr_path-front : Rule true (expr_path readers)
  unfolding expr_path
  expr_path-front limit = here-front (λ start. first-front (path-front readers parts false limit) (λ found. close-front start (make.expr_path None found)))

  expr_qualified-front : Rule true (expr_qualified readers)
  unfolding expr_qualified
  expr_qualified-front limit = here-front (λ start. first-front (qualified-front readers parts false limit) (λ found. close-front start (make.expr_path (Some found.0) found.1)))

  pub atom_by-front : (begins : AtomStart) (limit : ℕ) (input : Input) → (is_atom begins ≡ true → 1 ≤ length input.rest) → FrontAt limit SameLookahead SameLookahead true true (atom_by readers begins) (atom_by readers begins) input
  atom_by-front atom.Literal limit input some = (literal_expr-front limit).at input
  atom_by-front atom.Bool limit input some = expr_bool-front limit input (some refl)
  atom_by-front atom.Path limit input some = (expr_path-front limit).at input
  atom_by-front atom.Qualified limit input some = (expr_qualified-front limit).at input
  atom_by-front atom.Parenthesis limit input some = (expr_in_parentheses-front limit).at input
  atom_by-front atom.Bracket limit input some = (expr_in_brackets-front limit).at input
  atom_by-front atom.Brace limit input some = (block-front limit).at input
  atom_by-front atom.Invisible limit input some = (invisible-front limit).at input
  atom_by-front atom.Infer limit input some = here_at-front (λ span. first_at-front (skip_at-front (some refl)) (λ mark. pure-front (expr.Infer span)))
  atom_by-front atom.Nothing limit input some = refuse_at-front

  constant_by-front : (begins : AtomStart) (limit : ℕ) (input : Input) → (is_atom begins ≡ true → 1 ≤ length input.rest) → FrontAt limit SameLookahead SameLookahead true true (constant_by readers begins) (constant_by readers begins) input
  constant_by-front atom.Literal limit input some = (literal_expr-front limit).at input
  constant_by-front atom.Bool limit input some = expr_bool-front limit input (some refl)
  constant_by-front atom.Brace limit input some = (block-front limit).at input
  constant_by-front _ limit input some = refuse_at-front

  pub constant-front : Rule true (constant readers)
  unfolding constant
  constant-front limit = record {
    at = λ input. test_at-front atom_start (constant_by readers) (constant_by readers) alike-atom_start (λ begins is. constant_by-front begins limit input (λ some. atom-some input.rest begins is some));
  }
