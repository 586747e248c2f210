-- The angles of atoms and closures close, if those of their parts do.
use Rattle.std.proofs.Common.{◌≡◌, ℕ, zero, suc, ◌≤◌, Bool, true, false, Some, None, refl, arith}
use Rattle.tok_types.specs.Ascii.{bar}
use Rattle.tok_types.specs.declared.tree.Delimiter.TheVariants as delimiter
use Rattle.node_expr.specs.declared.expr.Expr.TheVariants as expr
use Rattle.syn_grammar.specs.declared.look.AtomStart.{AtomStart}
use Rattle.syn_grammar.specs.declared.look.AtomStart.TheVariants as atom
use Rattle.syn_grammar.specs.declared.word.Word.TheVariants as word
use Rattle.syn_grammar.specs.Expressions.{expr_bool, literal, lit_bool, pass_type, closure_param, closure_params, closure_body, closure, expr_group, expr_bracket, statements, block, expr_in_parentheses, expr_in_brackets, expr_path, expr_qualified, invisible, atom_by, constant_by, constant}
use Rattle.syn_grammar.specs.Input.{Input, ◌<$>◌, skip}
use Rattle.syn_grammar.specs.Literals.{lit_of}
use Rattle.syn_grammar.specs.Look.{atom_start}
use Rattle.syn_grammar.specs.Make as make
use Rattle.syn_grammar.specs.Patterns.{ands_from, skip_ands, is_underscore, pattern_word, patterns_by, pattern, max_pattern}
use Rattle.syn_grammar.specs.Readers.{Readers, any_level, constant_level}
use Rattle.syn_grammar.specs.Token.{is_arrow, is_bar, is_colon, is_group, literal_of}
use Rattle.syn_grammar.specs.Words.{name_of, next_word}
use Rattle.law_angles.specs.Ends.{max_angles}
use Rattle.law_angles.proofs.Walk.{colon-step, arrow-step}
use Rattle.law_angles.proofs.Steps.{LeadsAt, Leads, refuse-at, pure-at, so-at, map-at, if-at, seen-at, here-at, state-at, read_since-at, close-at, turns-at, skip-at, expect-at, eat-at, take_as-at, word-step, inside-at}
use Rattle.law_angles.proofs.Tokens.{literal-unmarked, name-unmarked, word-unmarked}
use Rattle.law_angles.proofs.Looks.{is_worded, atom-unmarked}
use Rattle.law_angles.proofs.Paths.{AllLead, mark-step, eat_mark-at, eat_word-at, until-leads, path-leads, qualified-leads}

-- ---- patterns

ands_from-leads : (turns : ℕ) → Leads 0 0 (ands_from turns)
unfolding ands_from
ands_from-leads zero input = pure-at tt
ands_from-leads (suc turns) input = so-at (eat_mark-at 38 refl) (λ more input. if-at more (ands_from-leads turns input) (pure-at tt))

skip_ands-leads : Leads 0 0 skip_ands
skip_ands-leads input = turns-at (λ turns. ands_from-leads turns input)

pattern_word-leads : Leads 0 0 pattern_word
unfolding pattern_word
pattern_word-leads input =
    so-at (eat-at 1 (λ trees. is_underscore (next_word trees)) (λ is. word-step 0 input.rest (word-unmarked is_underscore input.rest refl is))) (λ wild input.
    if-at wild (pure-at tt) (so-at (eat_word-at word.Mut refl) (λ mutable input. so-at (take_as-at name_of name-unmarked) (λ name input. pure-at tt))))

pattern-leads : (limit : ℕ) → Leads 0 0 (pattern limit)
unfolding pattern
pattern-leads zero input = so-at (skip_ands-leads input) (λ marks input. pattern_word-leads input)
pattern-leads (suc below) input =
    so-at (skip_ands-leads input) (λ marks input.
    seen-at (is_group delimiter.Parenthesis) (λ grouped is.
    if-at grouped (inside-at delimiter.Parenthesis (patterns_by (pattern below))) (pattern_word-leads input)))

-- ---- literals and words

literal-leads : (angles : ℕ) → Leads angles angles literal
unfolding literal
literal-leads angles input = map-at (λ token. expr.Lit (lit_of token)) (take_as-at literal_of literal-unmarked)

-- the one word of an atom
word_skip-at : {angles : ℕ} {input : Input} (begins : AtomStart) → atom_start input.rest ≡ begins → is_worded begins ≡ true → LeadsAt angles angles skip input
word_skip-at {angles} {input} begins is worded = skip-at (word-step angles input.rest (atom-unmarked input.rest (rw is worded)))

expr_bool-leads : (angles : ℕ) (input : Input) → atom_start input.rest ≡ atom.Bool → LeadsAt angles angles expr_bool input
unfolding expr_bool
expr_bool-leads angles input is = here-at (λ span. seen-at next_word (λ value seen. so-at (word_skip-at atom.Bool is refl) (λ done input. pure-at (lit_bool value span))))

block-leads : (readers : Readers) (angles : ℕ) → Leads angles angles (block readers)
unfolding block
block-leads readers angles input = here-at (λ span. inside-at delimiter.Brace (statements readers span))

constant_by-leads : (readers : Readers) (angles : ℕ) (input : Input) (begins : AtomStart) → atom_start input.rest ≡ begins → LeadsAt angles angles (constant_by readers begins) input
constant_by-leads readers angles input atom.Literal is = literal-leads angles input
constant_by-leads readers angles input atom.Bool is = expr_bool-leads angles input is
constant_by-leads readers angles input atom.Brace is = block-leads readers angles input
constant_by-leads readers angles input _ is = refuse-at

-- a constant has no angles
pub constant-leads : (readers : Readers) (angles : ℕ) → Leads angles angles (constant readers)
unfolding constant
constant-leads readers angles input = seen-at atom_start (λ begins is. constant_by-leads readers angles input begins is)

module _ (limit : ℕ) (readers : Readers) (parts : AllLead limit readers) (fits : suc (suc limit) ≤ max_angles) where
  -- ---- closures

  pass_type-leads : (allow_plus : Bool) → Leads 0 0 (pass_type readers allow_plus)
  unfolding pass_type
  pass_type-leads allow_plus input = map-at (λ ty. tt) (parts.ty allow_plus 0 (omega arith) input)

  closure_param-leads : Leads 0 0 (closure_param readers)
  unfolding closure_param
  closure_param-leads input =
      so-at (pattern-leads max_pattern input) (λ found input.
      so-at (eat-at 1 is_colon (λ is. colon-step 0 input.rest is)) (λ typed input.
      if-at typed (pass_type-leads true input) (pure-at tt)))

  closure_params-leads : Leads 0 0 (closure_params readers)
  closure_params-leads input = map-at (λ params. tt) (until-leads 0 0 bar (closure_param readers) (λ trees is. mark-step 0 124 trees refl is) closure_param-leads input)

  closure_body-leads : Leads 0 0 (closure_body readers)
  unfolding closure_body
  closure_body-leads input =
      so-at (eat-at 2 is_arrow (λ is. arrow-step 0 input.rest is)) (λ typed input.
      if-at typed (so-at (so-at (pass_type-leads false input) (λ passed input. expect-at 0 (is_group delimiter.Brace) (λ is holds. holds))) (λ braced input. pure-at constant_level)) (pure-at any_level))

  pub closure-leads : Leads 0 0 (closure readers)
  unfolding closure
  closure-leads input = state-at (λ before. here-at (λ start.
      so-at (eat_word-at word.Move refl) (λ moved input.
      so-at (expect-at 1 is_bar (λ is. mark-step 0 124 input.rest refl is)) (λ opened input.
      so-at (closure_params-leads input) (λ params input.
      so-at (closure_body-leads input) (λ level input.
      so-at (read_since-at before.rest) (λ kept input.
      so-at (parts.expr level (omega arith) input) (λ body input. close-at start (make.expr_closure kept body)))))))))

  -- ---- atoms

  expr_in_parentheses-leads : Leads 0 0 (expr_in_parentheses readers)
  unfolding expr_in_parentheses
  expr_in_parentheses-leads input = here-at (λ span. inside-at delimiter.Parenthesis (expr_group readers span))

  expr_in_brackets-leads : Leads 0 0 (expr_in_brackets readers)
  unfolding expr_in_brackets
  expr_in_brackets-leads input = here-at (λ span. inside-at delimiter.Bracket (expr_bracket readers span))

  expr_path-leads : Leads 0 0 (expr_path readers)
  unfolding expr_path
  expr_path-leads input = here-at (λ start. so-at (path-leads limit readers parts 0 (omega arith) false input) (λ found input. close-at start (make.expr_path None found)))

  expr_qualified-leads : Leads 0 0 (expr_qualified readers)
  unfolding expr_qualified
  expr_qualified-leads input = here-at (λ start. so-at (qualified-leads limit readers parts 0 (omega arith) false input) (λ found input. close-at start (make.expr_path (Some found.0) found.1)))

  invisible-leads : Leads 0 0 (invisible readers)
  unfolding invisible
  invisible-leads input = here-at (λ span. inside-at delimiter.None ((λ found. expr.Group found span) <$> readers.expr any_level))

  pub atom_by-leads : (input : Input) (begins : AtomStart) → atom_start input.rest ≡ begins → LeadsAt 0 0 (atom_by readers begins) input
  atom_by-leads input atom.Literal is = literal-leads 0 input
  atom_by-leads input atom.Bool is = expr_bool-leads 0 input is
  atom_by-leads input atom.Path is = expr_path-leads input
  atom_by-leads input atom.Qualified is = expr_qualified-leads input
  atom_by-leads input atom.Parenthesis is = expr_in_parentheses-leads input
  atom_by-leads input atom.Bracket is = expr_in_brackets-leads input
  atom_by-leads input atom.Brace is = block-leads readers 0 input
  atom_by-leads input atom.Invisible is = invisible-leads input
  atom_by-leads input atom.Infer is = here-at (λ span. so-at (word_skip-at atom.Infer is refl) (λ done input. pure-at (expr.Infer span)))
  atom_by-leads input atom.Nothing is = refuse-at
