-- Closures and atoms stand where their tokens do.
use Rattle.std.proofs.Common.{◌≡◌, ℕ, zero, suc, Bool, true, false, List, [], ◌∷◌, ◌++◌, Some, None, refl, ◌∙◌}
use Rattle.tok_types.specs.Ascii.{bar}
use Rattle.tok_types.specs.declared.span.Span.{Span}
use Rattle.tok_types.specs.declared.tree.Delimiter.TheVariants as delimiter
use Rattle.node_expr.specs.declared.expr.Expr.{Expr}
use Rattle.node_expr.specs.declared.expr.Expr.TheVariants as expr
use Rattle.node_expr.specs.declared.lit.Lit.TheVariants as lit
use Rattle.node_span.specs.Spanned.{expr_span}
use Rattle.syn_grammar.specs.declared.look.AtomStart.{AtomStart}
use Rattle.syn_grammar.specs.declared.look.AtomStart.TheVariants as atom
use Rattle.syn_grammar.specs.declared.word.Word.{Word}
use Rattle.syn_grammar.specs.declared.word.Word.TheVariants as word
use Rattle.syn_grammar.specs.Expressions.{lit_bool, expr_bool, literal, pass_type, closure_param, closure_params, closure_body, closure, expr_group, expr_elements, expr_bracket, statements_from, block, expr_in_parentheses, expr_in_brackets, expr_path, expr_qualified, invisible, atom_by, constant_by, constant}
use Rattle.syn_grammar.specs.Input.{first_span, at_end, eat, items_after}
use Rattle.syn_grammar.specs.Literals.{lit_of}
use Rattle.syn_grammar.specs.Look.{atom_start}
use Rattle.syn_grammar.specs.Make as make
use Rattle.syn_grammar.specs.Patterns.{max_pattern}
use Rattle.syn_grammar.specs.Readers.{Readers, any_level, constant_level}
use Rattle.syn_grammar.specs.Token.{is_arrow, is_bar, is_colon, is_comma, is_group, is_semicolon, literal_of}
use Rattle.syn_grammar.specs.Words.{next_word, peek}
use Rattle.law_places.proofs.Lists.{until-goes}
use Rattle.law_places.proofs.Made.{lit-span, expr_path-span, array-span, repeat-span, tuple-span, paren-span, group-span, closure-span, block-span, infer-span}
use Rattle.law_places.proofs.Paths.{AllStand, path-here, qualified-goes}
use Rattle.law_places.proofs.Patterns.{pattern-goes}
use Rattle.law_places.proofs.Steps.{Goes, StandsHere, Keeps, refuse-at, pure-at, pure-goes, then-at, so-at, any-at, map-at, map-goes, if-at, seen-at, here-at, here_is-at, state-at, close-at, skip-at, eat-at, expect-at, read_since-at, take_as-at, refuse-keeps, pure-keeps, then-keeps, map-keeps, if-keeps, turns-keeps, group-at, behind_one}
use Rattle.law_places.proofs.Tokens.{lit_of-place, literal-place}

lit_bool-span : (value : Word) (span : Span) → expr_span (lit_bool value span) ≡ span
lit_bool-span word.True span = lit-span (lit.Bool (record { value = true; span = span }))
lit_bool-span _ span = lit-span (lit.Bool (record { value = false; span = span }))

expr_bool-here : StandsHere expr_span expr_bool
unfolding expr_bool
expr_bool-here input = here_is-at (λ span is. seen-at next_word (λ value. then-at (skip-at input) (λ mark later h.
    pure-at (lit_bool value span) later (record { is = lit_bool-span value span ∙ behind_one span input later is h.left }))))

pub literal-here : StandsHere expr_span literal
unfolding literal
literal-here input = map-at (λ token. expr.Lit (lit_of token)) (take_as-at literal_of input) (λ token after h.
    record { is = lit-span (lit_of token) ∙ lit_of-place token ∙ literal-place input.rest token h.is ∙ behind_one (first_span input.rest) input after refl h.left })

module _ (readers : Readers) (parts : AllStand readers) where
  -- ---- closures

  pass_type-goes : (allow_plus : Bool) → Goes (pass_type readers allow_plus)
  unfolding pass_type
  pass_type-goes allow_plus input = map-goes (λ ty. tt) (parts.ty allow_plus input)

  closure_param-goes : Goes (closure_param readers)
  unfolding closure_param
  closure_param-goes input = so-at (pattern-goes max_pattern input) (λ found input. so-at (eat-at 1 is_colon input) (λ typed input.
      if-at typed (pass_type-goes true input) (pure-goes tt input)))

  closure_params-goes : Goes (closure_params readers)
  closure_params-goes input = map-goes (λ params. tt) (until-goes closure_param-goes bar input)

  closure_body-goes : Goes (closure_body readers)
  unfolding closure_body
  closure_body-goes input = so-at (eat-at 2 is_arrow input) (λ typed input.
      if-at typed (so-at (so-at (pass_type-goes false input) (λ ty input. any-at (expect-at 0 (is_group delimiter.Brace) input))) (λ brace input. pure-goes constant_level input)) (pure-goes any_level input))

  pub closure-here : StandsHere expr_span (closure readers)
  unfolding closure
  closure-here input = state-at (λ before. here-at (λ start. so-at (eat-at 1 (peek word.Move) input) (λ moved later. so-at (expect-at 1 is_bar later) (λ opened later.
      so-at (closure_params-goes later) (λ params later. so-at (closure_body-goes later) (λ level later.
      so-at (read_since-at before.rest later) (λ kept later.
      so-at (parts.expr level later) (λ body later.
      close-at start (make.expr_closure kept body) later (closure-span kept body)))))))))

  -- ---- atoms

  expr_group-keeps : (span : Span) → Keeps expr_span span (expr_group readers span)
  unfolding expr_group
  expr_group-keeps span = then-keeps at_end (λ done.
      if-keeps done (pure-keeps (expr.Tuple [] span) (tuple-span [] span)) (
      then-keeps (readers.expr any_level) (λ first. then-keeps (eat 1 is_comma) (λ more.
      if-keeps more (map-keeps (λ elems. expr.Tuple elems span) (items_after (readers.expr any_level) (first ∷ [])) (λ elems. tuple-span elems span))
      (pure-keeps (expr.Paren first span) (paren-span first span))))))

  expr_elements-keeps : (span : Span) (first : Expr) → Keeps expr_span span (expr_elements readers span first)
  unfolding expr_elements
  expr_elements-keeps span first = then-keeps (eat 1 is_semicolon) (λ repeated.
      if-keeps repeated (map-keeps (λ len. expr.Repeat first len span) (readers.expr any_level) (λ len. repeat-span first len span))
      (then-keeps (eat 1 is_comma) (λ more.
      if-keeps more (map-keeps (λ elems. make.expr_array elems span) (items_after (readers.expr any_level) (first ∷ [])) (λ elems. array-span elems span))
      (pure-keeps (make.expr_array (first ∷ []) span) (array-span (first ∷ []) span)))))

  expr_bracket-keeps : (span : Span) → Keeps expr_span span (expr_bracket readers span)
  unfolding expr_bracket
  expr_bracket-keeps span = then-keeps at_end (λ done.
      if-keeps done (pure-keeps (make.expr_array [] span) (array-span [] span)) (then-keeps (readers.expr any_level) (λ first. expr_elements-keeps span first)))

  statements_from-keeps : (span : Span) (turns : ℕ) (found : List Expr) → Keeps expr_span span (statements_from readers span turns found)
  unfolding statements_from
  statements_from-keeps span zero found = then-keeps at_end (λ done.
      if-keeps done (pure-keeps (expr.Block found None span) (block-span found None span)) refuse-keeps)
  statements_from-keeps span (suc turns) found = then-keeps at_end (λ done.
      if-keeps done (pure-keeps (expr.Block found None span) (block-span found None span)) (
      then-keeps (readers.expr any_level) (λ statement. then-keeps (eat 1 is_semicolon) (λ more.
      if-keeps more (statements_from-keeps span turns (found ++ statement ∷ []))
      (pure-keeps (expr.Block found (Some statement) span) (block-span found (Some statement) span))))))

  pub block-here : StandsHere expr_span (block readers)
  unfolding block
  block-here input = here_is-at (λ span is. group-at span delimiter.Brace input is (turns-keeps (λ turns. statements_from-keeps span turns [])))

  expr_in_parentheses-here : StandsHere expr_span (expr_in_parentheses readers)
  unfolding expr_in_parentheses
  expr_in_parentheses-here input = here_is-at (λ span is. group-at span delimiter.Parenthesis input is (expr_group-keeps span))

  expr_in_brackets-here : StandsHere expr_span (expr_in_brackets readers)
  unfolding expr_in_brackets
  expr_in_brackets-here input = here_is-at (λ span is. group-at span delimiter.Bracket input is (expr_bracket-keeps span))

  expr_path-here : StandsHere expr_span (expr_path readers)
  unfolding expr_path
  expr_path-here input = here-at (λ start. so-at (path-here readers parts false input) (λ found later.
      close-at start (make.expr_path None found) later (expr_path-span None found)))

  expr_qualified-here : StandsHere expr_span (expr_qualified readers)
  unfolding expr_qualified
  expr_qualified-here input = here-at (λ start. so-at (qualified-goes readers parts false input) (λ found later.
      close-at start (make.expr_path (Some found.0) found.1) later (expr_path-span (Some found.0) found.1)))

  invisible-here : StandsHere expr_span (invisible readers)
  unfolding invisible
  invisible-here input = here_is-at (λ span is. group-at span delimiter.None input is (map-keeps (λ found. expr.Group found span) (readers.expr any_level) (λ found. group-span found span)))

  pub atom_by-here : (begins : AtomStart) → StandsHere expr_span (atom_by readers begins)
  atom_by-here atom.Literal input = literal-here input
  atom_by-here atom.Bool input = expr_bool-here input
  atom_by-here atom.Path input = expr_path-here input
  atom_by-here atom.Qualified input = expr_qualified-here input
  atom_by-here atom.Parenthesis input = expr_in_parentheses-here input
  atom_by-here atom.Bracket input = expr_in_brackets-here input
  atom_by-here atom.Brace input = block-here input
  atom_by-here atom.Invisible input = invisible-here input
  atom_by-here atom.Infer input = here_is-at (λ span is. then-at (skip-at input) (λ mark later h.
      pure-at (expr.Infer span) later (record { is = infer-span span ∙ behind_one span input later is h.left })))
  atom_by-here atom.Nothing input = refuse-at input

  constant_by-here : (begins : AtomStart) → StandsHere expr_span (constant_by readers begins)
  constant_by-here atom.Literal input = literal-here input
  constant_by-here atom.Bool input = expr_bool-here input
  constant_by-here atom.Brace input = block-here input
  constant_by-here _ input = refuse-at input

  pub constant-here : StandsHere expr_span (constant readers)
  unfolding constant
  constant-here input = seen-at atom_start (λ begins. constant_by-here begins input)
