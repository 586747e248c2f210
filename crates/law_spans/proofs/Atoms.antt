-- The rules of closures and atoms do not see places.
use Rattle.std.proofs.Common.{◌≡◌, ℕ, zero, suc, Bool, true, false, List, [], ◌∷◌, ◌++◌, map, Some, None, refl, ap, ◌∙◌}
use Rattle.tok_types.specs.declared.span.Span.{Span}
use Rattle.tok_types.specs.declared.span.Span.TheVariants.{CallSite}
use Rattle.tok_types.specs.declared.tree.Delimiter.TheVariants as delimiter
use Rattle.node_expr.specs.declared.expr.Expr.{Expr}
use Rattle.node_expr.specs.declared.expr.Expr.TheVariants as expr
use Rattle.node_expr.specs.declared.lit.Lit.TheVariants as lit
use Rattle.syn_grammar.specs.declared.look.AtomStart.{AtomStart}
use Rattle.syn_grammar.specs.declared.look.AtomStart.TheVariants as atom
use Rattle.syn_grammar.specs.declared.word.Word.{Word}
use Rattle.syn_grammar.specs.declared.word.Word.TheVariants as word
use Rattle.syn_grammar.specs.Expressions.{lit_bool, expr_bool, literal, pass_type, closure_param, closure_params, closure_body, closure, expr_group, expr_elements, expr_bracket, statements_from, block, expr_in_parentheses, expr_in_brackets, expr_path, expr_qualified, invisible, atom_by, constant_by, constant}
use Rattle.syn_grammar.specs.Input.{Input}
use Rattle.syn_grammar.specs.Literals.{lit_of}
use Rattle.syn_grammar.specs.Look.{atom_start}
use Rattle.syn_grammar.specs.Make as make
use Rattle.syn_grammar.specs.Patterns.{max_pattern}
use Rattle.syn_grammar.specs.Readers.{Readers, any_level, constant_level}
use Rattle.syn_grammar.specs.Token.{literal_of}
use Rattle.syn_grammar.specs.Words.{next_word}
use Rattle.law_spans.specs.Erased.{erased_expr}
use Rattle.law_spans.specs.IgnoresSpans.{IgnoresSpans}
use Rattle.law_spans.proofs.Made.{bare_expr-Lit, bare_expr-Path, bare_expr-Array, bare_expr-Repeat, bare_expr-Tuple, bare_expr-Paren, bare_expr-Group, bare_expr-Closure, bare_expr-Block, bare_expr-Infer, bare_expr_path-make}
use Rattle.law_spans.proofs.Paths.{AllIgnoreSpans, path-blind, qualified-blind}
use Rattle.law_spans.proofs.Patterns.{pattern-blind}
use Rattle.law_spans.proofs.Seen.{bare_stream-roll, is_mark-bare, is_pair-bare, is_colon-bare, is_group-bare, sees-bare, next_word-bare, literal_of-bare, lit_of-bare, atom_start-bare}
use Rattle.law_spans.proofs.Steps.{same, pure-blind, refuse-blind, then-blind, so-blind, map-blind, if-blind, test-blind, here-blind, close-blind, skip-blind, eat-blind, expect-blind, take_as-blind, at_end-blind, inside-blind, state-blind, read_since-blind, by_turns-blind, grown-bare, items_after-blind, until-blind}

lit_bool-bare : (value : Word) (span : Span) → erased_expr (lit_bool value span) ≡ lit_bool value CallSite
lit_bool-bare word.True span = bare_expr-Lit (lit.Bool (record { value = true; span = span }))
lit_bool-bare _ span = bare_expr-Lit (lit.Bool (record { value = false; span = span }))

expr_bool-blind : IgnoresSpans erased_expr expr_bool expr_bool
unfolding expr_bool
expr_bool-blind = here-blind (λ span place s. so-blind (test-blind next_word next_word next_word-bare) (λ value.
    so-blind skip-blind (λ mark. pure-blind (lit_bool value span) (lit_bool value place) (rw (← s) (lit_bool-bare value span)))))

literal-blind : IgnoresSpans erased_expr literal literal
unfolding literal
literal-blind = map-blind (λ token. expr.Lit (lit_of token)) (λ token. expr.Lit (lit_of token)) (take_as-blind literal_of literal_of literal_of-bare)
    (λ token. bare_expr-Lit (lit_of token) ∙ rw (lit_of-bare token) refl)

module _ (readers : Readers) (parts : AllIgnoreSpans readers) where
  -- ---- closures

  pass_type-blind : (allow_plus : Bool) → IgnoresSpans same (pass_type readers allow_plus) (pass_type readers allow_plus)
  unfolding pass_type
  pass_type-blind allow_plus = map-blind (λ ty. tt) (λ ty. tt) (parts.ty allow_plus) (λ ty. refl)

  closure_param-blind : IgnoresSpans same (closure_param readers) (closure_param readers)
  unfolding closure_param
  closure_param-blind = so-blind (pattern-blind max_pattern) (λ found. so-blind (eat-blind 1 is_colon-bare) (λ typed.
      if-blind typed (pass_type-blind true) (pure-blind tt tt refl)))

  closure_params-blind : IgnoresSpans same (closure_params readers) (closure_params readers)
  closure_params-blind = map-blind (λ params. tt) (λ params. tt) (until-blind closure_param-blind 124) (λ params. refl)

  closure_body-blind : IgnoresSpans same (closure_body readers) (closure_body readers)
  unfolding closure_body
  closure_body-blind = so-blind (eat-blind 2 (is_pair-bare 45 62)) (λ typed.
      if-blind typed (so-blind (so-blind (pass_type-blind false) (λ ty. expect-blind 0 (is_group-bare delimiter.Brace))) (λ brace. pure-blind constant_level constant_level refl)) (pure-blind any_level any_level refl))

  pub closure-blind : IgnoresSpans erased_expr (closure readers) (closure readers)
  unfolding closure
  closure-blind = then-blind state-blind (λ before before' b. here-blind (λ start there s.
      so-blind (eat-blind 1 (sees-bare word.Move)) (λ moved. so-blind (expect-blind 1 (is_mark-bare 124)) (λ opened.
      so-blind closure_params-blind (λ params. so-blind closure_body-blind (λ level.
      then-blind (read_since-blind before.rest before'.rest (ap (λ (input : Input). input.rest) b)) (λ kept kept' k.
      then-blind (parts.expr level) (λ body body' e.
      close-blind start there s (make.expr_closure kept body) (make.expr_closure kept' body')
      (λ span. rw (← k, ← e) (bare_expr-Closure _ body span ∙ rw (bare_stream-roll kept) refl))))))))))

  -- ---- atoms

  expr_group-blind : (span place : Span) → CallSite ≡ place → IgnoresSpans erased_expr (expr_group readers span) (expr_group readers place)
  unfolding expr_group
  expr_group-blind span place s = so-blind at_end-blind (λ done.
      if-blind done (pure-blind (expr.Tuple [] span) (expr.Tuple [] place) (rw (← s) (bare_expr-Tuple [] span))) (
      then-blind (parts.expr any_level) (λ first first' f. so-blind (eat-blind 1 (is_mark-bare 44)) (λ more.
      if-blind more (map-blind (λ elems. expr.Tuple elems span) (λ elems. expr.Tuple elems place) (items_after-blind (parts.expr any_level) (first ∷ []) (first' ∷ []) (rw (f) refl)) (λ elems. rw (← s) (bare_expr-Tuple elems span)))
      (pure-blind (expr.Paren first span) (expr.Paren first' place) (rw (← s, ← f) (bare_expr-Paren first span)))))))

  expr_elements-blind : (span place : Span) → CallSite ≡ place → (first first' : Expr) → erased_expr first ≡ first' → IgnoresSpans erased_expr (expr_elements readers span first) (expr_elements readers place first')
  unfolding expr_elements
  expr_elements-blind span place s first first' f = so-blind (eat-blind 1 (is_mark-bare 59)) (λ repeated.
      if-blind repeated (map-blind (λ len. expr.Repeat first len span) (λ len. expr.Repeat first' len place) (parts.expr any_level) (λ len. rw (← s, ← f) (bare_expr-Repeat first len span)))
      (so-blind (eat-blind 1 (is_mark-bare 44)) (λ more.
      if-blind more (map-blind (λ elems. make.expr_array elems span) (λ elems. make.expr_array elems place) (items_after-blind (parts.expr any_level) (first ∷ []) (first' ∷ []) (rw (f) refl)) (λ elems. rw (← s) (bare_expr-Array elems span)))
      (pure-blind (make.expr_array (first ∷ []) span) (make.expr_array (first' ∷ []) place) (rw (← s, ← f) (bare_expr-Array (first ∷ []) span))))))

  expr_bracket-blind : (span place : Span) → CallSite ≡ place → IgnoresSpans erased_expr (expr_bracket readers span) (expr_bracket readers place)
  unfolding expr_bracket
  expr_bracket-blind span place s = so-blind at_end-blind (λ done.
      if-blind done (pure-blind (make.expr_array [] span) (make.expr_array [] place) (rw (← s) (bare_expr-Array [] span)))
      (then-blind (parts.expr any_level) (λ first first' f. expr_elements-blind span place s first first' f)))

  statements_from-blind : (span place : Span) → CallSite ≡ place → (turns : ℕ) (found also : List Expr) → map erased_expr found ≡ also
      → IgnoresSpans erased_expr (statements_from readers span turns found) (statements_from readers place turns also)
  unfolding statements_from
  statements_from-blind span place s zero found also f = so-blind at_end-blind (λ done.
      if-blind done (pure-blind (expr.Block found None span) (expr.Block also None place) (rw (← s, ← f) (bare_expr-Block found None span))) refuse-blind)
  statements_from-blind span place s (suc turns) found also f = so-blind at_end-blind (λ done.
      if-blind done (pure-blind (expr.Block found None span) (expr.Block also None place) (rw (← s, ← f) (bare_expr-Block found None span))) (
      then-blind (parts.expr any_level) (λ one one' o. so-blind (eat-blind 1 (is_mark-bare 59)) (λ more.
      if-blind more (statements_from-blind span place s turns (found ++ one ∷ []) (also ++ one' ∷ []) (grown-bare erased_expr found one also one' f o))
      (pure-blind (expr.Block found (Some one) span) (expr.Block also (Some one') place) (rw (← s, ← f, ← o) (bare_expr-Block found (Some one) span)))))))

  pub block-blind : IgnoresSpans erased_expr (block readers) (block readers)
  unfolding block
  block-blind = here-blind (λ span place s. inside-blind delimiter.Brace (by_turns-blind (λ turns. statements_from-blind span place s turns [] [] refl)))

  expr_in_parentheses-blind : IgnoresSpans erased_expr (expr_in_parentheses readers) (expr_in_parentheses readers)
  unfolding expr_in_parentheses
  expr_in_parentheses-blind = here-blind (λ span place s. inside-blind delimiter.Parenthesis (expr_group-blind span place s))

  expr_in_brackets-blind : IgnoresSpans erased_expr (expr_in_brackets readers) (expr_in_brackets readers)
  unfolding expr_in_brackets
  expr_in_brackets-blind = here-blind (λ span place s. inside-blind delimiter.Bracket (expr_bracket-blind span place s))

  expr_path-blind : IgnoresSpans erased_expr (expr_path readers) (expr_path readers)
  unfolding expr_path
  expr_path-blind = here-blind (λ start there s. then-blind (path-blind readers parts false) (λ found found' f.
      close-blind start there s (make.expr_path None found) (make.expr_path None found')
      (λ span. rw (← f) (bare_expr-Path _ ∙ ap (λ path. expr.Path path) (bare_expr_path-make None found span)))))

  expr_qualified-blind : IgnoresSpans erased_expr (expr_qualified readers) (expr_qualified readers)
  unfolding expr_qualified
  expr_qualified-blind = here-blind (λ start there s. then-blind (qualified-blind readers parts false) (λ found found' f.
      close-blind start there s (make.expr_path (Some found.0) found.1) (make.expr_path (Some found'.0) found'.1)
      (λ span. rw (← f) (bare_expr-Path _ ∙ ap (λ path. expr.Path path) (bare_expr_path-make (Some found.0) found.1 span)))))

  invisible-blind : IgnoresSpans erased_expr (invisible readers) (invisible readers)
  unfolding invisible
  invisible-blind = here-blind (λ span place s. inside-blind delimiter.None (
      map-blind (λ found. expr.Group found span) (λ found. expr.Group found place) (parts.expr any_level) (λ found. rw (← s) (bare_expr-Group found span))))

  pub atom_by-blind : (begins : AtomStart) → IgnoresSpans erased_expr (atom_by readers begins) (atom_by readers begins)
  atom_by-blind atom.Literal = literal-blind
  atom_by-blind atom.Bool = expr_bool-blind
  atom_by-blind atom.Path = expr_path-blind
  atom_by-blind atom.Qualified = expr_qualified-blind
  atom_by-blind atom.Parenthesis = expr_in_parentheses-blind
  atom_by-blind atom.Bracket = expr_in_brackets-blind
  atom_by-blind atom.Brace = block-blind
  atom_by-blind atom.Invisible = invisible-blind
  atom_by-blind atom.Infer = here-blind (λ span place s. so-blind skip-blind (λ mark. pure-blind (expr.Infer span) (expr.Infer place) (rw (← s) (bare_expr-Infer span))))
  atom_by-blind atom.Nothing = refuse-blind

  constant_by-blind : (begins : AtomStart) → IgnoresSpans erased_expr (constant_by readers begins) (constant_by readers begins)
  constant_by-blind atom.Literal = literal-blind
  constant_by-blind atom.Bool = expr_bool-blind
  constant_by-blind atom.Brace = block-blind
  constant_by-blind _ = refuse-blind

  pub constant-blind : IgnoresSpans erased_expr (constant readers) (constant readers)
  unfolding constant
  constant-blind = so-blind (test-blind atom_start atom_start atom_start-bare) constant_by-blind
