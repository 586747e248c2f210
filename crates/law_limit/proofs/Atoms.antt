-- The rules of atoms and closures read as much where the readers of their parts do.
use Rattle.std.proofs.Common.{ℕ, zero, suc, Bool, true, false, List, [], ◌∷◌, ◌++◌, Some, None}
use Rattle.tok_types.specs.Ascii.{bar}
use Rattle.tok_types.specs.declared.span.Span.{Span}
use Rattle.tok_types.specs.declared.tree.Delimiter.TheVariants as delimiter
use Rattle.node_expr.specs.declared.expr.Expr.{Expr}
use Rattle.node_expr.specs.declared.expr.Expr.TheVariants as expr
use Rattle.syn_grammar.specs.declared.look.AtomStart.{AtomStart}
use Rattle.syn_grammar.specs.declared.look.AtomStart.TheVariants as atom
use Rattle.syn_grammar.specs.declared.word.Word.TheVariants as word
use Rattle.syn_grammar.specs.Expressions.{expr_bool, literal, pass_type, closure_param, closure_params, closure_body, closure, expr_group, expr_elements, expr_bracket, statements_from, block, expr_in_parentheses, expr_in_brackets, expr_path, expr_qualified, invisible, atom_by, constant_by, constant}
use Rattle.syn_grammar.specs.Input.{at_end, eat, expect, here, read_since, refuse, state, test}
use Rattle.syn_grammar.specs.Look.{atom_start}
use Rattle.syn_grammar.specs.Make as make
use Rattle.syn_grammar.specs.Patterns.{max_pattern, pattern}
use Rattle.syn_grammar.specs.Readers.{Readers, any_level, constant_level}
use Rattle.syn_grammar.specs.Token.{is_arrow, is_bar, is_colon, is_comma, is_group, is_semicolon}
use Rattle.syn_grammar.specs.Words.{peek}
use Rattle.law_limit.specs.IsExtendedBy.{IsExtendedBy}
use Rattle.law_limit.proofs.Paths.{AllExtended, path-more, qualified-more}
use Rattle.law_limit.proofs.Steps.{same, gives, close, bind, so, mapped, branch, group, turns, items_after-more, until-more}

module _ (readers others : Readers) (parts : AllExtended readers others) where
  -- ---- closures

  pass_type-more : (allow_plus : Bool) → IsExtendedBy (pass_type readers allow_plus) (pass_type others allow_plus)
  unfolding pass_type
  pass_type-more allow_plus = mapped (λ ty. tt) (parts.ty allow_plus)

  closure_param-more : IsExtendedBy (closure_param readers) (closure_param others)
  unfolding closure_param
  closure_param-more = so (pattern max_pattern) (λ found. so (eat 1 is_colon) (λ typed. branch typed (pass_type-more true) (gives tt)))

  closure_params-more : IsExtendedBy (closure_params readers) (closure_params others)
  closure_params-more = mapped (λ params. tt) (until-more closure_param-more bar)

  closure_body-more : IsExtendedBy (closure_body readers) (closure_body others)
  unfolding closure_body
  closure_body-more = so (eat 2 is_arrow) (λ typed. branch typed (bind (bind (pass_type-more false) (λ passed. same (expect 0 (is_group delimiter.Brace)))) (λ braced. gives constant_level)) (gives any_level))

  pub closure-more : IsExtendedBy (closure readers) (closure others)
  unfolding closure
  closure-more = so state (λ before. so here (λ start. so (eat 1 (peek word.Move)) (λ moved. so (expect 1 is_bar) (λ opened. bind closure_params-more (λ params. bind closure_body-more (λ level.
      so (read_since before.rest) (λ kept. bind (parts.expr level) (λ body. close start (make.expr_closure kept body)))))))))

  -- ---- atoms

  expr_group-more : (span : Span) → IsExtendedBy (expr_group readers span) (expr_group others span)
  unfolding expr_group
  expr_group-more span = so at_end (λ done. branch done (gives (expr.Tuple [] span)) (bind (parts.expr any_level) (λ first. so (eat 1 is_comma) (λ more.
      branch more (mapped (λ elems. expr.Tuple elems span) (items_after-more (parts.expr any_level) (first ∷ []))) (gives (expr.Paren first span))))))

  expr_elements-more : (span : Span) (first : Expr) → IsExtendedBy (expr_elements readers span first) (expr_elements others span first)
  unfolding expr_elements
  expr_elements-more span first = so (eat 1 is_semicolon) (λ repeated. branch repeated (mapped (λ len. expr.Repeat first len span) (parts.expr any_level)) (so (eat 1 is_comma) (λ more.
      branch more (mapped (λ elems. make.expr_array elems span) (items_after-more (parts.expr any_level) (first ∷ []))) (gives (make.expr_array (first ∷ []) span)))))

  expr_bracket-more : (span : Span) → IsExtendedBy (expr_bracket readers span) (expr_bracket others span)
  unfolding expr_bracket
  expr_bracket-more span = so at_end (λ done. branch done (gives (make.expr_array [] span)) (bind (parts.expr any_level) (expr_elements-more span)))

  statements_from-more : (span : Span) (count : ℕ) (found : List Expr) → IsExtendedBy (statements_from readers span count found) (statements_from others span count found)
  unfolding statements_from
  statements_from-more span zero found = same (statements_from readers span zero found)
  statements_from-more span (suc count) found = so at_end (λ done. branch done (gives (expr.Block found None span)) (bind (parts.expr any_level) (λ statement. so (eat 1 is_semicolon) (λ more.
      branch more (statements_from-more span count (found ++ statement ∷ [])) (gives (expr.Block found (Some statement) span))))))

  block-more : IsExtendedBy (block readers) (block others)
  unfolding block
  block-more = so here (λ span. group delimiter.Brace (turns (λ count. statements_from-more span count [])))

  expr_in_parentheses-more : IsExtendedBy (expr_in_parentheses readers) (expr_in_parentheses others)
  unfolding expr_in_parentheses
  expr_in_parentheses-more = so here (λ span. group delimiter.Parenthesis (expr_group-more span))

  expr_in_brackets-more : IsExtendedBy (expr_in_brackets readers) (expr_in_brackets others)
  unfolding expr_in_brackets
  expr_in_brackets-more = so here (λ span. group delimiter.Bracket (expr_bracket-more span))

  expr_path-more : IsExtendedBy (expr_path readers) (expr_path others)
  unfolding expr_path
  expr_path-more = so here (λ start. bind (path-more readers others parts false) (λ found. close start (make.expr_path None found)))

  expr_qualified-more : IsExtendedBy (expr_qualified readers) (expr_qualified others)
  unfolding expr_qualified
  expr_qualified-more = so here (λ start. bind (qualified-more readers others parts false) (λ found. close start (make.expr_path (Some found.0) found.1)))

  invisible-more : IsExtendedBy (invisible readers) (invisible others)
  unfolding invisible
  invisible-more = so here (λ span. group delimiter.None (mapped (λ found. expr.Group found span) (parts.expr any_level)))

  pub atom_by-more : (begins : AtomStart) → IsExtendedBy (atom_by readers begins) (atom_by others begins)
  atom_by-more atom.Literal = same literal
  atom_by-more atom.Bool = same expr_bool
  atom_by-more atom.Path = expr_path-more
  atom_by-more atom.Qualified = expr_qualified-more
  atom_by-more atom.Parenthesis = expr_in_parentheses-more
  atom_by-more atom.Bracket = expr_in_brackets-more
  atom_by-more atom.Brace = block-more
  atom_by-more atom.Invisible = invisible-more
  atom_by-more atom.Infer = same (atom_by readers atom.Infer)
  atom_by-more atom.Nothing = same refuse

  constant_by-more : (begins : AtomStart) → IsExtendedBy (constant_by readers begins) (constant_by others begins)
  constant_by-more atom.Literal = same literal
  constant_by-more atom.Bool = same expr_bool
  constant_by-more atom.Path = same refuse
  constant_by-more atom.Qualified = same refuse
  constant_by-more atom.Parenthesis = same refuse
  constant_by-more atom.Bracket = same refuse
  constant_by-more atom.Brace = block-more
  constant_by-more atom.Invisible = same refuse
  constant_by-more atom.Infer = same refuse
  constant_by-more atom.Nothing = same refuse

  pub constant-more : IsExtendedBy (constant readers) (constant others)
  unfolding constant
  constant-more = so (test atom_start) constant_by-more
