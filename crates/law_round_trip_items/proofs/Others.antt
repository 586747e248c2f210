-- What kind of expression a rule gives: one that is neither a literal nor an operand behind its operator, where the rule is for no such.
use Rattle.std.proofs.Common.{◌≡◌, ◌⊎◌, inl, inr, ℕ, zero, suc, Bool, true, false, ◌==◌, if◌then◌else◌, List, [], ◌∷◌, ◌++◌, Option, Some, None, sym}
use Rattle.std.proofs.lemmas.Option.{some_pair_parts}
use Rattle.tok_types.specs.declared.span.Span.{Span}
use Rattle.tok_types.specs.declared.tree.Delimiter.{Delimiter}
use Rattle.tok_types.specs.declared.ident.Ident.{Ident}
use Rattle.node_expr.specs.Layers.{ExprLayer}
use Rattle.node_expr.specs.declared.expr.Expr.{Expr, out-Expr, the_lemmas}
use Rattle.node_expr.specs.declared.expr.Expr.TheOpen.{Expr-F}
use Rattle.node_expr.specs.declared.expr.Expr.TheVariants as expr
use Rattle.syn_grammar.specs.declared.look.AtomStart.{AtomStart}
use Rattle.syn_grammar.specs.declared.look.AtomStart.TheVariants as atom
use Rattle.syn_grammar.specs.declared.look.Infix.{Infix}
use Rattle.syn_grammar.specs.declared.look.PostfixStart.{PostfixStart}
use Rattle.syn_grammar.specs.declared.look.PostfixStart.TheVariants as postfix
use Rattle.syn_grammar.specs.Expressions.{any, args, atom_by, binary, binary_from, block, call, chain, chain_by, chain_from, closure, compared, expr_bracket, expr_elements, expr_group, expr_in_brackets, expr_in_parentheses, expr_path, expr_qualified, field, index, invisible, member, member_by, method_call, named_member, operand, postfix_by, postfixes_by, postfixes_from, question, range, range_from, reference, right_of, statements_from, turbofish_call, closure_params, closure_body, dots}
use Rattle.syn_grammar.specs.Input.{Input, Parser, ◌>>=◌, pure, refuse, inside, is_end, start_of, first_span, test, state, here, eat, expect, read_since, upto, skip, at_end, items_after, skip_by, take_as}
use Rattle.syn_grammar.specs.Look.{at_level, begins_closure, operator_of, postfix_start, begins_operand, is_there}
use Rattle.syn_grammar.specs.Make as make
use Rattle.syn_grammar.specs.Readers.{Readers, or_level, any_level, operand_level}
use Rattle.node_expr.specs.declared.expr.Member.TheVariants as made
use Rattle.syn_grammar.specs.Token.{contents_of, is_dots, is_group, is_bar, is_comma, is_semicolon, is_turbofish}
use Rattle.law_round_trip.proofs.Steps.{bind-at}
use Rattle.std.specs.Prelude.{length}
use Rattle.syn_grammar.specs.Words.{name_of, peek}
use Rattle.syn_grammar.specs.Paths.{angle_list, generic_argument, path, qualified}
use Rattle.syn_grammar.specs.Literals.{index_of}
use Rattle.syn_grammar.specs.declared.word.Word.TheVariants as word
use Rattle.tok_types.specs.declared.tree.Delimiter.TheVariants as delimiter
use Rattle.law_round_trip_items.proofs.Always.{Always, then-always, pure-always, if-always, refuse-always}
use Rattle.law_round_trip_items.proofs.Makes.{inside-parts}
use Rattle.law_prefix.specs.ReadsByPrefix.{at}

abbrev pub other_by : ExprLayer → Bool
other_by (Expr-F.Lit it) = false
other_by (Expr-F.Unary op it span) = false
other_by _ = true

-- neither a literal nor an operand behind its operator
abbrev pub is_other : Expr → Bool
is_other it = other_by (out-Expr it)

-- whatever the rule gives is neither
abbrev pub Others : Parser Expr → Type 0
Others = Always (λ it. is_other it ≡ true)

inside-always : {A : Type 0} {V : A → Type 0} (between : Delimiter) {parser : Parser A} → Always V parser → Always V (inside between parser)
inside-always between {parser} h = record {
  of = λ input after found e. let parts = inside-parts between parser input after found e in h.of (start_of (contents_of input.rest)) (at [] parts.1) found parts.2;
}

module _ (readers : Readers) where
  -- ---- closures and ranges

  closure-others : Others (closure readers)
  unfolding closure
  closure-others = then-always state (λ before. then-always here (λ start. then-always (eat 1 (peek word.Move)) (λ moved. then-always (expect 1 is_bar) (λ opened. then-always (closure_params readers) (λ params. then-always (closure_body readers) (λ level. then-always (read_since before.rest) (λ kept. then-always (readers.expr level) (λ body. then-always (upto start) (λ span. pure-always (make.expr_closure kept body span) (search the_lemmas))))))))))

  range_from-others : (start : Span) (left : Option Expr) → Others (range_from readers start left)
  unfolding range_from
  range_from-others start left = then-always (dots readers) (λ closed. then-always (test begins_operand) (λ bounded. if-always bounded
      (then-always (readers.expr or_level) (λ right. then-always (upto start) (λ span. pure-always (make.expr_range left (Some right) closed span) (search the_lemmas))))
      (if-always closed refuse-always (then-always (upto start) (λ span. pure-always (make.expr_range left None false span) (search the_lemmas))))))

  pub reference-others : Others (reference readers)
  unfolding reference
  reference-others = then-always here (λ start. then-always skip (λ mark. then-always (eat 1 (peek word.Mut)) (λ mutable. then-always (readers.expr operand_level) (λ operand. then-always (upto start) (λ span. pure-always (expr.Reference mutable operand span) (search the_lemmas))))))

  -- ---- atoms that are no literals

  statements_from-others : (span : Span) (turns : ℕ) (found : List Expr) → Others (statements_from readers span turns found)
  unfolding statements_from
  statements_from-others span zero found = then-always at_end (λ done. if-always done (pure-always (expr.Block found None span) (search the_lemmas)) refuse-always)
  statements_from-others span (suc turns) found = then-always at_end (λ done. if-always done (pure-always (expr.Block found None span) (search the_lemmas))
      (then-always (readers.expr any_level) (λ statement. then-always (eat 1 is_semicolon) (λ more. if-always more (statements_from-others span turns (found ++ statement ∷ [])) (pure-always (expr.Block found (Some statement) span) (search the_lemmas))))))

  statements-others : (span : Span) → Others (λ input. statements_from readers span (length input.rest) [] input)
  statements-others span = record { of = λ input after found e. (statements_from-others span (length input.rest) []).of input after found e }

  expr_group-others : (span : Span) → Others (expr_group readers span)
  unfolding expr_group
  expr_group-others span = then-always at_end (λ done. if-always done (pure-always (expr.Tuple [] span) (search the_lemmas))
      (then-always (readers.expr any_level) (λ first. then-always (eat 1 is_comma) (λ more. if-always more (then-always (items_after (readers.expr any_level) (first ∷ [])) (λ elems. pure-always (expr.Tuple elems span) (search the_lemmas))) (pure-always (expr.Paren first span) (search the_lemmas))))))

  expr_elements-others : (span : Span) (first : Expr) → Others (expr_elements readers span first)
  unfolding expr_elements
  expr_elements-others span first = then-always (eat 1 is_semicolon) (λ repeated. if-always repeated (then-always (readers.expr any_level) (λ len. pure-always (expr.Repeat first len span) (search the_lemmas)))
      (then-always (eat 1 is_comma) (λ more. if-always more (then-always (items_after (readers.expr any_level) (first ∷ [])) (λ elems. pure-always (make.expr_array elems span) (search the_lemmas))) (pure-always (make.expr_array (first ∷ []) span) (search the_lemmas)))))

  expr_bracket-others : (span : Span) → Others (expr_bracket readers span)
  unfolding expr_bracket
  expr_bracket-others span = then-always at_end (λ done. if-always done (pure-always (make.expr_array [] span) (search the_lemmas)) (then-always (readers.expr any_level) (λ first. expr_elements-others span first)))

  expr_path-others : Others (expr_path readers)
  unfolding expr_path
  expr_path-others = then-always here (λ start. then-always (path readers false) (λ found. then-always (upto start) (λ span. pure-always (make.expr_path None found span) (search the_lemmas))))

  expr_qualified-others : Others (expr_qualified readers)
  unfolding expr_qualified
  expr_qualified-others = then-always here (λ start. then-always (qualified readers false) (λ found. then-always (upto start) (λ span. pure-always (make.expr_path (Some found.0) found.1 span) (search the_lemmas))))

  abbrev pub no_literal : AtomStart → Bool
  no_literal atom.Literal = false
  no_literal atom.Bool = false
  no_literal _ = true

  pub atom_by-others : (begins : AtomStart) → no_literal begins ≡ true → Others (atom_by readers begins)
  unfolding expr_in_parentheses expr_in_brackets block invisible
  atom_by-others atom.Path h = expr_path-others
  atom_by-others atom.Qualified h = expr_qualified-others
  atom_by-others atom.Parenthesis h = then-always here (λ span. inside-always delimiter.Parenthesis (expr_group-others span))
  atom_by-others atom.Bracket h = then-always here (λ span. inside-always delimiter.Bracket (expr_bracket-others span))
  atom_by-others atom.Brace h = then-always here (λ span. inside-always delimiter.Brace (statements-others span))
  atom_by-others atom.Invisible h = then-always here (λ span. inside-always delimiter.None (then-always (readers.expr any_level) (λ found. pure-always (expr.Group found span) (search the_lemmas))))
  atom_by-others atom.Infer h = then-always here (λ span. then-always skip (λ mark. pure-always (expr.Infer span) (search the_lemmas)))
  atom_by-others atom.Nothing h = refuse-always
  atom_by-others atom.Literal h = absurd cc
  atom_by-others atom.Bool h = absurd cc

  -- ---- what stands behind an operand

  turbofish_call-others : (start : Span) (receiver : Expr) (method : Ident) → Others (turbofish_call readers start receiver method)
  unfolding turbofish_call
  turbofish_call-others start receiver method = then-always (skip_by 3) (λ marks. then-always (angle_list (generic_argument readers)) (λ turbofish. then-always (args readers) (λ given. then-always (upto start) (λ span. pure-always (expr.MethodCall receiver method turbofish given span) (search the_lemmas)))))

  method_call-others : (start : Span) (receiver : Expr) (method : Ident) → Others (method_call readers start receiver method)
  unfolding method_call
  method_call-others start receiver method = then-always (args readers) (λ given. then-always (upto start) (λ span. pure-always (expr.MethodCall receiver method [] given span) (search the_lemmas)))

  named_member-others : (start : Span) (base : Expr) (name : Ident) → Others (named_member readers start base name)
  unfolding named_member field
  named_member-others start base name = then-always (test is_turbofish) (λ turbofish. then-always (test (is_group delimiter.Parenthesis)) (λ called. if-always turbofish (turbofish_call-others start base name)
      (if-always called (method_call-others start base name) (then-always (upto start) (λ span. pure-always (expr.Field base (made.Named name) span) (search the_lemmas))))))

  member_by-others : (start : Span) (base : Expr) (named : Bool) → Others (member_by readers start base named)
  unfolding field
  member_by-others start base true = then-always (take_as name_of) (λ name. named_member-others start base name)
  member_by-others start base false = then-always (take_as index_of) (λ index. then-always (upto start) (λ span. pure-always (expr.Field base (made.Unnamed index) span) (search the_lemmas)))

  postfix_by-others : (start : Span) (left : Expr) (begins : PostfixStart) → Others (postfix_by readers start left begins)
  unfolding call member index question
  postfix_by-others start left postfix.Call = then-always (args readers) (λ given. then-always (upto start) (λ span. pure-always (expr.Call left given span) (search the_lemmas)))
  postfix_by-others start left postfix.Dot = then-always skip (λ mark. then-always (test (λ trees. is_there (name_of trees))) (λ named. member_by-others start left named))
  postfix_by-others start left postfix.Index = then-always (inside delimiter.Bracket (readers.expr any_level)) (λ at. then-always (upto start) (λ span. pure-always (expr.Index left at span) (search the_lemmas)))
  postfix_by-others start left postfix.Try = then-always skip (λ mark. then-always (upto start) (λ span. pure-always (expr.Try left span) (search the_lemmas)))
  postfix_by-others start left postfix.Nothing = refuse-always

  -- what was left, or neither a literal nor an operand behind its operator
  abbrev pub KeptOr : Expr → Input → Expr → Input → Type 0
  KeptOr left input found after = ((found ≡ left) × (after ≡ input)) ⊎ (is_other found ≡ true)

  kept-pure : (left : Expr) (input after : Input) (found : Expr) → pure left input ≡ Some (found, after) → KeptOr left input found after
  kept-pure left input after found e = let both = some_pair_parts left found input after e in inl (sym both.0, sym both.1)

  kept-done : (b : Bool) (left : Expr) (input after : Input) (found : Expr) → (if b then pure left else refuse) input ≡ Some (found, after) → KeptOr left input found after
  kept-done true left input after found e = kept-pure left input after found e
  kept-done false left input after found e = absurd cc

  -- a loop that goes on with an expression that is neither
  kept-more : (middle : Expr) (between after : Input) (found : Expr) → is_other middle ≡ true → KeptOr middle between found after → is_other found ≡ true
  kept-more middle between after found is (inl same) = rw (same.0) is
  kept-more middle between after found is (inr it) = it

  pub postfixes_from-kept : (start : Span) (turns : ℕ) (left : Expr) (input after : Input) (found : Expr) → postfixes_from readers start turns left input ≡ Some (found, after) → KeptOr left input found after
  unfolding postfixes_from
  postfixes_from-kept start zero left input after found e = kept-done (is_end input.rest) left input after found e
  postfixes_from-kept start (suc turns) left input after found e = by (λ left input e. postfixes_from-kept start turns left input after found e) (postfix_start input.rest) e
    where
      Later : Type 0
      Later = (left : Expr) (input : Input) → postfixes_from readers start turns left input ≡ Some (found, after) → KeptOr left input found after

      more : Later → (begins : PostfixStart) → (postfix_by readers start left begins >>= postfixes_from readers start turns) input ≡ Some (found, after) → KeptOr left input found after
      more later begins e =
          let parts = bind-at (postfix_by readers start left begins input) (postfixes_from readers start turns) found after e in
          inr (kept-more parts.0 parts.1 after found ((postfix_by-others start left begins).of input parts.1 parts.0 parts.2) (later parts.0 parts.1 parts.3))

      by : Later → (begins : PostfixStart) → postfixes_by readers (postfixes_from readers start turns) start left begins input ≡ Some (found, after) → KeptOr left input found after
      by later postfix.Nothing e = kept-pure left input after found e
      by later postfix.Call e = more later postfix.Call e
      by later postfix.Dot e = more later postfix.Dot e
      by later postfix.Index e = more later postfix.Index e
      by later postfix.Try e = more later postfix.Try e

  -- ---- operators

  right_of-others : (start : Span) (below : ℕ) (left : Expr) (op : Infix) → Others (right_of readers start below left op)
  unfolding right_of
  right_of-others start below left op = then-always (skip_by op.width) (λ marks. then-always (readers.expr below) (λ right. then-always (upto start) (λ span. pure-always (expr.Binary left op.op right span) (search the_lemmas))))

  chain_by-kept : (more : Expr → Parser Expr) (start : Span) (below : ℕ) → ((left : Expr) (input after : Input) (found : Expr) → more left input ≡ Some (found, after) → KeptOr left input found after)
      → (left : Expr) (op : Option Infix) (input after : Input) (found : Expr) → chain_by readers more start below left op input ≡ Some (found, after) → KeptOr left input found after
  chain_by-kept more start below kept left None input after found e = kept-pure left input after found e
  chain_by-kept more start below kept left (Some op) input after found e =
      let parts = bind-at (right_of readers start below left op input) more found after e in
      inr (kept-more parts.0 parts.1 after found ((right_of-others start below left op).of input parts.1 parts.0 parts.2) (kept parts.0 parts.1 after found parts.3))

  chain_from-kept : (start : Span) (below turns : ℕ) (left : Expr) (input after : Input) (found : Expr) → chain_from readers start below turns left input ≡ Some (found, after) → KeptOr left input found after
  unfolding chain_from
  chain_from-kept start below zero left input after found e = kept-done (is_end input.rest) left input after found e
  chain_from-kept start below (suc turns) left input after found e =
      chain_by-kept (chain_from readers start below turns) start below (λ left input after found e. chain_from-kept start below turns left input after found e) left (at_level (suc below) (operator_of input.rest)) input after found e

  chain-kept : (start : Span) (below : ℕ) (left : Expr) (input after : Input) (found : Expr) → chain readers start below left input ≡ Some (found, after) → KeptOr left input found after
  unfolding chain compared
  chain-kept start below left input after found e = by (below == 6) e
    where
      by : (b : Bool) → (if b then compared readers start below left else (λ input. chain_from readers start below (length input.rest) left input)) input ≡ Some (found, after) → KeptOr left input found after
      by true e = chain_by-kept pure start below kept-pure left (at_level (suc below) (operator_of input.rest)) input after found e
      by false e = chain_from-kept start below (length input.rest) left input after found e

  -- an operand as it was read, or an expression that is neither
  abbrev pub OperandOr : Input → Input → Expr → Type 0
  OperandOr input after found = (operand readers input ≡ Some (found, after)) ⊎ (is_other found ≡ true)

  binary_from-kept : (start : Span) (level : ℕ) (input after : Input) (found : Expr) → binary_from readers start level input ≡ Some (found, after) → OperandOr input after found
  unfolding binary_from
  binary_from-kept start zero input after found e = inl e
  binary_from-kept start (suc below) input after found e =
      let parts = bind-at (binary_from readers start below input) (chain readers start below) found after e in
      by parts.0 parts.1 (binary_from-kept start below input parts.1 parts.0 parts.2) (chain-kept start below parts.0 parts.1 after found parts.3)
    where
      by : (left : Expr) (between : Input) → OperandOr input between left → KeptOr left between found after → OperandOr input after found
      by left between one (inr it) = inr it
      by left between (inl read) (inl same) = inl (rw (same.0, same.1) read)
      by left between (inr it) (inl same) = inr (rw (same.0) it)

  range-kept : (input after : Input) (found : Expr) → range readers input ≡ Some (found, after) → OperandOr input after found
  unfolding range binary
  range-kept input after found e = by (is_dots input.rest) e
    where
      start : Span
      start = first_span input.rest

      ranged : (b : Bool) (left : Expr) (between : Input) → OperandOr input between left → (if b then range_from readers start (Some left) else pure left) between ≡ Some (found, after) → OperandOr input after found
      ranged true left between one e = inr ((range_from-others start (Some left)).of between after found e)
      ranged false left between one e = let both = some_pair_parts left found between after e in rw (← both.0, ← both.1) one

      by : (b : Bool) → (if b then range_from readers start None else (binary readers or_level >>= (λ left. test is_dots >>= (λ ranged. if ranged then range_from readers start (Some left) else pure left)))) input ≡ Some (found, after) → OperandOr input after found
      by true e = inr ((range_from-others start None).of input after found e)
      by false e =
          let parts = bind-at (binary readers or_level input) (λ left. test is_dots >>= (λ ranged. if ranged then range_from readers start (Some left) else pure left)) found after e in
          ranged (is_dots parts.1.rest) parts.0 parts.1 (binary_from-kept start or_level input parts.1 parts.0 parts.2) parts.3

  pub any-kept : (input after : Input) (found : Expr) → any readers input ≡ Some (found, after) → OperandOr input after found
  unfolding any
  any-kept input after found e = by (begins_closure input.rest) e
    where
      by : (b : Bool) → (if b then closure readers else range readers) input ≡ Some (found, after) → OperandOr input after found
      by true e = inr (closure-others.of input after found e)
      by false e = range-kept input after found e
