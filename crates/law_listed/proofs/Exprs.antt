-- What is said of the literals of all expressions that are read: what holds of the literal of each token and of both truths.
use Rattle.std.proofs.Common.{ℕ, zero, suc, ◌==◌, Bool, true, false, List, [], ◌∷◌, ◌++◌, Option, Some, None, refl}
use Rattle.std.proofs.lemmas.List.Elements.{All-cons, All-nil}
use Rattle.tok_types.specs.declared.ident.Ident.{Ident}
use Rattle.tok_types.specs.declared.span.Span.{Span}
use Rattle.tok_types.specs.declared.tree.Delimiter.TheVariants as delimiter
use Rattle.tok_types.specs.declared.tree.Literal.{Literal}
use Rattle.node_expr.specs.declared.expr.Expr.{Expr}
use Rattle.node_expr.specs.declared.expr.Expr.TheVariants as expr
use Rattle.node_expr.specs.declared.expr.ExprPath.{ExprPath, roll-ExprPath}
use Rattle.node_expr.specs.declared.expr.Member.{Member}
use Rattle.node_expr.specs.declared.expr.Member.TheVariants as made
use Rattle.node_expr.specs.declared.expr.UnOp.{UnOp}
use Rattle.node_expr.specs.declared.expr.UnOp.TheVariants as op
use Rattle.node_expr.specs.declared.lit.Lit.{Lit}
use Rattle.node_expr.specs.declared.lit.Lit.TheVariants as lit
use Rattle.syn_grammar.specs.declared.look.AtomStart.{AtomStart}
use Rattle.syn_grammar.specs.declared.look.AtomStart.TheVariants as atom
use Rattle.syn_grammar.specs.declared.look.OperandStart.{OperandStart}
use Rattle.syn_grammar.specs.declared.look.OperandStart.TheVariants as begin
use Rattle.syn_grammar.specs.declared.look.PostfixStart.{PostfixStart}
use Rattle.syn_grammar.specs.declared.look.PostfixStart.TheVariants as postfix
use Rattle.syn_grammar.specs.declared.look.Infix.{Infix}
use Rattle.syn_grammar.specs.declared.word.Word.{Word}
use Rattle.syn_grammar.specs.declared.word.Word.TheVariants as word
use Rattle.syn_grammar.specs.Depth.{expr_depth}
use Rattle.syn_grammar.specs.Expressions.{lit_bool, expr_bool, literal, closure_params, closure_body, closure, expr_group, expr_elements, expr_bracket, statements_from, block, expr_in_parentheses, expr_in_brackets, expr_path, expr_qualified, invisible, atom_by, constant_by, constant, args, turbofish_call, method_call, field, named_member, member_by, member, call, index, question, postfix_by, postfixes_by, postfixes_from, postfixed, unary, reference, operand_by, operand, right_of, chain_by, chain_from, compared, chain, binary_from, binary, dots, range_from, range, any, expr_step}
use Rattle.syn_grammar.specs.Grammar.{within}
use Rattle.syn_grammar.specs.Input.{Parser, ◌>>=◌, pure, test, here, upto, state, read_since, skip, skip_by, eat, expect, take_as, at_end, inside, items_after}
use Rattle.syn_grammar.specs.Literals.{lit_of, index_of}
use Rattle.syn_grammar.specs.Look.{is_there, atom_start, operand_start, postfix_start, begins_closure, begins_operand, operator_of, at_level}
use Rattle.syn_grammar.specs.Make as make
use Rattle.syn_grammar.specs.Paths.{angle_list, generic_argument, path, qualified}
use Rattle.syn_grammar.specs.Readers.{Readers, operand_level, or_level, range_level, any_level, constant_level}
use Rattle.syn_grammar.specs.Token.{is_bar, is_comma, is_dots, is_group, is_semicolon, is_turbofish, literal_of}
use Rattle.syn_grammar.specs.Words.{name_of, next_word, peek}
use Rattle.law_listed.proofs.Finds.{Finds, refuse-finds, pure-finds, then-finds, so-finds, made-finds, map-finds, weaker-finds, if-finds, turns-finds, inside-finds, items_after-finds, kept-finds}
use Rattle.law_listed.proofs.Literals.{OnLit, OnBareLits, lit-lits, array-lits, group-lits, other-lits}

-- what holds of the literal of each token and of both truths
pub record OnTokens (Says : Lit → Type 0) : Type 0 where
  pub tokens : (token : Literal) → Says (lit_of token)
  pub truths : (value : Bool) (span : Span) → Says (lit.Bool (record { value = value; span = span }))

-- whatever the parser finds, its literals have the property
abbrev pub FindsLits : (Lit → Type 0) → Parser Expr → Type 0
FindsLits Says parser = Finds (OnBareLits Says) parser

module _ {Says : Lit → Type 0} where
  -- an expression that holds no literals of its own, behind the place where it ends
  close-lits : (start : Span) (make : Span → Expr) → ((span : Span) → OnBareLits Says (make span)) → FindsLits Says (upto start >>= (λ span. pure (make span)))
  close-lits start make h = so-finds (upto start) (λ span. pure-finds (make span) (h span))

  module _ (given : OnTokens Says) where
    lit_bool-lits : (value : Word) (span : Span) → OnBareLits Says (lit_bool value span)
    lit_bool-lits word.True span = lit-lits (lit.Bool (record { value = true; span = span })) (given.truths true span)
    lit_bool-lits _ span = lit-lits (lit.Bool (record { value = false; span = span })) (given.truths false span)

    expr_bool-lits : FindsLits Says expr_bool
    unfolding expr_bool
    expr_bool-lits = so-finds here (λ span. so-finds (test next_word) (λ value. so-finds skip (λ mark. pure-finds (lit_bool value span) (lit_bool-lits value span))))

    literal-lits : FindsLits Says literal
    unfolding literal
    literal-lits = made-finds (λ token. expr.Lit (lit_of token)) (take_as literal_of) (λ token. lit-lits (lit_of token) (given.tokens token))

    module _ (readers : Readers) (parts : (level : ℕ) → FindsLits Says (readers.expr level)) where
      path-lits : (it : ExprPath) → OnBareLits Says (expr.Path it)
      path-lits it = other-lits (expr.Path it) (rw expr.outs-Path refl)

      closure-lits : FindsLits Says (closure readers)
      unfolding closure
      closure-lits = so-finds state (λ before. so-finds here (λ start. so-finds (eat 1 (peek word.Move)) (λ moved. so-finds (expect 1 is_bar) (λ opened.
          so-finds (closure_params readers) (λ params. so-finds (closure_body readers) (λ level. so-finds (read_since before.rest) (λ kept. so-finds (readers.expr level) (λ body.
          close-lits start (make.expr_closure kept body) (λ span. other-lits (make.expr_closure kept body span) (rw expr.outs-Closure refl))))))))))

      -- ---- atoms

      expr_group-lits : (span : Span) → FindsLits Says (expr_group readers span)
      unfolding expr_group
      expr_group-lits span = so-finds at_end (λ done.
          if-finds done (pure-finds (expr.Tuple [] span) (other-lits (expr.Tuple [] span) (rw expr.outs-Tuple refl))) (
          so-finds (readers.expr any_level) (λ first. so-finds (eat 1 is_comma) (λ more.
          if-finds more (made-finds (λ elems. expr.Tuple elems span) (items_after (readers.expr any_level) (first ∷ [])) (λ elems. other-lits (expr.Tuple elems span) (rw expr.outs-Tuple refl)))
          (pure-finds (expr.Paren first span) (other-lits (expr.Paren first span) (rw expr.outs-Paren refl)))))))

      element-lits : Finds (OnLit Says) (readers.expr any_level)
      element-lits = weaker-finds (λ it said. said.alone) (parts any_level)

      expr_elements-lits : (span : Span) (first : Expr) → OnLit Says first → FindsLits Says (expr_elements readers span first)
      unfolding expr_elements
      expr_elements-lits span first said =
          let one = All-cons (OnLit Says) first [] said (All-nil (OnLit Says)) in
          so-finds (eat 1 is_semicolon) (λ repeated.
          if-finds repeated (made-finds (λ len. expr.Repeat first len span) (readers.expr any_level) (λ len. other-lits (expr.Repeat first len span) (rw expr.outs-Repeat refl)))
          (so-finds (eat 1 is_comma) (λ more.
          if-finds more (map-finds (λ elems. make.expr_array elems span) (items_after-finds element-lits (first ∷ []) one) (λ elems all. array-lits (record { elems = elems; span = span }) all))
          (pure-finds (make.expr_array (first ∷ []) span) (array-lits (record { elems = first ∷ []; span = span }) one)))))

      expr_bracket-lits : (span : Span) → FindsLits Says (expr_bracket readers span)
      unfolding expr_bracket
      expr_bracket-lits span = so-finds at_end (λ done.
          if-finds done (pure-finds (make.expr_array [] span) (array-lits (record { elems = []; span = span }) (All-nil (OnLit Says)))) (then-finds element-lits (λ first said. expr_elements-lits span first said)))

      block_of-lits : (stmts : List Expr) (last : Option Expr) (span : Span) → OnBareLits Says (expr.Block stmts last span)
      block_of-lits stmts last span = other-lits (expr.Block stmts last span) (rw expr.outs-Block refl)

      statements_from-lits : (span : Span) (turns : ℕ) (found : List Expr) → FindsLits Says (statements_from readers span turns found)
      unfolding statements_from
      statements_from-lits span zero found = so-finds at_end (λ done.
          if-finds done (pure-finds (expr.Block found None span) (block_of-lits found None span)) refuse-finds)
      statements_from-lits span (suc turns) found = so-finds at_end (λ done.
          if-finds done (pure-finds (expr.Block found None span) (block_of-lits found None span)) (
          so-finds (readers.expr any_level) (λ statement. so-finds (eat 1 is_semicolon) (λ more.
          if-finds more (statements_from-lits span turns (found ++ statement ∷ []))
          (pure-finds (expr.Block found (Some statement) span) (block_of-lits found (Some statement) span))))))

      block-lits : FindsLits Says (block readers)
      unfolding block
      block-lits = so-finds here (λ span. inside-finds delimiter.Brace (turns-finds (λ turns. statements_from-lits span turns [])))

      expr_in_parentheses-lits : FindsLits Says (expr_in_parentheses readers)
      unfolding expr_in_parentheses
      expr_in_parentheses-lits = so-finds here (λ span. inside-finds delimiter.Parenthesis (expr_group-lits span))

      expr_in_brackets-lits : FindsLits Says (expr_in_brackets readers)
      unfolding expr_in_brackets
      expr_in_brackets-lits = so-finds here (λ span. inside-finds delimiter.Bracket (expr_bracket-lits span))

      expr_path-lits : FindsLits Says (expr_path readers)
      unfolding expr_path
      expr_path-lits = so-finds here (λ start. so-finds (path readers false) (λ found.
          close-lits start (make.expr_path None found) (λ span. path-lits (roll-ExprPath (record { qself = None; path = found; span = span })))))

      expr_qualified-lits : FindsLits Says (expr_qualified readers)
      unfolding expr_qualified
      expr_qualified-lits = so-finds here (λ start. so-finds (qualified readers false) (λ found.
          close-lits start (make.expr_path (Some found.0) found.1) (λ span. path-lits (roll-ExprPath (record { qself = Some found.0; path = found.1; span = span })))))

      invisible-lits : FindsLits Says (invisible readers)
      unfolding invisible
      invisible-lits = so-finds here (λ span. inside-finds delimiter.None (map-finds (λ found. expr.Group found span) (parts any_level) (λ found said. group-lits found span said)))

      atom_by-lits : (begins : AtomStart) → FindsLits Says (atom_by readers begins)
      atom_by-lits atom.Literal = literal-lits
      atom_by-lits atom.Bool = expr_bool-lits
      atom_by-lits atom.Path = expr_path-lits
      atom_by-lits atom.Qualified = expr_qualified-lits
      atom_by-lits atom.Parenthesis = expr_in_parentheses-lits
      atom_by-lits atom.Bracket = expr_in_brackets-lits
      atom_by-lits atom.Brace = block-lits
      atom_by-lits atom.Invisible = invisible-lits
      atom_by-lits atom.Infer = so-finds here (λ span. so-finds skip (λ mark. pure-finds (expr.Infer span) (other-lits (expr.Infer span) (rw expr.outs-Infer refl))))
      atom_by-lits atom.Nothing = refuse-finds

      constant_by-lits : (begins : AtomStart) → FindsLits Says (constant_by readers begins)
      constant_by-lits atom.Literal = literal-lits
      constant_by-lits atom.Bool = expr_bool-lits
      constant_by-lits atom.Brace = block-lits
      constant_by-lits _ = refuse-finds

      constant-lits : FindsLits Says (constant readers)
      unfolding constant
      constant-lits = so-finds (test atom_start) (λ begins. constant_by-lits begins)

      -- ---- what stands behind an operand

      module _ (start : Span) (left : Expr) where
        turbofish_call-lits : (method : Ident) → FindsLits Says (turbofish_call readers start left method)
        unfolding turbofish_call
        turbofish_call-lits method = so-finds (skip_by 3) (λ marks. so-finds (angle_list (generic_argument readers)) (λ turbofish. so-finds (args readers) (λ given.
            close-lits start (expr.MethodCall left method turbofish given) (λ span. other-lits (expr.MethodCall left method turbofish given span) (rw expr.outs-MethodCall refl)))))

        method_call-lits : (method : Ident) → FindsLits Says (method_call readers start left method)
        unfolding method_call
        method_call-lits method = so-finds (args readers) (λ given.
            close-lits start (expr.MethodCall left method [] given) (λ span. other-lits (expr.MethodCall left method [] given span) (rw expr.outs-MethodCall refl)))

        field-lits : (found : Member) → FindsLits Says (field readers start left found)
        unfolding field
        field-lits found = close-lits start (expr.Field left found) (λ span. other-lits (expr.Field left found span) (rw expr.outs-Field refl))

        named_member-lits : (name : Ident) → FindsLits Says (named_member readers start left name)
        unfolding named_member
        named_member-lits name = so-finds (test is_turbofish) (λ turbofish. so-finds (test (is_group delimiter.Parenthesis)) (λ called.
            if-finds turbofish (turbofish_call-lits name) (if-finds called (method_call-lits name) (field-lits (made.Named name)))))

        member_by-lits : (named : Bool) → FindsLits Says (member_by readers start left named)
        member_by-lits true = so-finds (take_as name_of) (λ name. named_member-lits name)
        member_by-lits false = so-finds (take_as index_of) (λ index. field-lits (made.Unnamed index))

        member-lits : FindsLits Says (member readers start left)
        unfolding member
        member-lits = so-finds (test (λ trees. is_there (name_of trees))) (λ named. member_by-lits named)

        call-lits : FindsLits Says (call readers start left)
        unfolding call
        call-lits = so-finds (args readers) (λ given. close-lits start (expr.Call left given) (λ span. other-lits (expr.Call left given span) (rw expr.outs-Call refl)))

        index-lits : FindsLits Says (index readers start left)
        unfolding index
        index-lits = so-finds (inside delimiter.Bracket (readers.expr any_level)) (λ at. close-lits start (expr.Index left at) (λ span. other-lits (expr.Index left at span) (rw expr.outs-Index refl)))

        question-lits : FindsLits Says (question readers start left)
        unfolding question
        question-lits = so-finds skip (λ mark. close-lits start (expr.Try left) (λ span. other-lits (expr.Try left span) (rw expr.outs-Try refl)))

        postfix_by-lits : (begins : PostfixStart) → FindsLits Says (postfix_by readers start left begins)
        postfix_by-lits postfix.Call = call-lits
        postfix_by-lits postfix.Dot = so-finds skip (λ mark. member-lits)
        postfix_by-lits postfix.Index = index-lits
        postfix_by-lits postfix.Try = question-lits
        postfix_by-lits postfix.Nothing = refuse-finds

        postfixes_by-lits : (more : Expr → Parser Expr) → ((longer : Expr) → OnBareLits Says longer → FindsLits Says (more longer)) → (begins : PostfixStart) → OnBareLits Says left → FindsLits Says (postfixes_by readers more start left begins)
        postfixes_by-lits more h postfix.Nothing said = pure-finds left said
        postfixes_by-lits more h postfix.Call said = then-finds (postfix_by-lits postfix.Call) h
        postfixes_by-lits more h postfix.Dot said = then-finds (postfix_by-lits postfix.Dot) h
        postfixes_by-lits more h postfix.Index said = then-finds (postfix_by-lits postfix.Index) h
        postfixes_by-lits more h postfix.Try said = then-finds (postfix_by-lits postfix.Try) h

      postfixes_from-lits : (start : Span) (turns : ℕ) (left : Expr) → OnBareLits Says left → FindsLits Says (postfixes_from readers start turns left)
      unfolding postfixes_from
      postfixes_from-lits start zero left said = so-finds at_end (λ done. if-finds done (pure-finds left said) refuse-finds)
      postfixes_from-lits start (suc turns) left said = so-finds (test postfix_start) (λ begins. postfixes_by-lits start left (postfixes_from readers start turns) (postfixes_from-lits start turns) begins said)

      postfixed-lits : (begins : AtomStart) → FindsLits Says (postfixed readers begins)
      unfolding postfixed
      postfixed-lits begins = so-finds here (λ start. then-finds (atom_by-lits begins) (λ left said. turns-finds (λ turns. postfixes_from-lits start turns left said)))

      -- ---- operators

      unary-lits : (op : UnOp) → FindsLits Says (unary readers op)
      unfolding unary
      unary-lits op = so-finds here (λ start. so-finds skip (λ mark. so-finds (readers.expr operand_level) (λ operand.
          close-lits start (expr.Unary op operand) (λ span. other-lits (expr.Unary op operand span) (rw expr.outs-Unary refl)))))

      reference-lits : FindsLits Says (reference readers)
      unfolding reference
      reference-lits = so-finds here (λ start. so-finds skip (λ mark. so-finds (eat 1 (peek word.Mut)) (λ mutable. so-finds (readers.expr operand_level) (λ operand.
          close-lits start (expr.Reference mutable operand) (λ span. other-lits (expr.Reference mutable operand span) (rw expr.outs-Reference refl))))))

      operand_by-lits : (begins : OperandStart) → FindsLits Says (operand_by readers begins)
      operand_by-lits begin.Neg = unary-lits op.Neg
      operand_by-lits begin.Not = unary-lits op.Not
      operand_by-lits begin.Deref = unary-lits op.Deref
      operand_by-lits begin.Reference = reference-lits
      operand_by-lits (begin.Atom begins) = postfixed-lits begins

      operand-lits : FindsLits Says (operand readers)
      unfolding operand
      operand-lits = so-finds (test operand_start) (λ begins. operand_by-lits begins)

      right_of-lits : (start : Span) (below : ℕ) (left : Expr) (op : Infix) → FindsLits Says (right_of readers start below left op)
      unfolding right_of
      right_of-lits start below left op = so-finds (skip_by op.width) (λ marks. so-finds (readers.expr below) (λ right.
          close-lits start (expr.Binary left op.op right) (λ span. other-lits (expr.Binary left op.op right span) (rw expr.outs-Binary refl))))

      chain_by-lits : (more : Expr → Parser Expr) → ((longer : Expr) → OnBareLits Says longer → FindsLits Says (more longer)) → (start : Span) (below : ℕ) (left : Expr) (found : Option Infix) → OnBareLits Says left
          → FindsLits Says (chain_by readers more start below left found)
      chain_by-lits more h start below left (Some op) said = then-finds (right_of-lits start below left op) h
      chain_by-lits more h start below left None said = pure-finds left said

      chain_from-lits : (start : Span) (below turns : ℕ) (left : Expr) → OnBareLits Says left → FindsLits Says (chain_from readers start below turns left)
      unfolding chain_from
      chain_from-lits start below zero left said = so-finds at_end (λ done. if-finds done (pure-finds left said) refuse-finds)
      chain_from-lits start below (suc turns) left said = so-finds (test operator_of) (λ found. chain_by-lits (chain_from readers start below turns) (chain_from-lits start below turns) start below left (at_level (suc below) found) said)

      compared-lits : (start : Span) (below : ℕ) (left : Expr) → OnBareLits Says left → FindsLits Says (compared readers start below left)
      unfolding compared
      compared-lits start below left said = so-finds (test operator_of) (λ found. chain_by-lits pure (λ longer l. pure-finds longer l) start below left (at_level (suc below) found) said)

      chain-lits : (start : Span) (below : ℕ) (left : Expr) → OnBareLits Says left → FindsLits Says (chain readers start below left)
      unfolding chain
      chain-lits start below left said = if-finds (below == 6) (compared-lits start below left said) (turns-finds (λ turns. chain_from-lits start below turns left said))

      binary_from-lits : (start : Span) (level : ℕ) → FindsLits Says (binary_from readers start level)
      unfolding binary_from
      binary_from-lits start zero = operand-lits
      binary_from-lits start (suc below) = then-finds (binary_from-lits start below) (λ left said. chain-lits start below left said)

      binary-lits : (level : ℕ) → FindsLits Says (binary readers level)
      unfolding binary
      binary-lits level = so-finds here (λ start. binary_from-lits start level)

      -- ---- ranges

      range_of-lits : (start end : Option Expr) (closed : Bool) (span : Span) → OnBareLits Says (make.expr_range start end closed span)
      range_of-lits start end closed span = other-lits (make.expr_range start end closed span) (rw expr.outs-Range refl)

      range_from-lits : (start : Span) (left : Option Expr) → FindsLits Says (range_from readers start left)
      unfolding range_from
      range_from-lits start left = so-finds (dots readers) (λ closed. so-finds (test begins_operand) (λ bounded. if-finds bounded
          (so-finds (readers.expr or_level) (λ right. close-lits start (make.expr_range left (Some right) closed) (range_of-lits left (Some right) closed)))
          (if-finds closed refuse-finds (close-lits start (make.expr_range left None false) (range_of-lits left None false)))))

      range-lits : FindsLits Says (range readers)
      unfolding range
      range-lits = so-finds here (λ start. so-finds (test is_dots) (λ unbounded. if-finds unbounded (range_from-lits start None) (
          then-finds (binary-lits or_level) (λ left said. so-finds (test is_dots) (λ ranged. if-finds ranged (range_from-lits start (Some left)) (pure-finds left said))))))

      -- ---- all levels

      any-lits : FindsLits Says (any readers)
      unfolding any
      any-lits = so-finds (test begins_closure) (λ closed. if-finds closed closure-lits range-lits)

      expr_step-lits : (level : ℕ) → FindsLits Says (expr_step readers level)
      unfolding expr_step
      expr_step-lits level = if-finds (level == any_level) any-lits (if-finds (level == range_level) range-lits (if-finds (level == constant_level) constant-lits (binary-lits level)))

    -- the literals of expressions of every depth have the property
    pub within-lits : (depth level : ℕ) → FindsLits Says ((within depth).expr level)
    unfolding within
    within-lits zero level = refuse-finds
    within-lits (suc below) level = kept-finds expr_depth (suc below) (expr_step-lits (within below) (within-lits below) level)
