-- Expressions.
use Rattle.std.specs.Prelude.{ℕ, zero, suc, Bool, true, false, ◌==◌, if◌then◌else◌, List, [], ◌∷◌, ◌++◌, Option, Some, None}
use Rattle.tok_types.specs.Ascii.{bar}
use Rattle.tok_types.specs.declared.ident.Ident.{Ident}
use Rattle.tok_types.specs.declared.span.Span.{Span}
use Rattle.tok_types.specs.declared.tree.Delimiter.TheVariants as delimiter
use Rattle.node_expr.specs.declared.expr.Expr.{Expr}
use Rattle.node_expr.specs.declared.expr.Expr.TheVariants as expr
use Rattle.node_expr.specs.declared.expr.Member.{Member}
use Rattle.node_expr.specs.declared.expr.Member.TheVariants as made
use Rattle.node_expr.specs.declared.expr.UnOp.{UnOp}
use Rattle.node_expr.specs.declared.expr.UnOp.TheVariants as op
use Rattle.node_expr.specs.declared.lit.Lit.TheVariants as lit
use Rattle.syn_grammar.specs.declared.look.AtomStart.{AtomStart}
use Rattle.syn_grammar.specs.declared.look.AtomStart.TheVariants as atom
use Rattle.syn_grammar.specs.declared.look.OperandStart.{OperandStart}
use Rattle.syn_grammar.specs.declared.look.OperandStart.TheVariants as begin
use Rattle.syn_grammar.specs.declared.look.PostfixStart.{PostfixStart}
use Rattle.syn_grammar.specs.declared.look.PostfixStart.TheVariants as postfix
use Rattle.syn_grammar.specs.declared.look.Infix.{Infix}
use Rattle.syn_grammar.specs.declared.word.Word.{Word}
use Rattle.syn_grammar.specs.declared.word.Word.TheVariants as word
use Rattle.syn_grammar.specs.Token.{is_arrow, is_bar, is_closed_dots, is_colon, is_comma, is_dots, is_group, is_semicolon, is_turbofish, literal_of}
use Rattle.syn_grammar.specs.Words.{name_of, next_word, peek}
use Rattle.syn_grammar.specs.Look.{is_there, atom_start, operand_start, postfix_start, begins_closure, begins_operand, operator_of, at_level}
use Rattle.syn_grammar.specs.Input.{Parser, ◌>>=◌, ◌>>◌, ◌<$>◌, pure, refuse, test, here, upto, state, read_since, skip, skip_by, eat, expect, take_as, at_end, inside, items_after, until, by_turns}
use Rattle.syn_grammar.specs.Readers.{Readers, operand_level, or_level, range_level, any_level, constant_level}
use Rattle.syn_grammar.specs.Paths.{list, angle_list, generic_argument, path, qualified}
use Rattle.syn_grammar.specs.Patterns.{pattern, max_pattern}
use Rattle.syn_grammar.specs.Literals.{lit_of, index_of}
use Rattle.syn_grammar.specs.Make as make

abbrev pub lit_bool : Word → Span → Expr
lit_bool word.True span = expr.Lit (lit.Bool (record { value = true; span = span }))
lit_bool _ span = expr.Lit (lit.Bool (record { value = false; span = span }))

-- `true` or `false`
unfoldable pub expr_bool : Parser Expr
expr_bool = do
  span ← here
  value ← test next_word
  skip >> pure (lit_bool value span)

unfoldable pub literal : Parser Expr
literal = (λ token. expr.Lit (lit_of token)) <$> take_as literal_of

module _ (readers : Readers) where
  -- ---- closures

  -- a type that is kept as tokens alone
  unfoldable pub pass_type : Bool → Parser (Unit {0})
  pass_type allow_plus = (λ ty. tt) <$> readers.ty allow_plus

  -- a pattern, and its type where it is told
  unfoldable pub closure_param : Parser (Unit {0})
  closure_param = do
    found ← pattern max_pattern
    typed ← eat 1 is_colon
    if typed then pass_type true else pure tt

  -- parameters to the second `|`
  abbrev pub closure_params : Parser (Unit {0})
  closure_params = (λ params. tt) <$> until bar closure_param

  -- the level of the body, behind its type where it is told: a block then
  unfoldable pub closure_body : Parser ℕ
  closure_body = do
    typed ← eat 2 is_arrow
    if typed then pass_type false >> expect 0 (is_group delimiter.Brace) >> pure constant_level else pure any_level

  -- `move |a, b: u8| body`, or with a type `|a| -> u8 { body }`
  unfoldable pub closure : Parser Expr
  closure = do
    before ← state
    start ← here
    moved ← eat 1 (peek word.Move)
    opened ← expect 1 is_bar
    params ← closure_params
    level ← closure_body
    kept ← read_since before.rest
    body ← readers.expr level
    span ← upto start
    pure (make.expr_closure kept body span)

  -- ---- atoms

  -- what stands in `(..)`: a tuple where a comma stands, or nothing at all
  unfoldable pub expr_group : Span → Parser Expr
  expr_group span = do
    done ← at_end
    if done then pure (expr.Tuple [] span) else (do
      first ← readers.expr any_level
      more ← eat 1 is_comma
      if more then (λ elems. expr.Tuple elems span) <$> items_after (readers.expr any_level) (first ∷ [])
          else pure (expr.Paren first span))

  -- what stands in `[..]` behind the first expression: others, or how often it is repeated
  unfoldable pub expr_elements : Span → Expr → Parser Expr
  expr_elements span first = do
    repeated ← eat 1 is_semicolon
    if repeated then (λ len. expr.Repeat first len span) <$> readers.expr any_level else (do
      more ← eat 1 is_comma
      if more then (λ elems. make.expr_array elems span) <$> items_after (readers.expr any_level) (first ∷ [])
          else pure (make.expr_array (first ∷ []) span))

  -- what stands in `[..]`
  unfoldable pub expr_bracket : Span → Parser Expr
  expr_bracket span = do
    done ← at_end
    if done then pure (make.expr_array [] span) else readers.expr any_level >>= expr_elements span

  -- what stands in `{..}`: expressions with `;` behind, and a last one without
  unfoldable pub statements_from : Span → ℕ → List Expr → Parser Expr
  statements_from span zero found = do
    done ← at_end
    if done then pure (expr.Block found None span) else refuse
  statements_from span (suc turns) found = do
    done ← at_end
    if done then pure (expr.Block found None span) else (do
      statement ← readers.expr any_level
      more ← eat 1 is_semicolon
      if more then statements_from span turns (found ++ statement ∷ []) else pure (expr.Block found (Some statement) span))

  abbrev pub statements : Span → Parser Expr
  statements span = by_turns (λ turns. statements_from span turns [])

  unfoldable pub block : Parser Expr
  block = here >>= (λ span. inside delimiter.Brace (statements span))

  unfoldable pub expr_in_parentheses : Parser Expr
  expr_in_parentheses = here >>= (λ span. inside delimiter.Parenthesis (expr_group span))

  unfoldable pub expr_in_brackets : Parser Expr
  expr_in_brackets = here >>= (λ span. inside delimiter.Bracket (expr_bracket span))

  unfoldable pub expr_path : Parser Expr
  expr_path = do
    start ← here
    found ← path readers false
    span ← upto start
    pure (make.expr_path None found span)

  unfoldable pub expr_qualified : Parser Expr
  expr_qualified = do
    start ← here
    found ← qualified readers false
    span ← upto start
    pure (make.expr_path (Some found.0) found.1 span)

  -- a group without delimiters
  unfoldable pub invisible : Parser Expr
  invisible = here >>= (λ span. inside delimiter.None ((λ found. expr.Group found span) <$> readers.expr any_level))

  abbrev pub atom_by : AtomStart → Parser Expr
  atom_by atom.Literal = literal
  atom_by atom.Bool = expr_bool
  atom_by atom.Path = expr_path
  atom_by atom.Qualified = expr_qualified
  atom_by atom.Parenthesis = expr_in_parentheses
  atom_by atom.Bracket = expr_in_brackets
  atom_by atom.Brace = block
  atom_by atom.Invisible = invisible
  atom_by atom.Infer = here >>= (λ span. skip >> pure (expr.Infer span))
  atom_by atom.Nothing = refuse

  -- a literal or a block
  abbrev pub constant_by : AtomStart → Parser Expr
  constant_by atom.Literal = literal
  constant_by atom.Bool = expr_bool
  constant_by atom.Brace = block
  constant_by _ = refuse

  unfoldable pub constant : Parser Expr
  constant = test atom_start >>= constant_by

  -- ---- what stands behind an operand

  abbrev pub args : Parser (List Expr)
  args = inside delimiter.Parenthesis (list (readers.expr any_level))

  -- `.name::<T>(a, b)`
  unfoldable pub turbofish_call : Span → Expr → Ident → Parser Expr
  turbofish_call start receiver method = do
    marks ← skip_by 3
    turbofish ← angle_list (generic_argument readers)
    given ← args
    span ← upto start
    pure (expr.MethodCall receiver method turbofish given span)

  -- `.name(a, b)`
  unfoldable pub method_call : Span → Expr → Ident → Parser Expr
  method_call start receiver method = do
    given ← args
    span ← upto start
    pure (expr.MethodCall receiver method [] given span)

  unfoldable pub field : Span → Expr → Member → Parser Expr
  field start base found = do
    span ← upto start
    pure (expr.Field base found span)

  unfoldable pub named_member : Span → Expr → Ident → Parser Expr
  named_member start base name = do
    turbofish ← test is_turbofish
    called ← test (is_group delimiter.Parenthesis)
    if turbofish then turbofish_call start base name
        else if called then method_call start base name else field start base (made.Named name)

  abbrev pub member_by : Span → Expr → Bool → Parser Expr
  member_by start base true = take_as name_of >>= named_member start base
  member_by start base false = take_as index_of >>= (λ index. field start base (made.Unnamed index))

  -- what stands behind a `.`
  unfoldable pub member : Span → Expr → Parser Expr
  member start base = test (λ trees. is_there (name_of trees)) >>= member_by start base

  unfoldable pub call : Span → Expr → Parser Expr
  call start func = do
    given ← args
    span ← upto start
    pure (expr.Call func given span)

  unfoldable pub index : Span → Expr → Parser Expr
  index start base = do
    at ← inside delimiter.Bracket (readers.expr any_level)
    span ← upto start
    pure (expr.Index base at span)

  unfoldable pub question : Span → Expr → Parser Expr
  question start base = do
    mark ← skip
    span ← upto start
    pure (expr.Try base span)

  abbrev pub postfix_by : Span → Expr → PostfixStart → Parser Expr
  postfix_by start left postfix.Call = call start left
  postfix_by start left postfix.Dot = skip >> member start left
  postfix_by start left postfix.Index = index start left
  postfix_by start left postfix.Try = question start left
  postfix_by start left postfix.Nothing = refuse

  abbrev pub postfixes_by : (Expr → Parser Expr) → Span → Expr → PostfixStart → Parser Expr
  postfixes_by more start left postfix.Nothing = pure left
  postfixes_by more start left begins = postfix_by start left begins >>= more

  unfoldable pub postfixes_from : Span → ℕ → Expr → Parser Expr
  postfixes_from start zero left = do
    done ← at_end
    if done then pure left else refuse
  postfixes_from start (suc turns) left = test postfix_start >>= postfixes_by (postfixes_from start turns) start left

  abbrev pub postfixes : Span → Expr → Parser Expr
  postfixes start left = by_turns (λ turns. postfixes_from start turns left)

  -- an atom and what stands behind it
  unfoldable pub postfixed : AtomStart → Parser Expr
  postfixed begins = do
    start ← here
    left ← atom_by begins
    postfixes start left

  -- ---- operators

  unfoldable pub unary : UnOp → Parser Expr
  unary op = do
    start ← here
    mark ← skip
    operand ← readers.expr operand_level
    span ← upto start
    pure (expr.Unary op operand span)

  unfoldable pub reference : Parser Expr
  reference = do
    start ← here
    mark ← skip
    mutable ← eat 1 (peek word.Mut)
    operand ← readers.expr operand_level
    span ← upto start
    pure (expr.Reference mutable operand span)

  abbrev pub operand_by : OperandStart → Parser Expr
  operand_by begin.Neg = unary op.Neg
  operand_by begin.Not = unary op.Not
  operand_by begin.Deref = unary op.Deref
  operand_by begin.Reference = reference
  operand_by (begin.Atom begins) = postfixed begins

  unfoldable pub operand : Parser Expr
  operand = test operand_start >>= operand_by

  -- an operator and its right side, which is tighter
  unfoldable pub right_of : Span → ℕ → Expr → Infix → Parser Expr
  right_of start below left op = do
    marks ← skip_by op.width
    right ← readers.expr below
    span ← upto start
    pure (expr.Binary left op.op right span)

  abbrev pub chain_by : (Expr → Parser Expr) → Span → ℕ → Expr → Option Infix → Parser Expr
  chain_by more start below left (Some op) = right_of start below left op >>= more
  chain_by more start below left None = pure left

  -- operators one level looser, to the left
  unfoldable pub chain_from : Span → ℕ → ℕ → Expr → Parser Expr
  chain_from start below zero left = do
    done ← at_end
    if done then pure left else refuse
  chain_from start below (suc turns) left =
      test operator_of >>= (λ found. chain_by (chain_from start below turns) start below left (at_level (suc below) found))

  -- one comparison: they are not chained
  unfoldable pub compared : Span → ℕ → Expr → Parser Expr
  compared start below left = test operator_of >>= (λ found. chain_by pure start below left (at_level (suc below) found))

  abbrev pub chain_all : Span → ℕ → Expr → Parser Expr
  chain_all start below left = by_turns (λ turns. chain_from start below turns left)

  -- comparisons are the seventh level
  unfoldable pub chain : Span → ℕ → Expr → Parser Expr
  chain start below left = if below == 6 then compared start below left else chain_all start below left

  -- operators of this level and tighter ones
  unfoldable pub binary_from : Span → ℕ → Parser Expr
  binary_from start zero = operand
  binary_from start (suc below) = binary_from start below >>= chain start below

  unfoldable pub binary : ℕ → Parser Expr
  binary level = here >>= (λ start. binary_from start level)

  -- ---- ranges

  -- `..` and `..=`
  abbrev pub dots : Parser Bool
  dots = do
    closed ← test is_closed_dots
    skip_by (if closed then 3 else 2) >> pure closed

  -- The end of a range. A closed one has an end; another has one where an operand begins.
  unfoldable pub range_from : Span → Option Expr → Parser Expr
  range_from start left = do
    closed ← dots
    bounded ← test begins_operand
    if bounded then (do
      right ← readers.expr or_level
      span ← upto start
      pure (make.expr_range left (Some right) closed span))
        else if closed then refuse else (upto start >>= (λ span. pure (make.expr_range left None false span)))

  unfoldable pub range : Parser Expr
  range = do
    start ← here
    unbounded ← test is_dots
    if unbounded then range_from start None else (do
      left ← binary or_level
      ranged ← test is_dots
      if ranged then range_from start (Some left) else pure left)

  -- ---- all levels

  unfoldable pub any : Parser Expr
  any = do
    closed ← test begins_closure
    if closed then closure else range

  unfoldable pub expr_step : ℕ → Parser Expr
  expr_step level =
      if level == any_level then any
      else if level == range_level then range
      else if level == constant_level then constant
      else binary level
