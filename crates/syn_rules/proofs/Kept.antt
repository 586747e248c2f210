-- What is too deep stays too deep: a loop may refuse as soon as what it has read is.
use Rattle.std.proofs.Common.{◌≡◌, ℕ, zero, suc, ◌+◌, ◌-◌, ◌<◌, ◌≤◌, Bool, true, false, if◌then◌else◌, ◌==◌, List, ◌∷◌, length, Option, Some, None, Err, refl, ap, ◌∙◌, arith, [], zero-add, IfSome}
use Rattle.std.proofs.Math.Nat.{suc-add}
use Rattle.std.proofs.lemmas.Grind.{common_steps}
use Rattle.tok_types.specs.Span.{joined}
use Rattle.tok_types.specs.declared.ident.Ident.{Ident}
use Rattle.tok_types.specs.declared.span.Span.{Span}
use Rattle.tok_types.specs.declared.tree.Delimiter.TheVariants as delimiter
use Rattle.tok_types.specs.declared.tree.TokenTree.{TokenTree}
use Rattle.node_expr.specs.declared.expr.Expr.{Expr}
use Rattle.node_expr.specs.declared.expr.Expr.TheVariants as expr
use Rattle.node_expr.specs.declared.expr.Member.{Member}
use Rattle.node_expr.specs.declared.expr.Member.TheVariants as made
use Rattle.syn_grammar.specs.Depth.{expr_depth, optional}
use Rattle.syn_grammar.proofs.Depths.{expr_depth-Binary, expr_depth-Call, expr_depth-MethodCall, expr_depth-Field, expr_depth-Index, expr_depth-Try, expr_depth-Range}
use Rattle.syn_grammar.specs.declared.fail.ReadFail.{ReadFail}
use Rattle.syn_grammar.specs.declared.fail.ReadFail.TheVariants.{Syntax, NoMemory}
use Rattle.syn_grammar.specs.declared.look.Infix.{Infix}
use Rattle.syn_grammar.specs.declared.look.PostfixStart.{PostfixStart}
use Rattle.syn_grammar.specs.declared.look.PostfixStart.TheVariants as postfix
use Rattle.syn_grammar.specs.Grammar.{kept}
use Rattle.syn_grammar.specs.Input.{Input, Outcome, Parser, and_then, ◌>>=◌, ◌>>◌, pure, refuse, test, here, first_span, upto, skip, skipped, next, skip_by, take_as, at_end, is_end, inside, by_turns}
use Rattle.syn_grammar.specs.Literals.{index_of}
use Rattle.syn_grammar.specs.Look.{at_level, operator_of, postfix_start, is_there, begins_operand}
use Rattle.syn_grammar.specs.Paths.{list, angle_list, generic_argument}
use Rattle.syn_grammar.specs.Reads.{Reads, ReadsKept}
use Rattle.syn_grammar.specs.Make as make
use Rattle.syn_grammar.specs.Readers.{Readers, any_level, or_level}
use Rattle.syn_grammar.specs.Token.{is_group, is_turbofish, is_dots, is_closed_dots}
use Rattle.syn_grammar.specs.Words.{name_of}
use Rattle.syn_grammar.specs.Expressions.{args, turbofish_call, method_call, field, named_member, member_by, member, call, index, question, postfix_by, postfixes_by, postfixes_from, right_of, chain_by, chain_from, compared, chain_all, chain, operand, binary_from, binary, range_from, range}
use Rattle.syn_grammar.proofs.Turns.{turn_left}
use Rattle.syn_rules.specs.Postfixes.{goes_on}

-- ---- outcomes that are too deep

-- whatever was read is deeper than the limit
pub record TooDeep (limit : ℕ) (outcome : Outcome Expr) : Type 0 where
  pub deep : IfSome outcome (λ found. limit < expr_depth found.0)

module _ (limit : ℕ) where
  TooDeep-None : TooDeep limit None
  TooDeep-None = record { deep = tt }

  TooDeep-Some : (found : Expr) (rest : Input) → limit < expr_depth found → TooDeep limit (Some (found, rest))
  TooDeep-Some found rest h = record { deep = h }

  pub kept-TooDeep : (outcome : Outcome Expr) → TooDeep limit outcome → kept expr_depth limit outcome ≡ None
  kept-TooDeep None h = refl
  kept-TooDeep (Some found) h = let deep : limit < expr_depth found.0 = h.deep in grind (arith, common_steps)

  pub TooDeep-kept : (outcome : Outcome Expr) → kept expr_depth limit outcome ≡ None → TooDeep limit outcome
  TooDeep-kept None h = TooDeep-None
  TooDeep-kept (Some found) h = TooDeep-Some found.0 found.1 (grind (arith, common_steps))

  -- what goes on from a part that is too deep
  pub TooDeep-and_then : (outcome : Outcome Expr) (more : Expr → Parser Expr) → TooDeep limit outcome
      → ((found : Expr) (rest : Input) → limit < expr_depth found → TooDeep limit (more found rest)) → TooDeep limit (and_then outcome more)
  TooDeep-and_then None more h goes = TooDeep-None
  TooDeep-and_then (Some found) more h goes = goes found.0 found.1 h.deep

  -- what is too deep, whatever its other part is
  TooDeep-after : {A : Type 0} (outcome : Outcome A) (more : A → Parser Expr) → ((found : A) (rest : Input) → TooDeep limit (more found rest)) → TooDeep limit (and_then outcome more)
  TooDeep-after None more goes = TooDeep-None
  TooDeep-after (Some found) more goes = goes found.0 found.1

  TooDeep-if : (b : Bool) (p q : Parser Expr) (input : Input) → TooDeep limit (p input) → TooDeep limit (q input) → TooDeep limit ((if b then p else q) input)
  TooDeep-if true p q input h g = h
  TooDeep-if false p q input h g = g

module _ (readers : Readers) (limit : ℕ) where
  -- ---- operators

  right_of-deep : (start : Span) (below : ℕ) (left : Expr) (op : Infix) (input : Input) → limit < expr_depth left → TooDeep limit (right_of readers start below left op input)
  unfolding right_of
  right_of-deep start below left op input h =
      TooDeep-after limit (readers.expr below (skipped op.width input)) (λ right. upto start >>= (λ span. pure (expr.Binary left op.op right span))) (λ right rest.
      TooDeep-Some limit (expr.Binary left op.op right (joined start rest.last)) rest (omega (arith, expr_depth-Binary left op.op right (joined start rest.last))))

  chain_by-deep : (more : Expr → Parser Expr) (start : Span) (below : ℕ) (left : Expr) (found : Option Infix) (input : Input) → limit < expr_depth left
      → ((longer : Expr) (rest : Input) → limit < expr_depth longer → TooDeep limit (more longer rest)) → TooDeep limit (chain_by readers more start below left found input)
  chain_by-deep more start below left None input h goes = TooDeep-Some limit left input h
  chain_by-deep more start below left (Some op) input h goes = TooDeep-and_then limit (right_of readers start below left op input) more (right_of-deep start below left op input h) goes

  pub chain_from-deep : (start : Span) (below turns : ℕ) (left : Expr) (input : Input) → limit < expr_depth left → TooDeep limit (chain_from readers start below turns left input)
  unfolding chain_from
  chain_from-deep start below zero left input h = TooDeep-if limit (is_end input.rest) (pure left) refuse input (TooDeep-Some limit left input h) (TooDeep-None limit)
  chain_from-deep start below (suc turns) left input h =
      chain_by-deep (chain_from readers start below turns) start below left (at_level (suc below) (operator_of input.rest)) input h (λ longer rest deep. chain_from-deep start below turns longer rest deep)

  pub chain-deep : (start : Span) (below : ℕ) (left : Expr) (input : Input) → limit < expr_depth left → TooDeep limit (chain readers start below left input)
  unfolding chain compared
  chain-deep start below left input h =
      TooDeep-if limit (below == 6) (compared readers start below left) (chain_all readers start below left) input
      (chain_by-deep pure start below left (at_level (suc below) (operator_of input.rest)) input h (λ longer rest deep. TooDeep-Some limit longer rest deep))
      (chain_from-deep start below (length input.rest) left input h)

  -- ---- what stands behind an operand

  turbofish_call-deep : (start : Span) (receiver : Expr) (method : Ident) (input : Input) → limit < expr_depth receiver → TooDeep limit (turbofish_call readers start receiver method input)
  unfolding turbofish_call
  turbofish_call-deep start receiver method input h =
      TooDeep-after limit (angle_list (generic_argument readers) (skipped 3 input)) (λ turbofish. args readers >>= (λ given. upto start >>= (λ span. pure (expr.MethodCall receiver method turbofish given span)))) (λ turbofish rest.
      TooDeep-after limit (args readers rest) (λ given. upto start >>= (λ span. pure (expr.MethodCall receiver method turbofish given span))) (λ given rest.
      TooDeep-Some limit (expr.MethodCall receiver method turbofish given (joined start rest.last)) rest (omega (arith, expr_depth-MethodCall receiver method turbofish given (joined start rest.last)))))

  method_call-deep : (start : Span) (receiver : Expr) (method : Ident) (input : Input) → limit < expr_depth receiver → TooDeep limit (method_call readers start receiver method input)
  unfolding method_call
  method_call-deep start receiver method input h =
      TooDeep-after limit (args readers input) (λ given. upto start >>= (λ span. pure (expr.MethodCall receiver method [] given span))) (λ given rest.
      TooDeep-Some limit (expr.MethodCall receiver method [] given (joined start rest.last)) rest (omega (arith, expr_depth-MethodCall receiver method [] given (joined start rest.last))))

  field-deep : (start : Span) (base : Expr) (found : Member) (input : Input) → limit < expr_depth base → TooDeep limit (field readers start base found input)
  unfolding field
  field-deep start base found input h = TooDeep-Some limit (expr.Field base found (joined start input.last)) input (omega (arith, expr_depth-Field base found (joined start input.last)))

  named_member-deep : (start : Span) (base : Expr) (name : Ident) (input : Input) → limit < expr_depth base → TooDeep limit (named_member readers start base name input)
  unfolding named_member
  named_member-deep start base name input h =
      TooDeep-if limit (is_turbofish input.rest) (turbofish_call readers start base name)
      (if is_group delimiter.Parenthesis input.rest then method_call readers start base name else field readers start base (made.Named name)) input
      (turbofish_call-deep start base name input h)
      (TooDeep-if limit (is_group delimiter.Parenthesis input.rest) (method_call readers start base name) (field readers start base (made.Named name)) input
      (method_call-deep start base name input h) (field-deep start base (made.Named name) input h))

  member_by-deep : (start : Span) (base : Expr) (named : Bool) (input : Input) → limit < expr_depth base → TooDeep limit (member_by readers start base named input)
  member_by-deep start base true input h =
      TooDeep-after limit (take_as name_of input) (named_member readers start base) (λ name rest. named_member-deep start base name rest h)
  member_by-deep start base false input h =
      TooDeep-after limit (take_as index_of input) (λ index. field readers start base (made.Unnamed index)) (λ index rest. field-deep start base (made.Unnamed index) rest h)

  postfix_by-deep : (start : Span) (left : Expr) (begins : PostfixStart) (input : Input) → limit < expr_depth left → TooDeep limit (postfix_by readers start left begins input)
  unfolding call member index question
  postfix_by-deep start left postfix.Call input h =
      TooDeep-after limit (args readers input) (λ given. upto start >>= (λ span. pure (expr.Call left given span))) (λ given rest.
      TooDeep-Some limit (expr.Call left given (joined start rest.last)) rest (omega (arith, expr_depth-Call left given (joined start rest.last))))
  postfix_by-deep start left postfix.Dot input h = member_by-deep start left (is_there (name_of (next input).rest)) (next input) h
  postfix_by-deep start left postfix.Index input h =
      TooDeep-after limit (inside delimiter.Bracket (readers.expr any_level) input) (λ at. upto start >>= (λ span. pure (expr.Index left at span))) (λ at rest.
      TooDeep-Some limit (expr.Index left at (joined start rest.last)) rest (omega (arith, expr_depth-Index left at (joined start rest.last))))
  postfix_by-deep start left postfix.Try input h =
      TooDeep-Some limit (expr.Try left (joined start (next input).last)) (next input) (omega (arith, expr_depth-Try left (joined start (next input).last)))
  postfix_by-deep start left postfix.Nothing input h = TooDeep-None limit

  postfixes_by-deep : (more : Expr → Parser Expr) (start : Span) (left : Expr) (begins : PostfixStart) (input : Input) → limit < expr_depth left
      → ((longer : Expr) (rest : Input) → limit < expr_depth longer → TooDeep limit (more longer rest)) → TooDeep limit (postfixes_by readers more start left begins input)
  postfixes_by-deep more start left postfix.Nothing input h goes = TooDeep-Some limit left input h
  postfixes_by-deep more start left postfix.Call input h goes = TooDeep-and_then limit (postfix_by readers start left postfix.Call input) more (postfix_by-deep start left postfix.Call input h) goes
  postfixes_by-deep more start left postfix.Dot input h goes = TooDeep-and_then limit (postfix_by readers start left postfix.Dot input) more (postfix_by-deep start left postfix.Dot input h) goes
  postfixes_by-deep more start left postfix.Index input h goes = TooDeep-and_then limit (postfix_by readers start left postfix.Index input) more (postfix_by-deep start left postfix.Index input h) goes
  postfixes_by-deep more start left postfix.Try input h goes = TooDeep-and_then limit (postfix_by readers start left postfix.Try input) more (postfix_by-deep start left postfix.Try input h) goes

  pub postfixes_from-deep : (start : Span) (turns : ℕ) (left : Expr) (input : Input) → limit < expr_depth left → TooDeep limit (postfixes_from readers start turns left input)
  unfolding postfixes_from
  postfixes_from-deep start zero left input h = TooDeep-if limit (is_end input.rest) (pure left) refuse input (TooDeep-Some limit left input h) (TooDeep-None limit)
  postfixes_from-deep start (suc turns) left input h =
      postfixes_by-deep (postfixes_from readers start turns) start left (postfix_start input.rest) input h (λ longer rest deep. postfixes_from-deep start turns longer rest deep)

  -- ---- levels

  level-deep : (start : Span) (below : ℕ) (input : Input) → TooDeep limit (binary_from readers start below input) → TooDeep limit (binary_from readers start (suc below) input)
  unfolding binary_from
  level-deep start below input h = TooDeep-and_then limit (binary_from readers start below input) (chain readers start below) h (λ left rest deep. chain-deep start below left rest deep)

  levels-deep : (start : Span) (more below : ℕ) (input : Input) → TooDeep limit (binary_from readers start below input) → TooDeep limit (binary_from readers start (more + below) input)
  levels-deep start zero below input h = rw zero-add h
  levels-deep start (suc more) below input h = rw suc-add (level-deep start (more + below) input (levels-deep start more below input h))

  -- ---- a level without an operator

  end-without : (input : Input) (left : Expr) (trees : List TokenTree) → 0 ≡ length trees → (if is_end trees then pure left else refuse) input ≡ Some (left, input)
  end-without input left [] none = refl
  end-without input left (tree ∷ trees) none = absurd (cc)

  chain_from-without : (start : Span) (below turns : ℕ) (left : Expr) (input : Input) → turns ≡ length input.rest
      → at_level (suc below) (operator_of input.rest) ≡ None → chain_from readers start below turns left input ≡ Some (left, input)
  unfolding chain_from
  chain_from-without start below zero left input whole none = end-without input left input.rest whole
  chain_from-without start below (suc turns) left input whole none = rw none refl

  if-without : (b : Bool) (p q : Parser Expr) (input : Input) {outcome : Outcome Expr} → p input ≡ outcome → q input ≡ outcome → (if b then p else q) input ≡ outcome
  if-without true p q input one other = one
  if-without false p q input one other = other

  -- where no operator of the level comes next, the level is what stands before it
  pub chain-without : (start : Span) (below : ℕ) (left : Expr) (input : Input) → at_level (suc below) (operator_of input.rest) ≡ None → chain readers start below left input ≡ Some (left, input)
  unfolding chain compared
  chain-without start below left input none =
      if-without (below == 6) (compared readers start below left) (chain_all readers start below left) input (rw none refl)
      (chain_from-without start below (length input.rest) left input refl none)

  -- ---- the loops stop as soon as what they have is too deep

  pub compared-stops : (start : Span) (below : ℕ) (left longer : Expr) (op : Infix) (input rest : Input) → Some op ≡ at_level (suc below) (operator_of input.rest)
      → right_of readers start below left op input ≡ Some (longer, rest) → limit < expr_depth longer → kept expr_depth limit (compared readers start below left input) ≡ None
  unfolding compared
  compared-stops start below left longer op input rest found read deep = rw (← found, read) (kept-TooDeep limit (Some (longer, rest)) (TooDeep-Some limit longer rest deep))

  -- a turn of a chain
  pub chain_from-turn : (start : Span) (below turns turn : ℕ) (left : Expr) (op : Infix) (input : Input) {whole : Outcome Expr} → turn < turns
      → whole ≡ chain_from readers start below (turns - turn) left input → Some op ≡ at_level (suc below) (operator_of input.rest)
      → whole ≡ and_then (right_of readers start below left op input) (chain_from readers start below (turns - (turn + 1)))
  unfolding chain_from
  chain_from-turn start below turns turn left op input more is found =
      let next = turn_left (λ turns. chain_from readers start below turns left input) turns turn more is in
      rw (next, ← found)

  pub chain_from-stops : (start : Span) (below turns : ℕ) (longer : Expr) (outcome : Outcome Expr) (rest : Input) → outcome ≡ Some (longer, rest) → limit < expr_depth longer
      → kept expr_depth limit (and_then outcome (chain_from readers start below turns)) ≡ None
  chain_from-stops start below turns longer outcome rest read deep = rw read (kept-TooDeep limit (chain_from readers start below turns longer rest) (chain_from-deep start below turns longer rest deep))

  postfixes_by-goes : (more : Expr → Parser Expr) (start : Span) (left : Expr) (begins : PostfixStart) (input : Input) → goes_on begins ≡ true
      → postfixes_by readers more start left begins input ≡ and_then (postfix_by readers start left begins input) more
  postfixes_by-goes more start left postfix.Call input goes = refl
  postfixes_by-goes more start left postfix.Dot input goes = refl
  postfixes_by-goes more start left postfix.Index input goes = refl
  postfixes_by-goes more start left postfix.Try input goes = refl
  postfixes_by-goes more start left postfix.Nothing input goes = absurd (cc)

  -- a turn of what stands behind an operand
  pub postfixes_from-turn : (start : Span) (turns turn : ℕ) (left : Expr) (begins : PostfixStart) (input : Input) {whole : Outcome Expr} → turn < turns
      → whole ≡ postfixes_from readers start (turns - turn) left input → begins ≡ postfix_start input.rest → goes_on begins ≡ true
      → whole ≡ and_then (postfix_by readers start left begins input) (postfixes_from readers start (turns - (turn + 1)))
  unfolding postfixes_from
  postfixes_from-turn start turns turn left begins input more is at goes =
      let next = turn_left (λ turns. postfixes_from readers start turns left input) turns turn more is in
      rw (next, ← at) (postfixes_by-goes (postfixes_from readers start (turns - (turn + 1))) start left begins input goes)

  pub postfixes_from-stops : (start : Span) (turns : ℕ) (longer : Expr) (outcome : Outcome Expr) (rest : Input) → outcome ≡ Some (longer, rest) → limit < expr_depth longer
      → kept expr_depth limit (and_then outcome (postfixes_from readers start turns)) ≡ None
  postfixes_from-stops start turns longer outcome rest read deep = rw read (kept-TooDeep limit (postfixes_from readers start turns longer rest) (postfixes_from-deep start turns longer rest deep))

  level-read : (start : Span) (below : ℕ) (left longer : Expr) (input rest new : Input) → binary_from readers start below input ≡ Some (left, rest)
      → chain readers start below left rest ≡ Some (longer, new) → binary_from readers start (suc below) input ≡ Some (longer, new)
  unfolding binary_from
  level-read start below left longer input rest new is read = rw is read

  -- a level that is read
  pub level-taken : (start : Span) (below : ℕ) (left longer : Expr) (input rest new : Input) → binary_from readers start below input ≡ Some (left, rest)
      → chain readers start below left rest ≡ Some (longer, new) → binary_from readers start (below + 1) input ≡ Some (longer, new)
  level-taken start below left longer input rest new is read =
      let next : below + 1 ≡ suc below = omega arith in
      ap (λ level. binary_from readers start level input) next ∙ level-read start below left longer input rest new is read

  -- a level of which no operator comes next
  pub level-without : (start : Span) (below : ℕ) (left : Expr) (input rest : Input) → binary_from readers start below input ≡ Some (left, rest)
      → at_level (suc below) (operator_of rest.rest) ≡ None → binary_from readers start (below + 1) input ≡ Some (left, rest)
  level-without start below left input rest is none = level-taken start below left left input rest rest is (chain-without start below left rest none)

  -- ---- a level that is refused

  binary_from-kept : (start : Span) (below level : ℕ) (input : Input) → below ≤ level → kept expr_depth limit (binary_from readers start below input) ≡ None → kept expr_depth limit (binary_from readers start level input) ≡ None
  binary_from-kept start below level input loose refused =
      let more : level ≡ (level - below) + below = omega arith in
      rw more (kept-TooDeep limit (binary_from readers start ((level - below) + below) input) (levels-deep start (level - below) below input (TooDeep-kept limit (binary_from readers start below input) refused)))

  pub operand-refused : (start : Span) (level : ℕ) (input new after : Input) (fail : ReadFail) → ReadsKept expr_depth limit (operand readers input) (Err fail) new → ReadsKept expr_depth limit (binary_from readers start level input) (Err fail) after
  unfolding binary_from
  operand-refused start level input new after NoMemory h = tt
  operand-refused start level input new after Syntax h = binary_from-kept start 0 level input (omega arith) h

  pub level-refused : (start : Span) (below level : ℕ) (left : Expr) (input rest new after : Input) (fail : ReadFail) → below < level → binary_from readers start below input ≡ Some (left, rest)
      → ReadsKept expr_depth limit (chain readers start below left rest) (Err fail) new → ReadsKept expr_depth limit (binary_from readers start level input) (Err fail) after
  unfolding binary_from
  level-refused start below level left input rest new after NoMemory loose is h = tt
  level-refused start below level left input rest new after Syntax loose is h =
      let one : kept expr_depth limit (binary_from readers start (suc below) input) ≡ None = rw is h in
      binary_from-kept start (suc below) level input (omega arith) one

  -- ---- ranges

  range_from-deep : (start : Span) (left : Expr) (input : Input) → limit < expr_depth left → TooDeep limit (range_from readers start (Some left) input)
  unfolding range_from
  range_from-deep start left input h =
      let closed : Bool = is_closed_dots input.rest in
      let after : Input = skipped (if closed then 3 else 2) input in
      TooDeep-if limit (begins_operand after.rest)
      (readers.expr or_level >>= (λ right. upto start >>= (λ span. pure (make.expr_range (Some left) (Some right) closed span))))
      (if closed then refuse else (upto start >>= (λ span. pure (make.expr_range (Some left) None false span)))) after
      (TooDeep-after limit (readers.expr or_level after) (λ right. upto start >>= (λ span. pure (make.expr_range (Some left) (Some right) closed span))) (λ right rest.
      TooDeep-Some limit (make.expr_range (Some left) (Some right) closed (joined start rest.last)) rest
      (omega (arith, expr_depth-Range (record { start = Some left; end = Some right; closed = closed; span = joined start rest.last })))))
      (TooDeep-if limit closed refuse (upto start >>= (λ span. pure (make.expr_range (Some left) None false span))) after (TooDeep-None limit)
      (TooDeep-Some limit (make.expr_range (Some left) None false (joined start after.last)) after
      (omega (arith, expr_depth-Range (record { start = Some left; end = None; closed = false; span = joined start after.last })))))

  pub range-refused : (input new after : Input) (fail : ReadFail) → is_dots input.rest ≡ false → ReadsKept expr_depth limit (binary readers or_level input) (Err fail) new
      → ReadsKept expr_depth limit (range readers input) (Err fail) after
  unfolding range
  range-refused input new after NoMemory plain h = tt
  range-refused input new after Syntax plain h = rw plain (kept-TooDeep limit _
      (TooDeep-and_then limit (binary readers or_level input) (λ left. test is_dots >>= (λ ranged. if ranged then range_from readers (first_span input.rest) (Some left) else pure left))
      (TooDeep-kept limit (binary readers or_level input) h) (λ left rest deep.
      TooDeep-if limit (is_dots rest.rest) (range_from readers (first_span input.rest) (Some left)) (pure left) rest
      (range_from-deep (first_span input.rest) left rest deep) (TooDeep-Some limit left rest deep))))
