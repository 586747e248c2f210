-- What stands behind the `=` of a nested item: the shortest run of tokens that is a value and is followed by a comma or by
-- nothing; or a bad value, the tokens up to the next comma.
use Rattle.std.specs.Prelude.{ℕ, zero, suc, if◌then◌else◌, List, [], ◌∷◌, length, take, drop, Option, Some, None, option_map}
use Rattle.std.specs.Option.{option_or}
use Rattle.tok_types.specs.declared.span.Span.{Span}
use Rattle.tok_types.specs.declared.tree.TokenTree.{TokenTree}
use Rattle.node_expr.specs.declared.expr.Expr.{Expr}
use Rattle.node_expr.specs.declared.expr.Expr.TheVariants as expr
use Rattle.node_expr.specs.declared.lit.Lit.{Lit}
use Rattle.syn_grammar.specs.Input.{Parser, ◌>>=◌, ◌>>◌, pure, test, skip_by}
use Rattle.syn_grammar.specs.Literals.{lit_of}
use Rattle.syn_grammar.specs.Token.{is_comma, literal_of, span_of}
use Rattle.law_prefix.specs.SameLookahead.{stops}
use Rattle.tok_types.specs.Stream.{stream_of}
use Rattle.syn_items.specs.Attributes.{number_in, expr_in}
use Rattle.meta_nested.specs.declared.value.Value.{Value}
use Rattle.meta_nested.specs.declared.value.Value.TheVariants as kind

abbrev pub either_value : Option Lit → Option Expr → Option Expr
either_value (Some number) found = Some (expr.Lit number)
either_value None found = found

-- the value that all of the tokens are: a number with its sign, or an expression
abbrev pub value_in : List TokenTree → Option Expr
value_in trees = either_value (number_in trees) (expr_in trees)

-- the literal that comes next
abbrev pub next_literal : List TokenTree → Option Lit
next_literal trees = option_map lit_of (literal_of trees)

-- what so many tokens of the front are, if a comma or nothing follows them
abbrev pub run_of : {A : Type 0} → (List TokenTree → Option A) → List TokenTree → ℕ → Option A
run_of reader trees count = if stops (drop count trees) then reader (take count trees) else None

-- what the least number up to this one has, of those that have something; and that number
abbrev pub least : {A : Type 0} → (ℕ → Option A) → ℕ → Option (A × ℕ)
least of zero = option_map (λ found. (found, 0)) (of 0)
least of (suc number) = option_or (least of number) (option_map (λ found. (found, suc number)) (of (suc number)))

-- the value of the shortest run that is one, and how many tokens it has
abbrev pub shortest_run : List TokenTree → Option (Expr × ℕ)
shortest_run trees = least (run_of value_in trees) (length trees)

abbrev pub before_comma : List TokenTree → List TokenTree
before_comma [] = []
before_comma (tree ∷ trees) = if is_comma (tree ∷ trees) then [] else tree ∷ before_comma trees

-- where a bad value stands: at its first token, or at the `=` where it has none
abbrev pub bad_place : Span → List TokenTree → Span
bad_place eq_span [] = eq_span
bad_place eq_span (tree ∷ trees) = span_of tree

unfoldable pub bad_value : Span → Parser Value
bad_value eq_span = do
  trees ← test before_comma
  skip_by (length trees)
  pure (kind.Bad (stream_of trees) (bad_place eq_span trees))

abbrev pub value_by : Span → Option (Expr × ℕ) → Parser Value
value_by eq_span (Some run) = skip_by run.1 >>= (λ done. pure (kind.Expr run.0))
value_by eq_span None = bad_value eq_span

unfoldable pub value : Span → Parser Value
value eq_span = test shortest_run >>= value_by eq_span
