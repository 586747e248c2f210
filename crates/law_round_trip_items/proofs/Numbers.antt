-- That an expression prints as a number with a sign only where it was one.
use Rattle.std.proofs.Common.{◌≡◌, Bool, true, false, if◌then◌else◌, [], Option, Some, None, refl, ap, sym, ◌∙◌}
use Rattle.std.proofs.lemmas.Option.{some_pair_parts}
use Rattle.tok_types.specs.declared.span.Span.{Span}
use Rattle.tok_types.specs.declared.tree.Literal.{Literal}
use Rattle.node_expr.specs.Layers.{ExprLayer}
use Rattle.node_expr.specs.declared.expr.Expr.{Expr, out-Expr, roll-Expr, the_lemmas}
use Rattle.node_expr.specs.declared.expr.Expr.TheOpen.{Expr-F}
use Rattle.node_expr.specs.declared.expr.Expr.TheVariants as expr
use Rattle.node_expr.specs.declared.expr.UnOp.TheVariants as op
use Rattle.node_expr.specs.declared.lit.Lit.{Lit}
use Rattle.node_expr.specs.declared.lit.Lit.TheVariants as lit
use Rattle.syn_grammar.specs.Input.{Input, Parser, and_then, ◌>>=◌, first_span, next, skipped, start_of, taken, take_as, upto}
use Rattle.syn_grammar.specs.Literals.{lit_of}
use Rattle.syn_grammar.specs.Look.{is_there}
use Rattle.syn_grammar.specs.Token.{is_mark, literal_of}
use Rattle.syn_items.specs.Attributes.{negative, number_in, signed}
use Rattle.law_spans.specs.Erased.{erased_expr, erased_lit}
use Rattle.law_spans.proofs.Made.{bare_expr-Lit, bare_expr-Unary, bare_expr-Path, bare_expr-Array, bare_expr-Repeat, bare_expr-Tuple, bare_expr-Paren, bare_expr-Group, bare_expr-Reference, bare_expr-Binary, bare_expr-Call, bare_expr-MethodCall, bare_expr-Field, bare_expr-Index, bare_expr-Try, bare_expr-Range, bare_expr-Closure, bare_expr-Block, bare_expr-Infer, bare_expr-Verbatim}
use Rattle.law_prefix.specs.ReadsByPrefix.{at}
use Rattle.law_round_trip.proofs.Steps.{bind-at}
use Rattle.law_round_trip.proofs.Wholes.{all-parts}
use Rattle.law_round_trip_items.proofs.Others.{is_other, other_by}
use Rattle.tok_types.specs.Span.{joined}
use Rattle.syn_grammar.specs.Trees.{all}
use Rattle.print_core.specs.Marks.{Trees}

-- ---- the expressions that are numbers

abbrev pub is_number : Lit → Bool
is_number (lit.Int it) = true
is_number (lit.Float it) = true
is_number _ = false

abbrev pub number_by : ExprLayer → Bool
number_by (Expr-F.Lit it) = is_number it
number_by _ = false

-- a number
abbrev pub number : Expr → Bool
number it = number_by (out-Expr it)

abbrev pub signed_by : ExprLayer → Bool
signed_by (Expr-F.Unary op.Neg it span) = number it
signed_by _ = false

-- a minus and a number
abbrev pub signed_number : Expr → Bool
signed_number it = signed_by (out-Expr it)

lit-bare : (it : Lit) → is_number (erased_lit it) ≡ is_number it
lit-bare (lit.Int it) = refl
lit-bare (lit.Float it) = refl
lit-bare _ = refl

rolled : (it : Expr) → roll-Expr (out-Expr it) ≡ it
rolled it = search the_lemmas

other-bared : (layer : ExprLayer) → is_other (erased_expr (roll-Expr layer)) ≡ other_by layer
other-bared (Expr-F.Lit it) = rw (expr.rolls-Lit it, bare_expr-Lit it, expr.outs-Lit) refl
other-bared (Expr-F.Expr::Path it) = rw (expr.rolls-Path it, bare_expr-Path it, expr.outs-Path) refl
other-bared (Expr-F.Expr::Array it) = rw (expr.rolls-Array it, bare_expr-Array it.elems it.span, expr.outs-Array) refl
other-bared (Expr-F.Repeat elem len span) = rw (expr.rolls-Repeat elem len span, bare_expr-Repeat elem len span, expr.outs-Repeat) refl
other-bared (Expr-F.Expr::Tuple elems span) = rw (expr.rolls-Tuple elems span, bare_expr-Tuple elems span, expr.outs-Tuple) refl
other-bared (Expr-F.Expr::Paren inner span) = rw (expr.rolls-Paren inner span, bare_expr-Paren inner span, expr.outs-Paren) refl
other-bared (Expr-F.Expr::Group inner span) = rw (expr.rolls-Group inner span, bare_expr-Group inner span, expr.outs-Group) refl
other-bared (Expr-F.Unary op operand span) = rw (expr.rolls-Unary op operand span, bare_expr-Unary op operand span, expr.outs-Unary) refl
other-bared (Expr-F.Expr::Reference mutable operand span) = rw (expr.rolls-Reference mutable operand span, bare_expr-Reference mutable operand span, expr.outs-Reference) refl
other-bared (Expr-F.Binary left op right span) = rw (expr.rolls-Binary left op right span, bare_expr-Binary left op right span, expr.outs-Binary) refl
other-bared (Expr-F.Call func args span) = rw (expr.rolls-Call func args span, bare_expr-Call func args span, expr.outs-Call) refl
other-bared (Expr-F.MethodCall receiver method turbofish args span) = rw (expr.rolls-MethodCall receiver method turbofish args span, bare_expr-MethodCall receiver method turbofish args span, expr.outs-MethodCall) refl
other-bared (Expr-F.Field base member span) = rw (expr.rolls-Field base member span, bare_expr-Field base member span, expr.outs-Field) refl
other-bared (Expr-F.Index base at span) = rw (expr.rolls-Index base at span, bare_expr-Index base at span, expr.outs-Index) refl
other-bared (Expr-F.Try inner span) = rw (expr.rolls-Try inner span, bare_expr-Try inner span, expr.outs-Try) refl
other-bared (Expr-F.Range it) = rw (expr.rolls-Range it, bare_expr-Range it.start it.end it.closed it.span, expr.outs-Range) refl
other-bared (Expr-F.Closure it) = rw (expr.rolls-Closure it, bare_expr-Closure it.tokens it.body it.span, expr.outs-Closure) refl
other-bared (Expr-F.Block stmts last span) = rw (expr.rolls-Block stmts last span, bare_expr-Block stmts last span, expr.outs-Block) refl
other-bared (Expr-F.Expr::Infer span) = rw (expr.rolls-Infer span, bare_expr-Infer span, expr.outs-Infer) refl
other-bared (Expr-F.Verbatim it) = rw (expr.rolls-Verbatim it, bare_expr-Verbatim it, expr.outs-Verbatim) refl

other-bare : (it : Expr) → is_other (erased_expr it) ≡ is_other it
other-bare it = ap (λ it. is_other (erased_expr it)) (sym (rolled it)) ∙ other-bared (out-Expr it)

pub other-unsigned : (it : Expr) → is_other it ≡ true → (number it ≡ false) × (signed_number it ≡ false)
other-unsigned it h = by (out-Expr it) h
  where
    by : (layer : ExprLayer) → other_by layer ≡ true → (number_by layer ≡ false) × (signed_by layer ≡ false)
    by (Expr-F.Lit it) h = absurd cc
    by (Expr-F.Unary op it span) h = absurd cc
    by _ h = (refl, refl)

number-bared : (layer : ExprLayer) → number (erased_expr (roll-Expr layer)) ≡ number_by layer
number-bared (Expr-F.Lit it) = rw (expr.rolls-Lit it, bare_expr-Lit it, expr.outs-Lit) (lit-bare it)
number-bared (Expr-F.Unary op it span) = rw (expr.rolls-Unary op it span, bare_expr-Unary op it span, expr.outs-Unary) refl
number-bared layer = (other-unsigned (erased_expr (roll-Expr layer)) (other-bared layer)).0

number-bare : (it : Expr) → number (erased_expr it) ≡ number it
number-bare it = ap (λ it. number (erased_expr it)) (sym (rolled it)) ∙ number-bared (out-Expr it)

signed-bared : (layer : ExprLayer) → signed_number (erased_expr (roll-Expr layer)) ≡ signed_by layer
signed-bared (Expr-F.Unary op.Neg it span) = rw (expr.rolls-Unary op.Neg it span, bare_expr-Unary op.Neg it span, expr.outs-Unary) (number-bare it)
signed-bared (Expr-F.Unary op it span) = rw (expr.rolls-Unary op it span, bare_expr-Unary op it span, expr.outs-Unary) refl
signed-bared (Expr-F.Lit it) = rw (expr.rolls-Lit it, bare_expr-Lit it, expr.outs-Lit) refl
signed-bared layer = (other-unsigned (erased_expr (roll-Expr layer)) (other-bared layer)).1

pub signed-bare : (it : Expr) → signed_number (erased_expr it) ≡ signed_number it
signed-bare it = ap (λ it. signed_number (erased_expr it)) (sym (rolled it)) ∙ signed-bared (out-Expr it)

-- ---- tokens that are a number with a sign

-- a minus (45), a literal that is a number, and no more
pub record Number (trees : Trees) : Type 0 where
  pub token : Literal
  pub minus : is_mark 45 trees ≡ true
  pub literal : literal_of (next (start_of trees)).rest ≡ Some token
  pub ends : (next (next (start_of trees))).rest ≡ []
  pub number : is_number (lit_of token) ≡ true

negative-number : (span : Span) (it found : Lit) → negative span it ≡ Some found → is_number it ≡ true
negative-number span (lit.Int it) found h = refl
negative-number span (lit.Float it) found h = refl
negative-number span _ found h = absurd cc

number-negative : (span : Span) (it : Lit) (input : Input) → is_number it ≡ true → input.rest ≡ [] → is_there (all (taken (negative span it) input)) ≡ true
number-negative span (lit.Int it) input h ends = rw ends refl
number-negative span (lit.Float it) input h ends = rw ends refl
number-negative span _ input h ends = absurd cc

pub taken-parts : {A : Type 0} (found : Option A) (input after : Input) (it : A) → taken found input ≡ Some (it, after) → (found ≡ Some it) × (input ≡ after)
taken-parts None input after it e = absurd cc
taken-parts (Some one) input after it e = let both = some_pair_parts one it input after e in (ap Some both.0, both.1)

pub number-parts : (trees : Trees) (found : Lit) → number_in trees ≡ Some found → Number trees
unfolding signed skipped
number-parts trees found e = by (is_mark 45 trees) refl read.1
  where
    read : (last : Span) × (signed (start_of trees) ≡ Some (found, at [] last))
    read = all-parts (signed (start_of trees)) found e

    minus : Parser Lit
    minus = take_as literal_of >>= (λ token. upto (first_span trees) >>= (λ span. taken (negative span (lit_of token))))

    by : (b : Bool) → is_mark 45 trees ≡ b → and_then (if b then Some (tt {0}, next (start_of trees)) else None) (λ _. minus) ≡ Some (found, at [] read.0) → Number trees
    by false is e = absurd cc
    by true is e =
        let parts = bind-at (take_as literal_of (next (start_of trees))) (λ token. upto (first_span trees) >>= (λ span. taken (negative span (lit_of token)))) found (at [] read.0) e in
        let literal = taken-parts (literal_of (next (start_of trees)).rest) (next (next (start_of trees))) parts.1 parts.0 parts.2 in
        let span = joined (first_span trees) parts.1.last in
        let sign = taken-parts (negative span (lit_of parts.0)) parts.1 (at [] read.0) found parts.3 in
        record { token = parts.0; minus = is; literal = literal.0; ends = ap (λ (input : Input). input.rest) (literal.1 ∙ sign.1); number = negative-number span (lit_of parts.0) found sign.0 }

pub number-of : (trees : Trees) → Number trees → is_there (number_in trees) ≡ true
unfolding signed skipped
number-of trees it = rw (it.minus, it.literal) (number-negative (joined (first_span trees) (next (next (start_of trees))).last) (lit_of it.token) (next (next (start_of trees))) it.number it.ends)
