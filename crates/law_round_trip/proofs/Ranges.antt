-- The law of printing for ranges, and for expressions of every level.
use Rattle.std.proofs.Common.{◌≡◌, ℕ, Bool, true, false, ◌==◌, if◌then◌else◌, List, [], ◌∷◌, ◌++◌, length, Option, Some, None, option_map, refl, arith, sym, subst, append_assoc, append-nil, codes}
use Rattle.std.proofs.lemmas.Bool.{eqb-true}
use Rattle.tok_types.specs.declared.span.Span.{Span}
use Rattle.tok_types.specs.declared.tree.Delimiter.TheVariants as delimiter
use Rattle.node_expr.specs.declared.expr.Expr.{Expr}
use Rattle.syn_grammar.specs.declared.look.AtomStart.{AtomStart}
use Rattle.syn_grammar.specs.Expressions.{any, binary, closure, constant, expr_step, postfixed, range, range_from}
use Rattle.syn_grammar.specs.Input.{Parser, ◌>>=◌, pure, refuse, test, upto}
use Rattle.syn_grammar.specs.Look.{begins_closure, begins_operand, postfix_start}
use Rattle.syn_grammar.specs.Make as make
use Rattle.syn_grammar.specs.Readers.{Readers, any_level, constant_level, operand_level, or_level, range_level}
use Rattle.syn_grammar.specs.Token.{is_closed_dots, is_colons, is_dots, is_group, is_pair, is_turbofish}
use Rattle.print_core.specs.Marks.{Trees, mark, optional}
use Rattle.print_core.specs.Nodes.{expr_tokens}
use Rattle.law_spans.specs.Erased.{erased_expr}
use Rattle.law_spans.proofs.Made.{bare_expr-Range}
use Rattle.law_prefix.specs.SameLookahead.{Relation, Any}
use Rattle.law_round_trip.specs.Follow.{AfterExpr, BeginsAtom, BeginsClosure, BeginsExpr, Looser, goes_on, operates}
use Rattle.law_round_trip.specs.Parts.{AllRoundTrip}
use Rattle.law_round_trip.specs.Printed.{RoundTrips}
use Rattle.law_round_trip.proofs.Chains.{binary-back}
use Rattle.law_round_trip.proofs.Follows.{keep-false, never}
use Rattle.law_round_trip.proofs.Infix.{looser-tighter, operator_of-mark, pair-apart}
use Rattle.law_round_trip.proofs.Marks.{after_one-mark, is_group-mark, is_joint-mark, mark-length, mark_of-mark}
use Rattle.law_round_trip.proofs.Prints.{print-range}
use Rattle.law_round_trip.proofs.Starts.{dots-seen, operand-seen, range-seen}
use Rattle.law_round_trip.proofs.Steps.{Free, Rest, close-rest, here-rest, hole, pure-rest, refuse-rest, shown-rest, test-rest, then-rest, weak-printed, whole}
use Rattle.law_round_trip.proofs.Takes.{skip_by-rest}

-- the dots of a range
abbrev dots_tokens : Bool → Span → Trees
dots_tokens closed span = mark (if closed then codes "..=" else codes "..") span

abbrev dots_width : Bool → ℕ
dots_width closed = if closed then 3 else 2

dots-length : (closed : Bool) (span : Span) → length (dots_tokens closed span) ≡ dots_width closed
dots-length true span = mark-length (codes "..=") span
dots-length false span = mark-length (codes "..") span

is_dots-mark : (more : List ℕ) (span : Span) (tail : Trees) → is_dots (mark (46 ∷ 46 ∷ more) span ++ tail) ≡ true
unfolding is_pair
is_dots-mark more span tail = rw (is_joint-mark 46 (46 ∷ more) span tail, mark_of-mark 46 (46 ∷ more) span tail, after_one-mark 46 (46 ∷ more) span tail, mark_of-mark 46 more span tail) refl

is_dots-dots : (closed : Bool) (span : Span) (tail : Trees) → is_dots (dots_tokens closed span ++ tail) ≡ true
is_dots-dots true span tail = is_dots-mark (61 ∷ []) span tail
is_dots-dots false span tail = is_dots-mark [] span tail

is_closed_dots-dots : (closed : Bool) (span : Span) (tail : Trees) → is_closed_dots (dots_tokens closed span ++ tail) ≡ closed
unfolding is_pair
is_closed_dots-dots true span tail = rw (is_dots-mark (61 ∷ []) span tail, after_one-mark 46 (46 ∷ 61 ∷ []) span tail, is_joint-mark 46 (61 ∷ []) span tail, mark_of-mark 46 (61 ∷ []) span tail, after_one-mark 46 (61 ∷ []) span tail, mark_of-mark 61 [] span tail) refl
is_closed_dots-dots false span tail = rw (is_dots-mark [] span tail, after_one-mark 46 (46 ∷ []) span tail, is_joint-mark 46 [] span tail) refl

-- dots come, which no operand goes on with
abbrev Dotted : Relation
Dotted rest tail = (is_dots tail ≡ true) × Looser or_level rest tail

looser-dots : (more : List ℕ) (span : Span) (rest tail : Trees) → Looser or_level rest (mark (46 ∷ 46 ∷ more) span ++ tail)
unfolding postfix_start
looser-dots more span rest tail = record {
  colons = never is_colons rest _ (pair-apart 46 (46 ∷ more) span tail 58 58 refl);
  turbofish = never is_turbofish rest _ (rw (pair-apart 46 (46 ∷ more) span tail 58 58 refl) refl);
  called = never (is_group delimiter.Parenthesis) rest _ (is_group-mark 46 (46 ∷ more) span tail delimiter.Parenthesis);
  postfix = never (λ trees. goes_on (postfix_start trees)) rest _ (rw (is_group-mark 46 (46 ∷ more) span tail delimiter.Parenthesis, is_group-mark 46 (46 ∷ more) span tail delimiter.Bracket, is_dots-mark more span tail, mark_of-mark 46 (46 ∷ more) span tail) refl);
  operator = λ tighter within. never (operates tighter) rest _ (rw (operator_of-mark 46 (46 ∷ more) span tail) refl);
  dots = λ within. absurd (omega (arith, within));
  operand = λ within. absurd (omega (arith, within));
}

dotted : (closed : Bool) (span : Span) (rest tail : Trees) → Dotted rest (dots_tokens closed span ++ tail)
dotted true span rest tail = (is_dots-mark (61 ∷ []) span tail, looser-dots (61 ∷ []) span rest tail)
dotted false span rest tail = (is_dots-mark [] span tail, looser-dots [] span rest tail)

-- the same begins a range
dots-begin : (rest tail : Trees) → is_dots rest ≡ true → is_dots tail ≡ true → BeginsExpr range_level rest tail
dots-begin rest tail source printed =
    let one = dots-seen rest source in
    let other = dots-seen tail printed in
    record { source = rw source refl; begins = rw printed refl; bodies = record { bar = rw (one.bar, other.bar) refl; arrow = rw (one.arrow, other.arrow) refl; block = rw (one.block, other.block) refl } }

operand-begin : (rest tail : Trees) → is_dots rest ≡ false → BeginsExpr operand_level rest tail → (is_dots tail ≡ false) × BeginsExpr range_level rest tail
operand-begin rest tail none f =
    let seen = (operand-seen tail f.begins).dots in
    (seen, record { source = rw (none, f.source) refl; begins = rw (seen, f.begins) refl; bodies = f.bodies })

module _ (readers : Readers) (parts : AllRoundTrip readers) where
  -- ---- the dots and the end of a range

  module _ {Q : Type 0} (Ok : Q → Type 0) (start : Span) (start' : Q → Span) (left : Option Expr) (left' : Q → Option Expr) (same : (q : Q) → Ok q → option_map erased_expr (left' q) ≡ option_map erased_expr left) where
    -- what an expression of this end prints in front
    abbrev before : Bool → Span → Trees → Trees
    before closed place tokens = optional (option_map expr_tokens left) ++ (dots_tokens closed place ++ tokens)

    abbrev EndRest : Bool → Relation → Parser Expr → (Q → Parser Expr) → Type 0
    EndRest closed Begins p p' = Rest {P = Span} {Q = Q} Ok erased_expr expr_tokens (before closed) Begins (Looser range_level) p p'

    abbrev bounded_by : Span → Option Expr → Bool → Parser Expr
    bounded_by start left closed = readers.expr or_level >>= (λ right. upto start >>= (λ span. pure (make.expr_range left (Some right) closed span)))

    abbrev open_by : Span → Option Expr → Bool → Parser Expr
    open_by start left closed = if closed then refuse else (upto start >>= (λ span. pure (make.expr_range left None false span)))

    bounded-rest : (closed : Bool) → EndRest closed (BeginsExpr or_level) (bounded_by start left closed) (λ q. bounded_by (start' q) (left' q) closed)
    bounded-rest closed = then-rest {Second = Looser range_level} (λ place. parts.expr or_level) (λ right. close-rest start (λ q. start' q.0) (make.expr_range left (Some right) closed) (λ q. make.expr_range (left' q.0) (Some q.1) closed)
        (λ span. rw (print-range, append-nil, append_assoc) refl) (λ span other q ok. rw (bare_expr-Range, bare_expr-Range, same q.0 ok.0, ok.1) refl))
        (λ rest tail f other. looser-tighter range_level or_level (omega arith) rest tail f) (λ rest tail f. f)

    open-rest : (closed : Bool) → EndRest closed (Looser range_level) (open_by start left closed) (λ q. open_by (start' q) (left' q) closed)
    open-rest true = refuse-rest
    open-rest false = close-rest start start' (make.expr_range left None false) (λ q. make.expr_range (left' q) None false)
        (λ span. rw (print-range, append_assoc) refl) (λ span other q ok. rw (bare_expr-Range, bare_expr-Range, same q ok) refl)

    -- an end comes, or nothing that could be one
    abbrev End : Bool → Relation
    End true = BeginsExpr or_level
    End false = Looser range_level

    abbrev end_by : Span → Option Expr → Bool → Bool → Parser Expr
    end_by start left closed bounded = if bounded then bounded_by start left closed else open_by start left closed

    end-rest : (closed bounded : Bool) → EndRest closed (End bounded) (end_by start left closed bounded) (λ q. end_by (start' q) (left' q) closed bounded)
    end-rest closed true = bounded-rest closed
    end-rest closed false = open-rest closed

    end-seen : (bounded : Bool) (rest tail : Trees) → begins_operand rest ≡ bounded → End bounded rest tail → (begins_operand tail ≡ bounded) × Any rest tail
    end-seen true rest tail is f = (f.begins, tt)
    end-seen false rest tail is f = (keep-false begins_operand rest tail is (f.operand (omega arith)), tt)

    range_from-rest : Rest {P = Span} {Q = Q} Ok erased_expr expr_tokens (λ place tokens. optional (option_map expr_tokens left) ++ tokens) Dotted (Looser range_level) (range_from readers start left) (λ q. range_from readers (start' q) (left' q))
    unfolding range_from
    range_from-rest = test-rest {by = λ closed rest tail. (is_closed_dots tail ≡ closed) × Dotted rest tail} is_closed_dots (λ closed.
        skip_by-rest {Second = Any} (dots_width closed) (dots_tokens closed) (dots-length closed)
        (test-rest {by = End} begins_operand (end-rest closed) end-seen)
        (λ input tail place f. (is_closed_dots-dots closed place tail, dotted closed place input.rest tail)))
        (λ closed rest tail is f. f)

  -- ---- ranges

  module _ (postfixed-back : (begins : AtomStart) → RoundTrips erased_expr expr_tokens (BeginsAtom begins) (Looser operand_level) (postfixed readers begins)) where
    abbrev RangeRest : Relation → Parser Expr → (Unit {0} × Span → Parser Expr) → Type 0
    RangeRest Begins p p' = Rest {P = Span} {Q = Unit {0} × Span} (λ q. Unit {0}) erased_expr expr_tokens hole Begins (Looser range_level) p p'

    -- dots come behind the first operand, or nothing that goes on with it
    abbrev Ranged : Bool → Relation
    Ranged true = Dotted
    Ranged false = Looser range_level

    abbrev ranged_by : Span → Expr → Bool → Parser Expr
    ranged_by start left ranged = if ranged then range_from readers start (Some left) else pure left

    ranged-rest : (start : Span) (left : Expr) (ranged : Bool) → Rest {P = Span} {Q = (Unit {0} × Span) × Expr} (λ q. Unit {0} × (erased_expr q.1 ≡ erased_expr left)) erased_expr expr_tokens (λ place tokens. expr_tokens left ++ tokens) (Ranged ranged) (Looser range_level)
        (ranged_by start left ranged) (λ q. ranged_by q.0.1 q.1 ranged)
    ranged-rest start left true = range_from-rest (λ q. Unit {0} × (erased_expr q.1 ≡ erased_expr left)) start (λ q. q.0.1) (Some left) (λ q. Some q.1) (λ q ok. rw (ok.1) refl)
    ranged-rest start left false = pure-rest start left (λ q. q.1) (rw append-nil refl) (λ q ok. ok.1)

    ranged-seen : (ranged : Bool) (rest tail : Trees) → is_dots rest ≡ ranged → Ranged ranged rest tail → (is_dots tail ≡ ranged) × Looser or_level rest tail
    ranged-seen true rest tail is f = f
    ranged-seen false rest tail is f = (keep-false is_dots rest tail is (f.dots (omega arith)), looser-tighter range_level or_level (omega arith) rest tail f)

    abbrev Unbounded : Bool → Relation
    Unbounded true = Dotted
    Unbounded false = BeginsExpr operand_level

    abbrev range_by : Span → Bool → Parser Expr
    range_by start unbounded = if unbounded then range_from readers start None else (binary readers or_level >>= (λ left. test is_dots >>= ranged_by start left))

    range_by-rest : (start : Span) (unbounded : Bool) → RangeRest (Unbounded unbounded) (range_by start unbounded) (λ q. range_by q.1 unbounded)
    range_by-rest start true = range_from-rest (λ q. Unit {0}) start (λ q. q.1) None (λ q. None) (λ q ok. refl)
    range_by-rest start false = then-rest {Second = Looser or_level} (λ place. binary-back readers parts postfixed-back or_level) (λ left. test-rest {by = Ranged} is_dots (ranged-rest start left) ranged-seen) (λ rest tail f. f) (λ rest tail f. f)

    unbounded-seen : (unbounded : Bool) (rest tail : Trees) → is_dots rest ≡ unbounded → Unbounded unbounded rest tail → (is_dots tail ≡ unbounded) × BeginsExpr range_level rest tail
    unbounded-seen true rest tail is f = (f.0, dots-begin rest tail is f.0)
    unbounded-seen false rest tail is f = operand-begin rest tail is f

    pub range-back : RoundTrips erased_expr expr_tokens (BeginsExpr range_level) (Looser range_level) (range readers)
    unfolding range
    range-back = whole (here-rest (λ start. test-rest {by = Unbounded} is_dots (range_by-rest start) unbounded-seen))

    -- ---- all levels

    module _ (closure-back : RoundTrips erased_expr expr_tokens BeginsClosure (Looser any_level) (closure readers)) where
      abbrev Closed : Bool → Relation
      Closed true = BeginsClosure
      Closed false = BeginsExpr range_level

      any_by-rest : (closed : Bool) → Rest {P = Unit {0}} {Q = Unit {0}} Free erased_expr expr_tokens hole (Closed closed) (Looser any_level) (if closed then closure readers else range readers) (λ q. if closed then closure readers else range readers)
      any_by-rest true = shown-rest tt (λ it. refl) closure-back
      any_by-rest false = shown-rest tt (λ it. refl) (weak-printed (λ rest tail f. looser-tighter any_level range_level (omega arith) rest tail f) (λ rest tail f. f) range-back)

      closed-seen : (closed : Bool) (rest tail : Trees) → begins_closure rest ≡ closed → Closed closed rest tail → (begins_closure tail ≡ closed) × BeginsExpr any_level rest tail
      closed-seen true rest tail is f = let both = f is in (both.0, record { source = rw is refl; begins = rw (both.0) refl; bodies = both.1 })
      closed-seen false rest tail is f = let none = (range-seen tail f.begins).closure in (none, record { source = rw is f.source; begins = rw none f.begins; bodies = f.bodies })

      pub any-back : RoundTrips erased_expr expr_tokens (BeginsExpr any_level) (Looser any_level) (any readers)
      unfolding any
      any-back = whole (test-rest {by = Closed} begins_closure any_by-rest closed-seen)

      module _ (constant-back : RoundTrips erased_expr expr_tokens (BeginsExpr constant_level) Any (constant readers)) where
        -- the law of a parser at this level
        abbrev Level : Parser Expr → ℕ → Type 0
        Level p level = RoundTrips erased_expr expr_tokens (BeginsExpr level) (AfterExpr level) p

        pub expr_step-back : (level : ℕ) → RoundTrips erased_expr expr_tokens (BeginsExpr level) (AfterExpr level) (expr_step readers level)
        unfolding expr_step
        expr_step-back level = by (level == any_level) (level == range_level) (level == constant_level) refl refl refl
          where
            by : (one two three : Bool) → (level == any_level) ≡ one → (level == range_level) ≡ two → (level == constant_level) ≡ three
                → Level (if one then any readers else (if two then range readers else (if three then constant readers else binary readers level))) level
            by true two three is ranged constant = subst (Level (any readers)) (sym (eqb-true level any_level is)) (weak-printed (λ rest tail f. f refl) (λ rest tail f. f) any-back)
            by false true three closed is constant = subst (Level (range readers)) (sym (eqb-true level range_level is)) (weak-printed (λ rest tail f. f refl) (λ rest tail f. f) range-back)
            by false false true closed ranged is = subst (Level (constant readers)) (sym (eqb-true level constant_level is)) (weak-printed (λ rest tail f. tt) (λ rest tail f. f) constant-back)
            by false false false closed ranged none =
                weak-printed (λ rest tail f. f none) (λ rest tail f. record { source = rw (closed, ranged, none) f.source; begins = rw (closed, ranged, none) f.begins; bodies = f.bodies }) (binary-back readers parts postfixed-back level)
