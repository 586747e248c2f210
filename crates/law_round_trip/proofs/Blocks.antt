-- The law of printing for blocks, and for a literal or a block alone.
use Rattle.std.proofs.Common.{◌≡◌, ℕ, zero, suc, ◌≤◌, Bool, true, false, if◌then◌else◌, List, [], ◌∷◌, ◌++◌, map, length, Some, None, refl, arith, subst, ◌∙◌, append_assoc, length-append, codes}
use Rattle.std.proofs.lemmas.Option.{some_pair_parts}
use Rattle.tok_types.specs.declared.span.Span.{Span}
use Rattle.tok_types.specs.declared.tree.Delimiter.TheVariants as delimiter
use Rattle.node_expr.specs.declared.expr.Expr.{Expr}
use Rattle.node_expr.specs.declared.expr.Expr.TheVariants as expr
use Rattle.syn_grammar.specs.declared.look.AtomStart.{AtomStart}
use Rattle.syn_grammar.specs.declared.look.AtomStart.TheVariants as atom
use Rattle.syn_grammar.specs.Expressions.{statements_from, statements, block, constant_by, constant}
use Rattle.syn_grammar.specs.Input.{Input, ◌>>=◌, pure, refuse, after_eat, eat, is_end}
use Rattle.syn_grammar.specs.Look.{atom_start}
use Rattle.syn_grammar.specs.Readers.{Readers, any_level, constant_level}
use Rattle.syn_grammar.specs.Token.{is_semicolon, mark_of}
use Rattle.print_core.specs.Marks.{Trees, ended, group, mark}
use Rattle.print_core.specs.Nodes.{expr_tokens}
use Rattle.law_spans.specs.Erased.{erased_expr}
use Rattle.law_spans.proofs.Made.{bare_expr-Block}
use Rattle.law_prefix.specs.SameLookahead.{Relation, Any}
use Rattle.law_prefix.specs.ReadsByPrefix.{at}
use Rattle.law_round_trip.specs.Follow.{AfterExpr, BeginsExpr}
use Rattle.law_round_trip.specs.Parts.{AllRoundTrip}
use Rattle.law_round_trip.specs.Printed.{Again, Reads, RoundTrips}
use Rattle.law_round_trip.proofs.Atoms.{Atom, expr_bool-back, literal-back}
use Rattle.law_round_trip.proofs.AtomStarts.{constants-begin, expr-some, group-atom, is_constant}
use Rattle.law_round_trip.proofs.Exprs.{print-Block}
use Rattle.law_round_trip.proofs.Infix.{expr-end, expr_before-semicolon}
use Rattle.law_round_trip.proofs.Lists.{ended-push, same-push, some-length}
use Rattle.law_round_trip.proofs.Marks.{mark-length, mark_of-mark}
use Rattle.law_round_trip.proofs.Steps.{Free, Rest, hole, bind-at, whole, shown-rest, refuse-rest, here-rest, test-rest, weak-printed}
use Rattle.law_round_trip.proofs.Takes.{AtEnd, inside-rest, skipped-over}

module _ (readers : Readers) (parts : AllRoundTrip readers) where
  module _ (span : Span) where
    abbrev semicolon : Trees
    semicolon = mark (codes ";") span

    -- More of a block: its printing goes on behind the statements that were found, and a loop with enough turns reads it.
    record Statements (found : List Expr) (made : Expr) : Type 0 where
      tokens : Trees
      is : expr_tokens made ≡ group delimiter.Brace (ended semicolon (map expr_tokens found) ++ tokens) span
      again : (turns : ℕ) (start : Span) (others : List Expr) → map erased_expr others ≡ map erased_expr found → (last : Span) → length tokens ≤ turns → Again erased_expr (statements_from readers start turns others) (at (tokens ++ []) last) [] made

    -- a statement that was read
    abbrev Statement : Input → Input → Expr → Type 0
    Statement input after it = Reads erased_expr (BeginsExpr any_level input.rest) (AfterExpr any_level after.rest) (readers.expr any_level) (expr_tokens it) it

    some-statement : (input after : Input) (it : Expr) → Statement input after it → (tail : Trees) → AfterExpr any_level after.rest tail → is_end (expr_tokens it ++ tail) ≡ false
    some-statement input after it one tail f = expr-some any_level (expr_tokens it ++ tail) (one.first tail f).begins

    statements-all : (found : List Expr) → Statements found (expr.Block found None span)
    unfolding statements_from
    statements-all found = record { tokens = []; is = print-Block found None span; again = go }
      where
        go : (turns : ℕ) (start : Span) (others : List Expr) → map erased_expr others ≡ map erased_expr found → (last : Span) → 0 ≤ turns → Again erased_expr (statements_from readers start turns others) (at [] last) [] (expr.Block found None span)
        go zero start others same last fits = record { value = expr.Block others None start; new = last; is = refl; same = rw (bare_expr-Block, bare_expr-Block, same) refl }
        go (suc turns) start others same last fits = record { value = expr.Block others None start; new = last; is = refl; same = rw (bare_expr-Block, bare_expr-Block, same) refl }

    statements-last : (found : List Expr) (input after : Input) (it : Expr) → Statement input after it → Statements found (expr.Block found (Some it) span)
    unfolding statements_from after_eat mark_of
    statements-last found input after it one = record { tokens = expr_tokens it; is = print-Block found (Some it) span; again = go }
      where
        some : is_end (expr_tokens it ++ []) ≡ false
        some = some-statement input after it one [] (expr-end any_level after.rest)

        go : (turns : ℕ) (start : Span) (others : List Expr) → map erased_expr others ≡ map erased_expr found → (last : Span) → length (expr_tokens it) ≤ turns
            → Again erased_expr (statements_from readers start turns others) (at (expr_tokens it ++ []) last) [] (expr.Block found (Some it) span)
        go zero start others same last fits = absurd (omega (arith, fits, some-length (expr_tokens it) some))
        go (suc turns) start others same last fits =
            let more = one.again [] last (expr-end any_level after.rest) in
            record { value = expr.Block others (Some more.value) start; new = more.new; is = rw (some, more.is) refl; same = rw (bare_expr-Block, bare_expr-Block, same, more.same) refl }

    statements-more : (found : List Expr) (made : Expr) (input after : Input) (it : Expr) → Statement input after it → Statements (found ++ it ∷ []) made → Statements found made
    unfolding statements_from after_eat
    statements-more found made input after it one two = record {
      tokens = expr_tokens it ++ (semicolon ++ two.tokens);
      is = two.is ∙ rw (ended-push semicolon expr_tokens found it, append_assoc, append_assoc) refl;
      again = go;
    }
      where
        behind : (tail : Trees) → AfterExpr any_level after.rest (semicolon ++ tail)
        behind tail = expr_before-semicolon any_level after.rest tail span

        some : 1 ≤ length (expr_tokens it)
        some = some-length (expr_tokens it) (some-statement input after it one [] (expr-end any_level after.rest))

        go : (turns : ℕ) (start : Span) (others : List Expr) → map erased_expr others ≡ map erased_expr found → (last : Span) → length (expr_tokens it ++ (semicolon ++ two.tokens)) ≤ turns
            → Again erased_expr (statements_from readers start turns others) (at ((expr_tokens it ++ (semicolon ++ two.tokens)) ++ []) last) [] made
        go zero start others same last fits = absurd (omega (arith, fits, some, length-append (expr_tokens it) (semicolon ++ two.tokens)))
        go (suc turns) start others same last fits =
            let more = one.again (semicolon ++ (two.tokens ++ [])) last (behind (two.tokens ++ [])) in
            let stands = skipped-over 1 semicolon (two.tokens ++ []) more.new (mark-length (codes ";") span) in
            let rest = two.again turns start (others ++ more.value ∷ []) (same-push erased_expr others found more.value it same more.same) stands.0 (omega (arith, fits, some, length-append (expr_tokens it) (semicolon ++ two.tokens), length-append semicolon two.tokens)) in
            record {
              value = rest.value;
              new = rest.new;
              is = rw (append_assoc (expr_tokens it) (semicolon ++ two.tokens) [], append_assoc semicolon two.tokens [], some-statement input after it one (semicolon ++ (two.tokens ++ [])) (behind (two.tokens ++ [])), more.is, mark_of-mark 59 [] span (two.tokens ++ []), stands.1) rest.is;
              same = rest.same;
            }

    statements-of : (turns : ℕ) (found : List Expr) (input after : Input) (made : Expr) → statements_from readers span turns found input ≡ Some (made, after) → Statements found made
    unfolding statements_from
    statements-of zero found input after made e = ended (is_end input.rest) e
      where
        ended : (b : Bool) → (if b then pure (expr.Block found None span) else refuse) input ≡ Some (made, after) → Statements found made
        ended true e = subst (Statements found) (some_pair_parts (expr.Block found None span) made input after e).0 (statements-all found)
        ended false e = absurd cc
    statements-of (suc turns) found input after made e = ended (is_end input.rest) (λ it next. statements-of turns (found ++ it ∷ []) next after made) e
      where
        Later : Type 0
        Later = (it : Expr) (next : Input) → statements_from readers span turns (found ++ it ∷ []) next ≡ Some (made, after) → Statements (found ++ it ∷ []) made

        goes : (b : Bool) (between behind : Input) (it : Expr) → Statement input between it → Later
            → (if b then statements_from readers span turns (found ++ it ∷ []) else pure (expr.Block found (Some it) span)) behind ≡ Some (made, after) → Statements found made
        goes true between behind it one later e = statements-more found made input between it one (later it behind e)
        goes false between behind it one later e = subst (Statements found) (some_pair_parts (expr.Block found (Some it) span) made behind after e).0 (statements-last found input between it one)

        ended : (b : Bool) → Later
            → (if b then pure (expr.Block found None span) else (readers.expr any_level >>= (λ it. eat 1 is_semicolon >>= (λ more. if more then statements_from readers span turns (found ++ it ∷ []) else pure (expr.Block found (Some it) span))))) input ≡ Some (made, after) → Statements found made
        ended true later e = subst (Statements found) (some_pair_parts (expr.Block found None span) made input after e).0 (statements-all found)
        ended false later e =
            let split = bind-at (readers.expr any_level input) (λ it. eat 1 is_semicolon >>= (λ more. if more then statements_from readers span turns (found ++ it ∷ []) else pure (expr.Block found (Some it) span))) made after e in
            goes (is_semicolon split.1.rest) split.1 (after_eat 1 (is_semicolon split.1.rest) split.1) split.0 ((parts.expr any_level).of input split.1 split.0 split.2) later split.3

    statements-rest : Rest {P = Unit {0}} {Q = Unit {0} × Span} (λ q. Unit {0}) erased_expr expr_tokens (λ place tokens. group delimiter.Brace tokens span) Any AtEnd (statements readers span) (λ q. statements readers q.1)
    statements-rest = record {
      of = λ input after found e.
          let one = statements-of (length input.rest) [] input after found e in
          record {
            place = tt;
            tokens = one.tokens;
            is = one.is;
            again = λ q ok tail last f. rw f (
                let more = one.again (length (one.tokens ++ [])) q.1 [] refl last (omega (arith, length-append one.tokens [])) in
                record { value = more.value; new = more.new; is = more.is; same = more.same });
            first = λ tail f. tt;
          };
    }

  pub block-back : RoundTrips erased_expr expr_tokens (Atom atom.Brace) Any (block readers)
  unfolding block
  block-back = whole (here-rest (λ span. inside-rest {Inner = Any} delimiter.Brace (λ (place : Unit {0}). span) (statements-rest span) (λ rest inner tail span' seen f. group-atom delimiter.Brace inner tail span')))

  -- ---- a literal or a block

  abbrev Constant : AtomStart → Relation
  Constant begins rest tail = (atom_start tail ≡ begins) × (is_constant begins ≡ true)

  constant_by-rest : (begins : AtomStart) → Rest {P = Unit {0}} {Q = Unit {0}} Free erased_expr expr_tokens hole (Constant begins) Any (constant_by readers begins) (λ q. constant_by readers begins)
  constant_by-rest atom.Literal = shown-rest tt (λ it. refl) (weak-printed (λ rest tail f. f) (λ rest tail f. (f, refl)) literal-back)
  constant_by-rest atom.Bool = shown-rest tt (λ it. refl) (weak-printed (λ rest tail f. f) (λ rest tail f. (f, refl)) expr_bool-back)
  constant_by-rest atom.Brace = shown-rest tt (λ it. refl) (weak-printed (λ rest tail f. f) (λ rest tail f. (f, refl)) block-back)
  constant_by-rest _ = refuse-rest

  pub constant-back : RoundTrips erased_expr expr_tokens (BeginsExpr constant_level) Any (constant readers)
  unfolding constant
  constant-back = whole (test-rest {by = Constant} atom_start constant_by-rest (λ begins rest tail is f. (f.0, constants-begin begins rest tail f.1 is f.0)))
