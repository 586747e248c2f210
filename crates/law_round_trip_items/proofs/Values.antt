-- The law of printing for the value of an attribute.
use Rattle.std.proofs.Common.{◌≡◌, true, false, [], ◌∷◌, ◌++◌, Option, Some, None, refl, ◌∙◌, codes}
use Rattle.std.specs.Str.{chars}
use Rattle.tok_types.specs.declared.span.Span.{Span}
use Rattle.tok_types.specs.declared.tree.Literal.{Literal}
use Rattle.tok_types.specs.declared.tree.TokenTree.TheVariants as tree
use Rattle.node_expr.specs.declared.expr.Expr.{Expr, the_lemmas}
use Rattle.node_expr.specs.declared.expr.Expr.TheVariants as expr
use Rattle.node_expr.specs.declared.lit.Lit.{Lit}
use Rattle.node_expr.specs.declared.lit.Lit.TheVariants as lit
use Rattle.tok_lit.specs.declared.value.Value.{Value}
use Rattle.tok_lit.specs.declared.value.Value.TheVariants as value
use Rattle.syn_grammar.specs.Grammar.{within, max_depth}
use Rattle.syn_grammar.specs.Input.{taken, is_end}
use Rattle.syn_grammar.specs.Literals as literals
use Rattle.syn_grammar.specs.Readers.{any_level}
use Rattle.syn_grammar.specs.Token.{is_mark, literal_of}
use Rattle.print_core.specs.Literals.{lit_tokens}
use Rattle.print_core.specs.Marks.{Trees, contents, mark}
use Rattle.print_core.specs.Nodes.{expr_tokens}
use Rattle.law_spans.specs.Erased.{erased_expr, erased_lit}
use Rattle.law_spans.proofs.Made.{bare_expr-Lit}
use Rattle.law_prefix.specs.SameLookahead.{Any}
use Rattle.tok_types.specs.Stream.{stream_of}
use Rattle.syn_items.specs.Attributes.{expr_in, negative, number_in, signed, value_by, value_of}
use Rattle.law_round_trip.specs.Follow.{NotEnded}
use Rattle.law_round_trip.specs.Parts.{AllRoundTrip}
use Rattle.law_round_trip.specs.Printed.{RoundTrips}
use Rattle.law_round_trip.proofs.Streams.{contents-stream}
use Rattle.law_round_trip.proofs.AtomStarts.{expr-some, literal_of-Literal}
use Rattle.law_round_trip.proofs.Follows.{looser-end}
use Rattle.law_round_trip.proofs.Marks.{mark-length, mark_of-mark}
use Rattle.law_round_trip.proofs.Steps.{Free, Rest, whole, here-rest, pure-rest, refuse-rest, upto-rest}
use Rattle.law_round_trip.proofs.Takes.{expect-rest, take_as-rest}
use Rattle.law_round_trip.proofs.Wholes.{all-again, all-first}
use Rattle.law_round_trip_items.proofs.Signs.{unsigned}
use Rattle.law_round_trip.proofs.Exprs.{print-Lit}

-- ---- numbers with a minus

negative-rest : {Q : Type 0} (Ok : Q → Type 0) (found : Option Value) (token : Literal) (span : Span)
    → Rest {P = Span} {Q = Q × Span} (λ q. Ok q.0) erased_lit lit_tokens (λ place more. mark (codes "-") place ++ (tree.Literal token ∷ more)) Any Any (taken (negative span (literals.lit_by token found))) (λ q. taken (negative q.1 (literals.lit_by token found)))
negative-rest Ok (Some (value.Int digits)) token span =
    pure-rest span (lit.Int (record { negative = true; digits = digits; token = token; span = span })) (λ q. lit.Int (record { negative = true; digits = digits; token = token; span = q.1 })) refl (λ q ok. refl)
negative-rest Ok (Some value.Float) token span =
    pure-rest span (lit.Float (record { negative = true; token = token; span = span })) (λ q. lit.Float (record { negative = true; token = token; span = q.1 })) refl (λ q ok. refl)
negative-rest Ok (Some (value.Str text)) token span = refuse-rest
negative-rest Ok (Some (value.ByteStr bytes)) token span = refuse-rest
negative-rest Ok (Some (value.Byte byte)) token span = refuse-rest
negative-rest Ok (Some (value.Char ch)) token span = refuse-rest
negative-rest Ok None token span = refuse-rest

minus-some : (rest tail : Trees) (span : Span) → NotEnded rest (mark (codes "-") span ++ tail)
unfolding mark
minus-some rest tail span = refl

pub signed-back : RoundTrips erased_lit lit_tokens NotEnded Any signed
unfolding signed literals.lit_of
signed-back = whole (here-rest (λ start. expect-rest {Second = Any} 1 (is_mark 45) (λ place. mark (codes "-") place) (mark-length (codes "-")) (λ place tail. rw (mark_of-mark 45 [] place tail) refl)
    (take_as-rest {Second = Any} literal_of tree.Literal (λ rest tail it is. literal_of-Literal it tail) (λ token.
    upto-rest start (λ q. q.1) (λ span. negative-rest Free (literals.value_of (chars token.text)) token span))
    (λ input tail it is f. tt))
    (λ input tail place seen f. minus-some input.rest tail place)))

-- ---- values

print-Verbatim : (trees : Trees) → expr_tokens (expr.Verbatim (stream_of trees)) ≡ trees
print-Verbatim trees = verbatim ∙ contents-stream trees
  where
    verbatim : expr_tokens (expr.Verbatim (stream_of trees)) ≡ contents (stream_of trees)
    verbatim = search the_lemmas

-- the printing of the value that the tokens are is no empty list, and is the same value
pub record ValueAgain (found : Expr) : Type 0 where
  pub some : is_end (expr_tokens found) ≡ false
  pub same : erased_expr (value_of (expr_tokens found)) ≡ erased_expr found

module _ (parts : AllRoundTrip (within max_depth)) where
  pub value-again : (trees : Trees) → is_end trees ≡ false → ValueAgain (value_of trees)
  unfolding value_of
  value-again trees some = by (number_in trees) (expr_in trees) refl refl
    where
      by : (number : Option Lit) (found : Option Expr) → number_in trees ≡ number → expr_in trees ≡ found → ValueAgain (value_by trees number found)
      by (Some it) found number_is is =
          let again = all-again signed-back tt trees it number_is in
          record {
            some = rw (print-Lit it) (all-first signed-back tt trees it number_is);
            same = rw (print-Lit it, again.1, bare_expr-Lit, bare_expr-Lit, again.2) refl;
          }
      by None (Some it) number_is is =
          let again = all-again (parts.expr any_level) (λ other. looser-end any_level []) trees it is in
          record {
            some = expr-some any_level (expr_tokens it) (all-first (parts.expr any_level) (λ other. looser-end any_level []) trees it is).begins;
            same = rw (unsigned parts trees it is number_is, again.1) again.2;
          }
      by None None number_is is = record {
        some = rw (print-Verbatim trees) some;
        same = rw (print-Verbatim trees, number_is, is) refl;
      }
