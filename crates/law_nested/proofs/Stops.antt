-- What a printed item stands before: nothing, or a comma.
use Rattle.std.proofs.Common.{◌≡◌, true, false, [], ◌++◌, None, refl}
use Rattle.tok_types.specs.declared.span.Span.{Span}
use Rattle.tok_types.specs.declared.tree.Delimiter.TheVariants as delimiter
use Rattle.syn_grammar.specs.Readers.{any_level}
use Rattle.syn_grammar.specs.Token.{is_colons, is_equals, is_group, is_joint, is_mark, is_pair, mark_of}
use Rattle.syn_items.specs.Attributes.{delimiter_of}
use Rattle.print_core.specs.Marks.{Trees, comma, mark}
use Rattle.law_prefix.specs.SameLookahead.{stops}
use Rattle.law_round_trip.specs.Follow.{AfterExpr}
use Rattle.law_round_trip.proofs.Infix.{expr-end, expr_before-comma}
use Rattle.law_round_trip.proofs.Marks.{is_comma-comma, is_group-mark, mark_of-mark}
use Rattle.law_round_trip_items.proofs.Attributes.{mark-grouped}

-- where no item goes on, and no attribute begins (35 is its `#`)
pub record Ended (tail : Trees) : Type 0 where
  pub stop : stops tail ≡ true
  pub expr : (rest : Trees) → AfterExpr any_level rest tail
  pub colons : is_colons tail ≡ false
  pub equals : is_equals tail ≡ false
  pub hash : is_mark 35 tail ≡ false
  pub grouped : delimiter_of tail ≡ None
  pub bracket : is_group delimiter.Bracket tail ≡ false

pub ended-nothing : Ended []
unfolding mark_of is_pair is_joint delimiter_of is_group
ended-nothing = record { stop = refl; expr = λ rest. expr-end any_level rest; colons = refl; equals = refl; hash = refl; grouped = refl; bracket = refl }

pub comma-stops : (span : Span) (tail : Trees) → stops (comma span ++ tail) ≡ true
unfolding mark
comma-stops span tail = is_comma-comma tail span

pub ended-comma : (span : Span) (tail : Trees) → Ended (comma span ++ tail)
ended-comma span tail = record {
  stop = comma-stops span tail;
  expr = λ rest. expr_before-comma any_level rest tail span;
  colons = (mark-grouped 44 tail tail span).1;
  equals = rw (mark_of-mark 44 [] span tail) refl;
  hash = rw (mark_of-mark 44 [] span tail) refl;
  grouped = (mark-grouped 44 tail tail span).0;
  bracket = is_group-mark 44 [] span tail delimiter.Bracket;
}
