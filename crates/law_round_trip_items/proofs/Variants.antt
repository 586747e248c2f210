-- The law of printing for variants.
use Rattle.std.proofs.Common.{◌≡◌, ℕ, false, [], ◌∷◌, ◌++◌, map, refl, option_map, append_assoc, append-nil}
use Rattle.tok_types.specs.declared.ident.Ident.{Ident}
use Rattle.tok_types.specs.declared.span.Span.{Span}
use Rattle.tok_types.specs.declared.tree.Delimiter.TheVariants as delimiter
use Rattle.tok_types.specs.declared.tree.TokenTree.TheVariants as tree
use Rattle.syn_grammar.specs.Grammar.{within, max_depth}
use Rattle.syn_grammar.specs.Input.{inside}
use Rattle.syn_grammar.specs.Readers.{any_level}
use Rattle.syn_grammar.specs.Token.{is_equals, is_group, mark_of}
use Rattle.syn_grammar.specs.Words.{name_of}
use Rattle.syn_items.specs.Fields.{discriminant_of, variant, variants}
use Rattle.print_core.specs.Items.{maybe_equal, variant_tokens}
use Rattle.print_core.specs.Marks.{Trees, comma, group, joined, mark}
use Rattle.print_core.specs.Nodes.{expr_tokens}
use Rattle.law_spans.specs.Erased.{erased_expr}
use Rattle.law_spans_items.specs.Erased.{erased_variant}
use Rattle.law_prefix.specs.SameLookahead.{Any}
use Rattle.law_round_trip.specs.Follow.{AfterExpr, Keep, NotEnded}
use Rattle.law_round_trip.specs.Parts.{AllRoundTrip}
use Rattle.law_round_trip.specs.Printed.{RoundTrips}
use Rattle.law_round_trip.proofs.Follows.{keep-false, never}
use Rattle.law_round_trip.proofs.Infix.{expr-end, expr_before-comma}
use Rattle.law_round_trip.proofs.Marks.{is_group-mark, mark_of-mark, name_of-Ident, out-Ident}
use Rattle.law_round_trip.proofs.Steps.{close-rest, here-rest, then-rest, weak-printed, whole}
use Rattle.law_round_trip.proofs.Takes.{take_as-rest}
use Rattle.law_round_trip_items.proofs.Attributes.{attributes-back}
use Rattle.law_round_trip_items.proofs.Fields.{AfterFields, Grouped, Plain, block-printed, fields-back, mark-some, plain-attributes}
use Rattle.law_round_trip_items.proofs.Params.{default-printed}

-- what goes on with a variant
pub record AfterVariant (rest tail : Trees) : Type 0 where
  pub expr : AfterExpr any_level rest tail
  pub equals : Keep is_equals rest tail
  pub fields : AfterFields rest tail

no-equals : is_equals [] ≡ false
unfolding mark_of
no-equals = refl

no-braces : is_group delimiter.Brace [] ≡ false
unfolding is_group
no-braces = refl

pub no-parentheses : is_group delimiter.Parenthesis [] ≡ false
unfolding is_group
no-parentheses = refl

variant-end : (rest : Trees) → AfterVariant rest []
variant-end rest = record {
  expr = expr-end any_level rest;
  equals = never is_equals rest [] no-equals;
  fields = (never (is_group delimiter.Brace) rest [] no-braces, never (is_group delimiter.Parenthesis) rest [] no-parentheses);
}

-- a mark is no group
fields_before-mark : (ch : ℕ) (rest tail : Trees) (span : Span) → AfterFields rest (mark (ch ∷ []) span ++ tail)
fields_before-mark ch rest tail span = (
  never (is_group delimiter.Brace) rest (mark (ch ∷ []) span ++ tail) (is_group-mark ch [] span tail delimiter.Brace),
  never (is_group delimiter.Parenthesis) rest (mark (ch ∷ []) span ++ tail) (is_group-mark ch [] span tail delimiter.Parenthesis),
)

variant_before-comma : (rest tail : Trees) (span : Span) → AfterVariant rest (comma span ++ tail)
variant_before-comma rest tail span = record {
  expr = expr_before-comma any_level rest tail span;
  equals = never is_equals rest (comma span ++ tail) (rw (mark_of-mark 44 [] span tail) refl);
  fields = fields_before-mark 44 rest tail span;
}

-- a name stands behind attributes
name-plain : (it : Ident) (rest tail : Trees) → Plain rest (tree.Ident it ∷ tail)
unfolding mark_of
name-plain it rest tail = (refl, rw (out-Ident it) refl)

module _ (parts : AllRoundTrip (within max_depth)) where
  discriminant-back : (span : Span) → RoundTrips (option_map erased_expr) (λ found. maybe_equal (option_map expr_tokens found) span) AfterFields AfterVariant discriminant_of
  discriminant-back span = default-printed span (weak-printed (λ rest tail f. f.expr) (λ rest tail f. f) (parts.expr any_level))
      (λ rest tail seen. fields_before-mark 61 rest tail span) (λ rest tail seen f. (keep-false is_equals rest tail seen f.equals, f.fields))

  pub variant-back : RoundTrips erased_variant variant_tokens NotEnded AfterVariant variant
  unfolding variant
  variant-back = whole (here-rest (λ start.
      then-rest {Second = Plain} (λ place. attributes-back parts NotEnded (λ rest tail seen. mark-some 35 tail refl seen)) (λ attrs.
      take_as-rest {Second = Any} name_of tree.Ident (λ rest tail it is. name_of-Ident rest tail it is) (λ name.
      then-rest {Second = AfterFields} (λ place. fields-back parts) (λ found.
      then-rest {Second = AfterVariant} (λ place. discriminant-back place) (λ value. close-rest start (λ q. q.0.0.0.1) (λ span. record { attrs = attrs; ident = name; fields = found; discriminant = value; span = span }) (λ q span. record { attrs = q.0.0.1; ident = name; fields = q.0.1; discriminant = q.1; span = span })
      (λ span. rw (append-nil, append_assoc, append_assoc) refl) (λ span other q ok. rw (ok.0.0.1, ok.0.1, ok.1) refl))
      (λ rest tail f. f) (λ rest tail f. f))
      (λ rest tail f. f) (λ rest tail f. tt))
      (λ input tail name is f. name-plain name input.rest tail))
      (λ rest tail f. plain-attributes rest tail f) (λ rest tail f. f)))

  -- all variants, in braces
  pub variants-back : (span : Span) → RoundTrips (map erased_variant) (λ items. group delimiter.Brace (joined (comma span) (map variant_tokens items)) span) (Grouped delimiter.Brace) Any (inside delimiter.Brace variants)
  variants-back span = block-printed delimiter.Brace variant-back (λ rest tail f. f) variant-end variant_before-comma span
