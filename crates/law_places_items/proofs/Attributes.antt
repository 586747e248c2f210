-- Attributes, the meta items in them and their values stand where their tokens do.
use Rattle.std.proofs.Common.{◌≡◌, ℕ, ◌<◌, true, List, length, Option, Some, None, refl, arith, ap, sym, ◌∙◌}
use Rattle.tok_types.specs.Ascii.{hash, minus}
use Rattle.tok_types.specs.declared.span.Span.{Span}
use Rattle.tok_types.specs.declared.tree.Delimiter.{Delimiter}
use Rattle.tok_types.specs.declared.tree.Delimiter.TheVariants as delimiter
use Rattle.tok_types.specs.declared.tree.TokenStream.{out-TokenStream, the_lemmas}
use Rattle.tok_types.specs.declared.tree.TokenTree.{TokenTree}
use Rattle.node_make.specs.Make.{make_path, make_segment}
use Rattle.node_expr.specs.declared.expr.Expr.{Expr}
use Rattle.node_expr.specs.declared.lit.Lit.{Lit}
use Rattle.node_expr.specs.declared.lit.Lit.TheVariants as lit
use Rattle.node_expr.specs.declared.path.Path.{Path}
use Rattle.node_expr.specs.declared.path.PathArguments.TheVariants as arguments
use Rattle.node_core.specs.declared.attr.Attribute.{Attribute}
use Rattle.node_core.specs.declared.attr.Meta.TheVariants as made
use Rattle.node_span.specs.Spanned.{expr_span, list_span, lit_span, meta_span, path_span, tree_span}
use Rattle.syn_grammar.specs.Grammar.{max_depth}
use Rattle.syn_grammar.specs.Input.{Input, first_span, start_of, is_end}
use Rattle.syn_grammar.specs.Literals.{lit_of}
use Rattle.syn_grammar.specs.Readers.{any_level}
use Rattle.syn_grammar.specs.Token.{ident_of, literal_of, contents_of, is_colons, is_equals, is_mark}
use Rattle.syn_items.specs.declared.lists.While.TheVariants as while
use Rattle.tok_types.specs.Stream.{stream_of}
use Rattle.syn_items.specs.Attributes.{meta_segment, meta_path, negative, signed, number_in, expr_in, value_by, value_of, delimiter_of, meta_list, name_value, meta_by, meta, attribute, attributes}
use Rattle.syn_items.specs.Lists.{goes_on}
use Rattle.law_places.proofs.Made.{path-span, lit-span, verbatim-span}
use Rattle.law_places.proofs.Onward.{Less, Stood, StoodHere, here_of, here-stood, stood_from-at, onward-at, close_on-at, take-less, expect-less, joined_by-less, ident-none, mark-none}
use Rattle.law_places.proofs.Steps.{GoesAt, Goes, refuse-at, pure-at, then-at, if-at, seen-at, upto-at, upto_then-at, taken-at, skip-at, eat-at, expect-at, take_as-at, inside-goes}
use Rattle.law_places.proofs.Wholes.{all-stands}
use Rattle.law_places.proofs.Within.{within-stand}
use Rattle.law_places_items.proofs.Lists.{take_all-at, each_while-goes}

-- ---- paths of any words

meta_segment-less : (input : Input) → GoesAt (Less input) meta_segment input
unfolding meta_segment
meta_segment-less input = seen-at first_span (λ start. onward-at (take-less ident_of ident-none input) (λ ident one s less. onward-at (upto-at start one) (λ span two t _.
    pure-at (make_segment ident arguments.None span) two (record { less = omega arith }))))

pub meta_path-stood : StoodHere path_span meta_path
unfolding meta_path
meta_path-stood input = here-stood (λ start _. onward-at (eat-at 2 is_colons input) (λ leading_colon one s _.
    onward-at (joined_by-less (eat-at 2 is_colons) meta_segment-less one) (λ segments two t less.
    close_on-at start (length input.rest) (make_path leading_colon segments) two (omega arith) (path-span leading_colon segments))))

-- ---- values

negative-span : (span : Span) (it found : Lit) → negative span it ≡ Some found → lit_span found ≡ span
negative-span span (lit.Int it) found e = let same : lit.Int (record it { negative = true; span = span }) ≡ found = cc in ap lit_span (sym same)
negative-span span (lit.Float it) found e = let same : lit.Float (record it { negative = true; span = span }) ≡ found = cc in ap lit_span (sym same)
negative-span span _ found e = absurd cc

pub signed-stood : StoodHere lit_span signed
unfolding signed
signed-stood input = here-stood (λ start _. onward-at (expect-less (is_mark minus) (mark-none minus refl) input) (λ mark one s less. onward-at (take_as-at literal_of one) (λ token two t _.
    upto_then-at start (λ span is. taken-at (negative span (lit_of token)) two (λ value e. record { is = negative-span span (lit_of token) value e ∙ is; less = omega arith })))))

-- what tokens are as a value stands where they do
pub value_of-stands : (trees : List TokenTree) → expr_span (value_of trees) ≡ list_span tree_span trees
unfolding value_of
value_of-stands trees = go (number_in trees) refl (expr_in trees) refl
  where
    go : (number : Option Lit) → number_in trees ≡ number → (found : Option Expr) → expr_in trees ≡ found → expr_span (value_by trees number found) ≡ list_span tree_span trees
    go (Some number) n found e = lit-span number ∙ all-stands trees (here_of signed-stood (start_of trees)) number n
    go None n (Some found) e = all-stands trees ((within-stand max_depth).expr any_level (start_of trees)) found e
    go None n None e =
        let contents : (out-TokenStream (stream_of trees)).trees ≡ trees = search the_lemmas in
        verbatim-span (stream_of trees) ∙ ap (list_span tree_span) contents

-- ---- meta items, each from the start of its path

module _ (start : Span) (size : ℕ) where
  pub meta_list-on : (path : Path) (between : Delimiter) (input : Input) → length input.rest < size → GoesAt (Stood meta_span start size) (meta_list start path between) input
  unfolding meta_list
  meta_list-on path between input less = seen-at contents_of (λ tokens. onward-at (skip-at input) (λ group later s _.
      close_on-at start size (λ span. made.List (record { path = path; delimiter = between; tokens = stream_of tokens; span = span })) later (omega arith) (λ span. refl)))

  name_value-on : (path : Path) (input : Input) → length input.rest < size → GoesAt (Stood meta_span start size) (name_value start path) input
  unfolding name_value
  name_value-on path input less = seen-at first_span (λ eq_span. onward-at (expect-at 1 is_equals input) (λ equals one s _. seen-at is_end (λ none. if-at none (refuse-at one) (
      onward-at (take_all-at one) (λ value two t _.
      close_on-at start size (λ span. made.NameValue (record { path = path; eq_span = eq_span; value = value_of value; span = span })) two (omega arith) (λ span. refl))))))

  meta_by-on : (path : Path) (between : Option Delimiter) (input : Input) → Stood path_span start size path input → GoesAt (Stood meta_span start size) (meta_by start path between) input
  meta_by-on path (Some between) input h = meta_list-on path between input h.less
  meta_by-on path None input h = seen-at is_end (λ done. if-at done (pure-at (made.Path path) input (record { is = h.is; less = h.less })) (name_value-on path input h.less))

pub meta-stood : StoodHere meta_span meta
unfolding meta
meta-stood input = here-stood (λ start is. then-at (stood_from-at is (meta_path-stood input)) (λ path later h. seen-at delimiter_of (λ between. meta_by-on start (length input.rest) path between later h)))

pub attribute-stood : StoodHere (λ (it : Attribute). it.span) attribute
unfolding attribute
attribute-stood input = here-stood (λ start _. onward-at (expect-less (is_mark hash) (mark-none hash refl) input) (λ mark one s less. onward-at (inside-goes delimiter.Bracket meta one) (λ found two t _.
    close_on-at start (length input.rest) (λ span. record { meta = found; span = span }) two (omega arith) (λ span. refl))))

pub attributes-goes : Goes attributes
unfolding attributes
attributes-goes = each_while-goes attribute-stood (goes_on while.Hash)
