-- The rules of attributes do not see places.
use Rattle.std.proofs.Common.{◌≡◌, List, [], ◌∷◌, map, Option, Some, None, option_map, refl, ap, sym, ◌∙◌}
use Rattle.tok_types.specs.declared.ident.Ident.{Ident}
use Rattle.tok_types.specs.declared.span.Span.{Span}
use Rattle.tok_types.specs.declared.span.Span.TheVariants.{CallSite}
use Rattle.tok_types.specs.declared.tree.Delimiter.{Delimiter}
use Rattle.tok_types.specs.declared.tree.Delimiter.TheVariants as delimiter
use Rattle.tok_types.specs.declared.tree.Group.{Group, out-Group}
use Rattle.tok_types.specs.declared.tree.TokenTree.{TokenTree, out-TokenTree, the_lemmas}
use Rattle.tok_types.specs.declared.tree.TokenTree.TheOpen.{TokenTree-F}
use Rattle.tok_types.specs.Respan.{group_at}
use Rattle.node_make.specs.Make.{make_path, make_segment}
use Rattle.node_expr.specs.declared.expr.Expr.{Expr}
use Rattle.node_expr.specs.declared.expr.Expr.TheVariants as expr
use Rattle.node_expr.specs.declared.lit.Lit.{Lit}
use Rattle.node_expr.specs.declared.lit.Lit.TheVariants as lit
use Rattle.node_expr.specs.declared.path.Path.{Path}
use Rattle.node_expr.specs.declared.path.PathArguments.TheVariants as arguments
use Rattle.node_core.specs.declared.attr.Meta.TheVariants as made
use Rattle.syn_grammar.specs.Grammar.{max_depth}
use Rattle.syn_grammar.specs.Literals.{lit_of}
use Rattle.syn_grammar.specs.Readers.{any_level}
use Rattle.syn_grammar.specs.Token.{Layer, ident_of, literal_of, contents_of}
use Rattle.syn_items.specs.declared.lists.While.TheVariants as while
use Rattle.tok_types.specs.Stream.{stream_of}
use Rattle.syn_items.specs.Attributes.{meta_segment, meta_path, negative, signed, number_in, expr_in, value_by, value_of, delimiter_in, delimiter_of, meta_list, name_value, meta_by, meta, attribute, attributes}
use Rattle.law_spans.specs.Erased.{erased_ident, erased_lit, erased_tree, erased_expr, erased_path, erased_segment}
use Rattle.law_spans.specs.IgnoresSpans.{IgnoresSpans}
use Rattle.law_spans.proofs.Made.{bare_arguments-None, bare_expr-Lit, bare_expr-Verbatim, bare_path-make, bare_segment-make}
use Rattle.law_spans.proofs.Seen.{erased_layer, out-bare_tree, bare_stream-roll, contents_of-bare, ident_of-bare, literal_of-bare, lit_of-bare, is_mark-bare, is_pair-bare}
use Rattle.law_spans.proofs.Steps.{pure-blind, refuse-blind, then-blind, so-blind, if-blind, test-blind, here-blind, upto-blind, close-blind, skip-blind, eat-blind, expect-blind, taken-blind, take_as-blind, at_end-blind, inside-blind, joined_by-blind}
use Rattle.law_spans.proofs.Wholes.{all_of-bare}
use Rattle.law_spans.proofs.Within.{within-blind}
use Rattle.law_spans_items.specs.Erased.{erased_meta, erased_attribute}
use Rattle.law_spans_items.proofs.Lists.{take_all-blind, each_while-blind, goes_on-bare}

-- ---- paths of any words

-- a segment of one word
pub bare_segment-word : (ident : Ident) (span : Span) → erased_segment (make_segment ident arguments.None span) ≡ make_segment (erased_ident ident) arguments.None CallSite
bare_segment-word ident span = bare_segment-make ident arguments.None span ∙ ap (λ found. make_segment (erased_ident ident) found CallSite) bare_arguments-None

meta_segment-blind : IgnoresSpans erased_segment meta_segment meta_segment
unfolding meta_segment
meta_segment-blind = here-blind (λ start there s. then-blind (take_as-blind ident_of ident_of ident_of-bare) (λ ident ident' i.
    close-blind start there s (make_segment ident arguments.None) (make_segment ident' arguments.None) (λ span. rw (← i) (bare_segment-word ident span))))

pub meta_path-blind : IgnoresSpans erased_path meta_path meta_path
unfolding meta_path
meta_path-blind = here-blind (λ start there s. so-blind (eat-blind 2 (is_pair-bare 58 58)) (λ leading_colon.
    then-blind (joined_by-blind meta_segment-blind (eat-blind 2 (is_pair-bare 58 58))) (λ found found' f.
    close-blind start there s (make_path leading_colon found) (make_path leading_colon found') (λ span. rw (← f) (bare_path-make leading_colon found span)))))

-- ---- values

negative-bare : (span : Span) (it : Lit) → negative CallSite (erased_lit it) ≡ option_map erased_lit (negative span it)
negative-bare span (lit.Str it) = refl
negative-bare span (lit.ByteStr it) = refl
negative-bare span (lit.Byte it) = refl
negative-bare span (lit.Char it) = refl
negative-bare span (lit.Int it) = refl
negative-bare span (lit.Float it) = refl
negative-bare span (lit.«Bool» it) = refl
negative-bare span (lit.Verbatim it) = refl

pub signed-blind : IgnoresSpans erased_lit signed signed
unfolding signed
signed-blind = here-blind (λ start there s. so-blind (expect-blind 1 (is_mark-bare 45)) (λ minus.
    then-blind (take_as-blind literal_of literal_of literal_of-bare) (λ token token' t.
    upto-blind start there s (λ span place p.
    taken-blind (negative span (lit_of token)) (negative place (lit_of token')) (rw (← p, ← t, lit_of-bare token) (sym (negative-bare span (lit_of token))))))))

pub number_in-bare : (trees : List TokenTree) → number_in (map erased_tree trees) ≡ option_map erased_lit (number_in trees)
number_in-bare = all_of-bare signed-blind

pub expr_in-bare : (trees : List TokenTree) → expr_in (map erased_tree trees) ≡ option_map erased_expr (expr_in trees)
expr_in-bare = all_of-bare ((within-blind max_depth).expr any_level)

value_by-bare : (trees : List TokenTree) (number : Option Lit) (found : Option Expr) → value_by (map erased_tree trees) (option_map erased_lit number) (option_map erased_expr found) ≡ erased_expr (value_by trees number found)
value_by-bare trees (Some number) found = sym (bare_expr-Lit number)
value_by-bare trees None (Some found) = refl
value_by-bare trees None None = sym (bare_expr-Verbatim (stream_of trees) ∙ ap expr.Verbatim (bare_stream-roll trees))

pub value_of-bare : (trees : List TokenTree) → value_of (map erased_tree trees) ≡ erased_expr (value_of trees)
unfolding value_of
value_of-bare trees = rw (number_in-bare trees, expr_in-bare trees) (value_by-bare trees (number_in trees) (expr_in trees))

-- ---- meta items

delimiter_at : (group : Group) → (out-Group (group_at CallSite group)).delimiter ≡ (out-Group group).delimiter
delimiter_at group = search the_lemmas

delimiter_in-bare : (layer : Layer) → delimiter_in (erased_layer layer) ≡ delimiter_in layer
delimiter_in-bare (TokenTree-F.Ident it) = refl
delimiter_in-bare (TokenTree-F.Lifetime it) = refl
delimiter_in-bare (TokenTree-F.Punct it) = refl
delimiter_in-bare (TokenTree-F.Literal it) = refl
delimiter_in-bare (TokenTree-F.Group it) = ap Some (delimiter_at it)

pub delimiter_of-bare : (trees : List TokenTree) → delimiter_of (map erased_tree trees) ≡ delimiter_of trees
unfolding delimiter_of
delimiter_of-bare [] = refl
delimiter_of-bare (tree ∷ trees) = rw (out-bare_tree tree) (delimiter_in-bare (out-TokenTree tree))

module _ (start there : Span) (s : CallSite ≡ there) (path path' : Path) (p : erased_path path ≡ path') where
  pub meta_list-blind : (between : Delimiter) → IgnoresSpans erased_meta (meta_list start path between) (meta_list there path' between)
  unfolding meta_list
  meta_list-blind between = then-blind {bare = map erased_tree} (test-blind contents_of contents_of contents_of-bare) (λ tokens tokens' t. so-blind skip-blind (λ group.
      close-blind start there s
      (λ span. made.List (record { path = path; delimiter = between; tokens = stream_of tokens; span = span }))
      (λ span. made.List (record { path = path'; delimiter = between; tokens = stream_of tokens'; span = span }))
      (λ span. rw (← p, ← t, bare_stream-roll tokens) refl)))

  name_value-blind : IgnoresSpans erased_meta (name_value start path) (name_value there path')
  unfolding name_value
  name_value-blind = here-blind (λ eq_span eq_there e. so-blind (expect-blind 1 (is_mark-bare 61)) (λ equals. so-blind at_end-blind (λ none.
      if-blind none refuse-blind (then-blind take_all-blind (λ trees trees' t.
      close-blind start there s
      (λ span. made.NameValue (record { path = path; eq_span = eq_span; value = value_of trees; span = span }))
      (λ span. made.NameValue (record { path = path'; eq_span = eq_there; value = value_of trees'; span = span }))
      (λ span. rw (← p, ← e, ← t, value_of-bare trees) refl))))))

  meta_by-blind : (between : Option Delimiter) → IgnoresSpans erased_meta (meta_by start path between) (meta_by there path' between)
  meta_by-blind (Some between) = meta_list-blind between
  meta_by-blind None = so-blind at_end-blind (λ done. if-blind done (pure-blind (made.Path path) (made.Path path') (ap made.Path p)) name_value-blind)

pub meta-blind : IgnoresSpans erased_meta meta meta
unfolding meta
meta-blind = here-blind (λ start there s. then-blind meta_path-blind (λ path path' p.
    so-blind (test-blind delimiter_of delimiter_of delimiter_of-bare) (λ between. meta_by-blind start there s path path' p between)))

pub attribute-blind : IgnoresSpans erased_attribute attribute attribute
unfolding attribute
attribute-blind = here-blind (λ start there s. so-blind (expect-blind 1 (is_mark-bare 35)) (λ hash.
    then-blind (inside-blind delimiter.Bracket meta-blind) (λ found found' f.
    close-blind start there s (λ span. record { meta = found; span = span }) (λ span. record { meta = found'; span = span }) (λ span. rw (← f) refl))))

pub attributes-blind : IgnoresSpans (map erased_attribute) attributes attributes
unfolding attributes
attributes-blind = each_while-blind (goes_on-bare while.Hash) attribute-blind
