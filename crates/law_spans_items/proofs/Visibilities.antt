-- The rules of visibilities do not see places.
use Rattle.std.proofs.Common.{◌≡◌, Bool, true, false, if◌then◌else◌, List, [], ◌∷◌, map, Option, Some, None, option_map, refl, ap, subst, ◌∙◌}
use Rattle.tok_types.specs.declared.ident.Ident.{Ident}
use Rattle.tok_types.specs.declared.span.Span.{Span}
use Rattle.tok_types.specs.declared.span.Span.TheVariants.{CallSite}
use Rattle.tok_types.specs.declared.tree.Delimiter.TheVariants as delimiter
use Rattle.tok_types.specs.declared.tree.TokenTree.{TokenTree}
use Rattle.node_make.specs.Make.{make_path, make_segment}
use Rattle.node_expr.specs.declared.path.Path.{Path}
use Rattle.node_expr.specs.declared.path.PathArguments.TheVariants as arguments
use Rattle.node_core.specs.declared.data.Visibility.TheVariants as made
use Rattle.syn_grammar.specs.declared.word.Word.TheVariants as word
use Rattle.syn_grammar.specs.Grammar.{within, max_depth}
use Rattle.syn_grammar.specs.Token.{contents_of, ident_of, is_group}
use Rattle.syn_items.specs.Visibility.{is_scope, scope_in, scope_word, path_of_word, scope, restriction, restriction_in, public_by, visibility}
use Rattle.law_spans.specs.Erased.{erased_ident, erased_path, erased_tree}
use Rattle.law_spans.specs.IgnoresSpans.{IgnoresSpans}
use Rattle.law_spans.proofs.Made.{bare_path-make}
use Rattle.law_spans.proofs.Paths.{path-blind}
use Rattle.law_spans.proofs.Seen.{contents_of-bare, ident_of-bare, is_group-bare, sees-bare, if-map}
use Rattle.law_spans.proofs.Steps.{pure-blind, then-blind, so-blind, map-blind, if-blind, test-blind, here-blind, close-blind, skip-blind, eat-blind, take_as-blind}
use Rattle.law_spans.proofs.Wholes.{all_of-bare}
use Rattle.law_spans.proofs.Within.{within-blind}
use Rattle.law_spans_items.specs.Erased.{erased_visibility}
use Rattle.law_spans_items.proofs.Attributes.{bare_segment-word}

-- ---- `crate`, `self`, `super`

scope_in-bare : (ident : Option Ident) → scope_in (option_map erased_ident ident) ≡ option_map erased_ident (scope_in ident)
scope_in-bare None = refl
scope_in-bare (Some ident) = go ident.raw (is_scope ident.text)
  where
    go : (raw named : Bool) → ◌≡◌ {A = Option Ident} (if raw then None else (if named then Some (erased_ident ident) else None)) (option_map erased_ident (if raw then None else (if named then Some ident else None)))
    go true named = refl
    go false true = refl
    go false false = refl

scope_word-bare : (trees : List TokenTree) → scope_word (map erased_tree trees) ≡ option_map erased_ident (scope_word trees)
unfolding scope_word
scope_word-bare trees = rw (ident_of-bare trees) (scope_in-bare (ident_of trees))

pub path_of_word-bare : (ident : Ident) → erased_path (path_of_word ident) ≡ path_of_word (erased_ident ident)
path_of_word-bare ident =
    bare_path-make false (make_segment ident arguments.None ident.span ∷ []) ident.span
    ∙ ap (λ segment. make_path false (segment ∷ []) CallSite) (bare_segment-word ident ident.span)

scope-blind : IgnoresSpans erased_path scope scope
scope-blind = map-blind path_of_word path_of_word (take_as-blind scope_word scope_word scope_word-bare) path_of_word-bare

-- ---- what stands in the parentheses

abbrev erased_restriction : Bool × Path → Bool × Path
erased_restriction found = (found.0, erased_path found.1)

restriction-blind : IgnoresSpans erased_restriction restriction restriction
unfolding restriction
restriction-blind = so-blind (eat-blind 1 (sees-bare word.In)) (λ in_token.
    if-blind in_token (map-blind (λ found. (true, found)) (λ found. (true, found)) (path-blind (within max_depth) (within-blind max_depth) true) (λ found. refl))
    (map-blind (λ found. (false, found)) (λ found. (false, found)) scope-blind (λ found. refl)))

restriction_in-bare : (trees : List TokenTree) → restriction_in (map erased_tree trees) ≡ option_map erased_restriction (restriction_in trees)
unfolding restriction_in
restriction_in-bare trees = rw (is_group-bare delimiter.Parenthesis trees, contents_of-bare trees, all_of-bare restriction-blind (contents_of trees)) (if-map erased_restriction (is_group delimiter.Parenthesis trees) _)

public_by-blind : (start there : Span) → CallSite ≡ there → (found : Option (Bool × Path)) → IgnoresSpans erased_visibility (public_by start found) (public_by there (option_map erased_restriction found))
public_by-blind start there s (Some found) = so-blind skip-blind (λ group.
    close-blind start there s (made.Restricted found.0 found.1) (made.Restricted found.0 (erased_path found.1)) (λ span. refl))
public_by-blind start there s None = pure-blind (made.Public start) (made.Public there) (ap made.Public s)

pub visibility-blind : IgnoresSpans erased_visibility visibility visibility
unfolding visibility
visibility-blind = here-blind (λ start there s. so-blind (eat-blind 1 (sees-bare word.Pub)) (λ public.
    if-blind public (then-blind (test-blind restriction_in restriction_in restriction_in-bare) (λ found found' f.
    subst (λ found'. IgnoresSpans erased_visibility (public_by start found) (public_by there found')) f (public_by-blind start there s found)))
    (pure-blind made.Inherited made.Inherited refl)))
