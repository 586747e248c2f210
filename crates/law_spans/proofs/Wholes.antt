-- Reading all of some tokens does not see places.
use Rattle.std.proofs.Common.{◌≡◌, true, List, [], map, Some, None, option_map, refl, ap, ◌∙◌}
use Rattle.tok_types.specs.declared.tree.TokenStream.{TokenStream, roll-TokenStream, out-TokenStream}
use Rattle.tok_types.specs.declared.tree.TokenTree.{TokenTree}
use Rattle.syn_grammar.specs.Arguments.{fn_arg}
use Rattle.syn_grammar.specs.Grammar.{within, max_depth}
use Rattle.syn_grammar.specs.Input.{Input, Outcome, Parser, start_of, is_end}
use Rattle.syn_grammar.specs.Paths.{list}
use Rattle.syn_grammar.specs.Patterns.{max_pattern}
use Rattle.syn_grammar.specs.Readers.{Readers, any_level}
use Rattle.syn_grammar.specs.Trees.{all, whole, type_of, expr_of, path_of, ident_of, exprs_of, idents_of, paths_of, fn_args_of}
use Rattle.law_spans.specs.Erased.{erased_stream, erased_tree, erased_ident, erased_expr, erased_type, erased_path, erased_fn_arg}
use Rattle.law_spans.specs.IgnoresSpans.{erased_outcome, IgnoresSpans}
use Rattle.law_spans.proofs.Paths.{AllIgnoreSpans, name-blind, path-blind}
use Rattle.law_spans.proofs.Patterns.{pattern-blind}
use Rattle.law_spans.proofs.Seen.{bare_stream-roll, out-bare_stream, is_end-bare, is_colon-bare, if-map}
use Rattle.law_spans.proofs.Steps.{then-blind, so-blind, here-blind, close-blind, expect-blind, state-blind, read_since-blind, items_after-blind}
use Rattle.law_spans.proofs.Within.{within-blind}

fn_arg-blind : (readers : Readers) → AllIgnoreSpans readers → IgnoresSpans erased_fn_arg (fn_arg readers) (fn_arg readers)
unfolding fn_arg
fn_arg-blind readers parts = then-blind state-blind (λ before before' b. here-blind (λ start there s.
    so-blind (pattern-blind max_pattern) (λ found.
    then-blind (read_since-blind before.rest before'.rest (ap (λ (input : Input). input.rest) b)) (λ kept kept' k.
    so-blind (expect-blind 1 is_colon-bare) (λ colon.
    then-blind (parts.ty true) (λ ty ty' t.
    close-blind start there s
    (λ span. record { pat = roll-TokenStream (record { trees = kept }); ty = ty; span = span })
    (λ span. record { pat = roll-TokenStream (record { trees = kept' }); ty = ty'; span = span })
    (λ span. rw (← k, ← t, bare_stream-roll kept) refl)))))))

all-bare : {A B : Type 0} (bare : A → B) (outcome : Outcome A) → all (erased_outcome bare outcome) ≡ option_map bare (all outcome)
all-bare bare None = refl
all-bare bare (Some found) = rw (is_end-bare found.1.rest) (if-map bare (is_end found.1.rest) (Some found.0))

-- what a parser gives for all of a list of tokens
pub all_of-bare : {A B : Type 0} {bare : A → B} {parser : Parser A} {other : Parser B} → IgnoresSpans bare parser other → (trees : List TokenTree) → all (other (start_of (map erased_tree trees))) ≡ option_map bare (all (parser (start_of trees)))
all_of-bare {bare = bare} {parser = parser} h trees = ap all (h.at (start_of trees)) ∙ all-bare bare (parser (start_of trees))

pub whole-bare : {A B : Type 0} {bare : A → B} {parser : Parser A} {other : Parser B} → IgnoresSpans bare parser other → (tokens : TokenStream) → whole other (erased_stream tokens) ≡ option_map bare (whole parser tokens)
whole-bare {other = other} h tokens = ap (λ trees. all (other (start_of trees))) (out-bare_stream tokens) ∙ all_of-bare h (out-TokenStream tokens).trees

-- a list of them
pub list-blind : {A B : Type 0} {bare : A → B} {item : Parser A} {other : Parser B} → IgnoresSpans bare item other → IgnoresSpans (map bare) (list item) (list other)
list-blind h = items_after-blind h [] [] refl

pub type_of-bare : (tokens : TokenStream) → type_of (erased_stream tokens) ≡ option_map erased_type (type_of tokens)
unfolding type_of
type_of-bare = whole-bare ((within-blind max_depth).ty true)

pub expr_of-bare : (tokens : TokenStream) → expr_of (erased_stream tokens) ≡ option_map erased_expr (expr_of tokens)
unfolding expr_of
expr_of-bare = whole-bare ((within-blind max_depth).expr any_level)

pub path_of-bare : (tokens : TokenStream) → path_of (erased_stream tokens) ≡ option_map erased_path (path_of tokens)
unfolding path_of
path_of-bare = whole-bare (path-blind (within max_depth) (within-blind max_depth) true)

pub ident_of-bare : (tokens : TokenStream) → ident_of (erased_stream tokens) ≡ option_map erased_ident (ident_of tokens)
unfolding ident_of
ident_of-bare = whole-bare name-blind

pub exprs_of-bare : (tokens : TokenStream) → exprs_of (erased_stream tokens) ≡ option_map (map erased_expr) (exprs_of tokens)
unfolding exprs_of
exprs_of-bare = whole-bare (list-blind ((within-blind max_depth).expr any_level))

pub idents_of-bare : (tokens : TokenStream) → idents_of (erased_stream tokens) ≡ option_map (map erased_ident) (idents_of tokens)
unfolding idents_of
idents_of-bare = whole-bare (list-blind name-blind)

pub paths_of-bare : (tokens : TokenStream) → paths_of (erased_stream tokens) ≡ option_map (map erased_path) (paths_of tokens)
unfolding paths_of
paths_of-bare = whole-bare (list-blind (path-blind (within max_depth) (within-blind max_depth) true))

pub fn_args_of-bare : (tokens : TokenStream) → fn_args_of (erased_stream tokens) ≡ option_map (map erased_fn_arg) (fn_args_of tokens)
unfolding fn_args_of
fn_args_of-bare = whole-bare (list-blind (fn_arg-blind (within max_depth) (within-blind max_depth)))
