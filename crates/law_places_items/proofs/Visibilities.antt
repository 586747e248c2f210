-- Visibilities stand where their tokens do, if they have any.
use Rattle.std.proofs.Common.{◌≡◌, inr, ℕ, ◌<◌, Bool, true, false, if◌then◌else◌, List, [], ◌∷◌, length, Option, Some, None, refl, arith, ap, sym, ◌∙◌}
use Rattle.std.proofs.lemmas.Bool.{both_ways}
use Rattle.tok_types.specs.Span.{joined}
use Rattle.tok_types.specs.declared.span.Span.{Span}
use Rattle.tok_types.specs.declared.ident.Ident.{Ident}
use Rattle.tok_types.specs.declared.tree.TokenTree.{TokenTree}
use Rattle.node_make.specs.Make.{make_segment}
use Rattle.node_expr.specs.declared.path.Path.{Path}
use Rattle.node_expr.specs.declared.path.PathArguments.TheVariants as arguments
use Rattle.node_core.specs.declared.data.Visibility.TheVariants as made
use Rattle.node_span.specs.Spanned.{path_span, visibility_span}
use Rattle.syn_grammar.specs.declared.word.Word.TheVariants as word
use Rattle.syn_grammar.specs.Input.{Input, ◌>>=◌, pure, test, first_span, skipped, after_eat}
use Rattle.syn_grammar.specs.Token.{ident_of}
use Rattle.syn_grammar.specs.Words.{peek}
use Rattle.syn_items.specs.Visibility.{is_scope, path_of_word, public_by, restriction_in, scope, scope_in, scope_word, visibility}
use Rattle.law_places.proofs.Made.{path-span}
use Rattle.law_places.proofs.Onward.{StoodHere, took-stood, Stood, OrNowhere, StoodOrNowhere, or_nowhere-at, onward-at, close_on-at, next-less, word-none}
use Rattle.law_places.proofs.Steps.{GoesAt, Goes, any-at, pure-at, then-at, seen-at, skip-at, Eaten, eat_is-at, behind_one}
use Rattle.law_places.proofs.Tokens.{ident-place}

public_by-on : (start : Span) (size : ℕ) (found : Option (Bool × Path)) (input : Input) → start ≡ joined start input.last → length input.rest < size → GoesAt (Stood visibility_span start size) (public_by start found) input
public_by-on start size (Some found) input is less = onward-at (skip-at input) (λ group later s _. close_on-at start size (λ span. made.Restricted found.0 found.1 span) later (omega arith) (λ span. refl))
public_by-on start size None input is less = pure-at (made.Public start) input (record { is = is; less = less })

pub visibility-stood : StoodOrNowhere visibility_span visibility
unfolding visibility after_eat skipped
visibility-stood input = record { of = (then-at (eat_is-at 1 (peek word.Pub) input) by).of }
  where
    by : (public : Bool) (later : Input) → Eaten 1 (peek word.Pub) input public later → GoesAt (OrNowhere visibility_span input) (if public then test restriction_in >>= public_by (first_span input.rest) else pure made.Inherited) later
    by true later h = seen-at restriction_in (λ found.
        let some : input.rest ≡ [] → ⊥ = λ none. absurd (both_ways _ (word-none word.Pub refl) (ap (peek word.Pub) (sym none) ∙ h.is)) in
        let less = next-less input some in
        or_nowhere-at input (public_by-on (first_span input.rest) (length input.rest) found later (behind_one (first_span input.rest) input later refl h.left) (rw h.left less)))
    by false later h = pure-at made.Inherited later (inr (h.left, refl))

pub visibility-goes : Goes visibility
visibility-goes input = any-at (visibility-stood input)

-- a scope is a word, and the path that it is stands where it does
scope-place : (trees : List TokenTree) (found : Ident) → scope_word trees ≡ Some found → found.span ≡ first_span trees
unfolding scope_word
scope-place trees found e = go (ident_of trees) refl e
  where
    by : (ident : Ident) (raw known : Bool) → (if raw then None else if known then Some ident else None) ≡ Some found → ident.span ≡ found.span
    by ident true known e = absurd cc
    by ident false false e = absurd cc
    by ident false true e = let same : ident ≡ found = cc in ap (λ (it : Ident). it.span) same

    go : (ident : Option Ident) → ident_of trees ≡ ident → scope_in ident ≡ Some found → found.span ≡ first_span trees
    go None is e = absurd cc
    go (Some ident) is e = sym (by ident ident.raw (is_scope ident.text) e) ∙ ident-place trees ident is

scope-none : scope_word [] ≡ None
unfolding scope_word ident_of
scope-none = refl

pub scope-stood : StoodHere path_span scope
scope-stood = took-stood scope_word scope-none path_of_word (λ trees ident e. path-span false (make_segment ident arguments.None ident.span ∷ []) ident.span ∙ scope-place trees ident e)
