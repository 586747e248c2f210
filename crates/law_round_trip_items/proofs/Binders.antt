-- That a printed type begins with `for` only where it has a binder of its own.
use Rattle.std.proofs.Common.{◌≡◌, ℕ, zero, suc, Bool, true, false, List, [], ◌∷◌, ◌++◌, Some, refl, sym, ◌∙◌, append_assoc, codes}
use Rattle.tok_types.specs.declared.ident.Lifetime.{Lifetime}
use Rattle.tok_types.specs.declared.span.Span.{Span}
use Rattle.tok_types.specs.declared.tree.Delimiter.TheVariants as delimiter
use Rattle.tok_types.specs.declared.tree.TokenTree.{out-TokenTree}
use Rattle.tok_types.specs.declared.tree.TokenTree.TheOpen.{TokenTree-F}
use Rattle.node_expr.specs.Layers.{TypeLayer}
use Rattle.node_expr.specs.declared.expr.Expr.TheOpen.{Type-F}
use Rattle.node_expr.specs.declared.ty.NamedArg.{NamedArg}
use Rattle.node_expr.specs.declared.ty.ReturnType.{ReturnType}
use Rattle.node_expr.specs.declared.ty.«Type».{«Type» as Ty, out-Type}
use Rattle.node_expr.specs.declared.ty.«Type».TheVariants as ty
use Rattle.syn_grammar.specs.Depth.{type_depth}
use Rattle.syn_grammar.specs.declared.look.TypeStart.TheVariants as begin
use Rattle.syn_grammar.specs.declared.word.Word.{Word}
use Rattle.syn_grammar.specs.declared.word.Word.TheVariants as word
use Rattle.syn_grammar.specs.Grammar.{max_depth, within}
use Rattle.syn_grammar.specs.Input.{Input, expect, here, inside, upto}
use Rattle.syn_grammar.specs.Look.{type_start, type_word}
use Rattle.syn_grammar.specs.Make as make
use Rattle.syn_grammar.specs.Paths.{binder, list, return_type}
use Rattle.syn_grammar.specs.Readers.{Readers}
use Rattle.syn_grammar.specs.Token.{Layer, ident_of, is_group, is_joint, is_pair, mark_of}
use Rattle.syn_grammar.specs.Types.{named_arg, type_fn_ptr, type_step}
use Rattle.syn_grammar.specs.Words.{is_word, named_words, next_word, other_keywords, peek, word_of}
use Rattle.syn_items.specs.Generics.{any_type}
use Rattle.print_core.specs.Items.{begins_with_binder}
use Rattle.print_core.specs.Marks.{Trees, word as printed_word}
use Rattle.print_core.specs.Nodes.{type_tokens}
use Rattle.law_round_trip.specs.Follow.{AfterType}
use Rattle.law_round_trip.proofs.Marks.{out-Ident}
use Rattle.law_round_trip.proofs.Prints.{print-fn_ptr}
use Rattle.law_round_trip.proofs.Types.{type_start-back}
use Rattle.law_round_trip.proofs.Within.{within-backs}
use Rattle.law_round_trip_items.proofs.Always.{Always, pure-always, then-always}
use Rattle.law_round_trip_items.proofs.Makes.{kept-read}

-- ---- types of functions

-- without a binder of its own it begins with no `for`
abbrev Unbound : Ty → Type 0
Unbound it = begins_with_binder it ≡ false → (tail : Trees) → peek word.For (type_tokens it ++ tail) ≡ false

sees-fn : (span : Span) (tail : Trees) → next_word (printed_word (codes "fn") span ++ tail) ≡ word.Fn
unfolding printed_word next_word ident_of word_of named_words other_keywords
sees-fn span tail = rw (out-Ident (record { text = codes "fn"; raw = false; span = span })) refl

-- whether a type has a binder of its own, by its layer
abbrev binds : TypeLayer → Bool
binds (Type-F.FnPtr it) = elim it.lifetimes [ [] ↦ false | _ ∷ _ ↦ true ]
binds _ = false

begins-binds : (it : Ty) → begins_with_binder it ≡ binds (out-Type it)
begins-binds it = by (out-Type it)
  where
    by : (layer : TypeLayer) → elim layer [ Type-F.FnPtr it ↦ elim it.lifetimes [ [] ↦ false | _ ∷ _ ↦ true ] | _ ↦ false ] ≡ binds layer
    by (Type-F.FnPtr it) = refl
    by _ = refl

fn_ptr-unbound : (lifetimes : List Lifetime) (inputs : List (NamedArg Ty)) (output : ReturnType Ty) (span : Span) → Unbound (make.type_fn_ptr lifetimes inputs output span)
fn_ptr-unbound [] inputs output span bare tail = rw (print-fn_ptr [] inputs output span, append_assoc, append_assoc, sees-fn) refl
fn_ptr-unbound (it ∷ lifetimes) inputs output span bare tail = let bound = rw (begins-binds (make.type_fn_ptr (it ∷ lifetimes) inputs output span), ty.outs-FnPtr) at bare in absurd cc

type_fn_ptr-unbound : (readers : Readers) → Always Unbound (type_fn_ptr readers)
unfolding type_fn_ptr
type_fn_ptr-unbound readers = then-always here (λ start. then-always binder (λ lifetimes. then-always (expect 1 (peek word.Fn)) (λ keyword. then-always (inside delimiter.Parenthesis (list (named_arg readers))) (λ inputs.
    then-always (return_type readers) (λ output. then-always (upto start) (λ span. pure-always (make.type_fn_ptr lifetimes inputs output span) (fn_ptr-unbound lifetimes inputs output span)))))))

-- ---- what begins with `for`

for-start : (trees : Trees) → peek word.For trees ≡ true → type_start trees ≡ begin.FnPtr
unfolding type_start is_group mark_of is_pair is_joint next_word ident_of
for-start [] h = absurd cc
for-start (tree ∷ trees) h = by (out-TokenTree tree) refl
  where
    starts : (found : Word) → is_word word.For found ≡ true → type_word found ≡ begin.FnPtr
    starts word.For h = refl
    starts _ h = absurd cc

    by : (layer : Layer) → out-TokenTree tree ≡ layer → type_start (tree ∷ trees) ≡ begin.FnPtr
    by (TokenTree-F.Ident other) same = rw same (starts (word_of other) (rw same at h))
    by (TokenTree-F.Lifetime other) same = let none = rw same at h in absurd cc
    by (TokenTree-F.Punct other) same = let none = rw same at h in absurd cc
    by (TokenTree-F.Literal other) same = let none = rw same at h in absurd cc
    by (TokenTree-F.Group other) same = let none = rw same at h in absurd cc

within-for : (depth : ℕ) (input after : Input) (found : Ty) → (within depth).ty true input ≡ Some (found, after) → (tail : Trees) → AfterType true after.rest tail → begins_with_binder found ≡ false → peek word.For (type_tokens found ++ tail) ≡ false
unfolding within type_step
within-for zero input after found e tail follows bare = absurd cc
within-for (suc below) input after found e tail follows bare = by (peek word.For (type_tokens found ++ tail)) refl
  where
    read : type_step (within below) true input ≡ Some (found, after)
    read = kept-read type_depth (suc below) (type_step (within below) true input) found after e

    by : (b : Bool) → peek word.For (type_tokens found ++ tail) ≡ b → peek word.For (type_tokens found ++ tail) ≡ false
    by false is = is
    by true is =
        let start : type_start input.rest ≡ begin.FnPtr = sym (((type_start-back (within below) (within-backs below) true).of input after found read).first tail follows) ∙ for-start (type_tokens found ++ tail) is in
        let pointer : type_fn_ptr (within below) input ≡ Some (found, after) = rw start at read in
        (type_fn_ptr-unbound (within below)).of input after found pointer bare tail

pub type-for : (input after : Input) (found : Ty) → any_type input ≡ Some (found, after) → (tail : Trees) → AfterType true after.rest tail → begins_with_binder found ≡ false → peek word.For (type_tokens found ++ tail) ≡ false
type-for input after found e tail follows bare = within-for max_depth input after found e tail follows bare
