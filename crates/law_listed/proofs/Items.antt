-- Items of lists: each item of a list, and each literal as the one item of a list.
use Rattle.std.proofs.Common.{◌≡◌, ℕ, Bool, true, false, if◌then◌else◌, List, [], ◌∷◌, ◌++◌, length, All, codes, Some, None, refl, ap, ◌∙◌, rules, option_and_then}
use Rattle.std.proofs.lemmas.List.Elements.{Contains-get_or, Contains-push}
use Rattle.std.specs.Result.{result_ok}
use Rattle.tok_types.specs.Stream.{stream_of}
use Rattle.tok_types.specs.declared.span.Span.{Span}
use Rattle.tok_types.specs.declared.tree.Literal.{Literal}
use Rattle.tok_types.specs.declared.tree.TokenStream.{TokenStream, out-TokenStream, the_lemmas}
use Rattle.tok_types.specs.declared.tree.TokenTree.{TokenTree, out-TokenTree}
use Rattle.tok_types.specs.declared.tree.TokenTree.TheOpen.{TokenTree-F}
use Rattle.tok_types.specs.declared.tree.TokenTree.TheVariants as tree
use Rattle.node_expr.specs.declared.lit.Lit.{Lit}
use Rattle.node_expr.specs.declared.lit.Lit.TheVariants as lit
use Rattle.syn_grammar.specs.declared.word.Word.{Word}
use Rattle.syn_grammar.specs.declared.word.Word.TheVariants as word
use Rattle.syn_grammar.specs.Input.{Input, ◌>>=◌, pure, eat, after_eat, first_span, is_end, items_from, next, start_of}
use Rattle.syn_grammar.specs.Literals.{lit_of}
use Rattle.syn_grammar.specs.Token.{Layer, is_comma, literal_of, mark_in, mark_of, ident_of, span_of}
use Rattle.syn_grammar.specs.Trees.{all}
use Rattle.syn_grammar.specs.Words.{next_word, word_of, named_words, other_keywords}
use Rattle.syn_items.specs.Attributes.{number_in, signed}
use Rattle.meta_nested.specs.declared.item.Found.{Found}
use Rattle.meta_nested.specs.declared.item.Found.TheVariants as found
use Rattle.meta_nested.specs.declared.item.ItemStart.{ItemStart}
use Rattle.meta_nested.specs.declared.item.ItemStart.TheVariants as begins
use Rattle.meta_nested.specs.declared.nested.NestedMeta.{NestedMeta}
use Rattle.meta_nested.specs.declared.nested.NestedMeta.TheVariants as nested
use Rattle.meta_nested.specs.Nested.{among, as_lit, bool_of, boolean, found_of, item, item_by, item_start, literal, nested_of}
use Rattle.meta_nested.proofs.Numbers.{number-is}
use Rattle.meta_nested.proofs.Readings.{all-parts}
use Rattle.law_listed.specs.Listed.{IsListed}

-- each item of a list
pub all-listed : (tokens : TokenStream) (items : List NestedMeta) → nested_of tokens ≡ Some items → All IsListed items
all-listed tokens items e index other within = record { tokens = tokens; items = items; are_items = e; is_among = Contains-get_or items index other within }

-- ---- one item

stream-trees : (trees : List TokenTree) → (out-TokenStream (stream_of trees)).trees ≡ trees
stream-trees trees = search (rules, the_lemmas)

-- the one item, behind which nothing is left
end-one : (turns : ℕ) (it : Found) (rest : List TokenTree) (last : Span) → rest ≡ []
    → all ((eat 1 is_comma >>= (λ more. if more then items_from item turns ([] ++ it ∷ []) else pure ([] ++ it ∷ []))) (record { rest = rest; last = last })) ≡ Some (it ∷ [])
unfolding mark_of after_eat
end-one turns it rest last none = rw none refl

list-one : (trees : List TokenTree) (it : Found) (after : Input) → is_end trees ≡ false → item (start_of trees) ≡ Some (it, after) → after.rest ≡ [] → all (items_from item (length trees) [] (start_of trees)) ≡ Some (it ∷ [])
unfolding items_from
list-one [] it after some e none = absurd cc
list-one (tree ∷ trees) it after some e none = rw e (end-one (length trees) it after.rest after.last none)

-- What is read as an item of all of the tokens is the one item of their list.
pub one-item : (trees : List TokenTree) (it : NestedMeta) (after : Input) → is_end trees ≡ false → item (start_of trees) ≡ Some (found.Item it, after) → after.rest ≡ [] → nested_of (stream_of trees) ≡ Some (it ∷ [])
unfolding nested_of found_of
one-item trees it after some e none =
    let one = list-one trees (found.Item it) after some e none in
    ap (λ (trees : List TokenTree). option_and_then (λ it. result_ok (among it)) (all (items_from item (length trees) [] (start_of trees)))) (stream-trees trees)
    ∙ ap (option_and_then (λ it. result_ok (among it))) one

pub one-listed : (trees : List TokenTree) (it : NestedMeta) (after : Input) → is_end trees ≡ false → item (start_of trees) ≡ Some (found.Item it, after) → after.rest ≡ [] → IsListed it
one-listed trees it after some e none = record { tokens = stream_of trees; items = it ∷ []; are_items = one-item trees it after some e none; is_among = Contains-push [] it }

-- ---- by where the item starts

item-at : (which : ItemStart) (input : Input) → item_start input.rest ≡ which → item input ≡ item_by which input
unfolding item
item-at which input is = ap (λ which. item_by which input) is

-- ---- tokens

next-none : (one : TokenTree) → (next (start_of (one ∷ []))).rest ≡ []
unfolding next
next-none one = refl

literal-seen : (token : Literal) → literal_of (tree.Literal token ∷ []) ≡ Some token
unfolding literal_of
literal-seen token = rw (tree.outs-Literal token) refl

token-starts : (token : Literal) → item_start (tree.Literal token ∷ []) ≡ begins.Literal
token-starts token = rw (literal-seen token) refl

token-read : (token : Literal) → literal (start_of (tree.Literal token ∷ [])) ≡ Some (lit_of token, next (start_of (tree.Literal token ∷ [])))
unfolding literal
token-read token = rw (literal-seen token) refl

token-item : (token : Literal) → item (start_of (tree.Literal token ∷ [])) ≡ Some (as_lit (lit_of token), next (start_of (tree.Literal token ∷ [])))
token-item token = item-at begins.Literal (start_of (tree.Literal token ∷ [])) (token-starts token) ∙ rw (token-read token) refl

pub token-listed : (token : Literal) → IsListed (nested.Lit (lit_of token))
token-listed token = one-listed (tree.Literal token ∷ []) (nested.Lit (lit_of token)) (next (start_of (tree.Literal token ∷ []))) refl (token-item token) (next-none (tree.Literal token))

-- ---- truths

-- `true` or `false` there
abbrev truth_token : Bool → Span → TokenTree
truth_token value span = tree.Ident (record { text = (if value then codes "true" else codes "false"); raw = false; span = span })

abbrev truth_word : Bool → Word
truth_word true = word.True
truth_word false = word.False

truth-seen : (value : Bool) (span : Span) → next_word (truth_token value span ∷ []) ≡ truth_word value
unfolding next_word ident_of word_of named_words other_keywords
truth-seen true span = rw (tree.outs-Ident (record { text = codes "true"; raw = false; span = span })) refl
truth-seen false span = rw (tree.outs-Ident (record { text = codes "false"; raw = false; span = span })) refl

truth-literal : (value : Bool) (span : Span) → literal_of (truth_token value span ∷ []) ≡ None
unfolding literal_of
truth-literal value span = rw (tree.outs-Ident (record { text = (if value then codes "true" else codes "false"); raw = false; span = span })) refl

truth-place : (value : Bool) (span : Span) → first_span (truth_token value span ∷ []) ≡ span
unfolding first_span span_of
truth-place value span = rw (tree.outs-Ident (record { text = (if value then codes "true" else codes "false"); raw = false; span = span })) refl

truth-starts : (value : Bool) (span : Span) → item_start (truth_token value span ∷ []) ≡ begins.Boolean
unfolding mark_of
truth-starts true span = rw (truth-literal true span, truth-seen true span) refl
truth-starts false span = rw (truth-literal false span, truth-seen false span) refl

truth-made : (value : Bool) (span : Span) → bool_of (truth_word value) span ≡ lit.Bool (record { value = value; span = span })
truth-made true span = refl
truth-made false span = refl

truth-read : (value : Bool) (span : Span) → boolean (start_of (truth_token value span ∷ [])) ≡ Some (lit.Bool (record { value = value; span = span }), next (start_of (truth_token value span ∷ [])))
unfolding boolean
truth-read value span = rw (truth-seen value span, truth-place value span, truth-made value span) refl

truth-item : (value : Bool) (span : Span) → item (start_of (truth_token value span ∷ [])) ≡ Some (as_lit (lit.Bool (record { value = value; span = span })), next (start_of (truth_token value span ∷ [])))
truth-item value span = item-at begins.Boolean (start_of (truth_token value span ∷ [])) (truth-starts value span) ∙ rw (truth-read value span) refl

pub truth-listed : (value : Bool) (span : Span) → IsListed (nested.Lit (lit.Bool (record { value = value; span = span })))
truth-listed value span = one-listed (truth_token value span ∷ []) (nested.Lit (lit.Bool (record { value = value; span = span }))) (next (start_of (truth_token value span ∷ []))) refl (truth-item value span) (next-none (truth_token value span))

-- ---- numbers with a minus (45)

minus-start : (layer : Layer) (minus : TokenTree) (trees : List TokenTree) → out-TokenTree minus ≡ layer → mark_in layer ≡ 45 → item_start (minus ∷ trees) ≡ begins.Minus
unfolding literal_of mark_of next_word ident_of
minus-start (TokenTree-F.Ident it) minus trees is mark = absurd cc
minus-start (TokenTree-F.Lifetime it) minus trees is mark = absurd cc
minus-start (TokenTree-F.Literal it) minus trees is mark = absurd cc
minus-start (TokenTree-F.Group it) minus trees is mark = absurd cc
minus-start (TokenTree-F.Punct it) minus trees is mark = rw (is, mark) refl

signed-item : (input after : Input) (number : Lit) → item_start input.rest ≡ begins.Minus → signed input ≡ Some (number, after) → item input ≡ Some (as_lit number, after)
signed-item input after number starts e = item-at begins.Minus input starts ∙ rw e refl

pub number-listed : (trees : List TokenTree) (number : Lit) → number_in trees ≡ Some number → IsListed (nested.Lit number)
number-listed trees number e =
    let source = all-parts (signed (start_of trees)) number e in
    let two = number-is trees number e in
    let starts : item_start trees ≡ begins.Minus = ap item_start two.is ∙ minus-start (out-TokenTree two.minus) two.minus (two.token ∷ []) refl two.begins in
    one-listed trees (nested.Lit number) source.0 (ap is_end two.is) (signed-item (start_of trees) source.0 number starts source.1) source.2
