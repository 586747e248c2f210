-- What is read from one token stands where the token does.
use Rattle.std.proofs.Common.{◌≡◌, ℕ, Bool, true, false, if◌then◌else◌, List, [], ◌∷◌, Option, Some, None, refl, ap, sym, ◌∙◌}
use Rattle.std.specs.Str.{chars}
use Rattle.tok_types.specs.declared.ident.Ident.{Ident}
use Rattle.tok_types.specs.declared.ident.Lifetime.{Lifetime}
use Rattle.tok_types.specs.declared.tree.Literal.{Literal}
use Rattle.tok_types.specs.declared.tree.TokenTree.{TokenTree, out-TokenTree}
use Rattle.tok_types.specs.declared.tree.TokenTree.TheOpen.{TokenTree-F}
use Rattle.tok_lit.specs.declared.value.Value.{Value}
use Rattle.tok_lit.specs.declared.value.Value.TheVariants as value
use Rattle.node_expr.specs.declared.lit.LitInt.{LitInt}
use Rattle.node_span.specs.Spanned.{lifetime_span, lit_span}
use Rattle.syn_grammar.specs.declared.word.Word.{Word}
use Rattle.syn_grammar.specs.declared.word.Word.TheVariants as word
use Rattle.syn_grammar.specs.Input.{first_span, take_as}
use Rattle.syn_grammar.specs.Literals.{index_by, index_in, index_of, is_plain, lit_by, lit_of, value_of}
use Rattle.syn_grammar.specs.Token.{Layer, span_in, span_of, ident_in, ident_of, lifetime_in, lifetime_of, literal_in, literal_of}
use Rattle.syn_grammar.specs.Words.{name_at, name_of, next_word}
use Rattle.law_places.proofs.Steps.{StandsHere, take_as-at, behind_one}

pub ident-place : (trees : List TokenTree) (found : Ident) → ident_of trees ≡ Some found → found.span ≡ first_span trees
unfolding ident_of first_span span_of
ident-place [] found e = absurd cc
ident-place (tree ∷ trees) found e = go (out-TokenTree tree) e
  where
    go : (layer : Layer) → ident_in layer ≡ Some found → found.span ≡ span_in layer
    go (TokenTree-F.Ident it) e = let same : it ≡ found = cc in ap (λ (it : Ident). it.span) (sym same)
    go (TokenTree-F.Lifetime it) e = absurd cc
    go (TokenTree-F.Punct it) e = absurd cc
    go (TokenTree-F.Literal it) e = absurd cc
    go (TokenTree-F.Group it) e = absurd cc

pub lifetime-place : (trees : List TokenTree) (found : Lifetime) → lifetime_of trees ≡ Some found → lifetime_span found ≡ first_span trees
unfolding lifetime_of first_span span_of
lifetime-place [] found e = absurd cc
lifetime-place (tree ∷ trees) found e = go (out-TokenTree tree) e
  where
    go : (layer : Layer) → lifetime_in layer ≡ Some found → lifetime_span found ≡ span_in layer
    go (TokenTree-F.Lifetime it) e = let same : it ≡ found = cc in ap lifetime_span (sym same)
    go (TokenTree-F.Ident it) e = absurd cc
    go (TokenTree-F.Punct it) e = absurd cc
    go (TokenTree-F.Literal it) e = absurd cc
    go (TokenTree-F.Group it) e = absurd cc

pub literal-place : (trees : List TokenTree) (found : Literal) → literal_of trees ≡ Some found → found.span ≡ first_span trees
unfolding literal_of first_span span_of
literal-place [] found e = absurd cc
literal-place (tree ∷ trees) found e = go (out-TokenTree tree) e
  where
    go : (layer : Layer) → literal_in layer ≡ Some found → found.span ≡ span_in layer
    go (TokenTree-F.Literal it) e = let same : it ≡ found = cc in ap (λ (it : Literal). it.span) (sym same)
    go (TokenTree-F.Ident it) e = absurd cc
    go (TokenTree-F.Lifetime it) e = absurd cc
    go (TokenTree-F.Punct it) e = absurd cc
    go (TokenTree-F.Group it) e = absurd cc

-- a name is the identifier that comes next
pub name-ident : (trees : List TokenTree) (found : Ident) → name_of trees ≡ Some found → ident_of trees ≡ Some found
unfolding name_of
name-ident trees found e = go (next_word trees) e
  where
    go : (word : Word) → name_at word (ident_of trees) ≡ Some found → ident_of trees ≡ Some found
    go word.Name e = e
    go _ e = absurd cc

pub name-here : StandsHere (λ (it : Ident). it.span) (take_as name_of)
name-here input = record {
  of = λ after found e.
      let one = (take_as-at name_of input).of after found e in
      (one.0, record { is = ident-place input.rest found (name-ident input.rest found one.1.is) ∙ behind_one (first_span input.rest) input after refl one.1.left });
}

pub lifetime-here : StandsHere lifetime_span (take_as lifetime_of)
lifetime-here input = record {
  of = λ after found e.
      let one = (take_as-at lifetime_of input).of after found e in
      (one.0, record { is = lifetime-place input.rest found one.1.is ∙ behind_one (first_span input.rest) input after refl one.1.left });
}

-- the literal that a token stands for stands there too
pub lit_of-place : (token : Literal) → lit_span (lit_of token) ≡ token.span
unfolding lit_of
lit_of-place token = go (value_of (chars token.text))
  where
    go : (found : Option Value) → lit_span (lit_by token found) ≡ token.span
    go (Some (value.Str text)) = refl
    go (Some (value.ByteStr bytes)) = refl
    go (Some (value.Byte byte)) = refl
    go (Some (value.Char ch)) = refl
    go (Some (value.Int digits)) = refl
    go (Some value.Float) = refl
    go None = refl

-- the index of a field, which one literal is
index-place : (trees : List TokenTree) (found : LitInt) → index_of trees ≡ Some found → found.span ≡ first_span trees
unfolding index_of
index-place trees found e = go (literal_of trees) refl e
  where
    plain : (token : Literal) (digits : ℕ) (b : Bool) → (if b then Some (record { negative = false; digits = digits; token = token; span = token.span }) else None) ≡ Some found → token.span ≡ found.span
    plain token digits true e = let same : record { negative = false; digits = digits; token = token; span = token.span } ≡ found = cc in ap (λ (it : LitInt). it.span) same
    plain token digits false e = absurd cc

    by : (token : Literal) (value : Option Value) → index_by token value ≡ Some found → token.span ≡ found.span
    by token (Some (value.Int digits)) e = plain token digits (is_plain (chars token.text)) e
    by token _ e = absurd cc

    go : (literal : Option Literal) → literal_of trees ≡ literal → index_in literal ≡ Some found → found.span ≡ first_span trees
    go None is e = absurd cc
    go (Some token) is e = sym (by token (value_of (chars token.text)) e) ∙ literal-place trees token is

pub index-here : StandsHere (λ (it : LitInt). it.span) (take_as index_of)
index-here input = record {
  of = λ after found e.
      let one = (take_as-at index_of input).of after found e in
      (one.0, record { is = index-place input.rest found one.1.is ∙ behind_one (first_span input.rest) input after refl one.1.left });
}
