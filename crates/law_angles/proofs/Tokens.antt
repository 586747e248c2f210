-- What the tokens are that a rule takes by what it saw.
use Rattle.std.proofs.Common.{◌≡◌, Bool, true, false, List, [], ◌∷◌, Option, Some, None, refl}
use Rattle.std.proofs.lemmas.Bool.{both_ways}
use Rattle.tok_types.specs.declared.ident.Ident.{Ident}
use Rattle.tok_types.specs.declared.tree.Literal.{Literal}
use Rattle.tok_types.specs.declared.tree.TokenTree.{TokenTree, out-TokenTree}
use Rattle.tok_types.specs.declared.tree.TokenTree.TheOpen.{TokenTree-F}
use Rattle.syn_grammar.specs.declared.word.Word.{Word}
use Rattle.syn_grammar.specs.declared.word.Word.TheVariants as word
use Rattle.syn_grammar.specs.Literals.{index_in, index_of}
use Rattle.syn_grammar.specs.Token.{Layer, ident_in, ident_of, lifetime_in, lifetime_of, literal_in, literal_of, mark_in, mark_of}
use Rattle.syn_grammar.specs.Words.{name_at, name_of, next_word, segment_at, segment_word, word_at, peek, is_word}
use Rattle.law_angles.proofs.Steps.{Unmarked}

-- ---- words and literals

ident-unmarked : Unmarked ident_of
unfolding ident_of mark_of
ident-unmarked [] found e = refl
ident-unmarked (tree ∷ trees) found e = go (out-TokenTree tree) e
  where
    go : (layer : Layer) → ident_in layer ≡ Some found → mark_in layer ≡ 0
    go (TokenTree-F.Punct it) e = absurd cc
    go (TokenTree-F.Ident it) e = refl
    go (TokenTree-F.Lifetime it) e = refl
    go (TokenTree-F.Literal it) e = refl
    go (TokenTree-F.Group it) e = refl

pub lifetime-unmarked : Unmarked lifetime_of
unfolding lifetime_of mark_of
lifetime-unmarked [] found e = refl
lifetime-unmarked (tree ∷ trees) found e = go (out-TokenTree tree) e
  where
    go : (layer : Layer) → lifetime_in layer ≡ Some found → mark_in layer ≡ 0
    go (TokenTree-F.Punct it) e = absurd cc
    go (TokenTree-F.Ident it) e = refl
    go (TokenTree-F.Lifetime it) e = refl
    go (TokenTree-F.Literal it) e = refl
    go (TokenTree-F.Group it) e = refl

pub literal-unmarked : Unmarked literal_of
unfolding literal_of mark_of
literal-unmarked [] found e = refl
literal-unmarked (tree ∷ trees) found e = go (out-TokenTree tree) e
  where
    go : (layer : Layer) → literal_in layer ≡ Some found → mark_in layer ≡ 0
    go (TokenTree-F.Punct it) e = absurd cc
    go (TokenTree-F.Ident it) e = refl
    go (TokenTree-F.Lifetime it) e = refl
    go (TokenTree-F.Literal it) e = refl
    go (TokenTree-F.Group it) e = refl

pub name-unmarked : Unmarked name_of
unfolding name_of
name-unmarked trees found e = ident-unmarked trees found (go (next_word trees) e)
  where
    go : (word : Word) → name_at word (ident_of trees) ≡ Some found → ident_of trees ≡ Some found
    go word.Name e = e
    go _ e = absurd cc

pub segment-unmarked : Unmarked segment_word
unfolding segment_word
segment-unmarked trees found e = ident-unmarked trees found (go (next_word trees) e)
  where
    go : (word : Word) → segment_at word (ident_of trees) ≡ Some found → ident_of trees ≡ Some found
    go word.Name e = e
    go word.PathStart e = e
    go _ e = absurd cc

pub index-unmarked : Unmarked index_of
unfolding index_of
index-unmarked trees found e = go (literal_of trees) refl e
  where
    go : (literal : Option Literal) → literal_of trees ≡ literal → index_in literal ≡ Some found → mark_of trees ≡ 0
    go None is e = absurd cc
    go (Some token) is e = literal-unmarked trees token is

-- what is told of the word that comes next, and not of no word
pub word-unmarked : (holds : Word → Bool) (trees : List TokenTree) → holds word.None ≡ false → holds (next_word trees) ≡ true → mark_of trees ≡ 0
unfolding next_word
word-unmarked holds trees none h = go (ident_of trees) refl h
  where
    go : (ident : Option Ident) → ident_of trees ≡ ident → holds (word_at ident) ≡ true → mark_of trees ≡ 0
    go None is h = absurd (both_ways _ none h)
    go (Some ident) is h = ident-unmarked trees ident is

pub peek-unmarked : (wanted : Word) (trees : List TokenTree) → is_word wanted word.None ≡ false → peek wanted trees ≡ true → mark_of trees ≡ 0
peek-unmarked wanted trees none h = word-unmarked (is_word wanted) trees none h
